use Rattle.std.proofs.Common.{◌≡◌, ◌<◌, ℕ, IfOk, sym, ap, ◌∙◌, subst}
use Rattle.line_pieces.specs.Cuts.{Cutting, HaveLengths}
use Rattle.piece_run.specs.declared.stage.StageEnd as code
use Rattle.piece_run.specs.Flwors.{EndGathered}
use Rattle.piece_run.specs.Staged.{end_of}
use Rattle.piece_run.proofs.FlworStages.{some_run, lines_gathered, keys_gathered, as_flwor, first_has}
use Rattle.piece_run.proofs.driven_flwor.DrivenFlwor.run_stage.Goals as goal

pub gather_ran-gathered-requires : goal.gather_ran-gathered-requires
gather_ran-gathered-requires g c =
    record { whole = some_run g.I.ItemsKept.stands c.stage-stage.result (g.T.FilesTold.told c.args.told.now) c.run_driven-seats.result.1 c.run_driven-seats.ensures.whole }

pub returns-clause-lines : goal.returns-clause-lines
returns-clause-lines g c =
    let told = g.T.FilesTold.told c.args.told.now in
    let s = c.stage-stage.result in
    let f = c.args.self.now in
    let cut : s.cut.now ≡ f.cut.now = c.stage-stage.ensures.cut in
    let lengths : HaveLengths f.cut.now.lengths told = first_has _ f.cut.now told c.args.seats.items c.requires.some c.requires.files in
    as_flwor g.I.ItemsKept.stands f c.args.binding c.args.count told s c.stage-stage.ensures.first cut c.gather_ran-gathered.result (end_of c.args.end) (ap end_of c.stage-stage.ensures.end)
    (lines_gathered g.I.ItemsKept.stands s told c.run_driven-seats.result.1 c.gather_ran-gathered.result c.gather_ran-gathered.ensures.given c.run_driven-seats.ensures.whole
    c.pieces_are_whole.ensures c.pieces_are_told.ensures
    (subst (λ (k : Cutting). HaveLengths k.lengths told) (sym cut) lengths)
    (subst (λ (n : ℕ). 0 < n) (c.size-some.ensures.value ∙ ap (λ (k : Cutting). k.size) (sym cut)) c.size-some.ensures.some))

pub returns-clause-keys : goal.returns-clause-keys
returns-clause-keys g c =
    subst (λ (end : code.StageEnd). IfOk c.gather_ran-gathered.result (EndGathered end)) c.stage-stage.ensures.end
    (keys_gathered g.I.ItemsKept.stands c.stage-stage.result (g.T.FilesTold.told c.args.told.now) c.run_driven-seats.result.1 c.gather_ran-gathered.result c.gather_ran-gathered.ensures.given c.run_driven-seats.ensures.whole)
