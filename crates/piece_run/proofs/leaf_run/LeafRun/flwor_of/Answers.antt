use Rattle.std.proofs.Common.{ℕ, List, All, Err, map, ◌∙◌, sym, subst}
use Rattle.line_pieces.specs.Cuts.{HaveLengths}
use Rattle.query_meaning.specs.declared.value.Value.{Value}
use Rattle.query_meaning.specs.inside.Views.{tuple_of}
use Rattle.clause_eval.specs.Frames.{frame_tuple}
use Rattle.driver_files.specs.Driver.{IsSet, told_files}
use Rattle.piece_board.specs.Trouble.{SomeRose}
use Rattle.piece_seats.specs.Seats.{all_faults}
use Rattle.piece_run.specs.Kept.{IsAnswer, IsUnread}
use Rattle.piece_run.specs.Leaf.{MeansOver}
use Rattle.piece_run.proofs.LeafClosed.{closed, held_by_seats}
use Rattle.piece_run.proofs.leaf_run.LeafRun.flwor_of.Goals as goal

pub counted-seats-requires-clause-files : goal.counted-seats-requires-clause-files
counted-seats-requires-clause-files g c κs within =
    let world = g.I.Inputs.world c.args.inputs.now in
    let held = g.I.File.InputFile.held in
    let faults = g.I.File.InputFile.faults in
    held_by_seats held faults c.args.files.cut (told_files world c.as_slice.result.now) c.args.files.sets.items c.in-Ok.seats.items
    (subst (λ (names : List (List ℕ)). HaveLengths c.args.files.cut.lengths (told_files world names)) (sym c.as_slice.ensures) c.requires.files.lengths)
    (subst (λ (names : List (List ℕ)). All (λ s. IsSet held faults (told_files world names) s.items) c.args.files.sets.items) (sym c.as_slice.ensures) c.requires.files.sets)
    c.in-Ok.ensures.seats

pub returns-in-Ok-counted-clause-counts : goal.returns-in-Ok-counted-clause-counts
returns-in-Ok-counted-clause-counts g c =
    let world = g.I.Inputs.world c.args.inputs.now in
    let held = g.I.File.InputFile.held in
    let faults = g.I.File.InputFile.faults in
    let calm_first = c.counted-seats.ensures.calm (subst IsAnswer (sym c.in-Ok-counted.is) tt) in
    closed held faults c.args.files.cut (told_files world c.as_slice.result.now) c.args.files.sets.items c.in-Ok.seats.items c.run_over-seats.result.0.items
    c.run_over-seats.result.1 _ _
    (subst (λ (names : List (List ℕ)). HaveLengths c.args.files.cut.lengths (told_files world names)) (sym c.as_slice.ensures) c.requires.files.lengths)
    (subst (λ (names : List (List ℕ)). All (λ s. IsSet held faults (told_files world names) s.items) c.args.files.sets.items) (sym c.as_slice.ensures) c.requires.files.sets)
    c.in-Ok.ensures.seats c.run_over-seats.ensures.files (c.run_over-seats.ensures.many ∙ c.counted-seats.ensures.many)
    (λ a. c.run_over-seats.ensures.calm a ∙ calm_first)
    (λ u. subst (λ (first : List ℕ). SomeRose first (map (λ s. all_faults faults s.files.items) c.run_over-seats.result.0.items)) calm_first (c.run_over-seats.ensures.cause u))
    c.close_seats.ensures.counts

pub returns-in-Ok-clause-counts : goal.returns-in-Ok-clause-counts
returns-in-Ok-clause-counts g c =
    let world = g.I.Inputs.world c.args.inputs.now in
    let held = g.I.File.InputFile.held in
    let faults = g.I.File.InputFile.faults in
    closed held faults c.args.files.cut (told_files world c.as_slice.result.now) c.args.files.sets.items c.in-Ok.seats.items c.counted-seats.result.0.items
    (Err c.in-Err-counted.fault) _ _
    (subst (λ (names : List (List ℕ)). HaveLengths c.args.files.cut.lengths (told_files world names)) (sym c.as_slice.ensures) c.requires.files.lengths)
    (subst (λ (names : List (List ℕ)). All (λ s. IsSet held faults (told_files world names) s.items) c.args.files.sets.items) (sym c.as_slice.ensures) c.requires.files.sets)
    c.in-Ok.ensures.seats c.counted-seats.ensures.files c.counted-seats.ensures.many
    (λ a. c.counted-seats.ensures.calm (subst IsAnswer (sym c.in-Err-counted.is) a))
    (λ u. c.counted-seats.ensures.cause (subst IsUnread (sym c.in-Err-counted.is) u))
    c.close_seats-in-Err-counted.ensures.counts

pub returns-in-Ok-counted-clause-value : goal.returns-in-Ok-counted-clause-value
returns-in-Ok-counted-clause-value g c =
    let world = g.I.Inputs.world c.args.inputs.now in
    let stands = g.K.ItemsKept.stands in
    let r = c.args.self.now in
    let f = c.args.flwor.now in
    subst (λ (names : List (List ℕ)). MeansOver stands r f (frame_tuple c.args.leading.now) (told_files world names) c.run_over-seats.result.1) c.as_slice.ensures
    (subst (λ (slots : List Value). MeansOver stands r f (tuple_of slots) (told_files world c.as_slice.result.now) c.run_over-seats.result.1) c.deref.ensures.value c.run_over-seats.ensures.value)
