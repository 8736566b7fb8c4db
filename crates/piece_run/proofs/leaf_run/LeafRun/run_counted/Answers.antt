use Rattle.std.proofs.Common.{ℕ, ◌<◌, subst}
use Rattle.query_meaning.specs.inside.Views.{tuple_of}
use Rattle.piece_run.proofs.LeafClosed.{held_told}
use Rattle.piece_run.proofs.LeafValues.{over, goes_on, means_over}
use Rattle.piece_run.proofs.leaf_run.LeafRun.run_counted.Goals as goal

pub run_flwor-requires-clause-driven : goal.run_flwor-requires-clause-driven
run_flwor-requires-clause-driven g c κs within =
    let first = c.drivers_stand_first.ensures in
    let law = c.flwors_find_calls.ensures in
    let whole = c.pieces_are_whole.ensures in
    let told_law = c.pieces_are_told.ensures in
    let told = g.T.FilesTold.told c.args.told.now in (
      over first law whole told_law g.K.ItemsKept.stands c.args.self.now c.args.flwor.now c.requires.driven c.requires.depth (tuple_of c.args.slots.now) told c.driven-driven.result,
      goes_on first law whole told_law g.K.ItemsKept.stands c.args.self.now c.args.flwor.now c.requires.driven c.requires.depth (tuple_of c.args.slots.now) told c.driven-driven.result
          c.args.before.now c.args.cut.now c.driven-driven.ensures,
    )

pub returns-clause-value : goal.returns-clause-value
returns-clause-value g c =
    let told = g.T.FilesTold.told c.args.told.now in
    means_over c.drivers_stand_first.ensures c.flwors_find_calls.ensures c.pieces_are_whole.ensures c.pieces_are_told.ensures g.K.ItemsKept.stands c.args.self.now c.args.flwor.now c.requires.driven c.requires.depth
    (tuple_of c.args.slots.now) told c.driven-driven.result c.args.before.now c.args.cut.now c.driven-driven.ensures c.run_flwor.result.1
    (subst (λ (n : ℕ). 0 < n) c.size-size.ensures.value c.size-size.ensures.some) (held_told g.S.InputFile.held c.args.cut.now told c.args.seats.items c.requires.some c.requires.files) c.requires.before c.run_flwor.ensures.value
