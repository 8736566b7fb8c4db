use Rattle.std.proofs.Common.{drop, map, subst}
use Rattle.piece_seats.specs.Seats.{all_faults}
use Rattle.piece_run.specs.Flwors.{after_for, EndsIn}
use Rattle.piece_run.specs.declared.first_end.FirstEnd.{FirstEnd}
use Rattle.piece_run.proofs.FlworParts.{parts, drop_less}
use Rattle.piece_run.proofs.FlworMeant.{means_items, means_numbers, means_groups, means_orders}
use Rattle.piece_run.proofs.FlworEnds.{none_falls, ends_return, ends_count, ends_group, ends_order}
use Rattle.piece_run.proofs.flwor_run.run_flwor.Goals as goal

pub returns-then-flwor-clause-rises : goal.returns-then-flwor-clause-rises
returns-then-flwor-clause-rises g c = none_falls (map (λ s. all_faults g.S.InputFile.faults s.files.items) c.args.seats.items)

pub first_stage-count-requires-clause-lets : goal.first_stage-count-requires-clause-lets
first_stage-count-requires-clause-lets g c =
    let f = c.args.flwor.now in
    let q = parts f c.requires.driven.0 c.requires.driven.1 in
    drop_less f.lets f.clauses.now q.clause (after_for f) q.left

pub returns-in-Return-clause-value : goal.returns-in-Return-clause-value
returns-in-Return-clause-value g c =
    let f = c.args.flwor.now in
    let s = c.first_stage-count in
    let end = subst (λ (e : FirstEnd). EndsIn e (drop s.result.1 (after_for f))) c.in-Return.is s.ensures.end in
    means_items g.K.ItemsKept.stands f (g.T.FilesTold.told c.args.told.now) s.result.0 s.ensures.binding.0 s.result.1 s.ensures.binding.1 s.ensures.count s.ensures.narrow
    c.run_stage-seats.result.1 c.after_items.result c.run_stage-seats.ensures.lines (ends_return (drop s.result.1 (after_for f)) end) c.after_items.ensures.value

pub returns-in-Count-clause-value : goal.returns-in-Count-clause-value
returns-in-Count-clause-value g c =
    let f = c.args.flwor.now in
    let s = c.first_stage-count in
    let end = subst (λ (e : FirstEnd). EndsIn e (drop s.result.1 (after_for f))) c.in-Count.is s.ensures.end in
    let n = ends_count c.in-Count.variable (drop s.result.1 (after_for f)) end in
    means_numbers g.K.ItemsKept.stands f (g.T.FilesTold.told c.args.told.now) s.result.0 s.ensures.binding.0 s.result.1 s.ensures.binding.1 s.ensures.count s.ensures.narrow
    c.run_stage-seats-in-Count.result.1 c.after_numbers.result n.clause n.rest n.left_is c.in-Count.variable n.is c.run_stage-seats-in-Count.ensures.lines c.after_numbers.ensures.value

pub returns-in-Group-clause-value : goal.returns-in-Group-clause-value
returns-in-Group-clause-value g c =
    let f = c.args.flwor.now in
    let s = c.first_stage-count in
    let end = subst (λ (e : FirstEnd). EndsIn e (drop s.result.1 (after_for f))) c.in-Group.is s.ensures.end in
    let n = ends_group c.in-Group.keys (drop s.result.1 (after_for f)) end in
    means_groups g.K.ItemsKept.stands f (g.T.FilesTold.told c.args.told.now) s.result.0 s.ensures.binding.0 s.result.1 s.ensures.binding.1 s.ensures.count s.ensures.narrow
    c.run_stage-seats-in-Group.result.1 c.after_groups.result n.clause n.rest n.left_is c.in-Group.keys n.is c.run_stage-seats-in-Group.ensures.lines c.after_groups.ensures.value

pub returns-in-Order-clause-value : goal.returns-in-Order-clause-value
returns-in-Order-clause-value g c =
    let f = c.args.flwor.now in
    let s = c.first_stage-count in
    let end = subst (λ (e : FirstEnd). EndsIn e (drop s.result.1 (after_for f))) c.in-Order.is s.ensures.end in
    let n = ends_order c.in-Order.keys (drop s.result.1 (after_for f)) end in
    means_orders g.K.ItemsKept.stands f (g.T.FilesTold.told c.args.told.now) s.result.0 s.ensures.binding.0 s.result.1 s.ensures.binding.1 s.ensures.count s.ensures.narrow
    c.run_orders-seats.result.1 c.after_order.result n.clause n.rest n.left_is c.in-Order.keys n.is c.run_orders-seats.ensures.lines c.after_order.ensures.value
