use Rattle.std.proofs.Common.{◌≡◌, Ok, [], ◌∷◌, suc, map, rules, subst}
use Rattle.std.specs.List.{range_with_len}
use Rattle.tuple_rows.specs.Tuples.{row_list}
use Rattle.group_table.specs.Groups.{has_slot, group_rows}
use Rattle.order_runs.specs.Orders.{rows}
use Rattle.query_meaning.specs.inside.Gives.{Gives}
use Rattle.clause_eval.specs.Frames.{frame_tuples, tuples_of, keyed_list}
use Rattle.clause_eval.specs.Positions.{numbers_from, numbered}
use Rattle.clause_eval.proofs.Grouped.{read_whole}
use Rattle.clause_eval.proofs.groups.grouped.Goals as goal

pub returns : goal.returns
returns c =
    let X = keyed_list c.args.entries.items in
    let flags : c.as_slice.result.now ≡ map (has_slot c.args.joined.now) (range_with_len 0 c.args.width) = search rules in
    let tuples : frame_tuples c.as_slice-2.result.now ≡ rows X = search rules in
    let found : row_list c.into_tuples-rows.result.items ≡ group_rows (suc c.args.count) (numbers_from 1 c.args.count) (0 ∷ []) (numbered c.args.count 0 X) = search rules in
    subst (λ Y. Gives tuples_of c.read_groups.result (Ok Y))
    (read_whole c.args.width c.args.count c.args.numbers.now c.args.joined.now X _ _ _ c.requires.1 flags tuples found)
    c.read_groups.ensures
