use Rattle.std.proofs.Common.{◌≡◌, rules, map, Ok, ap, ◌∙◌}
use Rattle.item_tree.specs.Item.{datums}
use Rattle.tuple_rows.specs.Tuples.{sequence, sequences}
use Rattle.query_meaning.specs.inside.Views.{tuple_of}
use Rattle.clause_eval.specs.Frames.{frame_tuples}
use Rattle.clause_eval.specs.Positions.{position, tuple_at, slots_from}
use Rattle.clause_eval.proofs.ValueSteps.{group_read}
use Rattle.clause_eval.proofs.groups.read_group.Goals as goal

pub returns : goal.returns
returns c =
    let tuples = frame_tuples c.args.frames.now in
    let first : c.in_ok-first.first.items ≡ c.as_slice.result.now = search rules in
    let places : c.in_ok-places.places.items ≡ c.as_slice-2.result.now = search rules in
    group_read c.args.flags.now c.args.numbers.now tuples (sequences c.args.row)
    (sequence c.in_ok-first.first) (map sequence c.in_ok-first.values.items)
    c.in_ok-places.places.items (tuple_of c.in_ok-slots.slots.items)
    (tuple_of c.in_ok-slots-2.slots.items) c.in_ok-first.ensures
    (ap (λ xs. Ok (map position (datums xs))) first ∙ c.in_ok-places.ensures)
    (ap (λ ns. Ok (slots_from 0 c.args.flags.now (map (tuple_at tuples) ns))) places
    ∙ c.in_ok-slots.ensures)
    c.in_ok-slots-2.ensures
