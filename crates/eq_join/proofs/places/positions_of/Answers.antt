use Rattle.std.proofs.Common.{◌<◌, ◌≤◌, length, Some, None, sym, ◌∙◌, arith}
use Rattle.item_tree.specs.Item.{datum}
use Rattle.eq_join.specs.inside.Places.{is_of, position_lists}
use Rattle.eq_join.proofs.Positions.{none_found, some_found, nothing_at, read_at}
use Rattle.eq_join.proofs.places.positions_of.Goals as goal

pub returns-in_default : goal.returns-in_default
returns-in_default c =
    sym (none_found (is_of (datum c.args.item.now)) c.args.places.now.keys.keys (position_lists c.args.places.now.positions.items)
    (sym c.place_of.ensures ∙ c.in_default.is))

pub returns-then-place-len : goal.returns-then-place-len
returns-then-place-len c =
    let long = c.len.ensures ∙ c.args.places.now.positions.ok.0 in
    let lt : c.in-Some.place < length c.args.places.now.positions.items = omega arith in
    c.as_slice.ensures.value
    ∙ sym (some_found (is_of (datum c.args.item.now)) c.args.places.now.keys.keys c.args.places.now.positions.items c.in-Some.place
    (Some c.index.result.now) (sym c.place_of.ensures ∙ c.in-Some.is)
    (read_at c.args.places.now.positions.items c.in-Some.place c.index.result.now lt c.index.ensures))

pub returns-else-place-len : goal.returns-else-place-len
returns-else-place-len c =
    let long = c.len.ensures ∙ c.args.places.now.positions.ok.0 in
    let le : length c.args.places.now.positions.items ≤ c.in-Some.place = omega arith in
    sym (some_found (is_of (datum c.args.item.now)) c.args.places.now.keys.keys c.args.places.now.positions.items c.in-Some.place None
    (sym c.place_of.ensures ∙ c.in-Some.is)
    (nothing_at c.args.places.now.positions.items c.in-Some.place le))
