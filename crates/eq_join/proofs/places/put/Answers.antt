use Rattle.std.proofs.Common.{◌<◌, ◌≤◌, length, ◌∙◌, ap, arith}
use Rattle.eq_join.specs.inside.Places.{position_lists}
use Rattle.eq_join.proofs.Positions.{read_at, put_there, put_last}
use Rattle.eq_join.proofs.places.put.Goals as goal

pub returns-in_ok-push : goal.returns-in_ok-push
returns-in_ok-push c =
    let long = c.len.ensures ∙ c.args.positions.now.ok.0 in
    let lt : c.args.place < length c.args.positions.now.items = omega arith in
    put_there c.args.positions.now.items c.args.place c.args.at c.index_mut-list.result.now c.push.new.self
    (read_at c.args.positions.now.items c.args.place c.index_mut-list.result.now lt c.index_mut-list.ensures.value) c.in_ok-push.ensures.items

pub returns-in_ok-push-2 : goal.returns-in_ok-push-2
returns-in_ok-push-2 c =
    let long = c.len.ensures ∙ c.args.positions.now.ok.0 in
    let le : length c.args.positions.now.items ≤ c.args.place = omega arith in
    ap position_lists c.in_ok-push-2.ensures.items
    ∙ put_last c.args.positions.now.items c.args.place c.args.at c.in_ok-vec.field-0 le c.in_ok-vec.ensures.items
