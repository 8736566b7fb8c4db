use Rattle.std.proofs.Common.{◌≡◌, ◌<◌, ap, ◌∙◌, get_or, take, arith}
use Rattle.std.proofs.lemmas.List.{get_or-take}
use Rattle.item_tree.proofs.str_bytes.front_bytes.Goals as goal

pub returns : goal.returns
returns c = λ i p.
    let lanes = c.front_lanes.result in
    let same : get_or c.copy_from_slice.new.self i 0 ≡ get_or (take 14 lanes) i 0 = ap (λ l. get_or l i 0) c.copy_from_slice.ensures.after in
    let inside : i < 14 = omega (arith, p, c.copy_from_slice.ensures.len) in
    same ∙ get_or-take 14 lanes i 0 inside ∙ c.front_lanes.ensures i (omega (arith, inside))
