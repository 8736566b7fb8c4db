use Rattle.std.proofs.Common.{◌<◌, ◌∙◌, length, arith, refl, vec_capacity}
use Rattle.std.proofs.lemmas.Bool.Decides.{nat_tests}
use Rattle.piece_board.proofs.Backward.{forth_next}
use Rattle.piece_board.proofs.slots.into_slots.Goals as goal

pub moving-preserved : goal.moving-preserved
moving-preserved g c =
    let h = c.moving.invariant in
    let lt : 0 < length c.moving.seats.items = grind (arith, nat_tests, c.moving.seats.ok.0) in
    let n = forth_next c.args.seats.now.items (vec_capacity c.moving.slots) (vec_capacity c.add.new.list) c.moving.seats.items c.remove.new.self.items c.moving.slots.items c.add.new.list.items _
    h.0 c.add.ensures.capacity lt c.remove.ensures.value c.remove.ensures.items (record { nothing = c.new.ensures.items; no_fault = refl }) c.add.ensures.items in
    (n.0, c.remove.ensures.capacity ∙ h.1)
