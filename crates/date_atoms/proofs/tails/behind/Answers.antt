use Rattle.std.proofs.Common.{arith, w32, pos, ◌-ℤ◌, ap, ◌∙◌, ◌≡◌, FitsSigned, to_z, to_z-of_z}
use Rattle.std.proofs.lemmas.Int.{ints, to_z_pos}
use Rattle.date_atoms.proofs.TailTexts.{behind_made}
use Rattle.date_atoms.proofs.tails.behind.Goals as goal

pub returns : goal.returns
returns c =
    let h = c.in_ok-minutes_of.ensures in
    let m = c.in_ok-minutes_of.field-0 in
    let plain : to_z w32 m ≡ pos m = to_z_pos w32 m (omega (arith, h.0)) in
    let fits : FitsSigned w32 (pos 0 -ℤ to_z w32 m) = rw plain (omega (arith, ints, h.0)) in
    behind_made c.args.bytes.now m _ h.0 h.1 (to_z-of_z fits ∙ ap (λ z. pos 0 -ℤ z) plain)
