use Rattle.std.proofs.Common.{arith, w32}
use Rattle.std.proofs.lemmas.Int.{to_z_pos}
use Rattle.date_atoms.proofs.TailTexts.{ahead_made}
use Rattle.date_atoms.proofs.tails.ahead.Goals as goal

pub returns : goal.returns
returns c =
    let h = c.in_ok-minutes_of.ensures in
    ahead_made c.args.bytes.now c.in_ok-minutes_of.field-0 _ h.0 h.1 (to_z_pos w32 c.in_ok-minutes_of.field-0 (omega (arith, h.0)))
