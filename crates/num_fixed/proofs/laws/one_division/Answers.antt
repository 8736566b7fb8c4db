use Rattle.std.proofs.Common.{int_div, int_rem}
use Rattle.num_fixed.proofs.DivisionLemmas.{divided}
use Rattle.num_fixed.proofs.ValueLemmas.{one_truncated, one_remainder}
use Rattle.num_fixed.proofs.laws.one_division.Goals as goal

pub returns : goal.returns
returns c = record { some = λ a b h. (int_div a b, int_rem a b, divided a b h); quotient = one_truncated; remainder = one_remainder }
