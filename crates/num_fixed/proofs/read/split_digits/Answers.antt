use Rattle.std.proofs.Common.{◌≡◌, take, subst, sym, arith, rules}
use Rattle.std.specs.Char.{is_ascii_digit}
use Rattle.std.proofs.lemmas.List.Sums.{prefix_len-le-length}
use Rattle.num_fixed.specs.Numeral.{AreDigits}
use Rattle.num_fixed.specs.Scan.{digits_len}
use Rattle.num_fixed.proofs.Reading.{digits_taken_are}
use Rattle.num_fixed.proofs.read.split_digits.Goals as goal

pub returns-clause-digits : goal.returns-clause-digits
returns-clause-digits c =
    let text = c.args.text.now in
    let front : c.split_at.result.0.now ≡ take (digits_len text) text = search rules in
    subst AreDigits (sym front) (digits_taken_are text)

pub split_at-requires : goal.split_at-requires
split_at-requires c = omega (arith, prefix_len-le-length is_ascii_digit c.args.text.now)
