use Rattle.std.proofs.Common.{◌≡◌, ◌+◌, length, drop}
use Rattle.std.specs.Prelude.{int_lt}
use Rattle.std.specs.Str.{chars, encode_utf8_all}
use Rattle.fn_strings.specs.inside.Positions.{at_positions}
use Rattle.fn_strings.proofs.positions.front_len.Given as goal

abbrev pub invariant-loop-c : goal.invariant-loop-c
invariant-loop-c l =
    l.len + length (encode_utf8_all (at_positions (λ p. int_lt p l.end) l.position (drop (length l.yielded) (chars l.text))))
    ≡ length (encode_utf8_all (at_positions (λ p. int_lt p l.end) l.first (chars l.text)))
