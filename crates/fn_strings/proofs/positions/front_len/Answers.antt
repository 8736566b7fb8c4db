use Rattle.std.proofs.Common.{FitsSigned, ◌≡◌, ◌+◌, ◌+ℤ◌, ◌<ℤ◌, ◌≤ℤ◌, pos, length, drop, arith, rules}
use Rattle.std.specs.Int.{w128}
use Rattle.std.specs.Prelude.{int_lt}
use Rattle.std.specs.Str.{chars, encode_utf8_all}
use Rattle.std.proofs.lemmas.Int.{ints, to_z-of_z}
use Rattle.std.proofs.lemmas.Iterator.{YieldsList-from_chars}
use Rattle.std.proofs.lemmas.Iterator.Consumers.{YieldsList-turn, YieldsList-end}
use Rattle.std.proofs.lemmas.List.{at_drop_all, length_push}
use Rattle.fn_strings.specs.inside.Positions.{at_positions}
use Rattle.fn_strings.proofs.PositionLemmas.{next_is, front_done, front_more, front_within}
use Rattle.fn_strings.proofs.positions.front_len.Goals as goal

pub returns-then-position-end : goal.returns-then-position-end
returns-then-position-end c =
    let h : c.args.end ≤ℤ c.loop-c.position = grind (arith, ints) in
    let n = length c.loop-c.yielded in
    let cs = chars c.args.text.now in
    let inv : c.loop-c.len + length (encode_utf8_all (at_positions (λ p. int_lt p c.args.end) c.loop-c.position (drop n cs))) ≡ length (encode_utf8_all (at_positions (λ p. int_lt p c.args.end) c.args.first cs)) =
    rw (to_z-of_z w128 c.args.end c.ranges.end, to_z-of_z w128 c.args.first c.ranges.first, c.loop-c.position-is) at c.loop-c.invariant in
    omega (arith, front_done c.args.end c.loop-c.position (drop n cs) h, inv)

pub overflow_add-len : goal.overflow_add-len
overflow_add-len c =
    let h : c.loop-c.position <ℤ c.args.end = grind (arith, ints) in
    let n = length c.loop-c.yielded in
    let cs = chars c.args.text.now in
    let inv : c.loop-c.len + length (encode_utf8_all (at_positions (λ p. int_lt p c.args.end) c.loop-c.position (drop n cs))) ≡ length (encode_utf8_all (at_positions (λ p. int_lt p c.args.end) c.args.first cs)) =
    rw (to_z-of_z w128 c.args.end c.ranges.end, to_z-of_z w128 c.args.first c.ranges.first, c.loop-c.position-is) at c.loop-c.invariant in
    let t = YieldsList-turn (YieldsList-from_chars c.args.text.now c.utf8.text cc) c.loop-c.yielded _ c.loop-c.yielded_by _ _ c.in-Some.c c.in-Some.is c.next.ensures.steps in
    let more = front_more c.args.end c.loop-c.position cs n c.in-Some.c h (next_is cs n c.in-Some.c t) in
    omega (arith, inv, more, c.len_utf8-len.ensures.len, front_within c.args.text.now c.args.end c.args.first c.utf8.text, c.chars-c-items.ensures.len)

pub loop-c-preserved : goal.loop-c-preserved
loop-c-preserved c =
    let h : c.loop-c.position <ℤ c.args.end = grind (arith, ints) in
    let n = length c.loop-c.yielded in
    let cs = chars c.args.text.now in
    let inv : c.loop-c.len + length (encode_utf8_all (at_positions (λ p. int_lt p c.args.end) c.loop-c.position (drop n cs))) ≡ length (encode_utf8_all (at_positions (λ p. int_lt p c.args.end) c.args.first cs)) =
    rw (to_z-of_z w128 c.args.end c.ranges.end, to_z-of_z w128 c.args.first c.ranges.first, c.loop-c.position-is) at c.loop-c.invariant in
    let t = YieldsList-turn (YieldsList-from_chars c.args.text.now c.utf8.text cc) c.loop-c.yielded _ c.loop-c.yielded_by _ _ c.in-Some.c c.in-Some.is c.next.ensures.steps in
    let more = front_more c.args.end c.loop-c.position cs n c.in-Some.c h (next_is cs n c.in-Some.c t) in
    let fits : FitsSigned w128 (c.loop-c.position +ℤ pos 1) = search rules in
    rw (to_z-of_z w128 c.args.end c.ranges.end, to_z-of_z w128 c.args.first c.ranges.first, c.loop-c.position-is, to_z-of_z w128 (c.loop-c.position +ℤ pos 1) fits, length_push c.loop-c.yielded c.in-Some.c)
    (omega (arith, inv, more, c.len_utf8-len.ensures.len))

pub returns : goal.returns
returns c =
    let n = length c.loop-c.yielded in
    let cs = chars c.args.text.now in
    let inv : c.loop-c.len + length (encode_utf8_all (at_positions (λ p. int_lt p c.args.end) c.loop-c.position (drop n cs))) ≡ length (encode_utf8_all (at_positions (λ p. int_lt p c.args.end) c.args.first cs)) =
    rw (to_z-of_z w128 c.args.end c.ranges.end, to_z-of_z w128 c.args.first c.ranges.first, c.loop-c.position-is) at c.loop-c.invariant in
    let t = YieldsList-end (YieldsList-from_chars c.args.text.now c.utf8.text cc) c.loop-c.yielded _ c.loop-c.yielded_by _ _ c.in-None.is c.next.ensures.steps in
    omega (arith, at_drop_all (λ s. length (encode_utf8_all (at_positions (λ p. int_lt p c.args.end) c.loop-c.position s))) cs n (omega (arith, t.1)), inv)
