use Rattle.std.proofs.Common.{◌≡◌, ◌&&◌, Ok, pos, ◌+ℤ◌, ap, sym, ◌∙◌, rules, FitsSigned}
use Rattle.std.specs.Int.{w128, int_max}
use Rattle.std.specs.Prelude.{int_le, int_lt}
use Rattle.std.specs.Str.{chars}
use Rattle.std.proofs.lemmas.Int.{to_z-of_z}
use Rattle.value_rules.specs.Strings.{one_text}
use Rattle.fn_strings.specs.inside.Positions.{at_positions}
use Rattle.fn_strings.proofs.PositionLemmas.{items_at_is, between_is}
use Rattle.fn_strings.proofs.positions.substring_3.Goals as goal

pub returns-clause-value : goal.returns-clause-value
returns-clause-value c =
    let start = c.in_ok-start.start in
    let size = c.in_ok-len.len in
    let fits : FitsSigned w128 start = search rules in
    let small : FitsSigned w128 size = search rules in
    let whole : FitsSigned w128 (start +ℤ size) = search rules in
    let rest : chars c.cut.result.1.now ≡ at_positions (λ p. int_le start p) (pos 1) (chars c.in_ok-text.text.now) = rw (to_z-of_z w128 start fits) at c.cut.ensures.back in
    let end = start +ℤ size in
    let first : c.max.result ≡ int_max start (pos 1) = rw (to_z-of_z w128 start fits) at c.max.ensures.value in
    let some : FitsSigned w128 c.max.result = search rules in
    let front : chars c.cut-2.result.0.now ≡ at_positions (λ p. int_lt p end) c.max.result (chars c.cut.result.1.now) = rw (to_z-of_z w128 start fits, to_z-of_z w128 size small, to_z-of_z w128 end whole, to_z-of_z w128 c.max.result some) at c.cut-2.ensures.front in
    let text : chars c.cut-2.result.0.now ≡ at_positions (λ p. int_le start p && int_lt p end) (pos 1) (chars c.in_ok-text.text.now) =
    front ∙ (λ i. at_positions (λ p. int_lt p end) (first i) (rest i)) ∙ sym (between_is start end (pos 1) (chars c.in_ok-text.text.now)) in
    rw (c.in_ok-text.ensures, sym c.in_ok-start.ensures.value, sym c.in_ok-len.ensures.value) (ap Ok (sym (c.in_ok-one_str.ensures ∙ ap one_text (text ∙ sym (items_at_is (λ p. int_le start p && int_lt p end) (chars c.in_ok-text.text.now))))))
