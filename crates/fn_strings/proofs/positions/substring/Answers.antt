use Rattle.std.proofs.Common.{◌≡◌, Ok, pos, ap, sym, ◌∙◌, rules, FitsSigned}
use Rattle.std.specs.Int.{w128}
use Rattle.std.specs.Prelude.{int_le}
use Rattle.std.specs.Str.{chars}
use Rattle.std.proofs.lemmas.Int.{to_z-of_z}
use Rattle.value_rules.specs.Strings.{one_text}
use Rattle.fn_strings.specs.inside.Positions.{at_positions}
use Rattle.fn_strings.proofs.PositionLemmas.{items_at_is}
use Rattle.fn_strings.proofs.positions.substring.Goals as goal

pub returns-clause-value : goal.returns-clause-value
returns-clause-value c =
    let start = c.in_ok-start.start in
    let fits : FitsSigned w128 start = search rules in
    let back : chars c.cut.result.1.now ≡ at_positions (λ p. int_le start p) (pos 1) (chars c.in_ok-text.text.now) = rw (to_z-of_z w128 start fits) at c.cut.ensures.back in
    rw (c.in_ok-text.ensures, sym c.in_ok-start.ensures.value) (ap Ok (sym (c.in_ok-one_str.ensures ∙ ap one_text (back ∙ sym (items_at_is (λ p. int_le start p) (chars c.in_ok-text.text.now))))))
