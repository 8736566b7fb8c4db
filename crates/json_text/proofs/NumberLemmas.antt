-- What a numeral gives: the number that it says, or that this is out of bounds.
-- For other crates too.
use Rattle.std.specs.Prelude.{◌≡◌, Ok, Err, refl}
use Rattle.std.proofs.Common.{sym, ◌∙◌, ap}
use Rattle.std.proofs.lemmas.Bool.{cond_both}
use Rattle.num_fixed.specs.Bounds.{NumberInBounds}
use Rattle.num_fixed.specs.Numeral.{Numeral, Says}
use Rattle.num_fixed.specs.Values.{number_in_bounds, said}
use Rattle.num_fixed.specs.declared.number.Number.{Number}
use Rattle.num_fixed.proofs.ValueLemmas.{says, says_one, number_inside, number_outside}
use Rattle.item_tree.specs.Datum.{Datum}
use Rattle.json_text.specs.Meaning.{number_out, Outcome, NumberGives, number_datum}
use Rattle.json_text.specs.inside.Build.{number_outcome}

pub number_gives : (n : Numeral) → NumberGives n (number_outcome (said n))
number_gives n =
    cond_both (number_in_bounds (said n)) _ _ (NumberGives n)
    (λ e. (said n, says n, number_inside _ e, refl)) (λ e. (said n, says n, number_outside _ e, refl))

in_outcome : (x : Number) → NumberInBounds x → number_outcome x ≡ Ok (number_datum x)
in_outcome x h = cond_both (number_in_bounds x) _ _ (λ r. r ≡ Ok (number_datum x)) (λ e. refl) (λ e. absurd (number_outside x e h))

out_outcome : (x : Number) → ¬ NumberInBounds x → number_outcome x ≡ Err number_out
out_outcome x h = cond_both (number_in_bounds x) _ _ (λ r. r ≡ Err number_out) (λ e. absurd (h (number_inside x e))) (λ e. refl)

pub number_gives_one : (n : Numeral) (r : Outcome Datum) → NumberGives n r → r ≡ number_outcome (said n)
number_gives_one n (Ok x) h = ap Ok h.3 ∙ sym (in_outcome h.0 h.2) ∙ ap number_outcome (says_one n h.0 h.1)
number_gives_one n (Err t) h = ap Err h.3 ∙ sym (out_outcome h.0 h.2) ∙ ap number_outcome (says_one n h.0 h.1)

-- what a reader of numbers may answer: a number that the numeral says, within its bounds, or that no such number is
pub read_in_bounds : (n : Numeral) (x : Number) → Says n x → NumberInBounds x → number_outcome (said n) ≡ Ok (number_datum x)
read_in_bounds n x h b = sym (number_gives_one n (Ok (number_datum x)) (x, h, b, refl))

pub read_out_of_bounds : (n : Numeral) → ((x : Number) → Says n x → ¬ NumberInBounds x) → number_outcome (said n) ≡ Err number_out
read_out_of_bounds n h = out_outcome (said n) (h (said n) (says n))
