-- How many numbers a part counts.
use Rattle.std.specs.Prelude.{◌≡◌, ℕ, suc, ◌≤◌, List, [], ◌∷◌, length, Result, Ok, Err, refl}
use Rattle.std.proofs.Common.{ap, ◌∙◌, arith}
use Rattle.item_tree.specs.declared.code.Code.{Code}
use Rattle.item_tree.specs.Datum.{Datum}
use Rattle.num_fixed.specs.Totals.{Tally, tally_of}
use Rattle.num_fixed.specs.declared.number.Number.{Number}
use Rattle.value_rules.specs.Numbers.{addend, addends}
use Rattle.value_rules.specs.Operands.{and_then}
use Rattle.fn_numbers.specs.declared.tallies.Tallied.{Tallied}
use Rattle.fn_numbers.specs.declared.tallies.Tallied.TheVariants.{Numbers, NoNumber}
use Rattle.fn_numbers.specs.inside.Tallies.{tally_kept, tally, numbers_kept}

length_case : (a : Result Number Code) (r : Result (List Number) Code) (xs : List Number) (n : ℕ)
    → ((ys : List Number) → r ≡ Ok ys → length ys ≡ n)
    → and_then a (λ x. and_then r (λ ys. Ok (x ∷ ys))) ≡ Ok xs → length xs ≡ suc n
length_case (Err e) r xs n h k = absurd cc
length_case (Ok x) (Err e) xs n h k = absurd cc
length_case (Ok x) (Ok ys) xs n h k =
    let e : x ∷ ys ≡ xs = cc in omega (arith, h ys refl, ap length e)

length-addends : (vs : List Datum) (xs : List Number) → addends vs ≡ Ok xs → length xs ≡ length vs
length-addends [] xs h = let e : [] ≡ xs = cc in omega (arith, ap length e)
length-addends (v ∷ vs) xs h =
    omega
    (arith, length_case (addend v) (addends vs) xs (length vs) (λ ys k. length-addends vs ys k) h)

count-tally : (xs : List Number) → (tally_of xs).count ≡ length xs
count-tally [] = refl
count-tally (x ∷ xs) = omega (arith, count-tally xs)

count_case : (r : Result (List Number) Code) (t : Tally) (vs : List Datum) → addends vs ≡ r
    → Ok t ≡ and_then r (λ xs. Ok (tally_of xs)) → t.count ≡ length vs
count_case (Err e) t vs h k = absurd cc
count_case (Ok xs) t vs h k =
    let e : t ≡ tally_of xs = cc in ap (λ u. u.count) e ∙ count-tally xs ∙ length-addends vs xs h

pub numbers_counted : (p : Tallied) (vs : List Datum) → tally_kept p ≡ tally vs
    → numbers_kept p ≤ length vs
numbers_counted (Numbers t) vs h = omega (arith, count_case (addends vs) t vs refl h)
numbers_counted NoNumber vs h = omega arith
