-- What arithmetic on fixed numbers tells is what the definitions compute. For other crates too.
use Rattle.std.proofs.Common.{◌≡◌, inl, inr, ℤ, true, Result, Ok, Err, IfOk, IfErr, refl, ap, subst}
use Rattle.std.proofs.lemmas.Bool.{cases_Bool}
use Rattle.item_tree.specs.declared.code.Code.TheVariants.{FOAR0002}
use Rattle.num_fixed.specs.Bounds.{InBounds, NumberInBounds, IsOver}
use Rattle.num_fixed.specs.Laws.{IsSingle}
use Rattle.num_fixed.specs.Values.{in_bounds}
use Rattle.num_fixed.specs.declared.number.Kind.{Kind}
use Rattle.num_fixed.specs.declared.number.Kind.TheVariants.{Whole, Units}
use Rattle.num_fixed.specs.declared.number.NumFault.{NumFault}
use Rattle.num_fixed.specs.declared.number.NumFault.TheVariants.{ZeroDivisor, Overflow}
use Rattle.num_fixed.proofs.ValueLemmas.{inside, tested_inside}
use Rattle.value_rules.specs.Results.{number_of, bounded, told}

pub is_inside : (kind : Kind) (m n : ℤ) → m ≡ n → InBounds kind m → Ok (number_of kind m) ≡ bounded kind n
is_inside kind m n e h =
    let t : in_bounds kind n ≡ true = (tested_inside kind n).1 (subst (InBounds kind) e h) in
    rw t (ap (λ k. Ok (number_of kind k)) e)

pub is_outside : (kind : Kind) (n : ℤ) → ¬ InBounds kind n → Err FOAR0002 ≡ bounded kind n
is_outside kind n h = elim (cases_Bool (in_bounds kind n)) [ inl e ↦ absurd (h (inside kind n e)) | inr e ↦ rw e refl ]

-- the number itself, where it is in bounds
pub told_number : (kind : Kind) (n : ℤ) (r : Result ℤ NumFault) → IfOk r (λ m. (m ≡ n) × InBounds kind m) → IfErr r (λ e. (e ≡ Overflow) × (¬ InBounds kind n)) → told kind r ≡ bounded kind n
told_number kind n (Ok m) h g = is_inside kind m n h.0 h.1
told_number kind n (Err ZeroDivisor) h g = absurd cc
told_number kind n (Err Overflow) h g = is_outside kind n g.1

-- the one number that has a property
pub told_one : (kind : Kind) (P : ℤ → Type 0) (n : ℤ) → P n → IsSingle P → (r : Result ℤ NumFault) → IfOk r (λ m. P m × InBounds kind m) → IfErr r (λ e. (e ≡ Overflow) × IsOver kind P) → told kind r ≡ bounded kind n
told_one kind P n has one (Ok m) h g = is_inside kind m n (one m n h.0 has) h.1
told_one kind P n has one (Err ZeroDivisor) h g = absurd cc
told_one kind P n has one (Err Overflow) h g = is_outside kind n (g.1 n has)

number_inside : (kind : Kind) (m : ℤ) → InBounds kind m → NumberInBounds (number_of kind m)
number_inside Whole m h = h
number_inside Units m h = h

pub told_within : (kind : Kind) (P : ℤ → Type 0) (r : Result ℤ NumFault) → IfOk r (λ m. P m × InBounds kind m) → IfOk (told kind r) NumberInBounds
told_within kind P (Ok m) h = number_inside kind m h.1
told_within kind P (Err ZeroDivisor) h = tt
told_within kind P (Err Overflow) h = tt
