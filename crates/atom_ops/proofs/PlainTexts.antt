-- The texts of numbers that a cast takes are the numerals without exponent.
use Rattle.std.proofs.Common.{◌≡◌, ◌⊎◌, inl, inr, ◌<◌, ℕ, ◌+◌, nat_lt, Bool, true, false, ◌||◌, List, [], ◌∷◌, ◌++◌, length, Option, Some, None, Err, refl, sym, ap, ◌∙◌, subst, arith}
use Rattle.std.specs.Char.{is_ascii_digit}
use Rattle.std.specs.List.{list_all}
use Rattle.std.proofs.lemmas.Bool.{cases_Bool}
use Rattle.std.proofs.lemmas.Bool.Decides.{nat_tests}
use Rattle.std.proofs.lemmas.List.{append-nil, length-append}
use Rattle.std.proofs.lemmas.List.Folds.{length-prefix_len}
use Rattle.item_tree.specs.declared.code.Code.TheVariants.{FORG0001}
use Rattle.num_fixed.specs.Fronts.{fraction_of}
use Rattle.num_fixed.specs.Numeral.{Numeral, IsNumeral, IsFrac, IsExp, frac_digits}
use Rattle.num_fixed.specs.Scan.{behind_sign, digits_len}
use Rattle.num_fixed.specs.Values.{said}
use Rattle.num_fixed.proofs.NumeralLemmas.{one_numeral}
use Rattle.num_fixed.proofs.Reading.{pieces}
use Rattle.atom_ops.specs.Casts.{ends_number, behind_digits, is_plain_number, plain_numeral, in_bounds_or_over, number_in}
use Rattle.atom_ops.specs.Laws.{IsPlain, IsPlainText}
use Rattle.atom_ops.proofs.CastLemmas.{plain_is, no_number}

-- the end of a numeral without exponent passes the test
whole_ends : (point : Bool) (w v : List ℕ) → v ≡ [] → 0 < length (w ++ []) → ends_number point (nat_lt 0 (length w)) v ≡ true
whole_ends point w v e h =
    let some : 0 < length w = subst (λ l. 0 < length l) (append-nil w) h in
    let t : nat_lt 0 (length w) ≡ true = grind (arith, nat_tests) in
    subst (λ l. ends_number point (nat_lt 0 (length w)) l ≡ true) (sym e) t

fraction_ends : (w ds v : List ℕ) → v ≡ 46 ∷ ds → list_all is_ascii_digit ds ≡ true → 0 < length (w ++ ds) → ends_number true (nat_lt 0 (length w)) v ≡ true
fraction_ends w ds v e digits h =
    let some : 0 < length w + length ds = subst (λ n. 0 < n) (length-append w ds) h in
    let t : (nat_lt 0 (length w) || nat_lt 0 (length ds)) ≡ true = grind (arith, nat_tests) in
    subst (λ l. ends_number true (nat_lt 0 (length w)) l ≡ true) (sym e) (rw (digits, t) refl)

ends : (point : Bool) (w : List ℕ) (f : Option (List ℕ)) (v r : List ℕ) → IsFrac f v r → r ≡ [] → (point ≡ true) ⊎ (f ≡ None) → 0 < length (w ++ frac_digits f) → ends_number point (nat_lt 0 (length w)) v ≡ true
ends point w None v r h e may some = whole_ends point w v (h ∙ e) some
ends point w (Some ds) v r h e may some = elim may [
  | inl p ↦ rw p (fraction_ends w ds v (h.1 ∙ ap (λ l. 46 ∷ (ds ++ l)) e ∙ ap (λ l. 46 ∷ l) (append-nil ds)) h.0 some)
  | inr n ↦ absurd cc
]

may_have : (point : Bool) (n : Numeral) → IsPlain point n → (n.exp ≡ None) × ((point ≡ true) ⊎ (n.frac ≡ None))
may_have true n h = (h, inl refl)
may_have false n h = (h.0, inr h.1)

passes : (point : Bool) (l : List ℕ) (n : Numeral) → IsNumeral n l [] → IsPlain point n → is_plain_number point l ≡ true
passes point l n h plain =
    let u = behind_sign l in
    let is = pieces n l h in
    let may = may_have point n plain in
    let none : h.behind_frac ≡ [] = subst (λ x. IsExp x h.behind_frac []) may.0 h.exp in
    let len : digits_len u ≡ length n.int = sym (length-prefix_len is_ascii_digit u) ∙ ap length is.1 in
    subst (λ k. ends_number point (nat_lt 0 k) (behind_digits u) ≡ true) (sym len)
    (subst (λ v. ends_number point (nat_lt 0 (length n.int)) v ≡ true) (sym is.2)
    (ends point n.int n.frac h.behind_int h.behind_frac h.frac none may.1 h.some))

pub plain_said : (point : Bool) (l : List ℕ) (n : Numeral) → IsPlainText point l n → number_in point l ≡ in_bounds_or_over (said n)
plain_said point l n h =
    let plain = passes point l n h.0 h.1 in
    let same : plain_numeral l ≡ n = one_numeral (plain_numeral l) n l (plain_is point l plain) h.0 in
    rw plain (ap (λ m. in_bounds_or_over (said m)) same)

no_point : (some : Bool) (v : List ℕ) → ends_number false some v ≡ true → fraction_of v ≡ None
no_point some [] h = refl
no_point some (b ∷ ds) h = absurd cc

plain_there : (point : Bool) (l : List ℕ) → is_plain_number point l ≡ true → IsPlain point (plain_numeral l)
plain_there true l h = refl
plain_there false l h = (refl, no_point (nat_lt 0 (digits_len (behind_sign l))) (behind_digits (behind_sign l)) h)

pub plain_refused : (point : Bool) (l : List ℕ) → ((n : Numeral) → ¬ IsPlainText point l n) → number_in point l ≡ Err FORG0001
plain_refused point l none = elim (cases_Bool (is_plain_number point l)) [
  | inl e ↦ absurd (none (plain_numeral l) (plain_is point l e, plain_there point l e))
  | inr e ↦ no_number point l e
]
