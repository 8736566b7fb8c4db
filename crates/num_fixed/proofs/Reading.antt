-- From the pieces of a text to its numeral. For other crates too.
use Rattle.std.proofs.Common.{◌≡◌, ◌≢◌, ◌⊎◌, inl, inr, ◌<◌, ◌≤◌, ℕ, suc, ◌+◌, ◌-◌, ◌*◌, ◌^◌, ℤ, pos, ◌*ℤ◌, Bool, true, false, ◌==◌, cond, List, [], ◌∷◌, ◌++◌, length, take, drop, pow-add, Result, Ok, Err, IfOk, IfErr, Option, Some, None, IsSome, sym, ◌∙◌, ap, subst, refl, arith, unsigned_abs}
use Rattle.std.specs.Char.{is_ascii_digit}
use Rattle.std.specs.List.{list_all}
use Rattle.std.proofs.lemmas.Bool.{and_parts}
use Rattle.std.proofs.lemmas.Bool.Decides.{nat_tests}
use Rattle.std.proofs.Math.Seq.{take-append_seam, drop-append_seam, take-length}
use Rattle.std.proofs.lemmas.Int.{ints}
use Rattle.std.proofs.lemmas.List.{append-nil}
use Rattle.num_fixed.specs.Bounds.{bound, InBounds, NumberInBounds, IsOver}
use Rattle.num_fixed.specs.inside.Digits.{IsLarge}
use Rattle.num_fixed.specs.Nearest.{IsNearest, IsNearestNatural, IsNearestUnit}
use Rattle.num_fixed.specs.Signs.{with_sign, differ}
use Rattle.num_fixed.specs.declared.number.Kind.{Kind}
use Rattle.num_fixed.specs.declared.number.Kind.TheVariants.{Whole, Units}
use Rattle.num_fixed.specs.declared.number.Number.{Number}
use Rattle.num_fixed.specs.declared.number.Number.TheVariants.{Int, Dec}
use Rattle.num_fixed.specs.declared.number.NumFault.{NumFault}
use Rattle.num_fixed.specs.declared.number.NumFault.TheVariants.{Overflow}
use Rattle.num_fixed.proofs.DigitLemmas.{power_some}
use Rattle.num_fixed.proofs.NearestLemmas.{nearest_signed, natural_of_nearest}
use Rattle.num_fixed.proofs.Signs.{product_signed, abs_signed}
use Rattle.num_fixed.specs.Numeral.{IsOutOfBounds, IsUnitsOf, IsDecimalOf, Says, Sign, none, plus, minus, Numeral, AreDigits, IsSign, IsFrac, IsExp, IsNumeral, frac_digits, is_minus, number_of, raised_by, lowered_by, raised, lowered}
use Rattle.num_fixed.specs.Scan.{minus_at, behind_sign, digits_len, exp_minus_at, exp_digits_at}

-- digits end here: at the end, at the point or at the letter of an exponent
abbrev pub Stops : List ℕ → Type 0
Stops [] = Unit {0}
Stops (b ∷ l) = (b ≡ 46) ⊎ (b ≡ 101) ⊎ (b ≡ 69)

stop_no_digit : (b : ℕ) → (b ≡ 46) ⊎ (b ≡ 101) ⊎ (b ≡ 69) → is_ascii_digit b ≡ false
stop_no_digit b h = elim h [ inl e ↦ rw e refl | inr (inl e) ↦ rw e refl | inr (inr e) ↦ rw e refl ]

pub stop_no_sign : (b : ℕ) → (b ≡ 46) ⊎ (b ≡ 101) ⊎ (b ≡ 69) → ((b == 45) ≡ false) × ((b == 43) ≡ false)
stop_no_sign b h = elim h [ inl e ↦ rw e (refl, refl) | inr (inl e) ↦ rw e (refl, refl) | inr (inr e) ↦ rw e (refl, refl) ]

pub digit_no_sign : (b : ℕ) → is_ascii_digit b ≡ true → ((b == 45) ≡ false) × ((b == 43) ≡ false)
digit_no_sign b h = (grind (arith, nat_tests), grind (arith, nat_tests))

-- the digits up to a stop
pub digits_len-append : (ds r : List ℕ) → AreDigits ds → Stops r → digits_len (ds ++ r) ≡ length ds
digits_len-append [] [] h s = refl
digits_len-append [] (b ∷ r) h s = rw (stop_no_digit b s) refl
digits_len-append (d ∷ ds) r h s = let both = and_parts (is_ascii_digit d) (list_all is_ascii_digit ds) h in let rest = digits_len-append ds r both.1 s in rw both.0 (omega arith)

pub digits_taken : (l ds r : List ℕ) → l ≡ ds ++ r → AreDigits ds → Stops r → (take (digits_len l) l ≡ ds) × (drop (digits_len l) l ≡ r)
digits_taken l ds r e h s =
    let n : digits_len l ≡ length ds = ap digits_len e ∙ digits_len-append ds r h s in
    (ap (λ k. take k l) n ∙ ap (take (length ds)) e ∙ take-append_seam ds r, ap (λ k. drop k l) n ∙ ap (drop (length ds)) e ∙ drop-append_seam ds r)

pub digits_taken_are : (l : List ℕ) → AreDigits (take (digits_len l) l)
digits_taken_are [] = refl
digits_taken_are (b ∷ l) = by (digits_taken_are l) (is_ascii_digit b) refl
  where
    by : AreDigits (take (digits_len l) l) → (t : Bool) → is_ascii_digit b ≡ t → AreDigits (take (cond t (1 + digits_len l) 0) (b ∷ l))
    by rest false e = refl
    by rest true e = let s : 1 + digits_len l ≡ suc (digits_len l) = omega arith in rw (s, e) rest

-- no sign stands before digits and a stop
no_sign : (ds r : List ℕ) → AreDigits ds → Stops r → (minus_at (ds ++ r) ≡ false) × (behind_sign (ds ++ r) ≡ ds ++ r)
no_sign [] [] h s = (refl, refl)
no_sign [] (b ∷ r) h s = let n = stop_no_sign b s in (n.0, rw (n.0, n.1) refl)
no_sign (d ∷ ds) r h s = let both = and_parts (is_ascii_digit d) (list_all is_ascii_digit ds) h in let n = digit_no_sign d both.0 in (n.0, rw (n.0, n.1) refl)

pub sign_taken : (s : Sign) (l ds r : List ℕ) → IsSign s l (ds ++ r) → AreDigits ds → Stops r → (minus_at l ≡ is_minus s) × (behind_sign l ≡ ds ++ r)
sign_taken none l ds r e h s = let n = no_sign ds r h s in (ap minus_at e ∙ n.0, ap behind_sign e ∙ n.1)
sign_taken plus l ds r e h s = (ap minus_at e, ap behind_sign e)
sign_taken minus l ds r e h s = (ap minus_at e, ap behind_sign e)

pub exp_stops : (x : Option (Sign × List ℕ)) (l : List ℕ) → IsExp x l [] → Stops l
exp_stops None l h = rw h tt
exp_stops (Some e) l h = elim h.1 [ inl q ↦ rw q (inr (inl refl)) | inr q ↦ rw q (inr (inr refl)) ]

pub frac_stops : (f : Option (List ℕ)) (l r : List ℕ) → IsFrac f l r → Stops r → Stops l
frac_stops None l r h s = subst Stops (sym h) s
frac_stops (Some ds) l r h s = subst Stops (sym h.1) (inl refl)

pub exp_taken : (x : Option (Sign × List ℕ)) (l : List ℕ) → IsExp x l [] → (raised_by (exp_minus_at l) (exp_digits_at l) ≡ raised x) × (lowered_by (exp_minus_at l) (exp_digits_at l) ≡ lowered x)
exp_taken None l h = (rw h refl, rw h refl)
exp_taken (Some e) l h =
    let s = sign_taken e.0 h.0 e.1 [] h.2 h.3 tt in
    let d = s.1 ∙ append-nil e.1 in
    elim h.1 [ inl q ↦ (rw (q, s.0, d) refl, rw (q, s.0, d) refl) | inr q ↦ (rw (q, s.0, d) refl, rw (q, s.0, d) refl) ]

-- what stands behind the digits before the point decides which parts there are
abbrev pub first : List ℕ → ℕ
first [] = 0
first (b ∷ l) = b

abbrev pub tail : List ℕ → List ℕ
tail [] = []
tail (b ∷ l) = l

exp_begins : (e : Sign × List ℕ) (l : List ℕ) → IsExp (Some e) l [] → (first l ≡ 101) ⊎ (first l ≡ 69)
exp_begins e l h = elim h.1 [ inl q ↦ inl (ap first q) | inr q ↦ inr (ap first q) ]

pub no_exp_at : (e : Sign × List ℕ) (l : List ℕ) (b : ℕ) → first l ≡ b → b ≢ 101 → b ≢ 69 → IsExp (Some e) l [] → ⊥
no_exp_at e l b q m n h = elim (exp_begins e l h) [ inl k ↦ m (sym q ∙ k) | inr k ↦ n (sym q ∙ k) ]

pub two_first : (l : List ℕ) (a b : ℕ) → first l ≡ a → first l ≡ b → a ≢ b → ⊥
two_first l a b p q n = n (sym p ∙ q)

pub at_end : (f : Option (List ℕ)) (x : Option (Sign × List ℕ)) (l r : List ℕ) → l ≡ [] → IsFrac f l r → IsExp x r [] → (f ≡ None) × (x ≡ None)
at_end None None l r e f x = (refl, refl)
at_end None (Some v) l r e f x = absurd (no_exp_at v r 0 (ap first (sym f ∙ e)) (omega arith) (omega arith) x)
at_end (Some ds) x l r e f h = absurd (two_first l 46 0 (ap first f.1) (ap first e) (omega arith))

pub at_point : (f : Option (List ℕ)) (x : Option (Sign × List ℕ)) (l r more : List ℕ) → l ≡ 46 ∷ more → IsFrac f l r → IsExp x r [] → IsSome f × AreDigits (frac_digits f) × (more ≡ frac_digits f ++ r)
at_point None None l r more e f x = absurd (two_first l 46 0 (ap first e) (ap first (f ∙ x)) (omega arith))
at_point None (Some v) l r more e f x = absurd (no_exp_at v r 46 (ap first (sym f ∙ e)) (omega arith) (omega arith) x)
at_point (Some ds) x l r more e f h = (refl, f.0, ap tail (sym e ∙ f.1))

pub at_other : (f : Option (List ℕ)) (x : Option (Sign × List ℕ)) (b : ℕ) (l r more : List ℕ) → b ≢ 46 → l ≡ b ∷ more → IsFrac f l r → IsExp x r [] → (f ≡ None) × (l ≡ r) × IsSome x
at_other None None b l r more n e f x = absurd cc
at_other None (Some v) b l r more n e f x = (refl, f, refl)
at_other (Some ds) x b l r more n e f h = absurd (n (ap first (sym e ∙ f.1)))

-- the pieces of a text from its front on
pub pieces : (n : Numeral) (l : List ℕ) (h : IsNumeral n l []) → (minus_at l ≡ is_minus n.sign) × (take (digits_len (behind_sign l)) (behind_sign l) ≡ n.int) × (drop (digits_len (behind_sign l)) (behind_sign l) ≡ h.behind_int)
pieces n l h =
    let stops = frac_stops n.frac h.behind_int h.behind_frac h.frac (exp_stops n.exp h.behind_frac h.exp) in
    let sign = sign_taken n.sign l n.int h.behind_int h.sign h.int stops in
    let digits = digits_taken (behind_sign l) n.int h.behind_int sign.1 h.int stops in
    (sign.0, digits.0, digits.1)

pub empty : (l : List ℕ) → length l < 1 → l ≡ []
empty [] h = refl
empty (b ∷ l) h = absurd (omega arith)

pub not_empty : (l : List ℕ) → 1 ≤ length l → l ≡ first l ∷ tail l
not_empty [] h = absurd (omega arith)
not_empty (b ∷ l) h = refl

-- the slice behind the first byte
pub slice_tail : (l : List ℕ) → take (length l - 1) (drop 1 l) ≡ tail l
slice_tail [] = refl
slice_tail (b ∷ l) = let n : length (b ∷ l) - 1 ≡ length l = omega arith in ap (λ k. take k l) n ∙ take-length l

-- ---- from the pieces that were read to what the numeral says

pub whole_said : (n : Numeral) (negative : Bool) (ds : List ℕ) → n.frac ≡ None → n.exp ≡ None → negative ≡ is_minus n.sign → ds ≡ n.int → (r : Result Number NumFault) → IfOk r (λ x. (x ≡ Int (with_sign negative (number_of 0 ds))) × NumberInBounds x) → IfOk r (λ x. Says n x × NumberInBounds x)
whole_said n negative ds f x s d (Err e) h = tt
whole_said n negative ds f x s d (Ok v) h =
    let is : v ≡ Int (with_sign (is_minus n.sign) (number_of 0 n.int)) = h.0 ∙ ap (λ b. Int (with_sign b (number_of 0 ds))) s ∙ ap (λ l. Int (with_sign (is_minus n.sign) (number_of 0 l))) d in
    (subst (Says n) (sym is) (f, x, refl), h.1)

pub whole_over : (n : Numeral) (negative : Bool) (ds : List ℕ) → n.frac ≡ None → n.exp ≡ None → negative ≡ is_minus n.sign → ds ≡ n.int → (r : Result Number NumFault) → IfErr r (λ e. (e ≡ Overflow) × (¬ InBounds Whole (with_sign negative (number_of 0 ds)))) → IfErr r (λ e. (e ≡ Overflow) × IsOutOfBounds n)
whole_over n negative ds f x s d (Ok v) h = tt
whole_over n negative ds f x s d (Err e) h = (h.0, over)
  where
    over : (v : Number) → Says n v → ¬ NumberInBounds v
    over (Int m) said within = h.1 (subst (InBounds Whole) (said.2 ∙ ap (λ b. with_sign b (number_of 0 n.int)) (sym s) ∙ ap (λ l. with_sign negative (number_of 0 l)) (sym d)) within)
    over (Dec m) said within = elim said.0 [ inl some ↦ absurd cc | inr some ↦ absurd cc ]

moved : (a b : Bool) (v w f g : List ℕ) (x : Option (Sign × List ℕ)) (m : ℤ) → a ≡ b → v ≡ w → f ≡ g → IsUnitsOf a (v ++ f) (length f) x m → IsUnitsOf b (w ++ g) (length g) x m
moved a b v w f g x m p q r h = subst (λ c. IsUnitsOf c (w ++ g) (length g) x m) p (subst (λ l. IsUnitsOf a (l ++ g) (length g) x m) q (subst (λ l. IsUnitsOf a (v ++ l) (length l) x m) r h))

pub decimal_said : (n : Numeral) (negative : Bool) (w f : List ℕ) → IsSome n.frac ⊎ IsSome n.exp → negative ≡ is_minus n.sign → w ≡ n.int → f ≡ frac_digits n.frac → (r : Result Number NumFault) → IfOk r (λ x. IsDecimalOf negative (w ++ f) (length f) n.exp x × NumberInBounds x) → IfOk r (λ x. Says n x × NumberInBounds x)
decimal_said n negative w f some s d e (Err k) h = tt
decimal_said n negative w f some s d e (Ok (Int m)) h = absurd h.0
decimal_said n negative w f some s d e (Ok (Dec m)) h = ((some, moved negative (is_minus n.sign) w n.int f (frac_digits n.frac) n.exp m s d e h.0), h.1)

pub decimal_over : (n : Numeral) (negative : Bool) (w f : List ℕ) → IsSome n.frac ⊎ IsSome n.exp → negative ≡ is_minus n.sign → w ≡ n.int → f ≡ frac_digits n.frac → (r : Result Number NumFault) → IfErr r (λ e. (e ≡ Overflow) × IsOver Units (IsUnitsOf negative (w ++ f) (length f) n.exp)) → IfErr r (λ e. (e ≡ Overflow) × IsOutOfBounds n)
decimal_over n negative w f some s d e (Ok v) h = tt
decimal_over n negative w f some s d e (Err k) h = (h.0, over)
  where
    over : (v : Number) → Says n v → ¬ NumberInBounds v
    over (Int m) said within = elim some [ inl q ↦ absurd cc | inr q ↦ absurd cc ]
    over (Dec m) said within = h.1 m (moved (is_minus n.sign) negative n.int w (frac_digits n.frac) f n.exp m (sym s) (sym d) (sym e) said.1) within

-- units and their millions
millions : (s : Bool) (n r : ℕ) → with_sign s (n * 10 ^ r) *ℤ pos 1000000 ≡ with_sign s (n * 10 ^ (6 + r))
millions s n r =
    let p = pow-add 10 6 r in
    let e : n * 10 ^ r * 1000000 ≡ n * (10 ^ 6 * 10 ^ r) = omega arith in
    by s ∙ ap (with_sign s) (e ∙ ap (λ k. n * k) (sym p))
  where
    by : (s : Bool) → with_sign s (n * 10 ^ r) *ℤ pos 1000000 ≡ with_sign s (n * 10 ^ r * 1000000)
    by false = product_signed false false (n * 10 ^ r) 1000000
    by true = product_signed true false (n * 10 ^ r) 1000000

nearest_of_sign : (s : Bool) (n d k : ℕ) → IsNearestNatural n d k → IsNearest (with_sign s n) (pos d) (with_sign s k)
nearest_of_sign false n d k h = nearest_signed false false n d k h
nearest_of_sign true n d k h = nearest_signed true false n d k h

pub units_read : (s : Bool) (n r d k : ℕ) → IsNearestNatural (n * 10 ^ (6 + r)) (10 ^ d) k → IsNearestUnit (with_sign s (n * 10 ^ r)) (pos (10 ^ d)) (with_sign s k)
units_read s n r d k h = subst (λ z. IsNearest z (pos (10 ^ d)) (with_sign s k)) (sym (millions s n r)) (nearest_of_sign s (n * 10 ^ (6 + r)) (10 ^ d) k h)

pub signed_in_bounds : (kind : Kind) (s : Bool) (k : ℕ) → k < bound kind → InBounds kind (with_sign s k)
signed_in_bounds kind false k h = (omega (arith, ints), omega (arith, ints))
signed_in_bounds kind true k h = (omega (arith, ints), omega (arith, ints))

pub units_over : (s : Bool) (n r d : ℕ) → IsLarge (n * 10 ^ (6 + r)) (10 ^ d) → IsOver Units (IsNearestUnit (with_sign s (n * 10 ^ r)) (pos (10 ^ d)))
units_over s n r d large m near within =
    let v = natural_of_nearest s false (n * 10 ^ (6 + r)) (10 ^ d) m (power_some d) (subst (λ z. IsNearest z (pos (10 ^ d)) m) (millions s n r) near) in
    let far = large v.0 v.2 in
    let size : unsigned_abs m ≡ v.0 = ap unsigned_abs v.1 ∙ abs_signed (differ s false) v.0 in
    omega (arith, ints, within.0, within.1)
