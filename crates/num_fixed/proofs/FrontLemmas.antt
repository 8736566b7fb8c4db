-- Numbers at the front of a text. For other crates too.
use Rattle.std.proofs.Common.{◌≡◌, ◌≢◌, ◌⊎◌, inl, inr, ℕ, zero, suc, ◌+◌, ◌-◌, ◌*◌, ◌%◌, ◌^◌, ◌<◌, ◌≤◌, ◌==◌, nat_lt, pos, Bool, true, false, cond, ◌&&◌, ◌||◌, List, [], ◌∷◌, ◌++◌, length, get_or, take, drop, Option, Some, None, refl, sym, ◌∙◌, ap, subst, arith, length-append, length-drop}
use Rattle.std.specs.Char.{is_ascii_digit}
use Rattle.std.proofs.lemmas.Bool.{cond_both, cond-true, cond-false, cases_Bool, cases_lt, ltb-true, lt-ltb, le-ltb, eqb-true, ne_eqb, and_parts, and_from, or_cases}
use Rattle.std.proofs.lemmas.List.{at_drop_more, drop-drop, take-append-drop, append-nil, length-take-le}
use Rattle.std.proofs.lemmas.List.Folds.{list_all-append}
use Rattle.std.proofs.lemmas.List.Sums.{prefix_len-le-length}
use Rattle.std.proofs.Math.Nat.{pow-le-pow_right, mul-le-mul_left}
use Rattle.std.proofs.Math.Seq.{take-append_seam, take-length}
use Rattle.num_fixed.specs.Fronts.{minus_len, sign_len, fraction_len, exponent_len, whole_end, fraction_end, number_end, has_number, minus_first, sign_first, fraction_of, exponent_of, whole_at, fraction_at, exponent_at, numeral_front, IsMinusOrNone, HasDigits, IsFront}
use Rattle.num_fixed.specs.Nearest.{IsNearestUnit}
use Rattle.num_fixed.specs.Numeral.{Sign, none, plus, minus, Numeral, AreDigits, IsSign, IsFrac, IsExp, IsNumeral, IsSaid, IsUnitsOf, frac_digits, is_minus, number_of}
use Rattle.num_fixed.specs.Scan.{behind_sign, digits_len}
use Rattle.num_fixed.specs.Signs.{with_sign}
use Rattle.num_fixed.specs.inside.Spells.{spelled, IsKeptIn64, places_at, small_number}
use Rattle.num_fixed.specs.declared.number.Kind.TheVariants.{Whole, Units}
use Rattle.num_fixed.specs.declared.number.Number.TheVariants.{Int, Dec}
use Rattle.num_fixed.proofs.DigitLemmas.{number_below, number-append}
use Rattle.num_fixed.proofs.NumeralLemmas.{numeral_cut, one_numeral}
use Rattle.num_fixed.proofs.Reading.{digits_taken_are, units_read, signed_in_bounds}
use Rattle.num_fixed.proofs.ScaleLemmas.{exact_up}

-- ---- the digits at the front, while they are scanned

digits_more : (b : ℕ) (r : List ℕ) → is_ascii_digit b ≡ true → digits_len (b ∷ r) ≡ 1 + digits_len r
digits_more b r h = cond-true _ _ _ h

digits_end : (b : ℕ) (r : List ℕ) → is_ascii_digit b ≡ false → digits_len (b ∷ r) ≡ 0
digits_end b r h = cond-false _ _ _ h

spelled_more : (n b : ℕ) (r : List ℕ) → is_ascii_digit b ≡ true → spelled n (b ∷ r) ≡ spelled (n * 10 + (b - 48)) r
unfolding spelled
spelled_more n b r h = cond-true _ _ _ h

spelled_end : (n b : ℕ) (r : List ℕ) → is_ascii_digit b ≡ false → spelled n (b ∷ r) ≡ n
unfolding spelled
spelled_end n b r h = cond-false _ _ _ h

spelled_grows : (n : ℕ) (l : List ℕ) → n ≤ spelled n l
unfolding spelled
spelled_grows n [] = omega arith
spelled_grows n (b ∷ l) = cond_both (is_ascii_digit b) _ _ (λ k. n ≤ k) (λ e. omega (arith, spelled_grows (n * 10 + (b - 48)) l)) (λ e. omega arith)

pub spelled_none : (n : ℕ) → spelled n [] ≡ n
unfolding spelled
spelled_none n = refl

pub length_more : (bs : List ℕ) (i : ℕ) → i < length bs → is_ascii_digit (get_or bs i 0) ≡ true → digits_len bs ≡ i + digits_len (drop i bs) → digits_len bs ≡ i + 1 + digits_len (drop (i + 1) bs)
length_more bs i h d e = omega (arith, at_drop_more digits_len bs i 0 h, digits_more (get_or bs i 0) (drop (i + 1) bs) d)

pub length_end : (bs : List ℕ) (i : ℕ) → i < length bs → is_ascii_digit (get_or bs i 0) ≡ false → digits_len bs ≡ i + digits_len (drop i bs) → i ≡ digits_len bs
length_end bs i h d e = omega (arith, at_drop_more digits_len bs i 0 h, digits_end (get_or bs i 0) (drop (i + 1) bs) d)

wraps_not : (n : ℕ) → n < 2 ^ 64 → n % 2 ^ 64 ≡ n
wraps_not n h = omega arith

pub number_more : (t n i : ℕ) (bs : List ℕ) → i < length bs → is_ascii_digit (get_or bs i 0) ≡ true → IsKeptIn64 t (spelled n (drop i bs)) → IsKeptIn64 t (spelled ((n * 10 % 2 ^ 64 + (get_or bs i 0 - 48)) % 2 ^ 64) (drop (i + 1) bs))
number_more t n i bs h d k small =
    let b = get_or bs i 0 in
    let r = drop (i + 1) bs in
    let is : spelled (n * 10 + (b - 48)) r ≡ t = sym (spelled_more n b r d) ∙ sym (at_drop_more (spelled n) bs i 0 h) ∙ k small in
    let grows = spelled_grows (n * 10 + (b - 48)) r in
    let one : n * 10 % 2 ^ 64 ≡ n * 10 = wraps_not (n * 10) (omega arith) in
    let two : (n * 10 % 2 ^ 64 + (b - 48)) % 2 ^ 64 ≡ n * 10 + (b - 48) = ap (λ v. (v + (b - 48)) % 2 ^ 64) one ∙ wraps_not (n * 10 + (b - 48)) (omega arith) in
    ap (λ v. spelled v r) two ∙ is

pub number_end_here : (t n i : ℕ) (bs : List ℕ) → i < length bs → is_ascii_digit (get_or bs i 0) ≡ false → IsKeptIn64 t (spelled n (drop i bs)) → IsKeptIn64 t n
number_end_here t n i bs h d k small = sym (spelled_end n (get_or bs i 0) (drop (i + 1) bs) d) ∙ sym (at_drop_more (spelled n) bs i 0 h) ∙ k small

-- behind the last byte
nothing_left : (bs : List ℕ) (i : ℕ) → length bs ≤ i → drop i bs ≡ []
nothing_left bs i h = by (drop i bs) (omega (arith, length-drop i bs))
  where
    by : (l : List ℕ) → length l ≡ 0 → l ≡ []
    by [] h = refl
    by (b ∷ l) h = absurd (omega arith)

pub number_all : (t n i : ℕ) (bs : List ℕ) → length bs ≤ i → IsKeptIn64 t (spelled n (drop i bs)) → IsKeptIn64 t n
number_all t n i bs h k small = sym (ap (spelled n) (nothing_left bs i h) ∙ spelled_none n) ∙ k small

pub ruleset scanning = (length_more, length_end, number_more, number_end_here)

pub spelled_is : (n : ℕ) (l : List ℕ) → spelled n l ≡ number_of n (take (digits_len l) l)
unfolding spelled
spelled_is n [] = refl
spelled_is n (b ∷ l) = by (is_ascii_digit b) (spelled_is (n * 10 + (b - 48)) l)
  where
    by : (t : Bool) → spelled (n * 10 + (b - 48)) l ≡ number_of (n * 10 + (b - 48)) (take (digits_len l) l) → cond t (spelled (n * 10 + (b - 48)) l) n ≡ number_of n (take (cond t (1 + digits_len l) 0) (b ∷ l))
    by true h = let s : 1 + digits_len l ≡ suc (digits_len l) = omega arith in rw s h
    by false h = refl

-- behind a point
pub places_read : (l r : List ℕ) (start n d : ℕ) → l ≡ 46 ∷ r → d ≡ digits_len r → 0 < d → IsKeptIn64 (spelled start r) n → IsKeptIn64 (number_of start (places_at l)) n
unfolding fraction_len
places_read l r start n d is e some h =
    let test = cond-true (nat_lt 0 (digits_len r)) (1 + digits_len r) 0 (lt-ltb 0 (digits_len r) (omega arith)) in
    let s : 1 + digits_len r ≡ suc (digits_len r) = omega arith in
    let places : places_at (46 ∷ r) ≡ take (digits_len r) r = ap (λ k. frac_digits (fraction_of (take k (46 ∷ r)))) (test ∙ s) in
    subst (λ v. IsKeptIn64 v n) (spelled_is start r ∙ ap (number_of start) (sym places ∙ ap places_at (sym is))) h

-- ---- a few digits

pub few : (w f : List ℕ) (n m : ℕ) → AreDigits w → AreDigits f → length w + length f ≤ 18 → IsKeptIn64 (number_of 0 w) n → IsKeptIn64 (number_of n f) m → (m ≡ number_of 0 (w ++ f)) × (m < 10 ^ 18)
few w f n m dw df small p q =
    let digits : AreDigits (w ++ f) = list_all-append is_ascii_digit w f ∙ and_from _ _ dw df in
    let all = number_below (w ++ f) digits in
    let size = length-append w f in
    let most : 10 ^ length (w ++ f) ≤ 10 ^ 18 = pow-le-pow_right {n = 10} (omega arith) {i = length (w ++ f)} {j = 18} (omega arith) in
    let first = number_below w dw in
    let most_first : 10 ^ length w ≤ 10 ^ 18 = pow-le-pow_right {n = 10} (omega arith) {i = length w} {j = 18} (omega arith) in
    let is_n : n ≡ number_of 0 w = p (omega arith) in
    let whole : number_of n f ≡ number_of 0 (w ++ f) = ap (λ k. number_of k f) is_n ∙ sym (number-append 0 w f) in
    let is_m : m ≡ number_of n f = q (omega arith) in
    (is_m ∙ whole, omega arith)

-- how many bytes a point and digits are
abbrev pub IsFractionSize : Option (List ℕ) → ℕ → Type 0
IsFractionSize None f = f ≡ 0
IsFractionSize (Some ds) f = f ≡ 1 + length ds

units_within : (k p : ℕ) → k < 10 ^ 18 → p ≤ 6 → k * 10 ^ p < 10 ^ 26
units_within k p small few =
    let q : 10 ^ p ≤ 10 ^ 6 = pow-le-pow_right {n = 10} (omega arith) {i = p} {j = 6} few in
    let r : k * 10 ^ p ≤ k * 10 ^ 6 = mul-le-mul_left k q in
    omega arith

small_said_by : (n : Numeral) (s : Bool) (k f : ℕ) (x : Option (List ℕ)) → n.frac ≡ x → n.exp ≡ None → s ≡ is_minus n.sign → k ≡ number_of 0 (n.int ++ frac_digits x) → k < 10 ^ 18 → IsFractionSize x f → f < 8 → IsSaid n (small_number s k f)
small_said_by n s k f None x e g h small is few =
    let int : k ≡ number_of 0 n.int = h ∙ ap (number_of 0) (append-nil n.int) in
    subst (λ v. IsSaid n (small_number s k v)) (sym is) ((x, e, ap (with_sign s) int ∙ ap (λ b. with_sign b (number_of 0 n.int)) g), signed_in_bounds Whole s k (omega arith))
small_said_by n s k f (Some ds) x e g h small is few =
    let p = 7 - f in
    let N = number_of 0 (n.int ++ ds) in
    let up : 6 + 0 - (length ds + 0) ≡ p = omega arith in
    let near = subst (λ m. IsNearestUnit (with_sign s (N * 10 ^ 0)) (pos (10 ^ (length ds + 0))) (with_sign s m)) (ap (λ v. N * 10 ^ v) up ∙ ap (λ v. v * 10 ^ p) (sym h))
    (units_read s N 0 (length ds + 0) (N * 10 ^ (6 + 0 - (length ds + 0))) (exact_up N (6 + 0) (length ds + 0) (omega arith))) in
    let v = cond-false (f == 0) (Int (with_sign s k)) (Dec (with_sign s (k * 10 ^ p))) (differs f (omega arith)) in
    subst (IsSaid n) (sym v) (
    subst (λ b. IsSaid n (Dec (with_sign s (k * 10 ^ p)))) g ((inl (rw x refl), turned near), signed_in_bounds Units s (k * 10 ^ p) (units_within k p small (omega arith))))
  where
    differs : (f : ℕ) → 0 < f → (f == 0) ≡ false
    differs zero h = absurd (omega arith)
    differs (suc f) h = ne_eqb (suc f) 0 (λ e. absurd (omega arith))

    turned : IsNearestUnit (with_sign s (number_of 0 (n.int ++ ds) * 10 ^ 0)) (pos (10 ^ (length ds + 0))) (with_sign s (k * 10 ^ (7 - f))) → IsUnitsOf (is_minus n.sign) (n.int ++ frac_digits n.frac) (length (frac_digits n.frac)) n.exp (with_sign s (k * 10 ^ (7 - f)))
    turned near = rw (x, e, sym g) near

pub small_said : (n : Numeral) (s : Bool) (k f : ℕ) → n.exp ≡ None → s ≡ is_minus n.sign → k ≡ number_of 0 (n.int ++ frac_digits n.frac) → k < 10 ^ 18 → IsFractionSize n.frac f → f < 8 → IsSaid n (small_number s k f)
small_said n s k f = small_said_by n s k f n.frac refl

-- ---- each part at the front

-- some bytes at the front that are a fraction or nothing
abbrev FractionAt : List ℕ → ℕ → Type 0
FractionAt v n = IsFrac (fraction_of (take n v)) v (drop n v) × HasDigits (fraction_of (take n v)) × (n ≤ length v) × IsFractionSize (fraction_of (take n v)) n × AreDigits (frac_digits (fraction_of (take n v)))

pub fraction_is : (v : List ℕ) → FractionAt v (fraction_len v)
unfolding fraction_len
fraction_is [] = (refl, tt, omega arith, refl, refl)
fraction_is (b ∷ l) =
    cond_both (b == 46 && nat_lt 0 (digits_len l)) _ _ (FractionAt (b ∷ l))
    (λ e. let both = and_parts _ _ e in some (eqb-true b 46 both.0) (ltb-true 0 (digits_len l) both.1)) (λ e. (refl, tt, omega arith, refl, refl))
  where
    some : b ≡ 46 → 0 < digits_len l → FractionAt (b ∷ l) (1 + digits_len l)
    some is h =
        let d = digits_len l in
        let within = prefix_len-le-length is_ascii_digit l in
        let size = length-take-le d l within in
        let s : suc d ≡ 1 + d = omega arith in
        subst (FractionAt (b ∷ l)) s ((digits_taken_are l, ap (λ c. c ∷ l) is ∙ ap (λ k. 46 ∷ k) (sym (take-append-drop d l))), omega arith, omega arith, omega arith, digits_taken_are l)

abbrev SignedAt : List ℕ → ℕ → Type 0
SignedAt l n = IsSign (sign_first (take n l)) l (behind_sign (take n l) ++ drop n l) × AreDigits (behind_sign (take n l)) × (0 < length (behind_sign (take n l))) × (n ≤ length l)

signed_by : (c : ℕ) (k : List ℕ) (g : Sign) → IsSign g (c ∷ k) k → sign_len (c ∷ k) ≡ 1 → ((t : List ℕ) → sign_first (c ∷ t) ≡ g) → ((t : List ℕ) → behind_sign (c ∷ t) ≡ t) → 0 < digits_len (drop (sign_len (c ∷ k)) (c ∷ k)) → SignedAt (c ∷ k) (sign_len (c ∷ k) + digits_len (drop (sign_len (c ∷ k)) (c ∷ k)))
signed_by c k g h one first behind some =
    let d = digits_len k in
    let has : 0 < d = subst (λ s. 0 < digits_len (drop s (c ∷ k))) one some in
    let within = prefix_len-le-length is_ascii_digit k in
    let size = length-take-le d k within in
    let s : suc d ≡ 1 + d = omega arith in
    let t = take d k in
    subst (λ n. SignedAt (c ∷ k) (n + digits_len (drop n (c ∷ k)))) (sym one) (
    subst (SignedAt (c ∷ k)) s (
      subst (λ x. IsSign x (c ∷ k) (behind_sign (c ∷ t) ++ drop d k)) (sym (first t)) (subst (λ x. IsSign g (c ∷ k) (x ++ drop d k)) (sym (behind t)) (subst (IsSign g (c ∷ k)) (sym (take-append-drop d k)) h)),
      subst AreDigits (sym (behind t)) (digits_taken_are k),
      subst (λ x. 0 < length x) (sym (behind t)) (omega arith),
      omega arith,
    ))

unsigned : (c : ℕ) (k : List ℕ) → (c == 43) ≡ false → (c == 45) ≡ false → 0 < digits_len (drop (sign_len (c ∷ k)) (c ∷ k)) → SignedAt (c ∷ k) (sign_len (c ∷ k) + digits_len (drop (sign_len (c ∷ k)) (c ∷ k)))
unsigned c k p m some =
    let l = c ∷ k in
    let d = digits_len l in
    let zero_len : sign_len l ≡ 0 = rw (p, m) refl in
    let has : 0 < d = subst (λ s. 0 < digits_len (drop s l)) zero_len some in
    let within = prefix_len-le-length is_ascii_digit l in
    let size = length-take-le d l within in
    let plain = shape d has in
    let from : 0 + d ≡ d = omega arith in
    subst (λ n. SignedAt l (n + digits_len (drop n l))) (sym zero_len) (
    subst (SignedAt l) (sym from) (
      subst (λ x. IsSign x l (behind_sign (take d l) ++ drop d l)) (sym plain.0) (subst (λ x. l ≡ x ++ drop d l) (sym plain.1) (sym (take-append-drop d l))),
      subst AreDigits (sym plain.1) (digits_taken_are l),
      subst (λ x. 0 < length x) (sym plain.1) (omega arith),
      within,
    ))
  where
    shape : (d : ℕ) → 0 < d → (sign_first (take d (c ∷ k)) ≡ none) × (behind_sign (take d (c ∷ k)) ≡ take d (c ∷ k))
    shape zero h = absurd (omega arith)
    shape (suc d) h = (rw (p, m) refl, rw (m, p) refl)

signed_is : (l : List ℕ) → 0 < digits_len (drop (sign_len l) l) → SignedAt l (sign_len l + digits_len (drop (sign_len l) l))
signed_is [] h = absurd (omega arith)
signed_is (c ∷ k) h = elim (cases_Bool (c == 43)) [
  | inl p ↦ signed_by c k plus (ap (λ x. x ∷ k) (eqb-true c 43 p)) (rw p refl) (λ t. rw p refl) (λ t. rw (eqb-true c 43 p) refl) h
  | inr p ↦ elim (cases_Bool (c == 45)) [
    | inl m ↦ signed_by c k minus (ap (λ x. x ∷ k) (eqb-true c 45 m)) (rw (p, m) refl) (λ t. rw (p, m) refl) (λ t. rw m refl) h
    | inr m ↦ unsigned c k p m h
  ]
]

-- some bytes at the front that are an exponent or nothing
abbrev ExponentAt : List ℕ → ℕ → Type 0
ExponentAt x n = IsExp (exponent_of (take n x)) x (drop n x) × (n ≤ length x)

pub exponent_is : (x : List ℕ) → ExponentAt x (exponent_len x)
unfolding exponent_len
exponent_is [] = (refl, omega arith)
exponent_is (b ∷ l) =
    cond_both ((b == 101 || b == 69) && nat_lt 0 (digits_len (drop (sign_len l) l))) _ _ (ExponentAt (b ∷ l))
    (λ e. let both = and_parts (b == 101 || b == 69) (nat_lt 0 (digits_len (drop (sign_len l) l))) e in some (letter both.0) (ltb-true 0 (digits_len (drop (sign_len l) l)) both.1)) (λ e. (refl, omega arith))
  where
    letter : (b == 101 || b == 69) ≡ true → (b ∷ l ≡ 101 ∷ l) ⊎ (b ∷ l ≡ 69 ∷ l)
    letter h = elim (or_cases (b == 101) (b == 69) h) [ inl q ↦ inl (ap (λ c. c ∷ l) (eqb-true b 101 q)) | inr q ↦ inr (ap (λ c. c ∷ l) (eqb-true b 69 q)) ]

    some : (b ∷ l ≡ 101 ∷ l) ⊎ (b ∷ l ≡ 69 ∷ l) → 0 < digits_len (drop (sign_len l) l) → ExponentAt (b ∷ l) (1 + sign_len l + digits_len (drop (sign_len l) l))
    some is h =
        let n = sign_len l + digits_len (drop (sign_len l) l) in
        let g = signed_is l h in
        let within = g.3 in
        let s : suc n ≡ 1 + sign_len l + digits_len (drop (sign_len l) l) = omega arith in
        subst (ExponentAt (b ∷ l)) s ((l, is, g.0, g.1, g.2), omega arith)

-- ---- the whole front

minus_within : (l : List ℕ) → minus_len l ≤ length l
minus_within [] = omega arith
minus_within (b ∷ l) = cond_both (b == 45) 1 0 (λ n. n ≤ length (b ∷ l)) (λ e. omega arith) (λ e. omega arith)

minus_is : (l : List ℕ) → IsSign (minus_first l) l (drop (minus_len l) l) × IsMinusOrNone (minus_first l)
minus_is [] = (refl, tt)
minus_is (b ∷ l) = elim (cases_Bool (b == 45)) [
  | inl e ↦ rw e (ap (λ c. c ∷ l) (eqb-true b 45 e), tt)
  | inr e ↦ rw e (refl, tt)
]

-- how far each part reaches, and what is behind it
pub record AreParts (l : List ℕ) : Type 0 where
  pub within : number_end l ≤ length l
  pub fraction : FractionAt (drop (whole_end l) l) (fraction_len (drop (whole_end l) l))
  pub digits : AreDigits (whole_at l)
  pub size : length (whole_at l) ≡ digits_len (drop (minus_len l) l)
  pub whole : whole_at l ++ drop (whole_end l) l ≡ drop (minus_len l) l
  pub behind_fraction : drop (fraction_len (drop (whole_end l) l)) (drop (whole_end l) l) ≡ drop (fraction_end l) l
  pub behind_number : drop (exponent_len (drop (fraction_end l) l)) (drop (fraction_end l) l) ≡ drop (number_end l) l

pub parts : (l : List ℕ) → AreParts l
unfolding whole_end fraction_end number_end
parts l =
    let u = drop (minus_len l) l in
    let f = fraction_is (drop (whole_end l) l) in
    let x = exponent_is (drop (fraction_end l) l) in
    let m = minus_within l in
    let du = prefix_len-le-length is_ascii_digit u in
    let lu = length-drop (minus_len l) l in
    let lv = length-drop (whole_end l) l in
    let lx = length-drop (fraction_end l) l in
    let fw = f.2 in
    let xw = x.1 in
    record {
      within = omega arith;
      fraction = f;
      digits = digits_taken_are u;
      size = length-take-le (digits_len u) u du;
      whole = ap (λ k. take (digits_len u) u ++ k) (sym (drop-drop (digits_len u) (minus_len l) l)) ∙ take-append-drop (digits_len u) u;
      behind_fraction = drop-drop (fraction_len (drop (whole_end l) l)) (whole_end l) l;
      behind_number = drop-drop (exponent_len (drop (fraction_end l) l)) (fraction_end l) l;
    }

fraction_ends : (l : List ℕ) → fraction_end l ≡ minus_len l + digits_len (drop (minus_len l) l) + fraction_len (drop (whole_end l) l)
unfolding whole_end fraction_end
fraction_ends l = refl

size_some : (x : Option (List ℕ)) (f : ℕ) → IsFractionSize x f → HasDigits x → 0 < f → 0 < length (frac_digits x)
size_some None f is h some = absurd (omega arith)
size_some (Some ds) f is h some = h

-- the numeral that stands there
pub front_is : (l : List ℕ) → has_number l ≡ true → IsFront (numeral_front l) l (drop (number_end l) l)
unfolding numeral_front
front_is l h =
    let p = parts l in
    let g = minus_is l in
    let e = fraction_ends l in
    let some = ltb-true (minus_len l) (fraction_end l) h in
    let f = p.fraction in
    let x = fraction_of (fraction_at l) in
    let both = length-append (whole_at l) (frac_digits x) in
    let size = p.size in
    record {
      numeral = record {
        behind_int = drop (whole_end l) l;
        behind_frac = drop (fraction_end l) l;
        sign = subst (IsSign (minus_first l) l) (sym p.whole) g.0;
        int = p.digits;
        frac = subst (IsFrac x (drop (whole_end l) l)) p.behind_fraction f.0;
        exp = subst (IsExp (exponent_of (exponent_at l)) (drop (fraction_end l) l)) p.behind_number (exponent_is (drop (fraction_end l) l)).0;
        some = elim (cases_lt 0 (digits_len (drop (minus_len l) l))) [
          | inl d ↦ omega arith
          | inr d ↦ let more = size_some x (fraction_len (drop (whole_end l) l)) f.3 f.1 (omega arith) in omega arith
        ];
      };
      sign = g.1;
      frac = f.1;
    }

-- the bytes before the end alone
cut_taken : (l w : List ℕ) (k : ℕ) → k ≤ length l → l ≡ w ++ drop k l → w ≡ take k l
cut_taken l w k h e =
    let n : length w ≡ k = omega (arith, ap length e, length-append w (drop k l), length-drop k l) in
    sym (take-append_seam w (drop k l)) ∙ ap (take (length w)) (sym e) ∙ ap (λ i. take i l) n

pub front_alone : (l : List ℕ) → has_number l ≡ true → IsNumeral (numeral_front l) (take (number_end l) l) []
front_alone l h =
    let c = numeral_cut (numeral_front l) l (drop (number_end l) l) (front_is l h).numeral in
    subst (λ w. IsNumeral (numeral_front l) w []) (cut_taken l c.0 (number_end l) (parts l).within c.1) c.2

-- ---- what the code finds

-- the lengths of the parts
pub record AreLengths (l : List ℕ) (m w f x : ℕ) : Type 0 where
  pub minus : m ≡ minus_len l
  pub whole : w ≡ digits_len (drop m l)
  pub fraction : f ≡ fraction_len (drop (m + w) l)
  pub exponent : x ≡ exponent_len (drop (m + w + f) l)

-- a slice up to the end
pub slice_rest : (l : List ℕ) (m : ℕ) → take (length l - m) (drop m l) ≡ drop m l
slice_rest l m = ap (λ k. take k (drop m l)) (sym (length-drop m l)) ∙ take-length (drop m l)

pub number_kept : (l : List ℕ) (m n : ℕ) → IsKeptIn64 (spelled 0 (take (length l - m) (drop m l))) n → IsKeptIn64 (spelled 0 (drop m l)) n
number_kept l m n = subst (λ r. IsKeptIn64 (spelled 0 r) n) (slice_rest l m)

pub places_kept : (l : List ℕ) (m n k : ℕ) → IsKeptIn64 (number_of n (places_at (take (length l - m) (drop m l)))) k → IsKeptIn64 (number_of n (places_at (drop m l))) k
places_kept l m n k = subst (λ r. IsKeptIn64 (number_of n (places_at r)) k) (slice_rest l m)

pub lengths : (l : List ℕ) (m w f x : ℕ) → m ≡ minus_len l → w ≡ digits_len (take (length l - m) (drop m l)) → f ≡ fraction_len (take (length l - (m + w)) (drop (m + w) l)) → x ≡ exponent_len (take (length l - (m + w + f)) (drop (m + w + f) l)) → AreLengths l m w f x
lengths l m w f x a b c d = record {
  minus = a;
  whole = b ∙ ap digits_len (slice_rest l m);
  fraction = c ∙ ap fraction_len (slice_rest l (m + w));
  exponent = d ∙ ap exponent_len (slice_rest l (m + w + f));
}

-- the same where nothing goes on behind the digits
pub lengths_of_whole : (l : List ℕ) (m w : ℕ) → m ≡ minus_len l → w ≡ digits_len (take (length l - m) (drop m l)) → fraction_len (take (length l - (m + w)) (drop (m + w) l)) ≡ 0 → exponent_len (take (length l - (m + w)) (drop (m + w) l)) ≡ 0 → AreLengths l m w 0 0
lengths_of_whole l m w a b c d =
    let same : m + w + 0 ≡ m + w = omega arith in
    lengths l m w 0 0 a b (sym c) (sym (ap (λ k. exponent_len (take (length l - k) (drop k l))) same ∙ d))

pub no_places : (l : List ℕ) (m w n : ℕ) → AreLengths l m w 0 0 → IsKeptIn64 (number_of n (places_at (drop (m + w) l))) n
no_places l m w n h small = sym (ap (λ k. number_of n (frac_digits (fraction_of (take k (drop (m + w) l))))) (sym h.fraction))

pub whole_ends : (l : List ℕ) (m w f x : ℕ) → AreLengths l m w f x → m + w ≡ whole_end l
unfolding whole_end
whole_ends l m w f x h = ap (λ k. m + k) h.whole ∙ ap (λ k. k + digits_len (drop k l)) h.minus

pub fraction_ends_at : (l : List ℕ) (m w f x : ℕ) → AreLengths l m w f x → m + w + f ≡ fraction_end l
unfolding fraction_end
fraction_ends_at l m w f x h = ap (λ k. m + w + k) h.fraction ∙ ap (λ k. k + fraction_len (drop k l)) (whole_ends l m w f x h)

pub ends_at : (l : List ℕ) (m w f x : ℕ) → AreLengths l m w f x → m + w + f + x ≡ number_end l
unfolding number_end
ends_at l m w f x h = ap (λ k. m + w + f + k) h.exponent ∙ ap (λ k. k + exponent_len (drop k l)) (fraction_ends_at l m w f x h)

pub none_at : (l : List ℕ) (m w f x : ℕ) → AreLengths l m w f x → m + w + f ≡ m → has_number l ≡ false
none_at l m w f x h e = le-ltb _ _ (omega (arith, fraction_ends_at l m w f x h, h.minus))

pub some_at : (l : List ℕ) (m w f x : ℕ) → AreLengths l m w f x → m + w + f ≢ m → has_number l ≡ true
some_at l m w f x h e = lt-ltb _ _ (omega (arith, fraction_ends_at l m w f x h, h.minus))

minus_tested : (l : List ℕ) → (minus_len l == 1) ≡ is_minus (minus_first l)
minus_tested [] = refl
minus_tested (b ∷ l) = elim (cases_Bool (b == 45)) [ inl e ↦ rw e refl | inr e ↦ rw e refl ]

sizes : (x : Option (List ℕ)) (f : ℕ) → IsFractionSize x f → length (frac_digits x) ≡ f - 1
sizes None f h = omega arith
sizes (Some ds) f h = omega arith

-- the digits that were read are those of the numeral
pub digits_read : (l : List ℕ) (m w f x n k : ℕ) → AreLengths l m w f x → w + (f - 1) ≤ 18 → IsKeptIn64 (spelled 0 (drop m l)) n → IsKeptIn64 (number_of n (places_at (drop (m + w) l))) k → (k ≡ number_of 0 (whole_at l ++ frac_digits (fraction_of (fraction_at l)))) × (k < 10 ^ 18)
digits_read l m w f x n k h small p q =
    let r = parts l in
    let fr = r.fraction in
    let at = whole_ends l m w f x h in
    let size = r.size in
    let places = sizes (fraction_of (fraction_at l)) (fraction_len (drop (whole_end l) l)) fr.3 in
    let is_w : w ≡ digits_len (drop (minus_len l) l) = h.whole ∙ ap (λ i. digits_len (drop i l)) h.minus in
    let is_f : f ≡ fraction_len (drop (whole_end l) l) = h.fraction ∙ ap (λ i. fraction_len (drop i l)) at in
    let first : IsKeptIn64 (number_of 0 (whole_at l)) n = subst (λ t. IsKeptIn64 t n) (spelled_is 0 (drop (minus_len l) l)) (subst (λ i. IsKeptIn64 (spelled 0 (drop i l)) n) h.minus p) in
    let second : IsKeptIn64 (number_of n (frac_digits (fraction_of (fraction_at l)))) k = subst (λ i. IsKeptIn64 (number_of n (places_at (drop i l))) k) at q in
    few (whole_at l) (frac_digits (fraction_of (fraction_at l))) n k r.digits fr.4 (omega arith) first second

no_exponent : (l : List ℕ) → exponent_len (drop (fraction_end l) l) ≡ 0 → (numeral_front l).exp ≡ None
unfolding numeral_front
no_exponent l e = ap (λ n. exponent_of (take n (drop (fraction_end l) l))) e

pub small_read : (l : List ℕ) (m w f x n k : ℕ) → AreLengths l m w f x → w + (f - 1) ≤ 18 → f < 8 → x ≡ 0 → IsKeptIn64 (spelled 0 (drop m l)) n → IsKeptIn64 (number_of n (places_at (drop (m + w) l))) k → IsSaid (numeral_front l) (small_number (m == 1) k f)
unfolding numeral_front
small_read l m w f x n k h small short gone p q =
    let d = digits_read l m w f x n k h small p q in
    let at = whole_ends l m w f x h in
    let is_f : f ≡ fraction_len (drop (whole_end l) l) = h.fraction ∙ ap (λ i. fraction_len (drop i l)) at in
    let ends = fraction_ends_at l m w f x h in
    let nothing : exponent_len (drop (fraction_end l) l) ≡ 0 = ap (λ i. exponent_len (drop i l)) (sym ends) ∙ sym h.exponent ∙ gone in
    let size = subst (IsFractionSize (fraction_of (fraction_at l))) (sym is_f) (parts l).fraction.3 in
    small_said (numeral_front l) (m == 1) k f (no_exponent l nothing) (ap (λ i. i == 1) h.minus ∙ minus_tested l) d.0 d.1 size short

-- a text that is the number at its front says what this says
pub front_whole : (l : List ℕ) (e : ℕ) → has_number l ≡ true → e ≡ number_end l → e ≡ length l → (n : Numeral) → IsNumeral n l [] → numeral_front l ≡ n
front_whole l e some is all n h =
    let taken : take (number_end l) l ≡ l = ap (λ k. take k l) (sym is ∙ all) ∙ take-length l in
    one_numeral (numeral_front l) n l (subst (λ t. IsNumeral (numeral_front l) t []) taken (front_alone l some)) h
