-- The longest number.
use Rattle.std.proofs.Common.{◌≡◌, ◌⊎◌, inl, inr, ℕ, ◌+◌, ◌<◌, ◌≤◌, List, ◌∷◌, [], ◌++◌, length, length-append, drop, true, false, sym, ◌∙◌, ap, subst, refl, arith, append_assoc}
use Rattle.std.proofs.lemmas.Bool.{cond-true, cond-false, and_parts, and_from, lt-ltb, le-ltb, eq-eqb, or_left, or_right}
use Rattle.std.proofs.lemmas.List.{drop_at}
use Rattle.std.proofs.lemmas.Bool.Decides.{nat_tests}
use Rattle.std.specs.List.{list_all}
use Rattle.std.specs.Char.{is_ascii_digit}
use Rattle.query_lexer.specs.Bytes.{next_passes, is_sign}
use Rattle.query_lexer.specs.Scan.{fraction_at, exponent_at, number_at, number_kind}
use Rattle.num_fixed.specs.Scan.{digits_len}
use Rattle.num_fixed.specs.Fronts.{fraction_len, exponent_len, sign_len}
use Rattle.query_lexer.specs.Words.{IsDigits, IsDec, IsExponent, IsDouble, IsSign}
use Rattle.query_lexer.specs.declared.token.TokenKind.{TokenKind}
use Rattle.query_lexer.specs.declared.token.TokenKind.TheVariants as k
use Rattle.query_lexer.proofs.Runs.{run_le, run_is}
use Rattle.query_lexer.proofs.Reaching.{Reaches}

point_ends : (r : List ℕ) → next_passes is_ascii_digit (46 ∷ r) ≡ false
point_ends r = refl

exponent_ends : (e : ℕ) (r : List ℕ) → (e ≡ 101) ⊎ (e ≡ 69) → next_passes is_ascii_digit (e ∷ r) ≡ false
exponent_ends e r (inl h) = ap is_ascii_digit h
exponent_ends e r (inr h) = ap is_ascii_digit h

fraction_more : (z : List ℕ) → 0 < digits_len z → fraction_len (46 ∷ z) ≡ 1 + digits_len z
unfolding fraction_len
fraction_more z h = cond-true _ _ _ (lt-ltb 0 (digits_len z) h)

-- digits, and then what is no digit
pub whole_at : (a z : List ℕ) → list_all is_ascii_digit a ≡ true → next_passes is_ascii_digit z ≡ false → (digits_len (a ++ z) ≡ length a) × (fraction_at (a ++ z) ≡ fraction_len z)
unfolding fraction_at
whole_at a z h n =
    let d = run_is is_ascii_digit a z h n in
    (d, ap fraction_len (ap (λ n. drop n (a ++ z)) d ∙ drop_at a z (length a) refl))

-- digits, a point and digits
pub point_at : (a b rest : List ℕ) → list_all is_ascii_digit a ≡ true → IsDigits b → (digits_len ((a ++ 46 ∷ b) ++ rest) ≡ length a) × (fraction_at ((a ++ 46 ∷ b) ++ rest) ≡ 1 + digits_len (b ++ rest)) × (length b ≤ digits_len (b ++ rest))
point_at a b rest h hb =
    let seam : (a ++ 46 ∷ b) ++ rest ≡ a ++ (46 ∷ (b ++ rest)) = append_assoc a (46 ∷ b) rest in
    let w = whole_at a (46 ∷ (b ++ rest)) h (point_ends (b ++ rest)) in
    let more = run_le is_ascii_digit b rest hb.1 in
    let f = fraction_more (b ++ rest) (omega (arith, hb.0)) in
    (ap digits_len seam ∙ w.0, ap fraction_at seam ∙ w.1 ∙ f, more)

-- what number_at gives, by its three lengths
pub reaches_number : (text : List ℕ) (kind : TokenKind) (n : ℕ) → 0 < digits_len text + fraction_at text → n ≤ digits_len text + fraction_at text + exponent_at text → (n ≡ digits_len text + fraction_at text + exponent_at text → kind ≡ number_kind (fraction_at text) (exponent_at text)) → Reaches (number_at text) kind n
unfolding number_at
reaches_number text kind n some above same = record {
  other = number_kind (fraction_at text) (exponent_at text);
  long = digits_len text + fraction_at text + exponent_at text;
  is = cond-true _ _ _ (lt-ltb 0 _ some);
  above = above;
  same = same;
}

kind_int : (f e : ℕ) → f ≡ 0 → e ≡ 0 → k.Int ≡ number_kind f e
kind_int f e hf he = sym (cond-false _ _ _ (le-ltb 0 e (omega arith)) ∙ cond-false _ _ _ (le-ltb 0 f (omega arith)))

kind_dec : (f e : ℕ) → 0 < f → e ≡ 0 → k.Dec ≡ number_kind f e
kind_dec f e hf he = sym (cond-false _ _ _ (le-ltb 0 e (omega arith)) ∙ cond-true _ _ _ (lt-ltb 0 f hf))

kind_double : (f e : ℕ) → 0 < e → k.Double ≡ number_kind f e
kind_double f e he = sym (cond-true _ _ _ (lt-ltb 0 e he))

pub int_reaches : (w rest : List ℕ) → IsDigits w → Reaches (number_at (w ++ rest)) k.Int (length w)
int_reaches w rest h =
    let l = run_le is_ascii_digit w rest h.1 in
    let some = h.0 in
    let text = w ++ rest in
    reaches_number text k.Int (length w) (omega arith) (omega arith) (λ e. kind_int (fraction_at text) (exponent_at text) (omega arith) (omega arith))

pub dec_reaches : (w rest : List ℕ) → IsDec w → Reaches (number_at (w ++ rest)) k.Dec (length w)
dec_reaches w rest (a, b, is, ha, hb) =
    subst (λ v. Reaches (number_at (v ++ rest)) k.Dec (length v)) (sym is) (
    let p = point_at a b rest ha hb in
    let l = length-append a (46 ∷ b) in
    let text = (a ++ 46 ∷ b) ++ rest in
    reaches_number text k.Dec (length (a ++ 46 ∷ b)) (omega arith) (omega arith) (λ e. kind_dec (fraction_at text) (exponent_at text) (omega arith) (omega arith)))

digit_no_sign : (x : ℕ) → is_ascii_digit x ≡ true → is_sign x ≡ false
digit_no_sign x h = grind (arith, nat_tests)

-- digits behind the sign
signed : (s b rest : List ℕ) → IsSign s → IsDigits b → (sign_len ((s ++ b) ++ rest) ≡ length s) × (drop (length s) ((s ++ b) ++ rest) ≡ b ++ rest)
signed [] [] rest hs hb = absurd (omega (arith, hb.0))
signed [] (x ∷ b) rest hs hb = (cond-false _ _ _ (digit_no_sign x (and_parts (is_ascii_digit x) (list_all is_ascii_digit b) hb.1).0), refl)
signed (c ∷ []) b rest hs hb = (cond-true _ _ _ hs, refl)
signed (c ∷ d ∷ s) b rest hs hb = absurd hs

exponent_one : (e : ℕ) (r : List ℕ) → (e ≡ 101) ⊎ (e ≡ 69) → 0 < digits_len (drop (sign_len r) r) → exponent_len (e ∷ r) ≡ 1 + sign_len r + digits_len (drop (sign_len r) r)
unfolding exponent_len
exponent_one e r (inl h) d = cond-true _ _ _ (and_from _ _ (or_left _ _ (eq-eqb e 101 h)) (lt-ltb 0 _ d))
exponent_one e r (inr h) d = cond-true _ _ _ (and_from _ _ (or_right _ _ (eq-eqb e 69 h)) (lt-ltb 0 _ d))

pub exponent_above : (x rest : List ℕ) → IsExponent x → (0 < length x) × (length x ≤ exponent_len (x ++ rest))
exponent_above x rest (e, s, b, is, he, hs, hb) =
    subst (λ v. (0 < length v) × (length v ≤ exponent_len (v ++ rest))) (sym is) (
    let g = signed s b rest hs hb in
    let d : digits_len (drop (sign_len ((s ++ b) ++ rest)) ((s ++ b) ++ rest)) ≡ digits_len (b ++ rest) = ap (λ n. digits_len (drop n ((s ++ b) ++ rest))) g.0 ∙ ap digits_len g.1 in
    let l = run_le is_ascii_digit b rest hb.1 in
    let some = hb.0 in
    let one = exponent_one e ((s ++ b) ++ rest) he (omega arith) in
    let n = length-append s b in
    (omega arith, omega arith))

no_point : (e : ℕ) (r : List ℕ) → (e ≡ 101) ⊎ (e ≡ 69) → fraction_len (e ∷ r) ≡ 0
unfolding fraction_len
no_point e r (inl h) = ap (λ b. fraction_len (b ∷ r)) h
no_point e r (inr h) = ap (λ b. fraction_len (b ∷ r)) h

-- a mantissa, and then neither a digit nor a point
mantissa_at : (m z : List ℕ) → IsDigits m ⊎ IsDec m → next_passes is_ascii_digit z ≡ false → fraction_len z ≡ 0 → (0 < length m) × (digits_len (m ++ z) + fraction_at (m ++ z) ≡ length m)
mantissa_at m z (inl h) n f =
    let w = whole_at m z h.1 n in
    let some = h.0 in
    (some, omega arith)
mantissa_at m z (inr (a, b, is, ha, hb)) n f =
    subst (λ v. (0 < length v) × (digits_len (v ++ z) + fraction_at (v ++ z) ≡ length v)) (sym is) (
    let p = point_at a b z ha hb in
    let r = run_is is_ascii_digit b z hb.1 n in
    let l = length-append a (46 ∷ b) in
    (omega arith, omega arith))

exponent_behind : (m z : List ℕ) → digits_len (m ++ z) + fraction_at (m ++ z) ≡ length m → exponent_at (m ++ z) ≡ exponent_len z
unfolding exponent_at
exponent_behind m z h = ap exponent_len (drop_at m z (digits_len (m ++ z) + fraction_at (m ++ z)) (sym h))

ends_mantissa : (x rest : List ℕ) → IsExponent x → (next_passes is_ascii_digit (x ++ rest) ≡ false) × (fraction_len (x ++ rest) ≡ 0)
ends_mantissa x rest (e, s, b, is, he, hs, hb) =
    subst (λ v. (next_passes is_ascii_digit (v ++ rest) ≡ false) × (fraction_len (v ++ rest) ≡ 0)) (sym is)
    (exponent_ends e ((s ++ b) ++ rest) he, no_point e ((s ++ b) ++ rest) he)

pub double_reaches : (w rest : List ℕ) → IsDouble w → Reaches (number_at (w ++ rest)) k.Double (length w)
double_reaches w rest (m, x, is, hm, hx) =
    let both : (m ++ x) ++ rest ≡ m ++ (x ++ rest) = append_assoc m x rest in
    subst (λ v. Reaches (number_at (v ++ rest)) k.Double (length v)) (sym is) (
    subst (λ t. Reaches (number_at t) k.Double (length (m ++ x))) (sym both) (
    let z = x ++ rest in
    let e = ends_mantissa x rest hx in
    let a = mantissa_at m z hm e.0 e.1 in
    let b = exponent_behind m z a.1 in
    let c = exponent_above x rest hx in
    let l = length-append m x in
    let text = m ++ z in
    reaches_number text k.Double (length (m ++ x)) (omega arith) (omega arith) (λ q. kind_double (fraction_at text) (exponent_at text) (omega arith))))
