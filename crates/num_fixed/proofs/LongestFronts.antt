-- No longer number stands at the front of a text.
use Rattle.std.proofs.Common.{◌≡◌, ◌⊎◌, inl, inr, ℕ, suc, ◌+◌, ◌<◌, ◌≤◌, nat_lt, List, [], ◌∷◌, ◌++◌, length, drop, Option, Some, None, refl, sym, ◌∙◌, ap, subst, arith, length-append}
use Rattle.std.specs.Char.{is_ascii_digit}
use Rattle.std.specs.List.{list_all}
use Rattle.std.proofs.lemmas.Bool.{cond-true, lt-ltb, and_parts}
use Rattle.std.proofs.lemmas.List.{drop-drop}
use Rattle.std.proofs.Math.Seq.{drop-append_seam}
use Rattle.num_fixed.specs.Fronts.{minus_len, sign_len, fraction_len, exponent_len, whole_end, fraction_end, number_end, IsMinusOrNone, HasDigits, IsFront}
use Rattle.num_fixed.specs.Laws.{IsReached}
use Rattle.num_fixed.specs.Numeral.{Sign, none, plus, minus, Numeral, AreDigits, IsSign, IsFrac, IsExp, frac_digits}
use Rattle.num_fixed.specs.Scan.{digits_len}
use Rattle.num_fixed.proofs.Reading.{Stops, digits_len-append, digit_no_sign}

-- what is at the front reaches at least over the digits
digits_reach : (ds r : List ℕ) → AreDigits ds → length ds ≤ digits_len (ds ++ r)
digits_reach [] r h = omega arith
digits_reach (d ∷ ds) r h =
    let both = and_parts (is_ascii_digit d) (list_all is_ascii_digit ds) h in
    let rest = digits_reach ds r both.1 in
    let one = cond-true (is_ascii_digit d) (1 + digits_len (ds ++ r)) 0 both.0 in
    omega arith

-- three lengths behind the minus
abbrev second : List ℕ → List ℕ
second u = drop (digits_len u) u

abbrev third : List ℕ → List ℕ
third u = drop (fraction_len (second u)) (second u)

-- they reach over all but a rest, and begin with a digit or a point
record Reaches (u r : List ℕ) : Type 0 where
  some : 0 < digits_len u + fraction_len (second u)
  far : length u ≤ length r + (digits_len u + fraction_len (second u) + exponent_len (third u))

-- a letter, a sign or none, and digits
letter_len : (c : ℕ) (m : List ℕ) → (c ∷ m ≡ 101 ∷ m) ⊎ (c ∷ m ≡ 69 ∷ m) → 0 < digits_len (drop (sign_len m) m) → exponent_len (c ∷ m) ≡ 1 + sign_len m + digits_len (drop (sign_len m) m)
unfolding exponent_len
letter_len c m (inl e) h = ap exponent_len e ∙ cond-true (nat_lt 0 (digits_len (drop (sign_len m) m))) _ 0 (lt-ltb 0 _ h)
letter_len c m (inr e) h = ap exponent_len e ∙ cond-true (nat_lt 0 (digits_len (drop (sign_len m) m))) _ 0 (lt-ltb 0 _ h)

signed_reach : (s : Sign) (m ds r : List ℕ) → IsSign s m (ds ++ r) → AreDigits ds → 0 < length ds → (0 < digits_len (drop (sign_len m) m)) × (length m ≤ length r + (sign_len m + digits_len (drop (sign_len m) m)))
signed_reach none m [] r e h some = absurd (omega arith)
signed_reach none m (d ∷ ds) r e h some =
    let n = digit_no_sign d (and_parts (is_ascii_digit d) (list_all is_ascii_digit ds) h).0 in
    let l = (d ∷ ds) ++ r in
    let zero_len : sign_len l ≡ 0 = rw (n.1, n.0) refl in
    let reach = digits_reach (d ∷ ds) r h in
    let size = length-append (d ∷ ds) r in
    subst (λ k. (0 < digits_len (drop (sign_len k) k)) × (length k ≤ length r + (sign_len k + digits_len (drop (sign_len k) k)))) (sym e) (
    subst (λ k. (0 < digits_len (drop k l)) × (length l ≤ length r + (k + digits_len (drop k l)))) (sym zero_len) (omega arith, omega arith))
signed_reach plus m ds r e h some =
    let reach = digits_reach ds r h in
    let size = length-append ds r in
    subst (λ k. (0 < digits_len (drop (sign_len k) k)) × (length k ≤ length r + (sign_len k + digits_len (drop (sign_len k) k)))) (sym e) (omega arith, omega arith)
signed_reach minus m ds r e h some =
    let reach = digits_reach ds r h in
    let size = length-append ds r in
    subst (λ k. (0 < digits_len (drop (sign_len k) k)) × (length k ≤ length r + (sign_len k + digits_len (drop (sign_len k) k)))) (sym e) (omega arith, omega arith)

exponent_reach : (x : Option (Sign × List ℕ)) (b r : List ℕ) → IsExp x b r → length b ≤ length r + exponent_len b
exponent_reach None b r h = omega (arith, ap length h)
exponent_reach (Some e) b r h =
    let g = signed_reach e.0 h.0 e.1 r h.2 h.3 h.4 in
    let far = g.1 in
    elim h.1 [
      | inl q ↦ subst (λ k. length k ≤ length r + exponent_len k) (sym q) (let n = letter_len 101 h.0 (inl refl) g.0 in omega arith)
      | inr q ↦ subst (λ k. length k ≤ length r + exponent_len k) (sym q) (let n = letter_len 69 h.0 (inr refl) g.0 in omega arith)
    ]

exponent_stops : (e : Sign × List ℕ) (b r : List ℕ) → IsExp (Some e) b r → Stops b × (fraction_len b ≡ 0)
unfolding fraction_len
exponent_stops e b r h = elim h.1 [
  | inl q ↦ subst (λ k. Stops k × (fraction_len k ≡ 0)) (sym q) (inr (inl refl), refl)
  | inr q ↦ subst (λ k. Stops k × (fraction_len k ≡ 0)) (sym q) (inr (inr refl), refl)
]

point_len : (t : List ℕ) → 0 < digits_len t → fraction_len (46 ∷ t) ≡ 1 + digits_len t
unfolding fraction_len
point_len t h = cond-true (nat_lt 0 (digits_len t)) _ 0 (lt-ltb 0 _ h)

-- digits and a stop are taken apart
second_is : (ds a : List ℕ) → AreDigits ds → Stops a → second (ds ++ a) ≡ a
second_is ds a h s = ap (λ n. drop n (ds ++ a)) (digits_len-append ds a h s) ∙ drop-append_seam ds a

behind_point : (fs b : List ℕ) → AreDigits fs → Stops b → drop (1 + digits_len (fs ++ b)) (46 ∷ (fs ++ b)) ≡ b
behind_point fs b h s =
    let n = digits_len-append fs b h s in
    let one : 1 + digits_len (fs ++ b) ≡ suc (length fs) = omega arith in
    ap (λ k. drop k (46 ∷ (fs ++ b))) one ∙ drop-append_seam fs b

-- behind the minus, by the parts that a number has
reaches : (ds a b r : List ℕ) (f : Option (List ℕ)) (x : Option (Sign × List ℕ)) → AreDigits ds → IsFrac f a b → HasDigits f → IsExp x b r → 0 < length (ds ++ frac_digits f) → Reaches (ds ++ a) r
reaches ds a b r None None h f d x some =
    let reach = digits_reach ds a h in
    let size = length-append ds a in
    let none_more = length-append ds [] in
    let same : length a ≡ length r = ap length (f ∙ x) in
    record { some = omega arith; far = omega arith }
reaches ds a b r None (Some e) h f d x some =
    let s = exponent_stops e b r x in
    let stops = subst Stops (sym f) s.0 in
    let n = digits_len-append ds a h stops in
    let at = second_is ds a h stops ∙ f in
    let gone : fraction_len (second (ds ++ a)) ≡ 0 = ap fraction_len at ∙ s.1 in
    let behind : third (ds ++ a) ≡ b = ap (λ k. drop k (second (ds ++ a))) gone ∙ at in
    let far = exponent_reach (Some e) b r x in
    let is = ap exponent_len behind in
    let size = length-append ds a in
    let same = ap length f in
    let none_more = length-append ds [] in
    record { some = omega arith; far = omega arith }
reaches ds a b r (Some fs) None h f d x some =
    let stops : Stops a = subst Stops (sym f.1) (inl refl) in
    let n = digits_len-append ds a h stops in
    let at = second_is ds a h stops ∙ f.1 in
    let reach = digits_reach fs b f.0 in
    let point : fraction_len (second (ds ++ a)) ≡ 1 + digits_len (fs ++ b) = ap fraction_len at ∙ point_len (fs ++ b) (omega arith) in
    let size = length-append ds a in
    let size_a = ap length f.1 in
    let size_b = length-append fs b in
    let same = ap length x in
    record { some = omega arith; far = omega arith }
reaches ds a b r (Some fs) (Some e) h f d x some =
    let s = exponent_stops e b r x in
    let stops : Stops a = subst Stops (sym f.1) (inl refl) in
    let n = digits_len-append ds a h stops in
    let at = second_is ds a h stops ∙ f.1 in
    let k = digits_len-append fs b f.0 s.0 in
    let point : fraction_len (second (ds ++ a)) ≡ 1 + digits_len (fs ++ b) = ap fraction_len at ∙ point_len (fs ++ b) (omega arith) in
    let behind : third (ds ++ a) ≡ b = ap (λ k. drop k (second (ds ++ a))) point ∙ ap (drop (1 + digits_len (fs ++ b))) at ∙ behind_point fs b f.0 s.0 in
    let far = exponent_reach (Some e) b r x in
    let is = ap exponent_len behind in
    let size = length-append ds a in
    let size_a = ap length f.1 in
    let size_b = length-append fs b in
    record { some = omega arith; far = omega arith }

-- the minus in front
no_minus : (ds a b : List ℕ) (f : Option (List ℕ)) → AreDigits ds → IsFrac f a b → 0 < length (ds ++ frac_digits f) → minus_len (ds ++ a) ≡ 0
no_minus (d ∷ ds) a b f h g some = let n = digit_no_sign d (and_parts (is_ascii_digit d) (list_all is_ascii_digit ds) h).0 in rw n.0 refl
no_minus [] a b None h g some = absurd (omega arith)
no_minus [] a b (Some fs) h g some = ap minus_len g.1

unsigned : (s : Sign) (l u : List ℕ) → IsMinusOrNone s → IsSign s l u → minus_len u ≡ 0 → (drop (minus_len l) l ≡ u) × (length l ≡ minus_len l + length u)
unsigned none l u m e n = subst (λ k. (drop (minus_len k) k ≡ u) × (length k ≡ minus_len k + length u)) (sym e) (ap (λ k. drop k u) n, omega arith)
unsigned plus l u m e n = absurd m
unsigned minus l u m e n = subst (λ k. (drop (minus_len k) k ≡ u) × (length k ≡ minus_len k + length u)) (sym e) (refl, omega arith)

-- the ends by the lengths
abbrev behind_minus : List ℕ → List ℕ
behind_minus l = drop (minus_len l) l

ends : (l : List ℕ) → (fraction_end l ≡ minus_len l + (digits_len (behind_minus l) + fraction_len (second (behind_minus l)))) × (number_end l ≡ minus_len l + (digits_len (behind_minus l) + fraction_len (second (behind_minus l)) + exponent_len (third (behind_minus l))))
unfolding whole_end fraction_end number_end
ends l =
    let m = minus_len l in
    let u = drop m l in
    let at : drop (m + digits_len u) l ≡ second u = sym (drop-drop (digits_len u) m l) in
    let f : fraction_len (drop (m + digits_len u) l) ≡ fraction_len (second u) = ap fraction_len at in
    let behind : drop (fraction_end l) l ≡ third u = sym (drop-drop (fraction_len (drop (m + digits_len u) l)) (m + digits_len u) l) ∙ ap (λ k. drop k (drop (m + digits_len u) l)) f ∙ ap (drop (fraction_len (second u))) at in
    let x = ap exponent_len behind in
    (omega arith, omega arith)

pub longest : (n : Numeral) (l r : List ℕ) → IsFront n l r → IsReached l r
longest n l r h =
    let k = h.numeral in
    let u = unsigned n.sign l (n.int ++ k.behind_int) h.sign k.sign (no_minus n.int k.behind_int k.behind_frac n.frac k.int k.frac k.some) in
    let g = subst (λ t. Reaches t r) (sym u.0) (reaches n.int k.behind_int k.behind_frac r n.frac n.exp k.int k.frac h.frac k.exp k.some) in
    let e = ends l in
    let some = g.some in
    let far = g.far in
    let size = ap length u.0 in
    let whole = u.1 in
    let end = e.0 in
    let all = e.1 in
    (lt-ltb _ _ (omega arith), omega arith)
