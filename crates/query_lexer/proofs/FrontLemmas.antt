-- The number at the front of a text, by where its parts end.
use Rattle.std.proofs.Common.{◌≡◌, ℕ, ◌+◌, ◌-◌, ◌≤◌, ◌==◌, true, false, List, [], ◌∷◌, drop, Some, None, refl, sym, ◌∙◌, ap, subst, arith}
use Rattle.std.proofs.lemmas.Bool.{cond-true, cond-false, eqb-true, ltb-true, ltb-false, lt-ltb, le-ltb}
use Rattle.num_fixed.specs.Fronts.{AreEnds, minus_len, fraction_len, exponent_len, whole_end, fraction_end, number_end, has_number}
use Rattle.num_fixed.specs.declared.front.NumberFront.{NumberFront}
use Rattle.num_fixed.specs.Scan.{minus_at, digits_len}
use Rattle.query_lexer.specs.Scan.{fraction_at, exponent_at, number_at, number_kind}
use Rattle.query_lexer.specs.declared.token.TokenKind.{TokenKind}

minus_none : (r : List ℕ) → number_at (45 ∷ r) ≡ None
unfolding number_at fraction_at fraction_len
minus_none r = refl

-- no number of a query begins with a minus
pub none_at_minus : (l : List ℕ) → minus_at l ≡ true → None ≡ number_at l
none_at_minus [] h = cc
none_at_minus (b ∷ r) h = subst (λ n. None ≡ number_at (n ∷ r)) (sym (eqb-true b 45 h)) (sym (minus_none r))

no_minus : (l : List ℕ) → minus_at l ≡ false → minus_len l ≡ 0
no_minus [] h = refl
no_minus (b ∷ r) h = cond-false (b == 45) 1 0 h

-- where each part ends, if no minus stands in front
record AreEndsOf (l : List ℕ) : Type 0 where
  pub whole : whole_end l ≡ digits_len l
  pub fraction : fraction_end l ≡ digits_len l + fraction_at l
  pub all : number_end l ≡ digits_len l + fraction_at l + exponent_at l

ends_of : (l : List ℕ) → minus_len l ≡ 0 → AreEndsOf l
unfolding whole_end fraction_end number_end fraction_at exponent_at
ends_of l none =
    let zero_in : 0 + digits_len l ≡ digits_len l = omega arith in
    let w : minus_len l + digits_len (drop (minus_len l) l) ≡ digits_len l = ap (λ m. m + digits_len (drop m l)) none ∙ zero_in in
    let f : whole_end l + fraction_len (drop (whole_end l) l) ≡ digits_len l + fraction_len (drop (digits_len l) l) = ap (λ m. m + fraction_len (drop m l)) w in
    record { whole = w; fraction = f; all = ap (λ m. m + exponent_len (drop m l)) f }

pub none_found : (l : List ℕ) → minus_at l ≡ false → has_number l ≡ false → None ≡ number_at l
unfolding number_at
none_found l none h =
    let zero = no_minus l none in
    let e = ends_of l zero in
    let all = e.fraction in
    sym (cond-false _ _ _ (le-ltb 0 (digits_len l + fraction_at l) (omega (arith, ltb-false _ _ h))))

pub whole_first : (l : List ℕ) (front : NumberFront) → AreEnds l front → front.whole_end ≤ front.fraction_end
unfolding fraction_end
whole_first l front ends = omega (arith, ends.whole, ends.fraction)

pub fraction_first : (l : List ℕ) (front : NumberFront) → AreEnds l front → front.fraction_end ≤ front.end
unfolding number_end
fraction_first l front ends = omega (arith, ends.fraction, ends.all)

pub found_is : (l : List ℕ) (front : NumberFront) (kind : TokenKind) → minus_at l ≡ false → has_number l ≡ true → AreEnds l front → kind ≡ number_kind (front.fraction_end - front.whole_end) (front.end - front.fraction_end) → Some (kind, front.end) ≡ number_at l
unfolding number_at
found_is l front kind none h ends is =
    let zero = no_minus l none in
    let e = ends_of l zero in
    let whole = ends.whole ∙ e.whole in
    let fraction = ends.fraction ∙ e.fraction in
    let all = ends.all ∙ e.all in
    let w = front.whole_end in
    let f = front.fraction_end in
    let n = front.end in
    let fs : f - w ≡ fraction_at l = omega arith in
    let xs : n - f ≡ exponent_at l = omega arith in
    let same : kind ≡ number_kind (fraction_at l) (exponent_at l) = is ∙ ap (λ k. number_kind k (n - f)) fs ∙ ap (number_kind (fraction_at l)) xs in
    (λ i. Some (same i, all i)) ∙ sym (cond-true _ _ _ (lt-ltb 0 (digits_len l + fraction_at l) (omega (arith, ltb-true _ _ h, e.fraction))))

pub ruleset front_steps = (none_at_minus, none_found, whole_first, fraction_first, found_is)
