-- One step inside a comment.
use Rattle.std.proofs.Common.{◌≡◌, ◌≢◌, ℕ, ◌+◌, ◌-◌, ◌<◌, ◌≤◌, List, ◌∷◌, [], length, length-drop, get_or, drop, Option, Some, None, true, false, cond, sym, ◌∙◌, ap, refl, arith, ◌==◌}
use Rattle.std.proofs.lemmas.Bool.{cond-true, cond-false, ne_eqb, eq-eqb}
use Rattle.std.proofs.lemmas.List.{at_drop_more, drop_more}
use Rattle.query_lexer.specs.Comments.{comment_rest, plus, opens, closes}
use Rattle.query_lexer.proofs.Cases.{chosen, plus_back}
use Rattle.std.proofs.Common.{inl, inr}

turn : ℕ → ℕ → ℕ → List ℕ → List ℕ → Option ℕ
turn n b c r s = cond (closes b c) (cond (n == 0) (Some 2) (plus 2 (comment_rest (n - 1) r))) (cond (opens b c) (plus 2 (comment_rest (n + 1) r)) (plus 1 (comment_rest n s)))

turn-cons : (n b c : ℕ) (r : List ℕ) → comment_rest n (b ∷ c ∷ r) ≡ turn n b c r (c ∷ r)
unfolding turn
turn-cons n b c r = refl

turn-at : (n i : ℕ) (xs : List ℕ) → i + 1 < length xs → comment_rest n (drop i xs) ≡ turn n (get_or xs i 0) (get_or xs (i + 1) 0) (drop (i + 2) xs) (drop (i + 1) xs)
turn-at n i xs h =
    let first = at_drop_more (comment_rest n) xs i 0 (omega arith) in
    let second = drop_more xs (i + 1) 0 h in
    let two : i + 1 + 1 ≡ i + 2 = omega arith in
    first ∙ ap (λ r. comment_rest n (get_or xs i 0 ∷ r)) second ∙ turn-cons n (get_or xs i 0) (get_or xs (i + 1) 0) (drop (i + 1 + 1) xs)
    ∙ ap (turn n (get_or xs i 0) (get_or xs (i + 1) 0) (drop (i + 1 + 1) xs)) (sym second)
    ∙ ap (λ k. turn n (get_or xs i 0) (get_or xs (i + 1) 0) (drop k xs) (drop (i + 1) xs)) two

pub plus-plus : (m n : ℕ) (o : Option ℕ) → plus m (plus n o) ≡ plus (m + n) o
plus-plus m n None = refl
plus-plus m n (Some x) = ap Some (omega arith)

pub comment_closed : (n i : ℕ) (xs : List ℕ) → i + 1 < length xs → closes (get_or xs i 0) (get_or xs (i + 1) 0) ≡ true → n ≢ 0 → plus i (comment_rest n (drop i xs)) ≡ plus (i + 2) (comment_rest (n - 1) (drop (i + 2) xs))
unfolding turn
comment_closed n i xs h e d =
    ap (plus i) (turn-at n i xs h ∙ cond-true _ _ _ e ∙ cond-false _ _ _ (ne_eqb n 0 d)) ∙ plus-plus i 2 _

pub comment_last : (n i : ℕ) (xs : List ℕ) → i + 1 < length xs → closes (get_or xs i 0) (get_or xs (i + 1) 0) ≡ true → n ≡ 0 → plus i (comment_rest n (drop i xs)) ≡ Some (i + 2)
unfolding turn
comment_last n i xs h e d =
    ap (plus i) (turn-at n i xs h ∙ cond-true _ _ _ e ∙ cond-true _ _ _ (eq-eqb n 0 d))

pub comment_opened : (n i : ℕ) (xs : List ℕ) → i + 1 < length xs → closes (get_or xs i 0) (get_or xs (i + 1) 0) ≡ false → opens (get_or xs i 0) (get_or xs (i + 1) 0) ≡ true → plus i (comment_rest n (drop i xs)) ≡ plus (i + 2) (comment_rest (n + 1) (drop (i + 2) xs))
unfolding turn
comment_opened n i xs h e o =
    ap (plus i) (turn-at n i xs h ∙ cond-false _ _ _ e ∙ cond-true _ _ _ o) ∙ plus-plus i 2 _

pub comment_goes_on : (n i : ℕ) (xs : List ℕ) → i + 1 < length xs → closes (get_or xs i 0) (get_or xs (i + 1) 0) ≡ false → opens (get_or xs i 0) (get_or xs (i + 1) 0) ≡ false → plus i (comment_rest n (drop i xs)) ≡ plus (i + 1) (comment_rest n (drop (i + 1) xs))
unfolding turn
comment_goes_on n i xs h e o =
    ap (plus i) (turn-at n i xs h ∙ cond-false _ _ _ e ∙ cond-false _ _ _ o) ∙ plus-plus i 1 _

short : (n : ℕ) (r : List ℕ) → length r ≤ 1 → comment_rest n r ≡ None
short n [] h = refl
short n (x ∷ []) h = refl
short n (x ∷ y ∷ r) h = grind arith

-- at the last byte none is left
pub comment_end : (n i : ℕ) (xs : List ℕ) → length xs ≤ i + 1 → plus i (comment_rest n (drop i xs)) ≡ None
comment_end n i xs h = ap (plus i) (short n (drop i xs) (omega (arith, length-drop i xs)))

pub ruleset comment_steps = (comment_closed, comment_last, comment_opened, comment_goes_on, comment_end)

-- the end of a comment is no further than the text
pub comment_within : (n : ℕ) (r : List ℕ) (k : ℕ) → comment_rest n r ≡ Some k → k ≤ length r
comment_within n [] k h = cc
comment_within n (b ∷ []) k h = cc
comment_within n (b ∷ c ∷ r) k h = elim (chosen (closes b c) _ _ _ h) [
  | inl (e, is) ↦ elim (chosen (n == 0) _ _ _ is) [
    | inl (last, found) ↦ let two : 2 ≡ k = cc in omega arith
    | inr (inner, found) ↦ let (m, at, size) = plus_back 2 (comment_rest (n - 1) r) k found in omega (arith, size, comment_within (n - 1) r m at)
  ]
  | inr (e, is) ↦ elim (chosen (opens b c) _ _ _ is) [
    | inl (inner, found) ↦ let (m, at, size) = plus_back 2 (comment_rest (n + 1) r) k found in omega (arith, size, comment_within (n + 1) r m at)
    | inr (other, found) ↦ let (m, at, size) = plus_back 1 (comment_rest n (c ∷ r)) k found in omega (arith, size, comment_within n (c ∷ r) m at)
  ]
]
