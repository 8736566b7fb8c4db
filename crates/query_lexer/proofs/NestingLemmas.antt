-- A comment by its depth is a comment by the grammar, and the other way round.
use Rattle.std.proofs.Common.{◌≡◌, ◌↔◌, inl, inr, ℕ, zero, suc, ◌+◌, ◌-◌, ◌≤◌, List, ◌∷◌, [], length, length-drop, drop, Option, Some, true, false, cond, sym, ◌∙◌, ap, subst, refl, arith, ◌==◌}
use Rattle.std.proofs.lemmas.Bool.{cond-false, and_parts, eqb-true, ne_eqb}
use Rattle.query_lexer.specs.Comments.{comment_rest, plus, opens, closes, begins_comment, IsComment, IsUnclosed}
use Rattle.query_lexer.specs.Nesting.{Inside, closed, byte, comment, ends_comment, IsInside, IsNested}
use Rattle.query_lexer.proofs.Cases.{chosen, plus_back}
use Rattle.query_lexer.proofs.CommentLemmas.{plus-plus, comment_within}
use Rattle.query_lexer.proofs.LongestTokens.{option_cases}

-- ---- the grammar's comment is closed at this depth

-- how many bytes it takes to close n more
abbrev behind : ℕ → ℕ → List ℕ → Option ℕ
behind size zero r = Some size
behind size (suc n) r = plus size (comment_rest n r)

plus_behind : (a b c n : ℕ) (r : List ℕ) → a + b ≡ c → plus a (behind b n r) ≡ behind c n r
plus_behind a b c zero r e = ap Some e
plus_behind a b c (suc n) r e = plus-plus a b (comment_rest n r) ∙ ap (λ k. plus k (comment_rest n r)) e

inside_long : (x : Inside) (l r : List ℕ) → IsInside x l r → length r + 2 ≤ length l
inside_long closed l r h = omega (arith, ap length h)
inside_long (byte more) l r (b, between, e, begins, ends, h) = omega (arith, ap length e, inside_long more between r h)
inside_long (comment inner more) l r (at, between, e, h, t) = omega (arith, ap length e, inside_long inner at between h, inside_long more between r t)

closed_rest : (n : ℕ) (r : List ℕ) → comment_rest n (58 ∷ 41 ∷ r) ≡ behind 2 n r
unfolding closes
closed_rest zero r = refl
closed_rest (suc n) r =
    let one : suc n - 1 ≡ n = omega arith in
    cond-false _ _ _ (ne_eqb (suc n) 0 (λ e. omega (arith, e))) ∙ ap (λ k. plus 2 (comment_rest k r)) one

byte_rest : (n b : ℕ) (l : List ℕ) → 1 ≤ length l → begins_comment (b ∷ l) ≡ false → ends_comment (b ∷ l) ≡ false → comment_rest n (b ∷ l) ≡ plus 1 (comment_rest n l)
byte_rest n b [] h begins ends = absurd (omega (arith, h))
byte_rest n b (c ∷ l) h begins ends = cond-false _ _ _ ends ∙ cond-false _ _ _ begins

opened_rest : (n : ℕ) (l : List ℕ) → comment_rest n (40 ∷ 58 ∷ l) ≡ plus 2 (comment_rest (n + 1) l)
unfolding closes opens
opened_rest n l = refl

inside_rest : (x : Inside) (l r : List ℕ) → IsInside x l r → (n : ℕ) → comment_rest n l ≡ behind (length l - length r) n r
inside_rest closed l r h n =
    let size : 2 ≡ length l - length r = omega (arith, ap length h) in
    ap (comment_rest n) h ∙ closed_rest n r ∙ ap (λ s. behind s n r) size
inside_rest (byte more) l r (b, between, e, begins, ends, h) n =
    let far = inside_long more between r h in
    let size : 1 + (length between - length r) ≡ length l - length r = omega (arith, far, ap length e) in
    ap (comment_rest n) e ∙ byte_rest n b between (omega (arith, far)) (sym (ap begins_comment e) ∙ begins) (sym (ap ends_comment e) ∙ ends)
    ∙ ap (plus 1) (inside_rest more between r h n) ∙ plus_behind 1 (length between - length r) (length l - length r) n r size
inside_rest (comment inner more) l r (at, between, e, h, t) n =
    let first = inside_long inner at between h in
    let second = inside_long more between r t in
    let inner_size = length at - length between in
    let more_size = length between - length r in
    let both : inner_size + more_size ≡ length at - length r = omega (arith, first, second) in
    let size : 2 + (length at - length r) ≡ length l - length r = omega (arith, first, second, ap length e) in
    let one : n + 1 ≡ suc n = omega arith in
    ap (comment_rest n) e ∙ opened_rest n at ∙ ap (λ k. plus 2 (comment_rest k at)) one
    ∙ ap (plus 2) (inside_rest inner at between h (suc n) ∙ ap (plus inner_size) (inside_rest more between r t n) ∙ plus_behind inner_size more_size (length at - length r) n r both)
    ∙ plus_behind 2 (length at - length r) (length l - length r) n r size

-- ---- what is closed at this depth is the grammar's comment

-- the insides of a comment and of the n around it, one after another
abbrev Insides : ℕ → List ℕ → List ℕ → Type 0
Insides zero l r = (x : Inside) × IsInside x l r
Insides (suc n) l r = (m : List ℕ) × ((x : Inside) × IsInside x l m) × Insides n m r

byte_before : (n b : ℕ) (l r : List ℕ) → begins_comment (b ∷ l) ≡ false → ends_comment (b ∷ l) ≡ false → Insides n l r → Insides n (b ∷ l) r
byte_before zero b l r begins ends (x, h) = (byte x, (b, l, refl, begins, ends, h))
byte_before (suc n) b l r begins ends (m, (x, h), more) = (m, (byte x, (b, l, refl, begins, ends, h)), more)

nested : (n : ℕ) (l r : List ℕ) → Insides (suc n) l r → Insides n (40 ∷ 58 ∷ l) r
nested zero l r (m, (x, h), (y, t)) = (comment x y, (l, m, refl, h, t))
nested (suc n) l r (m, (x, h), (k, (y, t), more)) = (k, (comment x y, (l, m, refl, h, t)), more)

insides_closed : (n : ℕ) (l : List ℕ) (k : ℕ) → cond (n == 0) (Some 2) (plus 2 (comment_rest (n - 1) l)) ≡ Some k → ((m j : ℕ) → comment_rest m l ≡ Some j → Insides m l (drop j l)) → Insides n (58 ∷ 41 ∷ l) (drop k (58 ∷ 41 ∷ l))
insides_closed zero l k h inner =
    let two : 2 ≡ k = cc in
    subst (λ i. Insides zero (58 ∷ 41 ∷ l) (drop i (58 ∷ 41 ∷ l))) two (closed, refl)
insides_closed (suc n) l k h inner =
    let one : suc n - 1 ≡ n = omega arith in
    let found = sym (cond-false (suc n == 0) (Some 2) (plus 2 (comment_rest (suc n - 1) l)) (ne_eqb (suc n) 0 (λ e. omega (arith, e)))) ∙ h in
    let (j, at, size) = plus_back 2 (comment_rest (suc n - 1) l) k found in
    let far : suc (suc j) ≡ k = omega arith in
    subst (λ i. Insides (suc n) (58 ∷ 41 ∷ l) (drop i (58 ∷ 41 ∷ l))) far (l, (closed, refl), inner n j (ap (λ i. comment_rest i l) (sym one) ∙ at))

insides : (n : ℕ) (l : List ℕ) (k : ℕ) → comment_rest n l ≡ Some k → Insides n l (drop k l)
unfolding opens closes
insides n [] k h = cc
insides n (b ∷ []) k h = cc
insides n (b ∷ c ∷ l) k h = elim (chosen (closes b c) _ _ _ h) [
  | inl (e, is) ↦
      let at = and_parts (b == 58) (c == 41) e in
      let seam : 58 ∷ 41 ∷ l ≡ b ∷ c ∷ l = let first = eqb-true b 58 at.0 in let second = eqb-true c 41 at.1 in cc in
      subst (λ t. Insides n t (drop k t)) seam (insides_closed n l k is (λ m j g. insides m l j g))
  | inr (ends, is) ↦ elim (chosen (opens b c) _ _ _ is) [
    | inl (e, found) ↦
        let at = and_parts (b == 40) (c == 58) e in
        let seam : 40 ∷ 58 ∷ l ≡ b ∷ c ∷ l = let first = eqb-true b 40 at.0 in let second = eqb-true c 58 at.1 in cc in
        let (j, to, size) = plus_back 2 (comment_rest (n + 1) l) k found in
        let far : suc (suc j) ≡ k = omega arith in
        let one : n + 1 ≡ suc n = omega arith in
        subst (λ t. Insides n t (drop k t)) seam (
        subst (λ i. Insides n (40 ∷ 58 ∷ l) (drop i (40 ∷ 58 ∷ l))) far (nested n l (drop j l) (subst (λ i. Insides i l (drop j l)) one (insides (n + 1) l j to))))
    | inr (begins, found) ↦
        let (j, to, size) = plus_back 1 (comment_rest n (c ∷ l)) k found in
        let far : suc j ≡ k = omega arith in
        subst (λ i. Insides n (b ∷ c ∷ l) (drop i (b ∷ c ∷ l))) far (byte_before n b (c ∷ l) (drop j (c ∷ l)) begins ends (insides n (c ∷ l) j to))
  ]
]

-- ---- both ways

comment_seam : (text : List ℕ) → begins_comment text ≡ true → text ≡ 40 ∷ 58 ∷ drop 2 text
unfolding opens
comment_seam [] h = cc
comment_seam (b ∷ []) h = cc
comment_seam (b ∷ c ∷ l) h =
    let at = and_parts (b == 40) (c == 58) h in
    let first = eqb-true b 40 at.0 in
    let second = eqb-true c 58 at.1 in
    cc

nested_from : (text : List ℕ) (n : ℕ) → IsComment text n → IsNested text n
nested_from text n (begins, m, found, size) =
    let seam = comment_seam text begins in
    let l = drop 2 text in
    let (x, h) = insides 0 l m found in
    let within = comment_within 0 l m found in
    record { inside = x; behind = l; rest = drop m l; begins = seam; nested = h; size = omega (arith, size, within, length-drop m l, ap length seam) }

nested_is : (text : List ℕ) (n : ℕ) → IsNested text n → IsComment text n
unfolding opens
nested_is text n v =
    let found = ap (λ t. comment_rest 0 (drop 2 t)) v.begins ∙ inside_rest v.inside v.behind v.rest v.nested 0 in
    let far = inside_long v.inside v.behind v.rest v.nested in
    (ap begins_comment v.begins, length v.behind - length v.rest, found, omega (arith, far, v.size, ap length v.begins))

unclosed_from : (text : List ℕ) → IsUnclosed text → (n : ℕ) → IsNested text n → ⊥
unclosed_from text (begins, none) n v = let (at, m, found, size) = nested_is text n v in cc

unclosed_is : (text : List ℕ) → begins_comment text ≡ true → ((n : ℕ) → IsNested text n → ⊥) → IsUnclosed text
unclosed_is text begins never = elim (option_cases (comment_rest 0 (drop 2 text))) [
  | inl none ↦ (begins, none)
  | inr (m, found) ↦ absurd (never (2 + m) (nested_from text (2 + m) (begins, m, found, refl)))
]

pub comment_nests : (text : List ℕ) (n : ℕ) → IsComment text n ↔ IsNested text n
comment_nests text n = (nested_from text n, nested_is text n)

pub unclosed_nests : (text : List ℕ) → IsUnclosed text ↔ ((begins_comment text ≡ true) × ((n : ℕ) → ¬ IsNested text n))
unclosed_nests text = (λ h. (h.0, unclosed_from text h), λ h. unclosed_is text h.0 h.1)
