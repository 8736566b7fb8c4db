-- The law of one part and then another, where the first is as long as it can be; and with it the law of one part and then another, where no token can go on with the first and begin the second.
use Rattle.std.proofs.Common.{◌≡◌, inl, inr, Bool, true, false, List, [], ◌∷◌, ◌++◌, Ok, Err, refl, sym, ap, ◌∙◌, append_assoc}
use Rattle.std.specs.Prelude.{◌&&◌}
use Rattle.std.proofs.lemmas.Bool.{and_parts, or_left, or_right, or_cases}
use Rattle.std.proofs.lemmas.List.{append-nil, append_cancel_right}
use Rattle.grammar_parts.specs.Tokens.{Class, either, given}
use Rattle.grammar_parts.specs.Readers.{Outcome, Reader, and_then}
use Rattle.grammar_parts.specs.Parts.{Part, Ends, long, LongWhole, LongBegun, seq, SeqWhole, SeqBegun}
use Rattle.grammar_parts.specs.Good.{Good, Judge, Stuck, Apart}
use Rattle.grammar_parts.proofs.Cuts.{nil_from_append, head_same, split_append, moved, ok_rest}
use Rattle.grammar_parts.proofs.Alike.{Alike, alike-good}

module _ {T A B : Type 0} (g : Part T A) (h : Part T B) (first_p ext_p : Class T) (empty_p : Bool) (left : Good g first_p ext_p empty_p) where
  long-seam_at : (s l r2 a : List T) (t3 : T) (b : List T) (x : A) → s ≡ l ++ r2 → l ≡ a ++ (t3 ∷ b) → g.whole a x → Ends g a (t3 ∷ b) → g.read s ≡ Ok (x, t3 ∷ (b ++ r2))
  long-seam_at s l r2 a t3 b x es el w en =
      let e : s ≡ a ++ (t3 ∷ (b ++ r2)) = es ∙ ap (λ (m : List T). m ++ r2) el ∙ append_assoc a (t3 ∷ b) r2 in
      let st : Stuck g a (t3 ∷ (b ++ r2)) = λ t r e2 c. (let i : t3 ≡ t = head_same t3 t (b ++ r2) r e2 in en t3 b refl (rw i c)) in
      rw e (left.complete a (t3 ∷ (b ++ r2)) x w st)

  long-no_longer : (u1 s1 u2 : List T) (t : T) (r2 : List T) → Stuck g u1 s1 → s1 ≡ u2 ++ (t ∷ r2) → g.begun ((u1 ++ u2) ++ t ∷ []) → ⊥
  long-no_longer u1 s1 [] t r2 st e b = (let c : g.begun (u1 ++ t ∷ []) = rw append-nil at b in st t r2 e c)
  long-no_longer u1 s1 (t2 ∷ u2) t r2 st e b =
      let e2 : (u1 ++ (t2 ∷ u2)) ++ t ∷ [] ≡ (u1 ++ t2 ∷ []) ++ (u2 ++ t ∷ []) = ap (λ (l : List T). l ++ t ∷ []) (moved u1 u2 t2) ∙ append_assoc (u1 ++ t2 ∷ []) u2 (t ∷ []) in
      let c : g.begun ((u1 ++ t2 ∷ []) ++ (u2 ++ t ∷ [])) = rw e2 at b in
      st t2 (u2 ++ t ∷ r2) e (left.closed (u1 ++ t2 ∷ []) (u2 ++ t ∷ []) c)

  long-stuck_err : (s u r : List T) → g.read s ≡ Err r → s ≡ u ++ r → Stuck g u r → Stuck (long g h) u r
  unfolding LongWhole LongBegun
  long-stuck_err s u r ep es st t r2 er (inl b) = st t r2 er b
  long-stuck_err s u r ep es st t r2 er (inr (a, [], x, e, w, bg, en)) = (let e2 : u ++ t ∷ [] ≡ a = e ∙ append-nil a in st t r2 er (rw e2 (left.is_begun a x w)))
  long-stuck_err s u r ep es st t r2 er (inr (a, t3 ∷ b, x, e, w, bg, en)) =
      let e3 : s ≡ (u ++ t ∷ []) ++ r2 = es ∙ ap (λ (m : List T). u ++ m) er ∙ moved u r2 t in
      let z = long-seam_at s (u ++ t ∷ []) r2 a t3 b x e3 e w en in
      cc

  long-stuck_ok : (s u1 s1 u2 r : List T) (x1 : A) → g.read s ≡ Ok (x1, s1) → s ≡ u1 ++ s1 → s1 ≡ u2 ++ r → Stuck g u1 s1 → Stuck h u2 r → Stuck (long g h) (u1 ++ u2) r
  unfolding LongWhole LongBegun
  long-stuck_ok s u1 s1 u2 r x1 ep es e1 sg sh t r2 er (inl b) = long-no_longer u1 s1 u2 t r2 sg (e1 ∙ ap (λ (m : List T). u2 ++ m) er) b
  long-stuck_ok s u1 s1 u2 r x1 ep es e1 sg sh t r2 er (inr (a, [], x, e, w, bg, en)) =
      let e2 : (u1 ++ u2) ++ t ∷ [] ≡ a = e ∙ append-nil a in
      long-no_longer u1 s1 u2 t r2 sg (e1 ∙ ap (λ (m : List T). u2 ++ m) er) (rw e2 (left.is_begun a x w))
  long-stuck_ok s u1 s1 u2 r x1 ep es e1 sg sh t r2 er (inr (a, t3 ∷ b, x, e, w, bg, en)) =
      let e4 : s1 ≡ (u2 ++ t ∷ []) ++ r2 = e1 ∙ ap (λ (m : List T). u2 ++ m) er ∙ moved u2 r2 t in
      let e3 : s ≡ ((u1 ++ u2) ++ t ∷ []) ++ r2 = es ∙ ap (λ (m : List T). u1 ++ m) e4 ∙ sym (append_assoc u1 (u2 ++ t ∷ []) r2) ∙ ap (λ (m : List T). m ++ r2) (sym (append_assoc u1 u2 (t ∷ []))) in
      let z = long-seam_at s ((u1 ++ u2) ++ t ∷ []) r2 a t3 b x e3 e w en in
      let e5 : s1 ≡ t3 ∷ (b ++ r2) = ok_rest x1 x s1 (t3 ∷ (b ++ r2)) (sym ep ∙ z) in
      let e7 : u2 ++ t ∷ [] ≡ t3 ∷ b = append_cancel_right (u2 ++ t ∷ []) (t3 ∷ b) r2 (sym e4 ∙ e5) in
      sh t r2 er (rw e7 bg)

  -- what the first part was read as ends where the second begins
  long-ends : (u1 s1 u2 r : List T) → s1 ≡ u2 ++ r → Stuck g u1 s1 → Ends g u1 u2
  long-ends u1 s1 u2 r e st t b eb c = st t (b ++ r) (e ∙ ap (λ (m : List T). m ++ r) eb) c

  long-judge_second : (s u1 s1 : List T) (x1 : A) (o : Outcome T B) → g.read s ≡ Ok (x1, s1) → s ≡ u1 ++ s1 → g.whole u1 x1 → Stuck g u1 s1 → Judge h s1 o → Judge (long g h) s (and_then o (λ y r2. Ok ((x1, y), r2)))
  unfolding LongWhole LongBegun
  long-judge_second s u1 s1 x1 (Ok y) ep es w sg (u2, e1, w2, sh) =
      (u1 ++ u2, es ∙ ap (λ (m : List T). u1 ++ m) e1 ∙ sym (append_assoc u1 u2 y.1), (u1, u2, refl, w, w2, long-ends u1 s1 u2 y.1 e1 sg), long-stuck_ok s u1 s1 u2 y.1 x1 ep es e1 sg sh)
  long-judge_second s u1 s1 x1 (Err r) ep es w sg (u2, e1, b2, sh) =
      (u1 ++ u2, es ∙ ap (λ (m : List T). u1 ++ m) e1 ∙ sym (append_assoc u1 u2 r), inr (u1, u2, x1, refl, w, b2, long-ends u1 s1 u2 r e1 sg), long-stuck_ok s u1 s1 u2 r x1 ep es e1 sg sh)

  pub long-judge : (q : Reader T B) (s : List T) (o : Outcome T A) → g.read s ≡ o → Judge g s o → ((x : A) (r : List T) → o ≡ Ok (x, r) → Judge h r (q r)) → Judge (long g h) s (and_then o (λ x r. and_then (q r) (λ y r2. Ok ((x, y), r2))))
  unfolding LongWhole LongBegun
  long-judge q s (Ok x) ep (u, es, w, st) jq = long-judge_second s u x.1 x.0 (q x.1) ep es w st (jq x.0 x.1 refl)
  long-judge q s (Err r) ep (u, es, b, st) jq = (u, es, inl b, long-stuck_err s u r ep es st)

  pub ends_front : (a c v : List T) → Ends g a (c ++ v) → Ends g a c
  ends_front a c v en t r e b = en t (r ++ v) (ap (λ (m : List T). m ++ v) e) b

  long-same : (l a b a2 : List T) (t3 : T) (b2 : List T) (x x2 : A) → Stuck g a b → l ≡ a ++ b → g.whole a x → l ≡ a2 ++ (t3 ∷ b2) → g.whole a2 x2 → Ends g a2 (t3 ∷ b2) → b ≡ t3 ∷ b2
  long-same l a b a2 t3 b2 x x2 st e w e2 w2 en =
      let one_way : g.read l ≡ Ok (x, b) = rw e (left.complete a b x w st) in
      let r0 : l ≡ l ++ [] = sym (append-nil l) in
      let other : g.read l ≡ Ok (x2, t3 ∷ (b2 ++ [])) = long-seam_at l l [] a2 t3 b2 x2 r0 e2 w2 en in
      ok_rest x x2 b (t3 ∷ (b2 ++ [])) (sym one_way ∙ other) ∙ ap (λ (m : List T). t3 ∷ m) (append-nil b2)

  pub long-complete_first : (a b r : List T) → Ends g a b → ((t : T) (r2 : List T) → r ≡ t ∷ r2 → g.begun ((a ++ b) ++ t ∷ []) → ⊥) → Stuck g a (b ++ r)
  long-complete_first a [] r en st t r2 e c = st t r2 e (rw append-nil c)
  long-complete_first a (t5 ∷ b) r en st t r2 e c = (let i : t5 ≡ t = head_same t5 t (b ++ r) r2 e in en t5 b refl (rw i c))

  pub ends_push : (a b : List T) (t : T) (r r2 : List T) → Stuck g a (b ++ r) → r ≡ t ∷ r2 → Ends g a (b ++ t ∷ [])
  ends_push a [] t r r2 st er t4 r4 e c = (let i : t ≡ t4 = head_same t t4 [] r4 e in st t r2 er (rw i c))
  ends_push a (t5 ∷ b) t r r2 st er t4 r4 e c = (let i : t5 ≡ t4 = head_same t5 t4 (b ++ t ∷ []) r4 e in st t5 (b ++ r) refl (rw i c))

module _ {T A B : Type 0} (g : Part T A) (h : Part T B) (first_p ext_p ext_q : Class T) (empty_p empty_q : Bool)
    (left : Good g first_p ext_p empty_p) (is_empty_q : (y : B) → h.whole [] y → empty_q ≡ true) where
  long-extends_in : (a b : List T) (z : A × B) (t : T) → g.whole a z.0 → h.whole b z.1 → Ends g a b → g.begun ((a ++ b) ++ t ∷ []) → either ext_q (given empty_q ext_p) t ≡ true
  long-extends_in a [] z t w v en c =
      let d : g.begun (a ++ t ∷ []) = rw append-nil at c in
      let x = left.extends a z.0 t w d in
      let y = is_empty_q z.1 v in
      or_right (ext_q t) (given empty_q ext_p t) (rw (x, y) refl)
  long-extends_in a (t2 ∷ b) z t w v en c =
      let e2 : (a ++ (t2 ∷ b)) ++ t ∷ [] ≡ (a ++ t2 ∷ []) ++ (b ++ t ∷ []) = ap (λ (l : List T). l ++ t ∷ []) (moved a b t2) ∙ append_assoc (a ++ t2 ∷ []) b (t ∷ []) in
      let d : g.begun ((a ++ t2 ∷ []) ++ (b ++ t ∷ [])) = rw e2 at c in
      absurd (en t2 b refl (left.closed (a ++ t2 ∷ []) (b ++ t ∷ []) d))

  long-extends_seam : (a b : List T) (z : A × B) (t : T) (m : Bool) → ext_p t ≡ m → g.whole a z.0 → h.whole b z.1 → Ends g a b → (h.begun (b ++ t ∷ []) → ext_q t ≡ true)
      → (a2 : List T) (t3 : T) (b2 : List T) (x2 : A) → (a ++ b) ++ t ∷ [] ≡ a2 ++ (t3 ∷ b2) → g.whole a2 x2 → h.begun (t3 ∷ b2) → Ends g a2 (t3 ∷ b2) → either ext_q (given empty_q ext_p) t ≡ true
  long-extends_seam a [] z t true em w v en eb a2 t3 b2 x2 e w2 bg en2 = (let y = is_empty_q z.1 v in or_right (ext_q t) (given empty_q ext_p t) (rw (em, y) refl))
  long-extends_seam a [] z t false em w v en eb a2 t3 b2 x2 e w2 bg en2 =
      let e2 : (a ++ []) ++ t ∷ [] ≡ a ++ t ∷ [] = ap (λ (l : List T). l ++ t ∷ []) (append-nil a) in
      let st : Stuck g a (t ∷ []) = λ t4 r e4 c. (let x = left.extends a z.0 t4 w c in let i : t ≡ t4 = head_same t t4 [] r e4 in let y : ext_p t ≡ true = rw i x in cc) in
      let s : t ∷ [] ≡ t3 ∷ b2 = long-same g h first_p ext_p empty_p left ((a ++ []) ++ t ∷ []) a (t ∷ []) a2 t3 b2 z.0 x2 st e2 w e w2 en2 in
      or_left (ext_q t) (given empty_q ext_p t) (eb (rw s bg))
  long-extends_seam a (t5 ∷ b) z t m em w v en eb a2 t3 b2 x2 e w2 bg en2 =
      let e2 : (a ++ (t5 ∷ b)) ++ t ∷ [] ≡ a ++ ((t5 ∷ b) ++ t ∷ []) = append_assoc a (t5 ∷ b) (t ∷ []) in
      let st : Stuck g a (t5 ∷ (b ++ t ∷ [])) = λ t4 r e4 c. (let i : t5 ≡ t4 = head_same t5 t4 (b ++ t ∷ []) r e4 in en t5 b refl (rw i c)) in
      let s : t5 ∷ (b ++ t ∷ []) ≡ t3 ∷ b2 = long-same g h first_p ext_p empty_p left ((a ++ (t5 ∷ b)) ++ t ∷ []) a (t5 ∷ (b ++ t ∷ [])) a2 t3 b2 z.0 x2 st e2 w e w2 en2 in
      or_left (ext_q t) (given empty_q ext_p t) (eb (rw s bg))

  pub long-extends : (u : List T) (z : A × B) (t : T) → ((b : List T) → h.whole b z.1 → h.begun (b ++ t ∷ []) → ext_q t ≡ true) → (long g h).whole u z → (long g h).begun (u ++ t ∷ []) → either ext_q (given empty_q ext_p) t ≡ true
  unfolding LongWhole LongBegun
  long-extends u z t eb (a, b, e, w, v, en) (inl c) = long-extends_in a b z t w v en (rw e at c)
  long-extends u z t eb (a, b, e, w, v, en) (inr (a2, [], x2, e2, w2, bg, en2)) =
      let e3 : (a ++ b) ++ t ∷ [] ≡ a2 = ap (λ (l : List T). l ++ t ∷ []) (sym e) ∙ e2 ∙ append-nil a2 in
      long-extends_in a b z t w v en (rw e3 (left.is_begun a2 x2 w2))
  long-extends u z t eb (a, b, e, w, v, en) (inr (a2, t3 ∷ b2, x2, e2, w2, bg, en2)) =
      let e3 : (a ++ b) ++ t ∷ [] ≡ a2 ++ (t3 ∷ b2) = ap (λ (l : List T). l ++ t ∷ []) (sym e) ∙ e2 in
      long-extends_seam a b z t (ext_p t) refl w v en (eb b v) a2 t3 b2 x2 e3 w2 bg en2

module _ {T A B : Type 0} (g : Part T A) (h : Part T B) (first_p ext_p first_q ext_q : Class T) (empty_p empty_q : Bool)
    (left : Good g first_p ext_p empty_p) (right : Good h first_q ext_q empty_q) where
  long-closed : (u v : List T) → (long g h).begun (u ++ v) → (long g h).begun u
  unfolding LongWhole LongBegun
  long-closed u v (inl b) = inl (left.closed u v b)
  long-closed u v (inr (a, b, x, e, w, bg, en)) =
      elim (split_append u v a b e) [
        | inl (c, f) ↦ inl (left.closed u c (rw f at (left.is_begun a x w)))
        | inr (c, f, i) ↦ inr (a, c, x, f, w, right.closed c v (rw i at bg), ends_front g h first_p ext_p empty_p left a c v (rw i at en))
      ]

  long-is_begun : (u : List T) (z : A × B) → (long g h).whole u z → (long g h).begun u
  unfolding LongWhole LongBegun
  long-is_begun u z (a, b, e, w, v, en) = inr (a, b, z.0, e, w, right.is_begun b z.1 v, en)

  long-starts : (t : T) (u : List T) → (long g h).begun (t ∷ u) → either first_p (given empty_p first_q) t ≡ true
  unfolding LongWhole LongBegun
  long-starts t u (inl b) = or_left (first_p t) (given empty_p first_q t) (left.starts t u b)
  long-starts t u (inr ([], b, x, e, w, bg, en)) =
      let i = left.is_empty x w in
      let y : first_q t ≡ true = right.starts t u (rw e bg) in
      or_right (first_p t) (given empty_p first_q t) (rw (i, y) refl)
  long-starts t u (inr (t2 ∷ a, b, x, e, w, bg, en)) =
      let z : first_p t2 ≡ true = left.starts t2 a (left.is_begun (t2 ∷ a) x w) in
      let i : t ≡ t2 = head_same t t2 u (a ++ b) e in
      or_left (first_p t) (given empty_p first_q t) (rw i z)

  long-exact_by : (t : T) (m : Bool) → first_p t ≡ m → either first_p (given empty_p first_q) t ≡ true → (long g h).begun (t ∷ [])
  unfolding LongWhole LongBegun
  long-exact_by t true f e = inl (left.exact t f)
  long-exact_by t false f e = elim (or_cases (first_p t) (given empty_p first_q t) e) [
    | inl a ↦ inl (left.exact t a)
    | inr b ↦ (let x = left.empties ((and_parts empty_p (first_q t) b).0) in inr (
      [],
      t ∷ [],
      x.0,
      refl,
      x.1,
      right.exact t ((and_parts empty_p (first_q t) b).1),
      λ t2 r e2 c. (let i : t ≡ t2 = head_same t t2 [] r e2 in let z : first_p t ≡ true = rw i (left.starts t2 [] c) in cc),
    ))
  ]

  long-is_empty : (z : A × B) → (long g h).whole [] z → (empty_p && empty_q) ≡ true
  unfolding LongWhole LongBegun
  long-is_empty z (a, b, e, w, v, en) =
      let n = nil_from_append a b e in
      let x = left.is_empty z.0 (rw n.0 at w) in
      let y = right.is_empty z.1 (rw n.1 at v) in
      rw (x, y) refl

  long-empties : (empty_p && empty_q) ≡ true → (z : A × B) × (long g h).whole [] z
  unfolding LongWhole LongBegun
  long-empties e =
      let x = left.empties ((and_parts empty_p empty_q e).0) in
      let y = right.empties ((and_parts empty_p empty_q e).1) in
      ((x.0, y.0), ([], [], refl, x.1, y.1, λ t r e2 c. absurd cc))

  long-complete : (u r : List T) (z : A × B) → (long g h).whole u z → Stuck (long g h) u r → (long g h).read (u ++ r) ≡ Ok (z, r)
  unfolding LongWhole LongBegun
  long-complete u r z (a, b, e, w, v, en) st =
      let s1 : Stuck g a (b ++ r) = long-complete_first g h first_p ext_p empty_p left a b r en (λ t r2 er c. st t r2 er (inl (rw e c))) in
      let s2 : Stuck h b r = λ t r2 er c. st t r2 er (inr (a, b ++ t ∷ [], z.0, ap (λ (l : List T). l ++ t ∷ []) e ∙ append_assoc a b (t ∷ []), w, c, ends_push g h first_p ext_p empty_p left a b t r r2 s1 er)) in
      let e1 : g.read (u ++ r) ≡ Ok (z.0, b ++ r) = ap g.read (ap (λ (l : List T). l ++ r) e ∙ append_assoc a b r) ∙ left.complete a (b ++ r) z.0 w s1 in
      rw (e1, right.complete b r z.1 v s2) refl

  pub long-good : Good (long g h) (either first_p (given empty_p first_q)) (either ext_q (given empty_q ext_p)) (empty_p && empty_q)
  unfolding LongWhole LongBegun
  long-good = record {
    none = inl left.none;
    closed = long-closed;
    is_begun = long-is_begun;
    starts = long-starts;
    exact = λ t e. long-exact_by t (first_p t) refl e;
    is_empty = long-is_empty;
    empties = long-empties;
    extends = λ u z t. long-extends g h first_p ext_p ext_q empty_p empty_q left right.is_empty u z t (λ b v c. right.extends b z.1 t v c);
    judge = λ s. long-judge g h first_p ext_p empty_p left h.read s (g.read s) refl (left.judge s) (λ x r e. right.judge r);
    complete = long-complete;
  }

-- ---- where no token can go on with the first part and begin the second

module _ {T A B : Type 0} (g : Part T A) (h : Part T B) (first_p ext_p first_q ext_q : Class T) (empty_p empty_q : Bool)
    (left : Good g first_p ext_p empty_p) (right : Good h first_q ext_q empty_q) (off : Apart ext_p first_q) where
  ends_apart : (a b : List T) (x : A) → g.whole a x → h.begun b → Ends g a b
  ends_apart a b x w bg t r e c = off t (left.extends a x t w c) (right.starts t r (rw e at bg))

  seq-alike : Alike (long g h) (seq g h)
  unfolding LongWhole LongBegun SeqWhole SeqBegun
  seq-alike = record {
    begun = λ l c. elim c [ inl b ↦ inl b | inr (a, b, x, e, w, bg, en) ↦ inr (a, b, x, e, w, bg) ];
    begun_back = λ l c. elim c [ inl b ↦ inl b | inr (a, b, x, e, w, bg) ↦ inr (a, b, x, e, w, bg, ends_apart a b x w bg) ];
    whole = λ l z w. (w.0, w.1, w.2, w.3, w.4);
    whole_back = λ l z w. (w.0, w.1, w.2, w.3, w.4, ends_apart w.0 w.1 z.0 w.3 (right.is_begun w.1 z.1 w.4));
    read = λ s. refl;
  }

  pub seq-good : Good (seq g h) (either first_p (given empty_p first_q)) (either ext_q (given empty_q ext_p)) (empty_p && empty_q)
  seq-good = alike-good (long g h) (seq g h) seq-alike _ _ _ (long-good g h first_p ext_p first_q ext_q empty_p empty_q left right)
