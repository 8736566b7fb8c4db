-- The law of a choice.
use Rattle.std.proofs.Common.{◌≡◌, inl, inr, Bool, true, false, cond, List, [], ◌∷◌, ◌++◌, Ok, Err, refl}
use Rattle.std.specs.Prelude.{◌||◌}
use Rattle.std.proofs.lemmas.Bool.{or_left, or_right, or_cases, false_from_ne_true}
use Rattle.grammar_parts.specs.Tokens.{Class, either, given, sees}
use Rattle.grammar_parts.specs.Readers.{Outcome}
use Rattle.grammar_parts.specs.Parts.{Part, alt, AltWhole, AltBegun}
use Rattle.grammar_parts.specs.Good.{Good, Judge, Stuck, Apart}

-- the first token of what is there, seen from a beginning of it
sees_head : {T : Type 0} (c : Class T) (u r r2 : List T) (t : T) → r ≡ t ∷ r2 → ((x : T) (v : List T) → u ++ t ∷ [] ≡ x ∷ v → c x ≡ true) → sees c (u ++ r) ≡ true
sees_head c [] r r2 t e h = let p = h t [] refl in rw (e, p) refl
sees_head c (x ∷ u) r r2 t e h = h x (u ++ t ∷ []) refl

sees_off : {T : Type 0} (c d : Class T) → Apart c d → (s : List T) → sees c s ≡ true → sees d s ≡ true → ⊥
sees_off c d a [] p q = cc
sees_off c d a (t ∷ s) p q = a t p q

sees_begun : {T A : Type 0} (g : Part T A) (c : Class T) → ((t : T) (u : List T) → g.begun (t ∷ u) → c t ≡ true) → (s u r r2 : List T) (t : T) → s ≡ u ++ r → r ≡ t ∷ r2 → g.begun (u ++ t ∷ []) → sees c s ≡ true
sees_begun g c starts s u r r2 t es er h = rw es (sees_head c u r r2 t er (λ x v e. starts x v (rw e at h)))

module _ {T A : Type 0} (g h : Part T A) (first_p ext_p first_q ext_q : Class T) (empty : Bool)
    (left : Good g first_p ext_p false) (right : Good h first_q ext_q empty) (off : Apart first_p first_q) where
  alt-judge_left : (s : List T) (o : Outcome T A) → sees first_p s ≡ true → Judge g s o → Judge (alt first_p g h) s o
  unfolding AltWhole AltBegun
  alt-judge_left s (Ok x) e (u, eu, w, st) = (u, eu, inl w, λ t r2 er b. elim b [ inl bg ↦ st t r2 er bg | inr bh ↦ sees_off first_p first_q off s e (sees_begun h first_q right.starts s u x.1 r2 t eu er bh) ])
  alt-judge_left s (Err r) e (u, eu, w, st) = (u, eu, inl w, λ t r2 er b. elim b [ inl bg ↦ st t r2 er bg | inr bh ↦ sees_off first_p first_q off s e (sees_begun h first_q right.starts s u r r2 t eu er bh) ])

  alt-judge_right : (s : List T) (o : Outcome T A) → sees first_p s ≡ false → Judge h s o → Judge (alt first_p g h) s o
  unfolding AltWhole AltBegun
  alt-judge_right s (Ok x) e (u, eu, w, st) = (u, eu, inr w, λ t r2 er b. elim b [ inl bg ↦ (let z = sees_begun g first_p left.starts s u x.1 r2 t eu er bg in cc) | inr bh ↦ st t r2 er bh ])
  alt-judge_right s (Err r) e (u, eu, w, st) = (u, eu, inr w, λ t r2 er b. elim b [ inl bg ↦ (let z = sees_begun g first_p left.starts s u r r2 t eu er bg in cc) | inr bh ↦ st t r2 er bh ])

  alt-judge_by : (s : List T) (b : Bool) → sees first_p s ≡ b → Judge (alt first_p g h) s (cond b (g.read s) (h.read s))
  alt-judge_by s true e = alt-judge_left s (g.read s) e (left.judge s)
  alt-judge_by s false e = alt-judge_right s (h.read s) e (right.judge s)

  alt-closed : (u v : List T) → (alt first_p g h).begun (u ++ v) → (alt first_p g h).begun u
  unfolding AltWhole AltBegun
  alt-closed u v (inl b) = inl (left.closed u v b)
  alt-closed u v (inr b) = inr (right.closed u v b)

  alt-is_begun : (u : List T) (x : A) → (alt first_p g h).whole u x → (alt first_p g h).begun u
  unfolding AltWhole AltBegun
  alt-is_begun u x (inl w) = inl (left.is_begun u x w)
  alt-is_begun u x (inr w) = inr (right.is_begun u x w)

  alt-starts : (t : T) (u : List T) → (alt first_p g h).begun (t ∷ u) → either first_p first_q t ≡ true
  unfolding AltWhole AltBegun
  alt-starts t u (inl b) = or_left (first_p t) (first_q t) (left.starts t u b)
  alt-starts t u (inr b) = or_right (first_p t) (first_q t) (right.starts t u b)

  alt-is_empty : (x : A) → (alt first_p g h).whole [] x → empty ≡ true
  unfolding AltWhole AltBegun
  alt-is_empty x (inl w) = (let e = left.is_empty x w in absurd cc)
  alt-is_empty x (inr w) = right.is_empty x w

  alt-exact : (t : T) → either first_p first_q t ≡ true → (alt first_p g h).begun (t ∷ [])
  unfolding AltWhole AltBegun
  alt-exact t e = elim (or_cases (first_p t) (first_q t) e) [ inl a ↦ inl (left.exact t a) | inr b ↦ inr (right.exact t b) ]

  alt-empties : empty ≡ true → (x : A) × (alt first_p g h).whole [] x
  unfolding AltWhole AltBegun
  alt-empties e = (let x = right.empties e in (x.0, inr x.1))

  alt-extends_left : (u : List T) (x : A) (t : T) → g.whole u x → h.begun (u ++ t ∷ []) → ⊥
  alt-extends_left [] x t w b = (let e = left.is_empty x w in cc)
  alt-extends_left (s ∷ u) x t w b = off s (left.starts s u (left.is_begun (s ∷ u) x w)) (right.starts s (u ++ t ∷ []) b)

  alt-extends_right : (u : List T) (x : A) (t : T) → h.whole u x → g.begun (u ++ t ∷ []) → given empty first_p t ≡ true
  alt-extends_right [] x t w b = (let e = right.is_empty x w in let f = left.starts t [] b in rw (e, f) refl)
  alt-extends_right (s ∷ u) x t w b = absurd (off s (left.starts s (u ++ t ∷ []) b) (right.starts s u (right.is_begun (s ∷ u) x w)))

  alt-extends : (u : List T) (x : A) (t : T) → (alt first_p g h).whole u x → (alt first_p g h).begun (u ++ t ∷ []) → either (either ext_p ext_q) (given empty first_p) t ≡ true
  unfolding AltWhole AltBegun
  alt-extends u x t (inl w) (inl b) = or_left (ext_p t || ext_q t) (given empty first_p t) (or_left (ext_p t) (ext_q t) (left.extends u x t w b))
  alt-extends u x t (inl w) (inr b) = absurd (alt-extends_left u x t w b)
  alt-extends u x t (inr w) (inl b) = or_right (ext_p t || ext_q t) (given empty first_p t) (alt-extends_right u x t w b)
  alt-extends u x t (inr w) (inr b) = or_left (ext_p t || ext_q t) (given empty first_p t) (or_right (ext_p t) (ext_q t) (right.extends u x t w b))

  alt-complete_left : (u r : List T) (x : A) → g.whole u x → Stuck g u r → (alt first_p g h).read (u ++ r) ≡ Ok (x, r)
  alt-complete_left [] r x w st = (let e = left.is_empty x w in absurd cc)
  alt-complete_left (t ∷ u) r x w st = (let e = left.starts t u (left.is_begun (t ∷ u) x w) in rw e (left.complete (t ∷ u) r x w st))

  alt-complete_none : (r : List T) (x : A) → h.whole [] x → ((t : T) (r2 : List T) → r ≡ t ∷ r2 → first_p t ≡ true → ⊥) → Stuck h [] r → (alt first_p g h).read r ≡ Ok (x, r)
  alt-complete_none [] x w off_p st = right.complete [] [] x w st
  alt-complete_none (t ∷ r) x w off_p st = (let e : first_p t ≡ false = false_from_ne_true (first_p t) (off_p t r refl) in rw e (right.complete [] (t ∷ r) x w st))

  alt-complete_right : (u r : List T) (x : A) → h.whole u x → Stuck g u r → Stuck h u r → (alt first_p g h).read (u ++ r) ≡ Ok (x, r)
  alt-complete_right [] r x w sg sh = alt-complete_none r x w (λ t r2 e f. sg t r2 e (left.exact t f)) sh
  alt-complete_right (t ∷ u) r x w sg sh =
      let b = right.starts t u (right.is_begun (t ∷ u) x w) in
      let e : first_p t ≡ false = false_from_ne_true (first_p t) (λ f. off t f b) in
      rw e (right.complete (t ∷ u) r x w sh)

  alt-complete : (u r : List T) (x : A) → (alt first_p g h).whole u x → Stuck (alt first_p g h) u r → (alt first_p g h).read (u ++ r) ≡ Ok (x, r)
  unfolding AltWhole AltBegun
  alt-complete u r x (inl w) st = alt-complete_left u r x w (λ t r2 e b. st t r2 e (inl b))
  alt-complete u r x (inr w) st = alt-complete_right u r x w (λ t r2 e b. st t r2 e (inl b)) (λ t r2 e b. st t r2 e (inr b))

  pub alt-good : Good (alt first_p g h) (either first_p first_q) (either (either ext_p ext_q) (given empty first_p)) empty
  unfolding AltWhole AltBegun
  alt-good = record {
    none = inl left.none;
    closed = alt-closed;
    is_begun = alt-is_begun;
    starts = alt-starts;
    exact = alt-exact;
    is_empty = alt-is_empty;
    empties = alt-empties;
    extends = alt-extends;
    judge = λ s. alt-judge_by s (sees first_p s) refl;
    complete = alt-complete;
  }
