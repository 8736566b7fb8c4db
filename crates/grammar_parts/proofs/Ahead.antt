-- The law of a choice that takes two tokens of foresight.
use Rattle.std.proofs.Common.{◌≡◌, inl, inr, Bool, true, false, cond, List, [], ◌∷◌, ◌++◌, Ok, Err, refl, ap, ◌∙◌}
use Rattle.std.specs.Prelude.{◌||◌, ◌&&◌, not}
use Rattle.std.proofs.lemmas.Bool.{and_parts, and_from, and_right, or_left, or_right, or_cases, false_from_ne_true}
use Rattle.grammar_parts.specs.Tokens.{Class, never, either, given, sees, sees_two, rest_of}
use Rattle.grammar_parts.specs.Readers.{Outcome}
use Rattle.grammar_parts.specs.Parts.{Part, one, OneWhole, OneBegun, mapped, MappedWhole, MappedBegun, seq, SeqWhole, SeqBegun, ahead, AheadWhole, AheadBegun}
use Rattle.grammar_parts.specs.Good.{Good, Judge, Stuck}
use Rattle.grammar_parts.proofs.Cuts.{head_same, tail_same}
use Rattle.grammar_parts.proofs.Alike.{renamed-good}
use Rattle.grammar_parts.proofs.SimpleParts.{one-good, mapped-good}
use Rattle.grammar_parts.proofs.Longest.{seq-good}

two_false : {T : Type 0} (c d : Class T) (u v : List T) → sees_two c d (u ++ v) ≡ false → sees_two c d u ≡ false
two_false c d [] v e = refl
two_false c d (a ∷ []) v e = refl
two_false c d (a ∷ b ∷ u) v e = e

first_of_two : {T : Type 0} (c d : Class T) (s : List T) (t : T) (r : List T) → sees_two c d s ≡ true → s ≡ t ∷ r → c t ≡ true
first_of_two c d [] t r two e = absurd cc
first_of_two c d (a ∷ []) t r two e = absurd cc
first_of_two c d (a ∷ b ∷ s) t r two e = (let h = head_same a t (b ∷ s) r e in rw (← h) ((and_parts (c a) (d b) two).0))

module _ {T A : Type 0} (c d : Class T) (g h : Part T A) (ext_p first_q ext_q : Class T)
    (left : Good g c ext_p false) (right : Good h first_q ext_q false)
    (begun_two : (t s : T) (u : List T) → g.begun (t ∷ s ∷ u) → (c t && d s) ≡ true)
    (two_begin : (t s : T) → (c t && d s) ≡ true → g.begun (t ∷ s ∷ []))
    (whole_two : (u : List T) (x : A) → g.whole u x → sees_two c d u ≡ true) where
  -- what begins with two such tokens is no beginning of the second part
  ahead-stuck_first : (s u r : List T) → sees_two c d s ≡ true → s ≡ u ++ r → Stuck g u r → Stuck (ahead c d first_q g h) u r
  unfolding AheadWhole AheadBegun
  ahead-stuck_first s u r two es st t r2 er (inl b) = st t r2 er b
  ahead-stuck_first s [] r two es st t r2 er (inr (f, b)) = st t r2 er (left.exact t (first_of_two c d s t r2 two (es ∙ er)))
  ahead-stuck_first s (a ∷ []) r two es st t r2 er (inr (f, b)) = (let e : s ≡ a ∷ t ∷ r2 = es ∙ ap (λ (l : List T). a ∷ l) er in let z : (c a && d t) ≡ true = rw e at two in cc)
  ahead-stuck_first s (a ∷ b2 ∷ u) r two es st t r2 er (inr (f, b)) = (let z : (c a && d b2) ≡ true = rw es at two in cc)

  ahead-judge_first : (s : List T) (o : Outcome T A) → sees_two c d s ≡ true → Judge g s o → Judge (ahead c d first_q g h) s o
  unfolding AheadWhole AheadBegun
  ahead-judge_first s (Ok x) two (u, e, w, st) = (u, e, inl w, ahead-stuck_first s u x.1 two e st)
  ahead-judge_first s (Err r) two (u, e, w, st) = (u, e, inl w, ahead-stuck_first s u r two e st)

  -- a token that begins only the first part, and no second token of it
  ahead-judge_only : (s : List T) → sees_two c d s ≡ false → sees c s ≡ true → sees first_q s ≡ false → Judge (ahead c d first_q g h) s (Err (rest_of s))
  unfolding AheadWhole AheadBegun
  ahead-judge_only [] two e f = absurd cc
  ahead-judge_only (t ∷ r) two e f = (
    t ∷ [],
    refl,
    inl (left.exact t e),
    λ t2 r2 er b. elim b [
      | inl bg ↦ (let z = begun_two t t2 [] bg in let y : (c t && d t2) ≡ false = rw er at two in cc)
      | inr (n, bh) ↦ (let z = right.starts t (t2 ∷ []) bh in cc)
    ],
  )

  ahead-stuck_second : (s u r : List T) → sees_two c d s ≡ false → (sees c s ≡ true → sees first_q s ≡ true) → s ≡ u ++ r → Stuck h u r → Stuck (ahead c d first_q g h) u r
  unfolding AheadWhole AheadBegun
  ahead-stuck_second s u r two k es st t r2 er (inr (f, b)) = st t r2 er b
  ahead-stuck_second s [] r two k es st t r2 er (inl b) = (let e : s ≡ t ∷ r2 = es ∙ er in let y : sees c s ≡ true = rw e (left.starts t [] b) in let z : first_q t ≡ true = rw e at (k y) in st t r2 er (right.exact t z))
  ahead-stuck_second s (a ∷ []) r two k es st t r2 er (inl b) = (let e : s ≡ a ∷ t ∷ r2 = es ∙ ap (λ (l : List T). a ∷ l) er in let z = begun_two a t [] b in let y : (c a && d t) ≡ false = rw e at two in cc)
  ahead-stuck_second s (a ∷ b2 ∷ u) r two k es st t r2 er (inl b) = (let z = begun_two a b2 (u ++ t ∷ []) b in let y : (c a && d b2) ≡ false = rw es at two in cc)

  ahead-judge_second : (s : List T) (o : Outcome T A) → sees_two c d s ≡ false → (sees c s ≡ true → sees first_q s ≡ true) → Judge h s o → Judge (ahead c d first_q g h) s o
  unfolding AheadWhole AheadBegun
  ahead-judge_second s (Ok x) two k (u, e, w, st) = (u, e, inr (two_false c d u x.1 (rw e at two), w), ahead-stuck_second s u x.1 two k e st)
  ahead-judge_second s (Err r) two k (u, e, w, st) = (u, e, inr (two_false c d u r (rw e at two), w), ahead-stuck_second s u r two k e st)

  ahead-judge_by : (s : List T) (b e f : Bool) → sees_two c d s ≡ b → sees c s ≡ e → sees first_q s ≡ f → Judge (ahead c d first_q g h) s (cond b (g.read s) (cond (e && not f) (Err (rest_of s)) (h.read s)))
  ahead-judge_by s true e f hb he hf = ahead-judge_first s (g.read s) hb (left.judge s)
  ahead-judge_by s false true true hb he hf = ahead-judge_second s (h.read s) hb (λ z. hf) (right.judge s)
  ahead-judge_by s false true false hb he hf = ahead-judge_only s hb he hf
  ahead-judge_by s false false f hb he hf = ahead-judge_second s (h.read s) hb (λ z. absurd cc) (right.judge s)

  ahead-closed : (u v : List T) → (ahead c d first_q g h).begun (u ++ v) → (ahead c d first_q g h).begun u
  unfolding AheadWhole AheadBegun
  ahead-closed u v (inl b) = inl (left.closed u v b)
  ahead-closed u v (inr (f, b)) = inr (two_false c d u v f, right.closed u v b)

  ahead-is_begun : (u : List T) (x : A) → (ahead c d first_q g h).whole u x → (ahead c d first_q g h).begun u
  unfolding AheadWhole AheadBegun
  ahead-is_begun u x (inl w) = inl (left.is_begun u x w)
  ahead-is_begun u x (inr (f, w)) = inr (f, right.is_begun u x w)

  ahead-starts : (t : T) (u : List T) → (ahead c d first_q g h).begun (t ∷ u) → either c first_q t ≡ true
  unfolding AheadWhole AheadBegun
  ahead-starts t u (inl b) = or_left (c t) (first_q t) (left.starts t u b)
  ahead-starts t u (inr (f, b)) = or_right (c t) (first_q t) (right.starts t u b)

  ahead-exact : (t : T) → either c first_q t ≡ true → (ahead c d first_q g h).begun (t ∷ [])
  unfolding AheadWhole AheadBegun
  ahead-exact t e = elim (or_cases (c t) (first_q t) e) [ inl a ↦ inl (left.exact t a) | inr b ↦ inr (refl, right.exact t b) ]

  ahead-is_empty : (x : A) → (ahead c d first_q g h).whole [] x → false ≡ true
  unfolding AheadWhole AheadBegun
  ahead-is_empty x (inl w) = left.is_empty x w
  ahead-is_empty x (inr (f, w)) = right.is_empty x w

  ahead-extends : (u : List T) (x : A) (t : T) → (ahead c d first_q g h).whole u x → (ahead c d first_q g h).begun (u ++ t ∷ []) → either ext_p (either ext_q d) t ≡ true
  unfolding AheadWhole AheadBegun
  ahead-extends u x t (inl w) (inl b) = or_left (ext_p t) (ext_q t || d t) (left.extends u x t w b)
  ahead-extends u x t (inl w) (inr (f, b)) = (let z = whole_two u x w in let y = two_false c d u (t ∷ []) f in absurd cc)
  ahead-extends [] x t (inr (f, w)) (inl b) = (let z = right.is_empty x w in absurd cc)
  ahead-extends (a ∷ []) x t (inr (f, w)) (inl b) = or_right (ext_p t) (ext_q t || d t) (or_right (ext_q t) (d t) ((and_parts (c a) (d t) (begun_two a t [] b)).1))
  ahead-extends (a ∷ a2 ∷ u) x t (inr (f, w)) (inl b) = (let z = begun_two a a2 (u ++ t ∷ []) b in absurd cc)
  ahead-extends u x t (inr (f, w)) (inr (f2, b)) = or_right (ext_p t) (ext_q t || d t) (or_left (ext_q t) (d t) (right.extends u x t w b))

  ahead-complete_first : (u r : List T) (x : A) → g.whole u x → Stuck g u r → (ahead c d first_q g h).read (u ++ r) ≡ Ok (x, r)
  ahead-complete_first [] r x w st = (let z = whole_two [] x w in absurd cc)
  ahead-complete_first (a ∷ []) r x w st = (let z = whole_two (a ∷ []) x w in absurd cc)
  ahead-complete_first (a ∷ b ∷ u) r x w st = (let z : (c a && d b) ≡ true = whole_two (a ∷ b ∷ u) x w in rw z (left.complete (a ∷ b ∷ u) r x w st))

  -- where the second part is read
  second_read : (s : List T) (o : Outcome T A) → sees_two c d s ≡ false → sees first_q s ≡ true → h.read s ≡ o → (ahead c d first_q g h).read s ≡ o
  second_read s o two f e = rw (two, f, and_right (sees c s) false refl) e

  ahead-two_at : (a : T) (u r : List T) → sees_two c d (a ∷ u) ≡ false → Stuck (ahead c d first_q g h) (a ∷ u) r → sees_two c d ((a ∷ u) ++ r) ≡ false
  unfolding AheadWhole AheadBegun
  ahead-two_at a [] [] f st = refl
  ahead-two_at a [] (t ∷ r) f st = false_from_ne_true (c a && d t) (λ z. st t r refl (inl (two_begin a t z)))
  ahead-two_at a (b ∷ u) r f st = f

  ahead-stuck_of : (a : T) (u r : List T) → sees_two c d (a ∷ u) ≡ false → Stuck (ahead c d first_q g h) (a ∷ u) r → Stuck h (a ∷ u) r
  unfolding AheadWhole AheadBegun
  ahead-stuck_of a [] r f st t r2 e b = st t r2 e (inr (false_from_ne_true (c a && d t) (λ z. st t r2 e (inl (two_begin a t z))), b))
  ahead-stuck_of a (b2 ∷ u) r f st t r2 e b = st t r2 e (inr (f, b))

  ahead-complete : (u r : List T) (x : A) → (ahead c d first_q g h).whole u x → Stuck (ahead c d first_q g h) u r → (ahead c d first_q g h).read (u ++ r) ≡ Ok (x, r)
  unfolding AheadWhole AheadBegun
  ahead-complete u r x (inl w) st = ahead-complete_first u r x w (λ t r2 e b. st t r2 e (inl b))
  ahead-complete [] r x (inr (f, w)) st = (let z = right.is_empty x w in absurd cc)
  ahead-complete (a ∷ u) r x (inr (f, w)) st =
      second_read ((a ∷ u) ++ r) (Ok (x, r)) (ahead-two_at a u r f st) (right.starts a u (right.is_begun (a ∷ u) x w)) (right.complete (a ∷ u) r x w (ahead-stuck_of a u r f st))

  pub ahead-good : Good (ahead c d first_q g h) (either c first_q) (either ext_p (either ext_q d)) false
  unfolding AheadWhole AheadBegun
  ahead-good = record {
    none = inl left.none;
    closed = ahead-closed;
    is_begun = ahead-is_begun;
    starts = ahead-starts;
    exact = ahead-exact;
    is_empty = ahead-is_empty;
    empties = λ e. absurd cc;
    extends = ahead-extends;
    judge = λ s. ahead-judge_by s (sees_two c d s) (sees c s) (sees first_q s) refl refl refl;
    complete = ahead-complete;
  }

-- ---- a first part that is a token and then what begins with a second token

or_false : (b : Bool) → (b || false) ≡ b
or_false true = refl
or_false false = refl

module _ {T A B : Type 0} (c d : Class T) (v : T × B → A) (n : Part T B) (ext : Class T) (second : Good n d ext false) where
  abbrev key : Part T A
  key = mapped v (seq (one c) n)

  key_begun_two : (t s : T) (u : List T) → key.begun (t ∷ s ∷ u) → (c t && d s) ≡ true
  unfolding MappedBegun SeqBegun OneWhole OneBegun
  key_begun_two t s u (inl (inl e)) = absurd cc
  key_begun_two t s u (inl (inr (x, e, h))) = (let f : s ∷ u ≡ [] = tail_same t x (s ∷ u) [] e in absurd cc)
  key_begun_two t s u (inr (a, b, x, e, (ea, h), bg)) =
      let whole : t ∷ s ∷ u ≡ x ∷ b = e ∙ ap (λ (l : List T). l ++ b) ea in
      let first : t ≡ x = head_same t x (s ∷ u) b whole in
      let others : s ∷ u ≡ b = tail_same t x (s ∷ u) b whole in
      and_from (c t) (d s) (rw first h) (second.starts s u (rw others bg))

  key_two_begin : (t s : T) → (c t && d s) ≡ true → key.begun (t ∷ s ∷ [])
  unfolding MappedBegun SeqBegun OneWhole
  key_two_begin t s e = (let z = and_parts (c t) (d s) e in inr (t ∷ [], s ∷ [], t, refl, (refl, z.0), second.exact s z.1))

  sees_by : (x : T) (b : List T) (y : B) → c x ≡ true → n.whole b y → sees_two c d (x ∷ b) ≡ true
  sees_by x [] y e w = (let z = second.is_empty y w in absurd cc)
  sees_by x (s ∷ b) y e w = and_from (c x) (d s) e (second.starts s b (second.is_begun (s ∷ b) y w))

  key_whole_two : (u : List T) (x : A) → key.whole u x → sees_two c d u ≡ true
  unfolding MappedWhole SeqWhole OneWhole
  key_whole_two u x (z, (a, b, e, (ea, h), w), q) =
      let f : u ≡ z.0 ∷ b = e ∙ ap (λ (l : List T). l ++ b) ea in
      rw f (sees_by z.0 b z.1 h w)

  key-good : Good key (either c (given false d)) (either ext (given false never)) false
  key-good = mapped-good v (seq (one c) n) _ _ _ (seq-good (one c) n c never d ext false false (one-good c) second (λ t p q. absurd cc))

  key_first : Good key c (either ext (given false never)) false
  key_first = renamed-good key (either c (given false d)) _ c _ false (λ t. (or_false (c t), λ e. e)) key-good

  pub ahead_key-good : (h : Part T A) (first_q ext_q : Class T) → Good h first_q ext_q false → Good (ahead c d first_q key h) (either c first_q) (either (either ext (given false never)) (either ext_q d)) false
  ahead_key-good h first_q ext_q right = ahead-good c d key h (either ext (given false never)) first_q ext_q key_first right key_begun_two key_two_begin key_whole_two
