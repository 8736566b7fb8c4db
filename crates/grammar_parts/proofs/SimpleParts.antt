-- The laws of one token, of nothing, of a part with another value, and of a part that is allowed or not.
use Rattle.std.proofs.Common.{◌≡◌, inl, inr, Bool, true, false, cond, List, [], ◌∷◌, ◌++◌, Ok, Err, refl, sym}
use Rattle.std.specs.Prelude.{not}
use Rattle.std.proofs.lemmas.Bool.{and_parts}
use Rattle.grammar_parts.specs.Tokens.{Class, never, given, without, sees}
use Rattle.grammar_parts.specs.Readers.{Outcome, and_then}
use Rattle.grammar_parts.specs.Parts.{Part, one, OneWhole, OneBegun, nothing, NothingWhole, NothingBegun, only, OnlyWhole, OnlyBegun, unless, UnlessWhole, UnlessBegun, mapped, MappedWhole, MappedBegun}
use Rattle.grammar_parts.specs.Good.{Good, Judge, Stuck}
use Rattle.grammar_parts.proofs.Cuts.{nil_from_append, head_same, tail_same}

-- ---- one token

one-closed : {T : Type 0} (c : Class T) (u v : List T) → (one c).begun (u ++ v) → (one c).begun u
unfolding OneBegun
one-closed c [] v h = inl refl
one-closed c (t ∷ u) v (inl e) = absurd cc
one-closed c (t ∷ u) v (inr (x, e, h)) =
    let tl : [] ≡ u ++ v = sym (tail_same t x (u ++ v) [] e) in
    let hd : t ≡ x = head_same t x (u ++ v) [] e in
    inr (x, rw ((nil_from_append u v tl).0, hd) refl, h)

one-starts : {T : Type 0} (c : Class T) (t : T) (u : List T) → (one c).begun (t ∷ u) → c t ≡ true
unfolding OneBegun
one-starts c t u (inl e) = absurd cc
one-starts c t u (inr (x, e, h)) = rw (head_same t x u [] e) h

one-stops : {T : Type 0} (c : Class T) (x t : T) → (one c).begun (x ∷ t ∷ []) → ⊥
unfolding OneBegun
one-stops c x t (inl e) = cc
one-stops c x t (inr (y, e, h)) = let f : t ∷ [] ≡ [] = tail_same x y (t ∷ []) [] e in cc

one-judge_by : {T : Type 0} (c : Class T) (t : T) (r : List T) (b : Bool) → c t ≡ b → Judge (one c) (t ∷ r) (cond b (Ok (t, r)) (Err (t ∷ r)))
unfolding OneWhole OneBegun
one-judge_by c t r true e = (t ∷ [], refl, (refl, e), λ t2 r2 e2 h. one-stops c t t2 h)
one-judge_by c t r false e = ([], refl, inl refl, λ t2 r2 e2 h. (let p = one-starts c t2 [] h in let q : t ≡ t2 = head_same t t2 r r2 e2 in let z : c t ≡ true = rw q p in cc))

one-judge : {T : Type 0} (c : Class T) (s : List T) → Judge (one c) s ((one c).read s)
unfolding OneWhole OneBegun
one-judge c [] = ([], refl, inl refl, λ t r2 e. absurd cc)
one-judge c (t ∷ r) = one-judge_by c t r (c t) refl

pub one-good : {T : Type 0} (c : Class T) → Good (one c) c never false
unfolding OneWhole OneBegun
one-good {T = T} c = record {
  none = inl refl;
  closed = one-closed c;
  is_begun = λ u x w. inr (x, w.0, w.1);
  starts = one-starts c;
  exact = λ t e. inr (t, refl, e);
  is_empty = λ x w. (let e = w.0 in absurd cc);
  empties = λ e. absurd cc;
  extends = λ u x t w h. (let g : (one c).begun ((x ∷ []) ++ t ∷ []) = rw w.0 at h in absurd (one-stops c x t g));
  judge = one-judge c;
  complete = λ u r x w st. (let e = w.0 in let h = w.1 in rw (e, h) refl);
}

-- ---- nothing

pub nothing-good : {T A : Type 0} (v : A) → Good {T = T} (nothing v) never never true
unfolding NothingWhole NothingBegun
nothing-good v = record {
  none = refl;
  closed = λ u w h. (nil_from_append u w (sym h)).0;
  is_begun = λ u x w. w.0;
  starts = λ t u h. absurd cc;
  exact = λ t e. absurd cc;
  is_empty = λ x w. refl;
  empties = λ e. (v, (refl, refl));
  extends = λ u x t w h. (let e = (nil_from_append u (t ∷ []) (sym h)).1 in absurd cc);
  judge = λ s. ([], refl, (refl, refl), λ t r2 e h. absurd cc);
  complete = λ u r x w st. (let e = w.0 in let h = w.1 in rw (e, h) refl);
}

-- ---- what is allowed

module _ {T A : Type 0} (g : Part T A) where
  stuck_nothing : (s : List T) → Stuck (only false g) [] s
  unfolding OnlyBegun
  stuck_nothing s t r2 e (inl n) = absurd cc
  stuck_nothing s t r2 e (inr (o, b)) = absurd cc

  stuck_allowed : (u r : List T) → Stuck g u r → Stuck (only true g) u r
  unfolding OnlyBegun
  stuck_allowed u r st t r2 e (inl n) = (let z = (nil_from_append u (t ∷ []) (sym n)).1 in cc)
  stuck_allowed u r st t r2 e (inr (o, b)) = st t r2 e b

  judge_allowed : (s : List T) (o : Outcome T A) → Judge g s o → Judge (only true g) s o
  unfolding OnlyWhole OnlyBegun
  judge_allowed s (Ok x) (u, e, w, st) = (u, e, (refl, w), stuck_allowed u x.1 st)
  judge_allowed s (Err r) (u, e, w, st) = (u, e, inr (refl, w), stuck_allowed u r st)

  -- a part that isn't allowed needs no law
  forbidden-good : (first ext : Class T) → Good (only false g) (given false first) ext false
  unfolding OnlyWhole OnlyBegun
  forbidden-good first ext = record {
    none = inl refl;
    closed = λ u v b. elim b [ inl e ↦ inl (nil_from_append u v (sym e)).0 | inr (o, c) ↦ absurd cc ];
    is_begun = λ u x w. (let e = w.0 in absurd cc);
    starts = λ t u b. elim b [ inl e ↦ absurd cc | inr (o, c) ↦ absurd cc ];
    exact = λ t e. absurd cc;
    is_empty = λ x w. (let e = w.0 in absurd cc);
    empties = λ e. absurd cc;
    extends = λ u x t w h. (let e = w.0 in absurd cc);
    judge = λ s. ([], refl, inl refl, stuck_nothing s);
    complete = λ u r x w st. (let e = w.0 in absurd cc);
  }

  allowed-good : (first ext : Class T) → Good g first ext false → Good (only true g) (given true first) ext false
  unfolding OnlyWhole OnlyBegun
  allowed-good first ext good = record {
    none = inl refl;
    closed = λ u v b. elim b [ inl e ↦ inl (nil_from_append u v (sym e)).0 | inr (o, c) ↦ inr (o, good.closed u v c) ];
    is_begun = λ u x w. inr (w.0, good.is_begun u x w.1);
    starts = λ t u b. elim b [ inl e ↦ absurd cc | inr (o, c) ↦ good.starts t u c ];
    exact = λ t e. inr (refl, good.exact t e);
    is_empty = λ x w. good.is_empty x w.1;
    empties = λ e. absurd cc;
    extends = λ u x t w b. elim b [ inl e ↦ (let z = (nil_from_append u (t ∷ []) (sym e)).1 in absurd cc) | inr (o, c) ↦ good.extends u x t w.1 c ];
    judge = λ s. judge_allowed s (g.read s) (good.judge s);
    complete = λ u r x w st. good.complete u r x w.1 (λ t r2 e v. st t r2 e (inr (refl, v)));
  }

  pub only-good : (b : Bool) (first ext : Class T) → (b ≡ true → Good g first ext false) → Good (only b g) (given b first) ext false
  only-good true first ext good = allowed-good first ext (good refl)
  only-good false first ext good = forbidden-good first ext

-- ---- what begins with no token of a class

not_is : (b : Bool) → not b ≡ true → b ≡ false
not_is true e = sym e
not_is false e = refl

module _ {T A : Type 0} (c : Class T) (g : Part T A) (first ext : Class T) (good : Good g first ext false) where
  unless_false : (u v : List T) → sees c (u ++ v) ≡ false → sees c u ≡ false
  unless_false [] v e = refl
  unless_false (t ∷ u) v e = e

  unless-judge_read : (s : List T) (o : Outcome T A) → sees c s ≡ false → Judge g s o → Judge (unless c g) s o
  unfolding UnlessWhole UnlessBegun
  unless-judge_read s (Ok x) f (u, e, w, st) = (u, e, (unless_false u x.1 (rw e at f), w), λ t r2 er b. st t r2 er b.1)
  unless-judge_read s (Err r) f (u, e, w, st) = (u, e, (unless_false u r (rw e at f), w), λ t r2 er b. st t r2 er b.1)

  unless-judge_by : (s : List T) (b : Bool) → sees c s ≡ b → Judge (unless c g) s (cond b (Err s) (g.read s))
  unfolding UnlessWhole UnlessBegun
  unless-judge_by s true e = ([], refl, (refl, good.none), λ t r2 er b. (let n : c t ≡ false = b.0 in let y : c t ≡ true = rw er at e in cc))
  unless-judge_by s false e = unless-judge_read s (g.read s) e (good.judge s)

  unless-complete : (u r : List T) (x : A) → (unless c g).whole u x → Stuck (unless c g) u r → (unless c g).read (u ++ r) ≡ Ok (x, r)
  unfolding UnlessWhole UnlessBegun
  unless-complete [] r x (f, w) st = (let z = good.is_empty x w in absurd cc)
  unless-complete (a ∷ u) r x (f, w) st = rw f (good.complete (a ∷ u) r x w (λ t r2 er b. st t r2 er (f, b)))

  pub unless-good : Good (unless c g) (without first c) ext false
  unfolding UnlessWhole UnlessBegun
  unless-good = record {
    none = (refl, good.none);
    closed = λ u v b. (unless_false u v b.0, good.closed u v b.1);
    is_begun = λ u x w. (w.0, good.is_begun u x w.1);
    starts = λ t u b. (let f : c t ≡ false = b.0 in let e = good.starts t u b.1 in rw (f, e) refl);
    exact = λ t e. ((let z = and_parts (first t) _ e in not_is (c t) z.1), good.exact t (and_parts (first t) _ e).0);
    is_empty = λ x w. good.is_empty x w.1;
    empties = λ e. absurd cc;
    extends = λ u x t w b. good.extends u x t w.1 b.1;
    judge = λ s. unless-judge_by s (sees c s) refl;
    complete = unless-complete;
  }

-- ---- another value

mapped-judge_by : {T A B : Type 0} (f : A → B) (g : Part T A) (s : List T) (o : Outcome T A) → Judge g s o → Judge (mapped f g) s (and_then o (λ x r. Ok (f x, r)))
unfolding MappedWhole MappedBegun
mapped-judge_by f g s (Ok x) (u, e, w, st) = (u, e, (x.0, w, refl), st)
mapped-judge_by f g s (Err r) (u, e, w, st) = (u, e, w, st)

pub mapped-good : {T A B : Type 0} (f : A → B) (g : Part T A) (first ext : Class T) (empty : Bool) → Good g first ext empty → Good (mapped f g) first ext empty
unfolding MappedWhole MappedBegun
mapped-good f g first ext empty good = record {
  none = good.none;
  closed = good.closed;
  is_begun = λ u y w. good.is_begun u w.0 w.1;
  starts = good.starts;
  exact = good.exact;
  is_empty = λ y w. good.is_empty w.0 w.1;
  empties = λ e. (let x = good.empties e in (f x.0, (x.0, x.1, refl)));
  extends = λ u y t w h. good.extends u w.0 t w.1 h;
  judge = λ s. mapped-judge_by f g s (g.read s) (good.judge s);
  complete = λ u r y w st. (let e = w.2 in rw (good.complete u r w.0 w.1 st, e) refl);
}
