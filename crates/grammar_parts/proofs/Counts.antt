-- A part at two levels: it has the same values at both, as far as they are nested no deeper than the lower one allows.
-- For other crates too.
use Rattle.std.proofs.Common.{◌≡◌, ◌≤◌, ◌+◌, ◌⊎◌, inl, inr, ℕ, zero, suc, max, Bool, true, false, List, [], ◌∷◌, length, Option, Some, None, Ok, Err, refl, sym, ap, ◌∙◌, arith}
use Rattle.std.specs.Prelude.{◌&&◌, not, if◌then◌else◌}
use Rattle.grammar_parts.specs.Tokens.{Class, never, sees, sees_two, rest_of}
use Rattle.grammar_parts.specs.Readers.{Reader, Outcome, and_then, taken, take_where, read_mapped, read_only, read_seq, read_alt, read_unless, read_ahead, read_times, read_many}
use Rattle.grammar_parts.proofs.Cuts.{ok_value, ok_rest}

-- `p` reads the part where at most `bound` forms may nest, `q` where as many or more may. `depth` is how deep a value is nested.
-- Before a token of `stop`, a form that `p` doesn't allow may begin.
pub record Counts {T A : Type 0} (bound : ℕ) (depth : A → ℕ) (p q : Reader T A) (stop : Class T) : Type 0 where
  pub within : (s : List T) (x : A) (r : List T) → p s ≡ Ok (x, r) → depth x ≤ bound
  pub narrows : (s : List T) (x : A) (r : List T) → q s ≡ Ok (x, r) → depth x ≤ bound → p s ≡ Ok (x, r)
  pub widens : (s : List T) (x : A) (r : List T) → p s ≡ Ok (x, r) → sees stop r ≡ false → q s ≡ Ok (x, r)

-- ---- what an outcome was made of

sees_never : {T : Type 0} (s : List T) → sees never s ≡ false
sees_never [] = refl
sees_never (t ∷ s) = refl

and_then_ok : {T A B : Type 0} (o : Outcome T A) (f : A → List T → Outcome T B) (y : B × List T) → and_then o f ≡ Ok y → (x : A × List T) × (o ≡ Ok x) × (f x.0 x.1 ≡ Ok y)
and_then_ok (Ok x) f y e = (x, refl, e)
and_then_ok (Err r) f y e = absurd cc

mapped_ok : {T A B : Type 0} (v : A → B) (p : Reader T A) (s : List T) (y : B) (r : List T) → read_mapped v p s ≡ Ok (y, r) → (x : A) × (p s ≡ Ok (x, r)) × (v x ≡ y)
mapped_ok v p s y r e =
    let h = and_then_ok (p s) (λ x r. Ok (v x, r)) (y, r) e in
    let left : h.0.1 ≡ r = ok_rest (v h.0.0) y h.0.1 r h.2 in
    (h.0.0, h.1 ∙ ap (λ q. Ok (h.0.0, q)) left, ok_value (v h.0.0) y h.0.1 r h.2)

mapped_done : {T A B : Type 0} (v : A → B) (p : Reader T A) (s : List T) (x : A) (r : List T) → p s ≡ Ok (x, r) → read_mapped v p s ≡ Ok (v x, r)
mapped_done v p s x r e = rw e refl

mapped_to : {T A B : Type 0} (v : A → B) (p : Reader T A) (s : List T) (x : A) (y : B) (r : List T) → p s ≡ Ok (x, r) → v x ≡ y → read_mapped v p s ≡ Ok (y, r)
mapped_to v p s x y r e f = mapped_done v p s x r e ∙ ap (λ z. Ok (z, r)) f

seq_ok : {T A B : Type 0} (p : Reader T A) (q : Reader T B) (s : List T) (z : A × B) (r : List T) → read_seq p q s ≡ Ok (z, r) → (m : List T) × (p s ≡ Ok (z.0, m)) × (q m ≡ Ok (z.1, r))
seq_ok p q s z r e =
    let h = and_then_ok (p s) (λ x r. and_then (q r) (λ y r2. Ok ((x, y), r2))) (z, r) e in
    let i = and_then_ok (q h.0.1) (λ y r2. Ok ((h.0.0, y), r2)) (z, r) h.2 in
    let x : _ × _ = (h.0.0, i.0.0) in
    let one : h.0.0 ≡ z.0 = ap (λ k. k.0) (ok_value x z i.0.1 r i.2) in
    let two : i.0.0 ≡ z.1 = ap (λ k. k.1) (ok_value x z i.0.1 r i.2) in
    let left : i.0.1 ≡ r = ok_rest x z i.0.1 r i.2 in
    (h.0.1, h.1 ∙ ap (λ x. Ok (x, h.0.1)) one, i.1 ∙ ap (λ x. Ok (x, i.0.1)) two ∙ ap (λ x. Ok (z.1, x)) left)

seq_done : {T A B : Type 0} (p : Reader T A) (q : Reader T B) (s m : List T) (z : A × B) (r : List T) → p s ≡ Ok (z.0, m) → q m ≡ Ok (z.1, r) → read_seq p q s ≡ Ok (z, r)
seq_done p q s m z r e f = rw (e, f) refl

-- ---- a choice by a test

choice_ok : {T A : Type 0} (b : Bool) (o u : Outcome T A) (y : A × List T) → (if b then o else u) ≡ Ok y → ((b ≡ true) × (o ≡ Ok y)) ⊎ ((b ≡ false) × (u ≡ Ok y))
choice_ok true o u y e = inl (refl, e)
choice_ok false o u y e = inr (refl, e)

first_done : {T A : Type 0} (b : Bool) (o u : Outcome T A) (y : A × List T) → b ≡ true → o ≡ Ok y → (if b then o else u) ≡ Ok y
first_done true o u y h e = e
first_done false o u y h e = absurd cc

second_done : {T A : Type 0} (b : Bool) (o u : Outcome T A) (y : A × List T) → b ≡ false → u ≡ Ok y → (if b then o else u) ≡ Ok y
second_done true o u y h e = absurd cc
second_done false o u y h e = e

true_or_false : (b : Bool) → (b ≡ true) ⊎ (b ≡ false)
true_or_false true = inl refl
true_or_false false = inr refl

not_both : {b : Bool} → b ≡ true → b ≡ false → ⊥
not_both h k = let e : true ≡ false = sym h ∙ k in cc

taken_ok : {T : Type 0} (b : Bool) (t : T) (s : List T) (y : T × List T) → taken b (t ∷ s) ≡ Ok y → (b ≡ true) × (t ≡ y.0)
taken_ok true t s y e = (refl, ok_value t y.0 s y.1 e)
taken_ok false t s y e = absurd cc

-- what is taken is the first token, and of the class
take_sees : {T : Type 0} (c : Class T) (s : List T) (x : T) (r : List T) → take_where c s ≡ Ok (x, r) → (t : T) × (u : List T) × (s ≡ t ∷ u) × (c t ≡ true)
take_sees c [] x r e = absurd cc
take_sees c (t ∷ s) x r e = (t, s, refl, (taken_ok (c t) t s (x, r) e).0)

shut : {T : Type 0} (k k2 : Class T) → ((s : List T) → sees k s ≡ true → sees k2 s ≡ true) → (s : List T) → sees k2 s ≡ false → sees k s ≡ false
shut k k2 grows s h = elim (true_or_false (sees k s)) [ inl e ↦ absurd (not_both (grows s e) h) | inr e ↦ e ]

unseen : {T : Type 0} (k stop : Class T) → ((t : T) → k t ≡ true → stop t ≡ false) → (s : List T) (x : T) (r : List T) → take_where k s ≡ Ok (x, r) → sees stop s ≡ false
unseen k stop off s x r e = let h = take_sees k s x r e in rw h.2 (off h.0 h.3)

module _ {T A : Type 0} {bound : ℕ} where
  -- a part without trees is the same at both
  pub plain_counts : (p : Reader T A) → Counts bound (λ x. 0) p p never
  plain_counts p = record {
    within = λ s x r e. omega arith;
    narrows = λ s x r e h. e;
    widens = λ s x r e h. e;
  }

  -- another way to say how deep a value is nested
  pub counts_as : {d : A → ℕ} {p q : Reader T A} {stop : Class T} (d2 : A → ℕ) → ((x : A) → d2 x ≡ d x) → Counts bound d p q stop → Counts bound d2 p q stop
  counts_as d2 same c = record {
    within = λ s x r e. (let h = c.within s x r e in let k = same x in omega arith);
    narrows = λ s x r e h. (let k = same x in c.narrows s x r e (omega arith));
    widens = c.widens;
  }

  pub only_counts : {d : A → ℕ} {p q : Reader T A} {stop : Class T} (b : Bool) → (b ≡ true → Counts bound d p q stop) → Counts bound d (read_only b p) (read_only b q) stop
  only_counts {p = p} {q = q} b c = record {
    within = λ s x r e. elim (choice_ok b (p s) (Err s) (x, r) e) [ inl h ↦ (c h.0).within s x r h.1 | inr h ↦ absurd (let f = h.1 in cc) ];
    narrows = λ s x r e n. elim (choice_ok b (q s) (Err s) (x, r) e) [ inl h ↦ first_done b (p s) (Err s) (x, r) h.0 ((c h.0).narrows s x r h.1 n) | inr h ↦ absurd (let f = h.1 in cc) ];
    widens = λ s x r e n. elim (choice_ok b (p s) (Err s) (x, r) e) [ inl h ↦ first_done b (q s) (Err s) (x, r) h.0 ((c h.0).widens s x r h.1 n) | inr h ↦ absurd (let f = h.1 in cc) ];
  }

  pub unless_counts : {d : A → ℕ} {p q : Reader T A} {stop : Class T} (c : Class T) → Counts bound d p q stop → Counts bound d (read_unless c p) (read_unless c q) stop
  unless_counts {p = p} {q = q} k c = record {
    within = λ s x r e. elim (choice_ok (sees k s) (Err s) (p s) (x, r) e) [ inl h ↦ absurd (let f = h.1 in cc) | inr h ↦ c.within s x r h.1 ];
    narrows = λ s x r e n. elim (choice_ok (sees k s) (Err s) (q s) (x, r) e) [ inl h ↦ absurd (let f = h.1 in cc) | inr h ↦ second_done (sees k s) (Err s) (p s) (x, r) h.0 (c.narrows s x r h.1 n) ];
    widens = λ s x r e n. elim (choice_ok (sees k s) (Err s) (p s) (x, r) e) [ inl h ↦ absurd (let f = h.1 in cc) | inr h ↦ second_done (sees k s) (Err s) (q s) (x, r) h.0 (c.widens s x r h.1 n) ];
  }

  -- a choice by a class that doesn't depend on what may nest
  pub alt_counts : {d : A → ℕ} {p q p2 q2 : Reader T A} {stop : Class T} (c : Class T) → Counts bound d p q stop → Counts bound d p2 q2 stop → Counts bound d (read_alt c p p2) (read_alt c q q2) stop
  alt_counts {p = p} {q = q} {p2 = p2} {q2 = q2} k a b = record {
    within = λ s x r e. elim (choice_ok (sees k s) (p s) (p2 s) (x, r) e) [ inl h ↦ a.within s x r h.1 | inr h ↦ b.within s x r h.1 ];
    narrows = λ s x r e n. elim (choice_ok (sees k s) (q s) (q2 s) (x, r) e) [ inl h ↦ first_done (sees k s) (p s) (p2 s) (x, r) h.0 (a.narrows s x r h.1 n) | inr h ↦ second_done (sees k s) (p s) (p2 s) (x, r) h.0 (b.narrows s x r h.1 n) ];
    widens = λ s x r e n. elim (choice_ok (sees k s) (p s) (p2 s) (x, r) e) [ inl h ↦ first_done (sees k s) (q s) (q2 s) (x, r) h.0 (a.widens s x r h.1 n) | inr h ↦ second_done (sees k s) (q s) (q2 s) (x, r) h.0 (b.widens s x r h.1 n) ];
  }

  -- A choice by classes that let more in where more may nest: each part begins with tokens of its own.
  pub either_counts : {d : A → ℕ} {p q p2 q2 : Reader T A} (c c2 : Class T) → ((s : List T) → sees c s ≡ true → sees c2 s ≡ true)
      → ((s : List T) (x : A) (r : List T) → p s ≡ Ok (x, r) → sees c s ≡ true) → ((s : List T) (x : A) (r : List T) → p2 s ≡ Ok (x, r) → sees c2 s ≡ false)
      → Counts bound d p q never → Counts bound d p2 q2 never → Counts bound d (read_alt c p p2) (read_alt c2 q q2) never
  either_counts {p = p} {q = q} {p2 = p2} {q2 = q2} k k2 grows left right a b = record {
    within = λ s x r e. elim (choice_ok (sees k s) (p s) (p2 s) (x, r) e) [ inl h ↦ a.within s x r h.1 | inr h ↦ b.within s x r h.1 ];
    narrows = λ s x r e n. elim (choice_ok (sees k2 s) (q s) (q2 s) (x, r) e) [
      | inl h ↦ (let f = a.narrows s x r h.1 n in first_done (sees k s) (p s) (p2 s) (x, r) (left s x r f) f)
      | inr h ↦ second_done (sees k s) (p s) (p2 s) (x, r) (shut k k2 grows s h.0) (b.narrows s x r h.1 n)
    ];
    widens = λ s x r e n. elim (choice_ok (sees k s) (p s) (p2 s) (x, r) e) [
      | inl h ↦ first_done (sees k2 s) (q s) (q2 s) (x, r) (grows s h.0) (a.widens s x r h.1 n)
      | inr h ↦ second_done (sees k2 s) (q s) (q2 s) (x, r) (right s x r h.1) (b.widens s x r h.1 n)
    ];
  }

-- how deep what may be absent is nested
abbrev pub of_any : {A : Type 0} → (A → ℕ) → Option A → ℕ
of_any depth None = 0
of_any depth (Some x) = depth x

module _ {T A B : Type 0} {bound : ℕ} where
  pub mapped_counts : {d : A → ℕ} {p q : Reader T A} {stop : Class T} (d2 : B → ℕ) (v : A → B) → ((x : A) → d2 (v x) ≡ d x) → Counts bound d p q stop → Counts bound d2 (read_mapped v p) (read_mapped v q) stop
  mapped_counts {p = p} {q = q} d2 v same c = record {
    within = λ s y r e. (let m = mapped_ok v p s y r e in let h = c.within s m.0 r m.1 in let k = same m.0 in let i = ap d2 m.2 in omega arith);
    narrows = λ s y r e n. (let m = mapped_ok v q s y r e in let k = same m.0 in let i = ap d2 m.2 in mapped_to v p s m.0 y r (c.narrows s m.0 r m.1 (omega arith)) m.2);
    widens = λ s y r e n. (let m = mapped_ok v p s y r e in mapped_to v q s m.0 y r (c.widens s m.0 r m.1 n) m.2);
  }

  -- a form that nests: one more than what it holds
  pub form_counts : {inner : ℕ} {d : A → ℕ} {p q : Reader T A} {stop : Class T} (room room2 : Bool) → (room ≡ true → room2 ≡ true) → (room ≡ false → bound ≡ 0) → (room ≡ true → bound ≡ suc inner)
      → (d2 : B → ℕ) (v : A → B) → ((x : A) → d2 (v x) ≡ d x + 1) → (room ≡ true → Counts inner d p q stop) → Counts bound d2 (read_only room (read_mapped v p)) (read_only room2 (read_mapped v q)) stop
  form_counts {p = p} {q = q} room room2 grows bare one_more d2 v same c = record {
    within = λ s y r e. elim (choice_ok room (read_mapped v p s) (Err s) (y, r) e) [
      | inl h ↦ (let m = mapped_ok v p s y r h.1 in let f = (c h.0).within s m.0 r m.1 in let k = same m.0 in let i = ap d2 m.2 in let o = one_more h.0 in omega arith)
      | inr h ↦ absurd (let f = h.1 in cc)
    ];
    narrows = λ s y r e n. elim (choice_ok room2 (read_mapped v q s) (Err s) (y, r) e) [
      | inl h ↦ (let m = mapped_ok v q s y r h.1 in let k = same m.0 in let i = ap d2 m.2 in elim (true_or_false room) [
        | inl o ↦ (let z = one_more o in first_done room (read_mapped v p s) (Err s) (y, r) o (mapped_to v p s m.0 y r ((c o).narrows s m.0 r m.1 (omega arith)) m.2))
        | inr o ↦ (let z = bare o in absurd (omega arith))
      ])
      | inr h ↦ absurd (let f = h.1 in cc)
    ];
    widens = λ s y r e n. elim (choice_ok room (read_mapped v p s) (Err s) (y, r) e) [
      | inl h ↦ (let m = mapped_ok v p s y r h.1 in first_done room2 (read_mapped v q s) (Err s) (y, r) (grows h.0) (mapped_to v q s m.0 y r ((c h.0).widens s m.0 r m.1 n) m.2))
      | inr h ↦ absurd (let f = h.1 in cc)
    ];
  }

  pub seq_counts : {d : A → ℕ} {d2 : B → ℕ} {p q : Reader T A} {p2 q2 : Reader T B} {stop : Class T} → Counts bound d p q never → Counts bound d2 p2 q2 stop
      → Counts bound (λ (z : A × B). max (d z.0) (d2 z.1)) (read_seq p p2) (read_seq q q2) stop
  seq_counts {p = p} {q = q} {p2 = p2} {q2 = q2} a b = record {
    within = λ s z r e. (let m = seq_ok p p2 s z r e in let h = a.within s z.0 m.0 m.1 in let k = b.within m.0 z.1 r m.2 in omega arith);
    narrows = λ s z r e n. (let m = seq_ok q q2 s z r e in seq_done p p2 s m.0 z r (a.narrows s z.0 m.0 m.1 (omega arith)) (b.narrows m.0 z.1 r m.2 (omega arith)));
    widens = λ s z r e n. (let m = seq_ok p p2 s z r e in seq_done q q2 s m.0 z r (a.widens s z.0 m.0 m.1 (sees_never m.0)) (b.widens m.0 z.1 r m.2 n));
  }

module _ {T A : Type 0} {bound : ℕ} where
  -- a part and then a token that begins no form where the part stops
  pub closed_counts : {d : A → ℕ} {p q : Reader T A} {stop : Class T} (c : Class T) → ((t : T) → c t ≡ true → stop t ≡ false) → Counts bound d p q stop
      → Counts bound (λ (z : A × T). max (d z.0) 0) (read_seq p (take_where c)) (read_seq q (take_where c)) never
  closed_counts {p = p} {q = q} {stop = stop} k off a = record {
    within = λ s z r e. (let m = seq_ok p (take_where k) s z r e in let h = a.within s z.0 m.0 m.1 in omega arith);
    narrows = λ s z r e n. (let m = seq_ok q (take_where k) s z r e in seq_done p (take_where k) s m.0 z r (a.narrows s z.0 m.0 m.1 (omega arith)) m.2);
    widens = λ s z r e n. (let m = seq_ok p (take_where k) s z r e in seq_done q (take_where k) s m.0 z r (a.widens s z.0 m.0 m.1 (unseen k stop off m.0 z.1 r m.2)) m.2);
  }

  -- nothing, whatever may stop it
  none_counts : (d : A → ℕ) → Counts bound (of_any d) (λ (s : List T). Ok (None, s)) (λ s. Ok (None, s)) never
  none_counts d = record {
    within = λ s x r e. (let i = ap (of_any d) (ok_value None x s r e) in omega arith);
    narrows = λ s x r e h. e;
    widens = λ s x r e h. e;
  }

  pub opt_counts : {d : A → ℕ} {p q : Reader T A} (c : Class T) → Counts bound d p q never
      → Counts bound (of_any d) (read_alt c (read_mapped (λ x. Some x) p) (λ s. Ok (None, s))) (read_alt c (read_mapped (λ x. Some x) q) (λ s. Ok (None, s))) never
  opt_counts {d = d} c a = alt_counts c (mapped_counts (of_any d) (λ x. Some x) (λ x. refl) a) (none_counts d)

-- ---- any number of times

module _ {T A : Type 0} (c : Class T) (p : Reader T A) where
  turn_ok : (n : ℕ) (s : List T) (ys : List A) (r : List T) → and_then (p s) (λ x m. and_then (read_times n c p m) (λ xs r2. Ok (x ∷ xs, r2))) ≡ Ok (ys, r)
      → (x : A) × (m : List T) × (xs : List A) × (p s ≡ Ok (x, m)) × (read_times n c p m ≡ Ok (xs, r)) × (x ∷ xs ≡ ys)
  turn_ok n s ys r e =
      let h = and_then_ok (p s) (λ x m. and_then (read_times n c p m) (λ xs r2. Ok (x ∷ xs, r2))) (ys, r) e in
      let i = and_then_ok (read_times n c p h.0.1) (λ xs r2. Ok (h.0.0 ∷ xs, r2)) (ys, r) h.2 in
      let left : i.0.1 ≡ r = ok_rest (h.0.0 ∷ i.0.0) ys i.0.1 r i.2 in
      (h.0.0, h.0.1, i.0.0, h.1, i.1 ∙ ap (λ q. Ok (i.0.0, q)) left, ok_value (h.0.0 ∷ i.0.0) ys i.0.1 r i.2)

  turn_done : (n : ℕ) (s m : List T) (x : A) (xs ys : List A) (r : List T) → p s ≡ Ok (x, m) → read_times n c p m ≡ Ok (xs, r) → x ∷ xs ≡ ys
      → and_then (p s) (λ x m. and_then (read_times n c p m) (λ xs r2. Ok (x ∷ xs, r2))) ≡ Ok (ys, r)
  turn_done n s m x xs ys r e f g = rw (e, f, g) refl

module _ {T A : Type 0} {bound : ℕ} {d : A → ℕ} {p q : Reader T A} (c : Class T) (ds : List A → ℕ) (none : ds [] ≡ 0) (more : (x : A) (xs : List A) → ds (x ∷ xs) ≡ max (d x) (ds xs)) (a : Counts bound d p q never) where
  times_within : (n : ℕ) (s : List T) (ys : List A) (r : List T) → read_times n c p s ≡ Ok (ys, r) → ds ys ≤ bound
  unfolding read_times
  times_within zero s ys r e = let i = ap ds (ok_value [] ys s r e) in omega arith
  times_within (suc n) s ys r e = elim (choice_ok (sees c s) (and_then (p s) (λ x m. and_then (read_times n c p m) (λ xs r2. Ok (x ∷ xs, r2)))) (Ok ([], s)) (ys, r) e) [
    | inl h ↦ (let t = turn_ok c p n s ys r h.1 in let i = ap ds t.5 in let j = more t.0 t.2 in let k = a.within s t.0 t.1 t.3 in let l = times_within n t.1 t.2 r t.4 in omega arith)
    | inr h ↦ (let i = ap ds (ok_value [] ys s r h.1) in omega arith)
  ]

  times_narrows : (n : ℕ) (s : List T) (ys : List A) (r : List T) → read_times n c q s ≡ Ok (ys, r) → ds ys ≤ bound → read_times n c p s ≡ Ok (ys, r)
  unfolding read_times
  times_narrows zero s ys r e h = e
  times_narrows (suc n) s ys r e b = elim (choice_ok (sees c s) (and_then (q s) (λ x m. and_then (read_times n c q m) (λ xs r2. Ok (x ∷ xs, r2)))) (Ok ([], s)) (ys, r) e) [
    | inl h ↦ (
        let t = turn_ok c q n s ys r h.1 in let i = ap ds t.5 in let j = more t.0 t.2 in
        let one = a.narrows s t.0 t.1 t.3 (omega arith) in
        let rest = times_narrows n t.1 t.2 r t.4 (omega arith) in
        first_done (sees c s) _ (Ok ([], s)) (ys, r) h.0 (turn_done c p n s t.1 t.0 t.2 ys r one rest t.5))
    | inr h ↦ second_done (sees c s) (and_then (p s) (λ x m. and_then (read_times n c p m) (λ xs r2. Ok (x ∷ xs, r2)))) (Ok ([], s)) (ys, r) h.0 h.1
  ]

  times_widens : (n : ℕ) (s : List T) (ys : List A) (r : List T) → read_times n c p s ≡ Ok (ys, r) → read_times n c q s ≡ Ok (ys, r)
  unfolding read_times
  times_widens zero s ys r e = e
  times_widens (suc n) s ys r e = elim (choice_ok (sees c s) (and_then (p s) (λ x m. and_then (read_times n c p m) (λ xs r2. Ok (x ∷ xs, r2)))) (Ok ([], s)) (ys, r) e) [
    | inl h ↦ (
        let t = turn_ok c p n s ys r h.1 in
        let one = a.widens s t.0 t.1 t.3 (sees_never t.1) in
        let rest = times_widens n t.1 t.2 r t.4 in
        first_done (sees c s) _ (Ok ([], s)) (ys, r) h.0 (turn_done c q n s t.1 t.0 t.2 ys r one rest t.5))
    | inr h ↦ second_done (sees c s) (and_then (q s) (λ x m. and_then (read_times n c q m) (λ xs r2. Ok (x ∷ xs, r2)))) (Ok ([], s)) (ys, r) h.0 h.1
  ]

  pub many_counts : Counts bound ds (read_many c p) (read_many c q) never
  unfolding read_many
  many_counts = record {
    within = λ s ys r e. times_within (length s) s ys r e;
    narrows = λ s ys r e h. times_narrows (length s) s ys r e h;
    widens = λ s ys r e h. times_widens (length s) s ys r e;
  }

-- ---- by two tokens of foresight

seen_off : (a b : Bool) → b ≡ true → a && not b ≡ false
seen_off true b e = rw e refl
seen_off false b e = refl

pub ahead_counts : {T A : Type 0} {bound : ℕ} {d : A → ℕ} {p q p2 q2 : Reader T A} (c k first first2 : Class T) → ((s : List T) → sees first s ≡ true → sees first2 s ≡ true) → ((s : List T) (x : A) (r : List T) → p2 s ≡ Ok (x, r) → sees first s ≡ true)
    → Counts bound d p q never → Counts bound d p2 q2 never → Counts bound d (read_ahead c k first p p2) (read_ahead c k first2 q q2) never
ahead_counts {p = p} {q = q} {p2 = p2} {q2 = q2} c k f f2 grows left a b = record {
  within = λ s x r e. elim (choice_ok (sees_two c k s) (p s) (if sees c s && not (sees f s) then Err (rest_of s) else p2 s) (x, r) e) [
    | inl h ↦ a.within s x r h.1
    | inr h ↦ elim (choice_ok (sees c s && not (sees f s)) (Err (rest_of s)) (p2 s) (x, r) h.1) [ inl i ↦ absurd (let g = i.1 in cc) | inr i ↦ b.within s x r i.1 ]
  ];
  narrows = λ s x r e n. elim (choice_ok (sees_two c k s) (q s) (if sees c s && not (sees f2 s) then Err (rest_of s) else q2 s) (x, r) e) [
    | inl h ↦ first_done (sees_two c k s) (p s) (if sees c s && not (sees f s) then Err (rest_of s) else p2 s) (x, r) h.0 (a.narrows s x r h.1 n)
    | inr h ↦ elim (choice_ok (sees c s && not (sees f2 s)) (Err (rest_of s)) (q2 s) (x, r) h.1) [
      | inl i ↦ absurd (let g = i.1 in cc)
      | inr i ↦ (
          let one = b.narrows s x r i.1 n in
          second_done (sees_two c k s) (p s) (if sees c s && not (sees f s) then Err (rest_of s) else p2 s) (x, r) h.0
          (second_done (sees c s && not (sees f s)) (Err (rest_of s)) (p2 s) (x, r) (seen_off (sees c s) (sees f s) (left s x r one)) one))
    ]
  ];
  widens = λ s x r e n. elim (choice_ok (sees_two c k s) (p s) (if sees c s && not (sees f s) then Err (rest_of s) else p2 s) (x, r) e) [
    | inl h ↦ first_done (sees_two c k s) (q s) (if sees c s && not (sees f2 s) then Err (rest_of s) else q2 s) (x, r) h.0 (a.widens s x r h.1 n)
    | inr h ↦ elim (choice_ok (sees c s && not (sees f s)) (Err (rest_of s)) (p2 s) (x, r) h.1) [
      | inl i ↦ absurd (let g = i.1 in cc)
      | inr i ↦ (
          let one = b.widens s x r i.1 n in
          second_done (sees_two c k s) (q s) (if sees c s && not (sees f2 s) then Err (rest_of s) else q2 s) (x, r) h.0
          (second_done (sees c s && not (sees f2 s)) (Err (rest_of s)) (q2 s) (x, r) (seen_off (sees c s) (sees f2 s) (grows s (left s x r i.1))) one))
    ]
  ];
}

-- nothing or a part, by a class that lets more in where more may nest; what stops it are the tokens that it lets in there
pub open_counts : {T A : Type 0} {bound : ℕ} {d : A → ℕ} {p q : Reader T A} (c c2 : Class T) → ((s : List T) → sees c s ≡ true → sees c2 s ≡ true) → ((s : List T) (x : A) (r : List T) → p s ≡ Ok (x, r) → sees c s ≡ true)
    → Counts bound d p q never → Counts bound (of_any d) (read_alt c (read_mapped (λ x. Some x) p) (λ s. Ok (None, s))) (read_alt c2 (read_mapped (λ x. Some x) q) (λ s. Ok (None, s))) c2
open_counts {T = T} {A = A} {bound = bound} {d = d} {p = p} {q = q} k k2 grows left a =
    let some : Counts bound (of_any d) (read_mapped (λ x. Some x) p) (read_mapped (λ x. Some x) q) never = mapped_counts (of_any d) (λ x. Some x) (λ x. refl) a in
    let none : List T → Outcome T (Option A) = λ s. Ok (None, s) in
    let v : A → Option A = λ x. Some x in
    record {
      within = λ s x r e. elim (choice_ok (sees k s) (read_mapped v p s) (none s) (x, r) e) [ inl h ↦ some.within s x r h.1 | inr h ↦ (let i = ap (of_any d) (ok_value None x s r h.1) in omega arith) ];
      narrows = λ s x r e n. elim (choice_ok (sees k2 s) (read_mapped v q s) (none s) (x, r) e) [
        | inl h ↦ (
            let f = some.narrows s x r h.1 n in
            let m = mapped_ok v p s x r f in
            first_done (sees k s) (read_mapped v p s) (none s) (x, r) (left s m.0 r m.1) f)
        | inr h ↦ second_done (sees k s) (read_mapped v p s) (none s) (x, r) (shut k k2 grows s h.0) h.1
      ];
      widens = λ s x r e n. elim (choice_ok (sees k s) (read_mapped v p s) (none s) (x, r) e) [
        | inl h ↦ first_done (sees k2 s) (read_mapped v q s) (none s) (x, r) (grows s h.0) (some.widens s x r h.1 (sees_never r))
        | inr h ↦ (let i = ok_rest None x s r h.1 in second_done (sees k2 s) (read_mapped v q s) (none s) (x, r) (rw i n) h.1)
      ];
    }
