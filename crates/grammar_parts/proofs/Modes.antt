-- The laws of the ways to combine parts, with sets of kinds that depend on the mode, and with tests that go over all modes and kinds.
-- For other crates too.
use Rattle.std.proofs.Common.{◌≡◌, ◌≤◌, ℕ, suc, Bool, true, false, Some, None, refl, sym}
use Rattle.std.specs.Prelude.{◌&&◌, not}
use Rattle.std.proofs.lemmas.Bool.{and_parts}
use Rattle.grammar_parts.specs.Tokens.{Class, never, either, given, without, over}
use Rattle.grammar_parts.specs.Parts.{Part, one, nothing, only, unless, mapped, seq, long, alt, opt, ahead, many, many_long}
use Rattle.grammar_parts.specs.Levels.{Mode}
use Rattle.grammar_parts.specs.Good.{Good, Apart}
use Rattle.grammar_parts.proofs.Alike.{renamed-good}
use Rattle.grammar_parts.proofs.SimpleParts.{one-good, nothing-good, only-good, unless-good, mapped-good}
use Rattle.grammar_parts.proofs.Choice.{alt-good}
use Rattle.grammar_parts.proofs.Longest.{long-good, seq-good}
use Rattle.grammar_parts.proofs.Repeated.{many_long-good, many-good}
use Rattle.grammar_parts.proofs.Ahead.{ahead_key-good}
use Rattle.grammar_parts.proofs.Depth.{Same, itself-same, mapped-same, only-same, unless-same, alt-same, seq-same, behind-same, long-same, many-same, many_long-same, ahead-same}
use Rattle.grammar_parts.proofs.AllKinds.{Kinds, each_of}

-- what the tokens of a language are: the kind of each, and all kinds
pub record Language (T K : Type 0) : Type 0 where
  pub kind : T → K
  pub kinds : Kinds K

-- a set of kinds at each mode
abbrev pub Set : Type 0 → Type 0
Set K = Mode → Class K

-- ---- tests at each mode and kind

abbrev each_bool : (Bool → Bool) → Bool
each_bool f = f true && f false

abbrev pub each : {T K : Type 0} → Language T K → (Mode → K → Bool) → Bool
each S f = each_bool (λ w. each_bool (λ r. each_bool (λ i. each_of (f (record { wide = w; room = r; room_in = i })) S.kinds.all)))

bool_at : (f : Bool → Bool) → each_bool f ≡ true → (b : Bool) → f b ≡ true
bool_at f e true = (and_parts (f true) (f false) e).0
bool_at f e false = (and_parts (f true) (f false) e).1

pub each_at : {T K : Type 0} (S : Language T K) (f : Mode → K → Bool) → each S f ≡ true → (m : Mode) (k : K) → f m k ≡ true
each_at S f e m k =
    let r : Bool → Bool = λ w. each_bool (λ r. each_bool (λ i. each_of (f (record { wide = w; room = r; room_in = i })) S.kinds.all)) in
    let s : Bool → Bool = λ r. each_bool (λ i. each_of (f (record { wide = m.wide; room = r; room_in = i })) S.kinds.all) in
    let t : Bool → Bool = λ i. each_of (f (record { wide = m.wide; room = m.room; room_in = i })) S.kinds.all in
    S.kinds.each (f m) (bool_at t (bool_at s (bool_at r e m.wide) m.room) m.room_in) k

-- whether no kind is in both sets, at any mode
abbrev pub are_apart : {T K : Type 0} → Language T K → Set K → Set K → Bool
are_apart S c d = each S (λ m k. not (c m k && d m k))

neither : (a b : Bool) → not (a && b) ≡ true → a ≡ true → b ≡ true → ⊥
neither true true e p q = cc
neither true false e p q = cc
neither false b e p q = cc

pub apart_at : {T K : Type 0} (S : Language T K) (c d : Set K) → are_apart S c d ≡ true → (m : Mode) → Apart (over S.kind (c m)) (over S.kind (d m))
apart_at S c d e m t p q = neither (c m (S.kind t)) (d m (S.kind t)) (each_at S (λ m k. not (c m k && d m k)) e m (S.kind t)) p q

abbrev same : Bool → Bool → Bool
same true b = b
same false b = not b

abbrev pub implies : Bool → Bool → Bool
implies true b = b
implies false b = true

-- whether the first sets are the same, and the first of the others is within the second
abbrev pub fits : {T K : Type 0} → Language T K → Set K → Set K → Set K → Set K → Bool
fits S f e f2 e2 = each S (λ m k. same (f m k) (f2 m k) && implies (e m k) (e2 m k))

same_is : (a b : Bool) → same a b ≡ true → a ≡ b
same_is true b e = sym e
same_is false true e = absurd cc
same_is false false e = refl

pub implied : (a b : Bool) → implies a b ≡ true → a ≡ true → b ≡ true
implied true b e f = e
implied false b e f = absurd cc

fits_at : {T K : Type 0} (S : Language T K) (m : Mode) (f e f2 e2 : Set K) → fits S f e f2 e2 ≡ true → (k : K) → (f m k ≡ f2 m k) × (e m k ≡ true → e2 m k ≡ true)
fits_at S m f e f2 e2 h k =
    let z = and_parts (same (f m k) (f2 m k)) (implies (e m k) (e2 m k)) (each_at S (λ m k. same (f m k) (f2 m k) && implies (e m k) (e2 m k)) h m k) in
    (same_is (f m k) (f2 m k) z.0, implied (e m k) (e2 m k) z.1)

-- ---- a part at a mode

-- a mode that differs in whether a form may nest inside one that nests here
abbrev pub other : Mode → Bool → Mode
other m r = record { wide = m.wide; room = m.room; room_in = r }

-- The part `g` is read as its laws say, with the first tokens of `f`, where only those of `e` go on with a whole one.
-- On lists of at most `k` tokens it is the same as `g2`, which is made in the same way at the mode `other m r`, from parts of another level.
pub record At {T K A : Type 0} (S : Language T K) (m : Mode) (r : Bool) (k : ℕ) (g g2 : Part T A) (f e : Set K) (empty : Bool) : Type 0 where
  pub good : Good g (over S.kind (f m)) (over S.kind (e m)) empty
  pub same : Same k g g2

module _ {T K : Type 0} {S : Language T K} {m : Mode} {r : Bool} {k : ℕ} where
  -- sets of kinds by other names
  pub named : {A : Type 0} {g g2 : Part T A} {f e : Set K} {b : Bool} (f2 e2 : Set K) → At S m r k g g2 f e b → fits S f e f2 e2 ≡ true → At S m r k g g2 f2 e2 b
  named {g = g} {f = f} {e = e} {b = b} f2 e2 a h = record {
    good = renamed-good g _ _ _ _ b (λ t. fits_at S m f e f2 e2 h (S.kind t)) a.good;
    same = a.same;
  }

  -- one token of a class that may depend on whether the wider forms are taken
  pub one_at : (c : Bool → Class K) → At S m r k (one (over S.kind (c m.wide))) (one (over S.kind (c m.wide))) (λ m. c m.wide) (λ m. never) false
  one_at c = record { good = one-good (over S.kind (c m.wide)); same = itself-same k _ }

  pub nothing_at : {A : Type 0} (v : A) → At S m r k (nothing v) (nothing v) (λ m. never) (λ m. never) true
  nothing_at v = record { good = nothing-good v; same = itself-same k _ }

  -- a part that is allowed by a flag of the mode
  pub only_at : {A : Type 0} {g g2 : Part T A} {f e : Set K} (b : Mode → Bool) → (b m ≡ true → At S m r k g g2 f e false) → At S m r k (only (b m) g) (only (b m) g2) (λ m. given (b m) (f m)) e false
  only_at {g = g} {g2 = g2} {f = f} {e = e} b a = record {
    good = only-good g (b m) (over S.kind (f m)) (over S.kind (e m)) (λ o. (a o).good);
    same = only-same k (b m) g g2 (λ o. (a o).same);
  }

  pub unless_at : {A : Type 0} {g g2 : Part T A} {f e : Set K} (c : Class K) → At S m r k g g2 f e false → At S m r k (unless (over S.kind c) g) (unless (over S.kind c) g2) (λ m. without (f m) c) e false
  unless_at {g = g} {g2 = g2} c a = record { good = unless-good _ g _ _ a.good; same = unless-same k _ g g2 a.same }

  pub mapped_at : {A B : Type 0} {g g2 : Part T A} {f e : Set K} {b : Bool} (v : A → B) → At S m r k g g2 f e b → At S m r k (mapped v g) (mapped v g2) f e b
  mapped_at {g = g} {g2 = g2} v a = record { good = mapped-good v g _ _ _ a.good; same = mapped-same k v g g2 a.same }

  pub alt_at : {A : Type 0} {g g2 h h2 : Part T A} {f e f2 e2 : Set K} {b : Bool} → At S m r k g g2 f e false → At S m r k h h2 f2 e2 b → are_apart S f f2 ≡ true
      → At S m r k (alt (over S.kind (f m)) g h) (alt (over S.kind (f (other m r))) g2 h2) (λ m. either (f m) (f2 m)) (λ m. either (either (e m) (e2 m)) (given b (f m))) b
  alt_at {g = g} {g2 = g2} {h = h} {h2 = h2} {f = f} {f2 = f2} a d o = record {
    good = alt-good g h _ _ _ _ _ a.good d.good (apart_at S f f2 o m);
    same = alt-same k _ _ g g2 h h2 a.same d.same;
  }

  pub opt_at : {A : Type 0} {g g2 : Part T A} {f e : Set K} → At S m r k g g2 f e false → are_apart S f (λ m. never) ≡ true
      → At S m r k (opt (over S.kind (f m)) g) (opt (over S.kind (f (other m r))) g2) (λ m. either (f m) never) (λ m. either (either (e m) never) (given true (f m))) true
  opt_at a o = alt_at (mapped_at (λ x. Some x) a) (nothing_at None) o

  pub seq_at : {A B : Type 0} {g g2 : Part T A} {h h2 : Part T B} {f e f2 e2 : Set K} {b b2 : Bool} → At S m r k g g2 f e b → At S m r k h h2 f2 e2 b2 → are_apart S e f2 ≡ true
      → At S m r k (seq g h) (seq g2 h2) (λ m. either (f m) (given b (f2 m))) (λ m. either (e2 m) (given b2 (e m))) (b && b2)
  seq_at {g = g} {g2 = g2} {h = h} {h2 = h2} {e = e} {f2 = f2} a d o = record {
    good = seq-good g h _ _ _ _ _ _ a.good d.good (apart_at S e f2 o m);
    same = seq-same k g g2 h h2 a.same d.same;
  }

  -- where the first part takes a token, the second may have parts of one level less
  pub behind_at : {A B : Type 0} {g g2 : Part T A} {h h2 : Part T B} {f e f2 e2 : Set K} {b2 : Bool} {j : ℕ} → k ≤ suc j → At S m r k g g2 f e false → At S m r j h h2 f2 e2 b2 → are_apart S e f2 ≡ true
      → At S m r k (seq g h) (seq g2 h2) (λ m. either (f m) (given false (f2 m))) (λ m. either (e2 m) (given b2 (e m))) false
  behind_at {g = g} {g2 = g2} {h = h} {h2 = h2} {e = e} {f2 = f2} {j = j} kj a d o = record {
    good = seq-good g h _ _ _ _ _ _ a.good d.good (apart_at S e f2 o m);
    same = behind-same k j g g2 h h2 kj (λ y w. (let z = a.good.is_empty y w in cc)) a.same d.same;
  }

  pub long_at : {A B : Type 0} {g g2 : Part T A} {h h2 : Part T B} {f e f2 e2 : Set K} {b b2 : Bool} → At S m r k g g2 f e b → At S m r k h h2 f2 e2 b2
      → At S m r k (long g h) (long g2 h2) (λ m. either (f m) (given b (f2 m))) (λ m. either (e2 m) (given b2 (e m))) (b && b2)
  long_at {g = g} {g2 = g2} {h = h} {h2 = h2} a d = record {
    good = long-good g h _ _ _ _ _ _ a.good d.good;
    same = long-same k g g2 h h2 a.same d.same;
  }

  pub many_at : {A : Type 0} {g g2 : Part T A} {f e : Set K} → At S m r k g g2 f e false → are_apart S e f ≡ true
      → At S m r k (many (over S.kind (f m)) g) (many (over S.kind (f (other m r))) g2) f (λ m. either (f m) (e m)) true
  many_at {g = g} {g2 = g2} {f = f} {e = e} a o = record {
    good = many-good g _ _ a.good (apart_at S e f o m);
    same = many-same k _ _ g g2 a.same;
  }

  pub many_long_at : {A : Type 0} {g g2 : Part T A} {f e : Set K} → At S m r k g g2 f e false
      → At S m r k (many_long (over S.kind (f m)) g) (many_long (over S.kind (f (other m r))) g2) f (λ m. either (f m) (e m)) true
  many_long_at {g = g} {g2 = g2} a = record {
    good = many_long-good g _ _ a.good;
    same = many_long-same k _ _ g g2 a.same;
  }

  -- a choice where a token of `c` and then one of `d` begins the first part, and never the second
  pub ahead_at : {A B : Type 0} {n n2 : Part T B} {h h2 : Part T A} {e f2 e2 : Set K} (c d : Class K) (v : T × B → A) → At S m r k n n2 (λ m. d) e false → At S m r k h h2 f2 e2 false
      → At S m r k (ahead (over S.kind c) (over S.kind d) (over S.kind (f2 m)) (mapped v (seq (one (over S.kind c)) n)) h)
      (ahead (over S.kind c) (over S.kind d) (over S.kind (f2 (other m r))) (mapped v (seq (one (over S.kind c)) n2)) h2)
      (λ m. either c (f2 m)) (λ m. either (either (e m) (given false never)) (either (e2 m) d)) false
  ahead_at {n = n} {n2 = n2} {h = h} {h2 = h2} c d v a b = record {
    good = ahead_key-good _ _ v n _ a.good h _ _ b.good;
    same = ahead-same k _ _ _ _ _ _ h h2 (mapped-same k v _ _ (seq-same k _ _ n n2 (itself-same k (one (over S.kind c))) a.same)) b.same;
  }
