-- The nesting of a grammar: at each level a part has exactly the values of a higher level that are nested no deeper than the level allows.
-- For other crates too.
use Rattle.std.proofs.Common.{◌≡◌, ◌≤◌, ℕ, zero, suc, max, Bool, true, false, List, [], ◌∷◌, ◌++◌, Some, None, Ok, refl, subst, arith}
use Rattle.std.specs.Prelude.{◌&&◌}
use Rattle.std.proofs.lemmas.Bool.{and_parts}
use Rattle.grammar_parts.specs.Tokens.{Class, never, over, sees}
use Rattle.grammar_parts.specs.Readers.{Reader, Outcome, take_where, read_mapped, read_seq, read_alt, read_ahead}
use Rattle.grammar_parts.specs.Parts.{Part}
use Rattle.grammar_parts.specs.Levels.{Mode, Inner, Step, has_room, room_in, inside, level}
use Rattle.grammar_parts.specs.Good.{Good, Judge, Apart}
use Rattle.grammar_parts.proofs.Depth.{itself-same}
use Rattle.grammar_parts.proofs.Modes.{Language, Set, At, each, each_at, implies, implied, are_apart, apart_at}
use Rattle.grammar_parts.proofs.Levels.{Sets, Ground, Lawful, no_room, levels-good, ground, bare}
use Rattle.grammar_parts.proofs.Counts.{Counts, of_any, either_counts, open_counts, ahead_counts, closed_counts}

-- ---- sets of kinds that grow with what may nest

abbrev pub with_room : Mode → Bool → Mode
with_room m b = record { wide = m.wide; room = b; room_in = m.room_in }

abbrev pub with_room_in : Mode → Bool → Mode
with_room_in m b = record { wide = m.wide; room = m.room; room_in = b }

abbrev pub grows : {T K : Type 0} → Language T K → Set K → Bool
grows S f = each S (λ m k. implies (f m k) (f (with_room m true) k) && implies (f m k) (f (with_room_in m true) k))

-- a mode where at least as much may nest
pub record Wider (m : Mode) : Type 0 where
  pub room : Bool
  pub room_in : Bool
  pub grows : m.room ≡ true → room ≡ true
  pub grows_in : m.room_in ≡ true → room_in ≡ true

abbrev pub above : {m : Mode} → Wider m → Mode
above {m = m} u = record { wide = m.wide; room = u.room; room_in = u.room_in }

raised : (f : Bool → Bool) (a b : Bool) → (a ≡ true → b ≡ true) → f a ≡ true → (f a ≡ true → f true ≡ true) → f b ≡ true
raised f a true h e t = t e
raised f true false h e t = absurd (let g : false ≡ true = h refl in cc)
raised f false false h e t = e

module _ {T K : Type 0} (S : Language T K) (f : Set K) (e : grows S f ≡ true) {m : Mode} (u : Wider m) where
  grown : (k : K) → f m k ≡ true → f (above u) k ≡ true
  grown k h =
      let test : Mode → K → Bool = λ m k. implies (f m k) (f (with_room m true) k) && implies (f m k) (f (with_room_in m true) k) in
      let n = with_room m u.room in
      let one : f n k ≡ true = raised (λ b. f (with_room m b) k) m.room u.room u.grows h (λ g. implied (f m k) (f (with_room m true) k) (and_parts _ _ (each_at S test e m k)).0 g) in
      raised (λ b. f (with_room_in n b) k) m.room_in u.room_in u.grows_in one (λ g. implied (f n k) (f (with_room_in n true) k) (and_parts _ _ (each_at S test e n k)).1 g)

  sees_grown : (s : List T) → sees (over S.kind (f m)) s ≡ true → sees (over S.kind (f (above u))) s ≡ true
  sees_grown [] h = absurd cc
  sees_grown (t ∷ s) h = grown (S.kind t) h

-- what was read begins with a token of the first class
read_first_by : {T A : Type 0} (g : Part T A) (first ext : Class T) → Good g first ext false → (s u : List T) (x : A) (r : List T) → s ≡ u ++ r → g.whole u x → sees first s ≡ true
read_first_by g first ext good s [] x r e w = absurd (let f = good.is_empty x w in cc)
read_first_by g first ext good s (t ∷ u) x r e w = rw e (good.starts t u (good.is_begun (t ∷ u) x w))

read_first : {T A : Type 0} (g : Part T A) (first ext : Class T) → Good g first ext false → (s : List T) (x : A) (r : List T) → g.read s ≡ Ok (x, r) → sees first s ≡ true
read_first g first ext good s x r e =
    let j : Judge g s (Ok (x, r)) = subst (λ (y : Outcome _ _). Judge g s y) e (good.judge s) in
    read_first_by g first ext good s j.0 x r j.1 j.2

off : (b : Bool) → (b ≡ true → ⊥) → b ≡ false
off true h = absurd (h refl)
off false h = refl

sees_apart : {T : Type 0} (c d : Class T) → Apart c d → (s : List T) → sees d s ≡ true → sees c s ≡ false
sees_apart c d a [] h = refl
sees_apart c d a (t ∷ s) h = off (c t) (λ g. a t g h)

-- ---- the ways to combine parts that look at what may nest

module _ {T K : Type 0} {S : Language T K} {m : Mode} {r : Bool} {k bound : ℕ} (u : Wider m) where
  pub alt_nested : {A : Type 0} {depth : A → ℕ} {g g2 h h2 : Part T A} {q q2 : Reader T A} {f e f2 e2 : Set K} → At S m r k g g2 f e false → At S m r k h h2 f2 e2 false
      → are_apart S f f2 ≡ true → grows S f ≡ true → grows S f2 ≡ true → Counts bound depth g.read q never → Counts bound depth h.read q2 never
      → Counts bound depth (read_alt (over S.kind (f m)) g.read h.read) (read_alt (over S.kind (f (above u))) q q2) never
  alt_nested {g = g} {h = h} {f = f} {f2 = f2} a b o p p2 c d =
      either_counts _ _ (sees_grown S f p u) (read_first g _ _ a.good)
      (λ s x r2 e. sees_apart _ _ (apart_at S f f2 o (above u)) s (sees_grown S f2 p2 u s (read_first h _ _ b.good s x r2 e))) c d

  -- nothing or a part; a token that begins the part where more may nest stops it
  pub opt_nested : {A : Type 0} {depth : A → ℕ} {g g2 : Part T A} {q : Reader T A} {f e : Set K} → At S m r k g g2 f e false → grows S f ≡ true → Counts bound depth g.read q never
      → Counts bound (of_any depth) (read_alt (over S.kind (f m)) (read_mapped (λ x. Some x) g.read) (λ s. Ok (None, s)))
      (read_alt (over S.kind (f (above u))) (read_mapped (λ x. Some x) q) (λ s. Ok (None, s))) (over S.kind (f (above u)))
  opt_nested {g = g} {f = f} a p c = open_counts _ _ (sees_grown S f p u) (read_first g _ _ a.good) c

  pub ahead_nested : {A : Type 0} {depth : A → ℕ} {h h2 : Part T A} {p q q2 : Reader T A} {f e : Set K} (c d : Class K) → At S m r k h h2 f e false → grows S f ≡ true → Counts bound depth p q never → Counts bound depth h.read q2 never
      → Counts bound depth (read_ahead (over S.kind c) (over S.kind d) (over S.kind (f m)) p h.read) (read_ahead (over S.kind c) (over S.kind d) (over S.kind (f (above u))) q q2) never
  ahead_nested {h = h} {f = f} c d a p one two = ahead_counts (over S.kind c) (over S.kind d) (over S.kind (f m)) (over S.kind (f (above u))) (sees_grown S f p u) (read_first h _ _ a.good) one two

-- a part, stopped by tokens of a class, and then a token that is none of it
pub closed_nested : {T K A : Type 0} (S : Language T K) {m : Mode} {bound : ℕ} {depth : A → ℕ} {p q : Reader T A} (u : Wider m) (c f : Set K) → are_apart S c f ≡ true → Counts bound depth p q (over S.kind (f (above u)))
    → Counts bound (λ (z : A × T). max (depth z.0) 0) (read_seq p (take_where (over S.kind (c (above u))))) (read_seq q (take_where (over S.kind (c (above u))))) never
closed_nested S u c f o a = closed_counts _ (λ t h. off (f (above u) (S.kind t)) (λ g. apart_at S c f o (above u) t h g)) a

-- ---- levels

-- A second ground over the first: `bound` forms may nest on the first, `within` inside one of them, and on the second as many or more.
pub record Higher {T K I A : Type 0} {S : Language T K} {sets : Sets K I} (depth : A → ℕ) (w : Ground T K I A S sets) : Type 1 where
  pub bound : ℕ
  pub within : ℕ
  pub wider : Wider w.mode
  pub parts : Inner T I A
  pub bare : w.mode.room ≡ false → bound ≡ 0
  pub one_more : w.mode.room ≡ true → bound ≡ suc within
  pub counts : w.mode.room ≡ true → (i : I) → Counts within depth (w.parts i).read (parts i).read never

-- A production counts what nests in it, where it stands outside a form, and inside.
abbrev pub Counted : {T K I A B : Type 0} {S : Language T K} {sets : Sets K I} {depth : A → ℕ} {w : Ground T K I A S sets} → Higher depth w → (Mode → Inner T I A → Part T B) → (B → ℕ) → Type 0
Counted {w = w} u production depth = Counts u.bound depth (production w.mode w.parts).read (production (above u.wider) u.parts).read never

abbrev pub CountedInside : {T K I A B : Type 0} {S : Language T K} {sets : Sets K I} {depth : A → ℕ} {w : Ground T K I A S sets} → Higher depth w → (Mode → Inner T I A → Part T B) → (B → ℕ) → Type 0
CountedInside {w = w} u production depth = Counts u.within depth (production w.mode w.parts).read (production (above u.wider) u.parts).read never

-- the parts of a grammar count what nests in them, on any ground
abbrev pub Counting : {T K I A : Type 0} → Language T K → Sets K I → (A → ℕ) → Step T I A → Type 1
Counting {T = T} {K = K} {I = I} {A = A} S sets depth step = (w : Ground T K I A S sets) (u : Higher depth w) (i : I) → Counted u (λ m inner. step m inner i) depth

pub not_shut : true ≡ false → ⊥
not_shut e = cc

pub room_grows : (n k : ℕ) → n ≤ k → has_room n ≡ true → has_room k ≡ true
room_grows zero k h e = absurd cc
room_grows (suc n) zero h e = absurd (omega arith)
room_grows (suc n) (suc k) h e = refl

module _ {T K I A : Type 0} (S : Language T K) (sets : Sets K I) (step : Step T I A) (lawful : Lawful S sets step) (depth : A → ℕ) (counting : Counting S sets depth step) (wide : Bool) where
  -- over the level where none may nest
  abbrev lowest : (k : ℕ) → Higher depth (bare S sets step lawful wide)
  lowest k = record {
    bound = 0;
    within = 0;
    wider = record { room = has_room k; room_in = room_in k; grows = λ e. absurd (no_room e); grows_in = λ e. absurd (no_room e) };
    parts = inside step wide k;
    bare = λ e. refl;
    one_more = λ e. absurd (no_room e);
    counts = λ e. absurd (no_room e);
  }

  abbrev pub higher : (n k : ℕ) → n ≤ k → ((i : I) → Counts n depth (level step wide n i).read (level step wide k i).read never) → Higher depth (ground S sets step lawful wide zero n n (levels-good S sets step lawful wide n) (λ j. itself-same zero (level step wide n j)))
  higher n k h c = record {
    bound = suc n;
    within = n;
    wider = record { room = true; room_in = has_room k; grows = λ e. refl; grows_in = room_grows n k h };
    parts = level step wide k;
    bare = λ e. absurd (not_shut e);
    one_more = λ e. refl;
    counts = λ e. c;
  }

  pub levels-counts : (n k : ℕ) → n ≤ k → (i : I) → Counts n depth (level step wide n i).read (level step wide k i).read never
  unfolding inside
  levels-counts zero k h i = counting (bare S sets step lawful wide) (lowest k) i
  levels-counts (suc n) zero h i = absurd (omega arith)
  levels-counts (suc n) (suc k) h i = counting _ (higher n k (omega arith) (levels-counts n k (omega arith))) i
