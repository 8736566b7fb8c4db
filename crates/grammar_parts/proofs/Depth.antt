-- Two parts that derive and begin the same on lists of at most so many tokens.
-- For other crates too.
use Rattle.std.proofs.Common.{◌≡◌, ◌≤◌, inl, inr, ℕ, suc, Bool, true, false, List, [], ◌∷◌, ◌++◌, length, refl, ap, arith}
use Rattle.std.proofs.lemmas.List.{length-append}
use Rattle.grammar_parts.specs.Tokens.{Class}
use Rattle.grammar_parts.specs.Parts.{Part, mapped, MappedWhole, MappedBegun, only, OnlyWhole, OnlyBegun, unless, UnlessWhole, UnlessBegun, seq, SeqWhole, SeqBegun, Ends, long, LongWhole, LongBegun, alt, AltWhole, AltBegun, ahead, AheadWhole, AheadBegun, Repeats, many, ManyWhole, ManyBegun, RepeatsLong, BegunLong, many_long, ManyLongWhole, ManyLongBegun}
use Rattle.grammar_parts.specs.Good.{Good}
use Rattle.grammar_parts.proofs.Cuts.{no_length}

-- What the first derives or begins on a list of at most so many tokens, the second does.
pub record Under {T A : Type 0} (k : ℕ) (g h : Part T A) : Type 0 where
  pub begun : (l : List T) → length l ≤ k → g.begun l → h.begun l
  pub whole : (l : List T) (x : A) → length l ≤ k → g.whole l x → h.whole l x

abbrev pub Same : {T A : Type 0} → ℕ → Part T A → Part T A → Type 0
Same k g h = Under k g h × Under k h g

itself-under : {T A : Type 0} (k : ℕ) (g : Part T A) → Under k g g
itself-under k g = record { begun = λ l h b. b; whole = λ l x h w. w }

pub itself-same : {T A : Type 0} (k : ℕ) (g : Part T A) → Same k g g
itself-same k g = (itself-under k g, itself-under k g)

mapped-under : {T A B : Type 0} (k : ℕ) (f : A → B) (g h : Part T A) → Under k g h → Under k (mapped f g) (mapped f h)
unfolding MappedWhole MappedBegun
mapped-under k f g h u = record { begun = u.begun; whole = λ l y n w. (w.0, u.whole l w.0 n w.1, w.2) }

pub mapped-same : {T A B : Type 0} (k : ℕ) (f : A → B) (g h : Part T A) → Same k g h → Same k (mapped f g) (mapped f h)
mapped-same k f g h u = (mapped-under k f g h u.0, mapped-under k f h g u.1)

only-under : {T A : Type 0} (k : ℕ) (b : Bool) (g h : Part T A) → (b ≡ true → Under k g h) → Under k (only b g) (only b h)
unfolding OnlyWhole OnlyBegun
only-under k b g h u = record {
  begun = λ l n c. elim c [ inl e ↦ inl e | inr (o, d) ↦ inr (o, (u o).begun l n d) ];
  whole = λ l x n w. (w.0, (u w.0).whole l x n w.1);
}

pub only-same : {T A : Type 0} (k : ℕ) (b : Bool) (g h : Part T A) → (b ≡ true → Same k g h) → Same k (only b g) (only b h)
only-same k b g h u = (only-under k b g h (λ o. (u o).0), only-under k b h g (λ o. (u o).1))

unless-under : {T A : Type 0} (k : ℕ) (c : Class T) (g h : Part T A) → Under k g h → Under k (unless c g) (unless c h)
unfolding UnlessWhole UnlessBegun
unless-under k c g h u = record { begun = λ l n b. (b.0, u.begun l n b.1); whole = λ l x n w. (w.0, u.whole l x n w.1) }

pub unless-same : {T A : Type 0} (k : ℕ) (c : Class T) (g h : Part T A) → Same k g h → Same k (unless c g) (unless c h)
unless-same k c g h u = (unless-under k c g h u.0, unless-under k c h g u.1)

alt-under : {T A : Type 0} (k : ℕ) (c c2 : Class T) (g g2 h h2 : Part T A) → Under k g g2 → Under k h h2 → Under k (alt c g h) (alt c2 g2 h2)
unfolding AltWhole AltBegun
alt-under k c c2 g g2 h h2 u v = record {
  begun = λ l n b. elim b [ inl d ↦ inl (u.begun l n d) | inr d ↦ inr (v.begun l n d) ];
  whole = λ l x n w. elim w [ inl d ↦ inl (u.whole l x n d) | inr d ↦ inr (v.whole l x n d) ];
}

pub alt-same : {T A : Type 0} (k : ℕ) (c c2 : Class T) (g g2 h h2 : Part T A) → Same k g g2 → Same k h h2 → Same k (alt c g h) (alt c2 g2 h2)
alt-same k c c2 g g2 h h2 u v = (alt-under k c c2 g g2 h h2 u.0 v.0, alt-under k c2 c g2 g h2 h u.1 v.1)

ahead-under : {T A : Type 0} (k : ℕ) (c d first first2 : Class T) (g g2 h h2 : Part T A) → Under k g g2 → Under k h h2 → Under k (ahead c d first g h) (ahead c d first2 g2 h2)
unfolding AheadWhole AheadBegun
ahead-under k c d first first2 g g2 h h2 u v = record {
  begun = λ l n b. elim b [ inl z ↦ inl (u.begun l n z) | inr (f, z) ↦ inr (f, v.begun l n z) ];
  whole = λ l x n w. elim w [ inl z ↦ inl (u.whole l x n z) | inr (f, z) ↦ inr (f, v.whole l x n z) ];
}

pub ahead-same : {T A : Type 0} (k : ℕ) (c d first first2 : Class T) (g g2 h h2 : Part T A) → Same k g g2 → Same k h h2 → Same k (ahead c d first g h) (ahead c d first2 g2 h2)
ahead-same k c d first first2 g g2 h h2 u v = (ahead-under k c d first first2 g g2 h h2 u.0 v.0, ahead-under k c d first2 first g2 g h2 h u.1 v.1)

-- ---- one part and then another

parts_of : {T : Type 0} (k : ℕ) (l a b : List T) → l ≡ a ++ b → length l ≤ k → (length a ≤ k) × (length b ≤ k)
parts_of k l a b e h = let n = ap length e in (omega (arith, length-append a b), omega (arith, length-append a b))

-- behind a token there is one less
second_of : {T : Type 0} (k j : ℕ) (l a b : List T) → k ≤ suc j → (a ≡ [] → ⊥) → l ≡ a ++ b → length l ≤ k → length b ≤ j
second_of k j l [] b kj n e h = absurd (n refl)
second_of k j l (t ∷ a) b kj n e h = omega (arith, ap length e, length-append a b)

no_value : {T A : Type 0} (g : Part T A) (a : List T) (x : A) → ((y : A) → g.whole [] y → ⊥) → g.whole a x → a ≡ [] → ⊥
no_value g a x none w e = none x (rw e at w)

seq-under : {T A B : Type 0} (k : ℕ) (g g2 : Part T A) (h h2 : Part T B) → Under k g g2 → Under k h h2 → Under k (seq g h) (seq g2 h2)
unfolding SeqWhole SeqBegun
seq-under k g g2 h h2 u v = record {
  begun = λ l n c. elim c [
    | inl d ↦ inl (u.begun l n d)
    | inr (a, b, x, e, w, bg) ↦ (let p = parts_of k l a b e n in inr (a, b, x, e, u.whole a x p.0 w, v.begun b p.1 bg))
  ];
  whole = λ l z n w. (let p = parts_of k l w.0 w.1 w.2 n in (w.0, w.1, w.2, u.whole w.0 z.0 p.0 w.3, v.whole w.1 z.1 p.1 w.4));
}

pub seq-same : {T A B : Type 0} (k : ℕ) (g g2 : Part T A) (h h2 : Part T B) → Same k g g2 → Same k h h2 → Same k (seq g h) (seq g2 h2)
seq-same k g g2 h h2 u v = (seq-under k g g2 h h2 u.0 v.0, seq-under k g2 g h2 h u.1 v.1)

behind-under : {T A B : Type 0} (k j : ℕ) (g g2 : Part T A) (h h2 : Part T B) → k ≤ suc j → ((y : A) → g.whole [] y → ⊥) → Under k g g2 → Under j h h2 → Under k (seq g h) (seq g2 h2)
unfolding SeqWhole SeqBegun
behind-under k j g g2 h h2 kj none u v = record {
  begun = λ l n c. elim c [
    | inl d ↦ inl (u.begun l n d)
    | inr (a, b, x, e, w, bg) ↦ inr (a, b, x, e, u.whole a x (parts_of k l a b e n).0 w, v.begun b (second_of k j l a b kj (no_value g a x none w) e n) bg)
  ];
  whole = λ l z n w. (w.0, w.1, w.2, u.whole w.0 z.0 (parts_of k l w.0 w.1 w.2 n).0 w.3, v.whole w.1 z.1 (second_of k j l w.0 w.1 kj (no_value g w.0 z.0 none w.3) w.2 n) w.4);
}

-- where the first part takes a token, the second has one less
pub behind-same : {T A B : Type 0} (k j : ℕ) (g g2 : Part T A) (h h2 : Part T B) → k ≤ suc j → ((y : A) → g.whole [] y → ⊥) → Same k g g2 → Same j h h2 → Same k (seq g h) (seq g2 h2)
unfolding SeqWhole
behind-same k j g g2 h h2 kj none u v =
    (behind-under k j g g2 h h2 kj none u.0 v.0, behind-under k j g2 g h2 h kj (λ y w. none y (u.1.whole [] y (omega arith) w)) u.1 v.1)

-- ---- where a token that can go on with the first part does

ends_moved : {T A : Type 0} (k : ℕ) (g g2 : Part T A) (l a b : List T) → Under k g2 g → l ≡ a ++ b → length l ≤ k → Ends g a b → Ends g2 a b
ends_moved k g g2 l a b u e n en t r er c =
    en t r er (u.begun (a ++ t ∷ []) (omega (arith, ap length e, ap length er, length-append a b, length-append a (t ∷ []))) c)

long-under : {T A B : Type 0} (k : ℕ) (g g2 : Part T A) (h h2 : Part T B) → Same k g g2 → Under k h h2 → Under k (long g h) (long g2 h2)
unfolding LongWhole LongBegun
long-under k g g2 h h2 u v = record {
  begun = λ l n c. elim c [
    | inl d ↦ inl (u.0.begun l n d)
    | inr (a, b, x, e, w, bg, en) ↦ (let p = parts_of k l a b e n in inr (a, b, x, e, u.0.whole a x p.0 w, v.begun b p.1 bg, ends_moved k g g2 l a b u.1 e n en))
  ];
  whole = λ l z n w. (let p = parts_of k l w.0 w.1 w.2 n in (w.0, w.1, w.2, u.0.whole w.0 z.0 p.0 w.3, v.whole w.1 z.1 p.1 w.4, ends_moved k g g2 l w.0 w.1 u.1 w.2 n w.5));
}

pub long-same : {T A B : Type 0} (k : ℕ) (g g2 : Part T A) (h h2 : Part T B) → Same k g g2 → Same k h h2 → Same k (long g h) (long g2 h2)
long-same k g g2 h h2 u v = (long-under k g g2 h h2 u v.0, long-under k g2 g h2 h (u.1, u.0) v.1)

-- ---- any number

repeats-under : {T A : Type 0} (k : ℕ) (g h : Part T A) → Under k g h → (xs : List A) (l : List T) → length l ≤ k → Repeats g.whole l xs → Repeats h.whole l xs
repeats-under k g h u [] l n w = w
repeats-under k g h u (x ∷ xs) l n (a, b, e, w, v) = (let p = parts_of k l a b e n in (a, b, e, u.whole a x p.0 w, repeats-under k g h u xs b p.1 v))

many-under : {T A : Type 0} (k : ℕ) (c c2 : Class T) (g h : Part T A) → Under k g h → Under k (many c g) (many c2 h)
unfolding ManyWhole ManyBegun
many-under k c c2 g h u = record {
  begun = λ l n b. (let p = parts_of k l b.0 b.1 b.3 n in (b.0, b.1, b.2, b.3, repeats-under k g h u b.2 b.0 p.0 b.4, u.begun b.1 p.1 b.5));
  whole = λ l xs n w. repeats-under k g h u xs l n w;
}

pub many-same : {T A : Type 0} (k : ℕ) (c c2 : Class T) (g h : Part T A) → Same k g h → Same k (many c g) (many c2 h)
many-same k c c2 g h u = (many-under k c c2 g h u.0, many-under k c2 c h g u.1)

repeats_long-under : {T A : Type 0} (k : ℕ) (g h : Part T A) → Same k g h → (xs : List A) (l : List T) → length l ≤ k → RepeatsLong g l xs → RepeatsLong h l xs
repeats_long-under k g h u [] l n w = w
repeats_long-under k g h u (x ∷ xs) l n (a, b, e, w, v, en) =
    (let p = parts_of k l a b e n in (a, b, e, u.0.whole a x p.0 w, repeats_long-under k g h u xs b p.1 v, ends_moved k g h l a b u.1 e n en))

begun_long-under : {T A : Type 0} (k : ℕ) (g h : Part T A) → Same k g h → (xs : List A) (l : List T) → length l ≤ k → BegunLong g l xs → BegunLong h l xs
begun_long-under k g h u [] l n b = u.0.begun l n b
begun_long-under k g h u (x ∷ xs) l n (a, b, e, w, v, en) =
    (let p = parts_of k l a b e n in (a, b, e, u.0.whole a x p.0 w, begun_long-under k g h u xs b p.1 v, ends_moved k g h l a b u.1 e n en))

many_long-under : {T A : Type 0} (k : ℕ) (c c2 : Class T) (g h : Part T A) → Same k g h → Under k (many_long c g) (many_long c2 h)
unfolding ManyLongWhole ManyLongBegun
many_long-under k c c2 g h u = record {
  begun = λ l n b. (b.0, begun_long-under k g h u b.0 l n b.1);
  whole = λ l xs n w. repeats_long-under k g h u xs l n w;
}

pub many_long-same : {T A : Type 0} (k : ℕ) (c c2 : Class T) (g h : Part T A) → Same k g h → Same k (many_long c g) (many_long c2 h)
many_long-same k c c2 g h u = (many_long-under k c c2 g h u, many_long-under k c2 c h g (u.1, u.0))

-- ---- on no token

empty-under : {T A : Type 0} (g h : Part T A) (f e f2 e2 : Class T) → Good g f e false → Good h f2 e2 false → Under 0 g h
empty-under g h f e f2 e2 good good2 = record {
  begun = λ l n b. rw (no_length l n) good2.none;
  whole = λ l x n w. (let z = good.is_empty x (rw (no_length l n) at w) in absurd cc);
}

pub empty-same : {T A : Type 0} (g h : Part T A) (f e f2 e2 : Class T) → Good g f e false → Good h f2 e2 false → Same 0 g h
empty-same g h f e f2 e2 good good2 = (empty-under g h f e f2 e2 good good2, empty-under h g f2 e2 f e good2 good)
