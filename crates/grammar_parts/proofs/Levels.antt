-- The levels of a grammar: from the laws of its productions, those of its parts where any number of forms may nest.
-- For other crates too.
use Rattle.std.proofs.Common.{◌≡◌, ◌<◌, ◌≤◌, ◌-◌, ℕ, zero, suc, Bool, true, false, ap, arith}
use Rattle.grammar_parts.specs.Tokens.{Class, over}
use Rattle.grammar_parts.specs.Parts.{Part}
use Rattle.grammar_parts.specs.Levels.{Mode, Inner, Step, has_room, mode_at, inside, level}
use Rattle.grammar_parts.specs.Good.{Good}
use Rattle.grammar_parts.proofs.Depth.{Same, itself-same, empty-same}
use Rattle.grammar_parts.proofs.Modes.{Language, Set, At, other}

-- The sets of the parts that stand inside forms: the first kinds, by whether the wider forms are taken and whether a form may nest, and those that go on with a whole part.
pub record Sets (K I : Type 0) : Type 0 where
  pub first : I → Bool → Bool → Class K
  pub ext : I → Bool → Class K

-- Where a production stands: at a mode, over parts of one form less that keep their laws if there is room, and beside them the same parts of another level.
-- Outside a form two lists of at most `outer` tokens are the same, inside it of at most `within`.
pub record Ground (T K I A : Type 0) (S : Language T K) (sets : Sets K I) : Type 1 where
  pub mode : Mode
  pub room_in2 : Bool
  pub outer : ℕ
  pub within : ℕ
  pub one_less : outer ≤ suc within
  pub parts : Inner T I A
  pub parts2 : Inner T I A
  pub laws : mode.room ≡ true → (i : I) → At S mode room_in2 within (parts i) (parts2 i) (λ m. sets.first i m.wide m.room_in) (λ m. sets.ext i m.wide) false

-- the law of a production, and of one that stands inside a form
abbrev pub Law : {T K I A B : Type 0} {S : Language T K} {sets : Sets K I} → Ground T K I A S sets → (Mode → Inner T I A → Part T B) → Set K → Set K → Bool → Type 0
Law {S = S} w production f e b = At S w.mode w.room_in2 w.outer (production w.mode w.parts) (production (other w.mode w.room_in2) w.parts2) f e b

abbrev pub LawInside : {T K I A B : Type 0} {S : Language T K} {sets : Sets K I} → Ground T K I A S sets → (Mode → Inner T I A → Part T B) → Set K → Set K → Bool → Type 0
LawInside {S = S} w production f e b = At S w.mode w.room_in2 w.within (production w.mode w.parts) (production (other w.mode w.room_in2) w.parts2) f e b

-- the laws of the parts of a grammar, on any ground
abbrev pub Lawful : {T K I A : Type 0} → Language T K → Sets K I → Step T I A → Type 1
Lawful {T = T} {K = K} {I = I} {A = A} S sets step = (w : Ground T K I A S sets) (i : I) → Law w (λ m inner. step m inner i) (λ m. sets.first i m.wide m.room) (λ m. sets.ext i m.wide) false

pub no_room : false ≡ true → ⊥
no_room e = cc

-- what stands inside a form is the level below
pub inside-level : {T I A : Type 0} (step : Step T I A) (wide : Bool) (n : ℕ) → 0 < n → inside step wide n ≡ level step wide (n - 1)
unfolding inside
inside-level step wide zero h = absurd (omega arith)
inside-level step wide (suc n) h = let e : n ≡ suc n - 1 = omega arith in ap (λ k. level step wide k) e

pub zero_more : zero ≤ suc zero
zero_more = omega arith

pub one_more : (k : ℕ) → suc k ≤ suc k
one_more k = omega arith

module _ {T K I A : Type 0} (S : Language T K) (sets : Sets K I) (step : Step T I A) (lawful : Lawful S sets step) (wide : Bool) where
  abbrev pub IsGood : ℕ → I → Type 0
  IsGood n i = Good (level step wide n i) (over S.kind (sets.first i wide (has_room n))) (over S.kind (sets.ext i wide)) false

  -- the ground where a form may nest, over two levels of one form less
  abbrev pub ground : (k n n2 : ℕ) → ((i : I) → IsGood n i) → ((i : I) → Same k (level step wide n i) (level step wide n2 i)) → Ground T K I A S sets
  ground k n n2 good same = record {
    mode = mode_at wide (suc n);
    room_in2 = has_room n2;
    outer = suc k;
    within = k;
    one_less = one_more k;
    parts = level step wide n;
    parts2 = level step wide n2;
    laws = λ room i. record { good = good i; same = same i };
  }

  -- the ground where none may
  abbrev pub bare : Ground T K I A S sets
  bare = record {
    mode = mode_at wide zero;
    room_in2 = false;
    outer = zero;
    within = zero;
    one_less = zero_more;
    parts = inside step wide zero;
    parts2 = inside step wide zero;
    laws = λ room. absurd (no_room room);
  }

  pub levels-good : (n : ℕ) (i : I) → IsGood n i
  unfolding inside
  levels-good zero i = (lawful bare i).good
  levels-good (suc n) i = (lawful (ground zero n n (levels-good n) (λ j. itself-same zero (level step wide n j))) i).good

  -- on at most k tokens all levels from k on are the same
  pub levels-same : (k n n2 : ℕ) → k ≤ n → k ≤ n2 → (i : I) → Same k (level step wide n i) (level step wide n2 i)
  unfolding inside
  levels-same zero n n2 h h2 i = empty-same _ _ _ _ _ _ (levels-good n i) (levels-good n2 i)
  levels-same (suc k) zero n2 h h2 i = absurd (omega arith)
  levels-same (suc k) (suc n) zero h h2 i = absurd (omega arith)
  levels-same (suc k) (suc n) (suc n2) h h2 i = (lawful (ground k n n2 (levels-good n) (levels-same k n n2 (omega arith) (omega arith))) i).same

  -- the ground of what holds parts that so many forms may nest in, as a whole text does
  abbrev pub text_ground : (k n n2 : ℕ) → k ≤ n → k ≤ n2 → Ground T K I A S sets
  text_ground k n n2 h h2 = ground k n n2 (levels-good n) (levels-same k n n2 h h2)
