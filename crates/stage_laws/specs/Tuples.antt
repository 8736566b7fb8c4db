-- One tuple at a time: each goes through all steps before the next one does, and from the first
-- fault on only the steps below it are run.
use Rattle.std.specs.Prelude.{◌≡◌, ℕ, ◌+◌, ◌==◌, ◌<◌, ◌≤◌, Bool, if◌then◌else◌, List, [], ◌∷◌, ◌++◌, length, Result, Ok, Err}
use Rattle.stage_laws.specs.Runs.{Met, joined, each_from, each_read}
use Rattle.stage_laws.specs.Stages.{Stage, ended, narrow, driver}
use Rattle.stage_laws.specs.Pieces.{Outcome, whole, met, clean, Counted, Follow, Known, known, clear, SoFar}
use Rattle.stage_laws.specs.Laws.{Falls, Tells, IsCarry}

-- what is known says up to where steps are still run: those below this one
abbrev pub limit_of : {B K F : Type 0} → ℕ → Known B K F → ℕ
limit_of last (known (Ok ys)) = last + 1
limit_of last (known (Err e)) = e.step
limit_of last (clear l) = l

-- a step takes in one more tuple
abbrev pub one_more : {B K F : Type 0} → ℕ → SoFar B K F → SoFar B K F
one_more number g = record {
  what = g.what;
  into = λ c. if c == number then g.into c + 1 else g.into c;
}

-- the tuple that a step took in last faults there
abbrev pub faulted : {B K F : Type 0} → ℕ → F → SoFar B K F → SoFar B K F
faulted number fault g = record {
  what = known (Err (record { step = number; tuple = g.into number; fault = fault; seen = [] }));
  into = g.into;
}

-- a tuple comes out behind the last step
abbrev pub came_out : {A K F : Type 0} → List A → A → SoFar (List A) K F → SoFar (List A) K F
came_out ys x g = record { what = known (Ok (ys ++ x ∷ [])); into = g.into }

-- what is known before the first tuple, where all steps are run, or only those below this limit
abbrev pub opening_known : {B K F : Type 0} → Bool → ℕ → B → Known B K F
opening_known full limit empty = if full then known (Ok empty) else clear limit

-- and no step has taken in a tuple
abbrev pub opening : {B K F : Type 0} → (last limit : ℕ) → B → SoFar B K F
opening last limit empty = record {
  what = opening_known (limit == last + 1) limit empty;
  into = λ c. 0;
}

-- what may be known in a run that began at this limit: all, a fault below the limit, or that no
-- step below it faults
abbrev pub Began : {B K F : Type 0} → (last limit : ℕ) → Known B K F → Type 0
Began last limit (known (Ok ys)) = limit ≡ last + 1
Began last limit (known (Err e)) = e.step < limit
Began last limit (clear l) = (l ≡ limit) × (limit ≤ last)

-- what is told of what is known
abbrev pub outcome_of : {B K F : Type 0} → Known B K F → Outcome B K F
outcome_of (known (Ok ys)) = whole ys
outcome_of (known (Err e)) = met e
outcome_of (clear l) = clean

-- a run, as it is told
abbrev pub as_told : {B K F : Type 0} → SoFar B K F → Counted B K F
as_told g = record { outcome = outcome_of g.what; into = g.into }

-- A narrow step takes in one more tuple. Either the step is not run any more, and the tuple is only
-- counted (`held`); or the tuple faults (`faults`); or what it gives goes through the steps behind,
-- for which the same state tells (`down`), and when it has, the state tells of this step too
-- (`up`).
pub record TakesOne {A M B K F : Type 0} (number last : ℕ) (f : A → Result (List M) F)
    (rest : Stage M B K F) : Type 0 where
  pub held : (xs : List A) (x : A) (g : SoFar B K F) → Tells number last (narrow number f rest) xs g
      → limit_of last g.what ≤ number
      → Tells number last (narrow number f rest) (xs ++ x ∷ []) (one_more number g)
  pub faults : (xs : List A) (x : A) (fault : F) (g : SoFar B K F)
      → Tells number last (narrow number f rest) xs g → number < limit_of last g.what
      → f x ≡ Err fault
      → Tells number last (narrow number f rest) (xs ++ x ∷ [])
      (faulted number fault (one_more number g))
  pub down : (xs : List A) (g : SoFar B K F) → Tells number last (narrow number f rest) xs g
      → number < limit_of last g.what
      → (ys : List M) × (each_from {K = K} number f 1 xs ≡ Ok ys)
      × Tells (number + 1) last rest ys (one_more number g)
  pub up : (xs : List A) (x : A) (ys zs : List M) (g : SoFar B K F)
      → each_from {K = K} number f 1 xs ≡ Ok ys → f x ≡ Ok zs → g.into number ≡ length xs + 1
      → Tells (number + 1) last rest (ys ++ zs) g
      → Tells number last (narrow number f rest) (xs ++ x ∷ []) g

-- A step of a driver takes in a list of lines. It gives a list, for which the same state tells, or
-- a fault; no step behind it has run then. Lines that come later go on.
pub record TakesLines {A M B K F : Type 0} (number last : ℕ) (f : A → Result (List M) F)
    (rest : Stage M B K F) : Type 0 where
  pub reads : (xs : List A) (ys : List M) (g : SoFar B K F) → each_read {K = K} number f xs ≡ Ok ys
      → g.into number ≡ 0 → Tells (number + 1) last rest ys g
      → Tells number last (driver number f rest) xs g
  pub faults : (xs : List A) (e : Met K F) (into : ℕ → ℕ) → each_read number f xs ≡ Err e
      → into number ≡ 0
      → Tells number last (driver number f rest) xs (record { what = known (Err e); into = into })
  pub down : (xs : List A) (ys : List M) (g : SoFar B K F) → each_read {K = K} number f xs ≡ Ok ys
      → Tells number last (driver number f rest) xs g → Tells (number + 1) last rest ys g
  pub goes_on : (xs ys : List A)
      → each_read {K = K} number f (xs ++ ys)
      ≡ joined (each_read number f xs) (each_read number f ys)

-- how a run at a limit begins, and that at its end what is known is the outcome at this limit
pub record RunsThrough {A B K F : Type 0} (first last : ℕ) (empty : B) (s : Stage A B K F)
    : Type 0 where
  pub begins : (limit : ℕ) → limit ≤ last + 1 → Tells first last s [] (opening last limit empty)
  pub ends : (limit : ℕ) (xs : List A) (g : SoFar B K F) → Began last limit g.what
      → Tells first last s xs g → IsCarry first last s xs limit (as_told g)

-- behind the last step a tuple comes out
abbrev pub ComesOut : (A K F : Type 0) → Type 0
ComesOut A K F = (first last : ℕ) (xs ys : List A) (x : A) (g : SoFar (List A) K F)
    → Tells first last ended xs g → g.what ≡ known (Ok ys)
    → Tells first last ended (xs ++ x ∷ []) (came_out ys x g)

-- the laws, for tuples and faults of any kind
pub record TuplesTell (A M W K F : Type 0) : Type 0 where
  pub takes : (number last : ℕ) (empty : W) (follow : Follow W K F) (f : A → Result (List M) F)
      (rest : Stage M W K F) → Falls (number + 1) last empty follow rest → number ≤ last
      → TakesOne number last f rest
  pub lines : (number last : ℕ) (empty : W) (follow : Follow W K F) (f : A → Result (List M) F)
      (rest : Stage M W K F) → Falls (number + 1) last empty follow rest → number ≤ last
      → TakesLines number last f rest
  pub comes_out : ComesOut A K F
  pub through : (first last : ℕ) (empty : W) (follow : Follow W K F) (s : Stage A W K F)
      → Falls first last empty follow s → RunsThrough first last empty s
