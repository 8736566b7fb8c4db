-- What one step makes of a whole list, and how a fault names where it was met.
use Rattle.std.specs.Prelude.{ℕ, ◌+◌, List, [], ◌∷◌, ◌++◌, Option, Some, None, Result, Ok, Err}

-- A fault as a stage meets it: the number of the step that it leaves, the place of the tuple, from
-- 1, in the list that this step takes in, and the keys that an order step has seen up to there. At
-- every other step nothing was seen.
pub record Met (K F : Type 0) : Type 0 where
  pub step : ℕ
  pub tuple : ℕ
  pub fault : F
  pub seen : List K

-- what comes of a value; a fault stays
infixl 10 ◌>>=◌
abbrev pub ◌>>=◌ : {A B E : Type 0} → Result A E → (A → Result B E) → Result B E
(Ok x) >>= f = f x
(Err e) >>= f = Err e

-- a list in front of another, where that is there
abbrev pub with_front : {B E : Type 0} → List B → Result (List B) E → Result (List B) E
with_front front (Ok ys) = Ok (front ++ ys)
with_front front (Err e) = Err e

-- one list behind another; of two faults the first stays
abbrev pub joined : {B E : Type 0} → Result (List B) E → Result (List B) E → Result (List B) E
joined (Ok xs) rest = with_front xs rest
joined (Err e) rest = Err e

-- the fault of the tuple at place `n` is met in this step
abbrev pub met_at : {B K F : Type 0} → (step n : ℕ) → Result (List B) F → Result (List B) (Met K F)
met_at step n (Ok ys) = Ok ys
met_at step n (Err fault) = Err (record { step = step; tuple = n; fault = fault; seen = [] })

-- what a step gives for each tuple of a list, in order, or its first fault; the first tuple's place
-- is `n`
abbrev pub each_from : {A B K F : Type 0} → (step : ℕ) → (A → Result (List B) F) → (n : ℕ) → List A
    → Result (List B) (Met K F)
each_from step f n [] = Ok []
each_from step f n (x ∷ xs) = joined (met_at step n (f x)) (each_from step f (n + 1) xs)

-- the same for a driver, which takes in one tuple, whatever it reads: a fault has the place 1
abbrev pub each_read : {A B K F : Type 0} → (step : ℕ) → (A → Result (List B) F) → List A
    → Result (List B) (Met K F)
each_read step f [] = Ok []
each_read step f (x ∷ xs) = joined (met_at step 1 (f x)) (each_read step f xs)

-- ---- an order step

-- a tuple and its keys in front of others; a later fault has seen these keys too
abbrev pub with_first : {A K F : Type 0} → K × A → Result (List (K × A)) (Met K F)
    → Result (List (K × A)) (Met K F)
with_first p (Ok ps) = Ok (p ∷ ps)
with_first p (Err e) = Err (record e { seen = p.0 ∷ e.seen })

-- a tuple has these keys, and the rest follows, unless they clash with keys before them
abbrev pub unless_clash : {A K F : Type 0} → (step n : ℕ) → A → K → Option F
    → Result (List (K × A)) (Met K F) → Result (List (K × A)) (Met K F)
unless_clash step n x r None rest = with_first (r, x) rest
unless_clash step n x r (Some fault) rest =
    Err (record { step = step; tuple = n; fault = fault; seen = r ∷ [] })

-- a tuple has keys, or its fault is met
abbrev pub with_keys : {A K F : Type 0} → (step n : ℕ) → Result K F
    → (K → Result (List (K × A)) (Met K F)) → Result (List (K × A)) (Met K F)
with_keys step n (Err fault) rest =
    Err (record { step = step; tuple = n; fault = fault; seen = [] })
with_keys step n (Ok r) rest = rest r

-- Each tuple with its keys, where `before` are those of the tuples in front; or the first tuple
-- that faults, by its keys or since they clash with those before them. The first tuple's place is
-- `n`.
abbrev pub keyed_from : {A K F : Type 0} → (step : ℕ) → (A → Result K F) → (List K → K → Option F)
    → (before : List K) → (n : ℕ) → List A → Result (List (K × A)) (Met K F)
keyed_from step keys clash before n [] = Ok []
keyed_from step keys clash before n (x ∷ xs) =
    with_keys step n (keys x) (λ r. unless_clash step n x r (clash before r)
    (keyed_from step keys clash (before ++ r ∷ []) (n + 1) xs))
