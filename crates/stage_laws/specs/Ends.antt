-- The ends of stages: what they make of lists one behind the other, and the results.
use Rattle.std.specs.Prelude.{◌≡◌, ℕ, ◌+◌, ◌==◌, if◌then◌else◌, List, [], ◌∷◌, ◌++◌, length, map, Option, Some, None, IsSome, Result, Ok, Err}
use Rattle.stage_laws.specs.Runs.{Met, with_front}
use Rattle.stage_laws.specs.Stages.{Stage}
use Rattle.stage_laws.specs.Pieces.{Follow, Known, known, clear}

-- tuples, items and groups: one list and then the other
abbrev pub appended : {B K F : Type 0} → Follow (List B) K F
appended xs r = with_front xs r

-- where something else is kept of the lists, it is merged
abbrev pub merged : {W K F : Type 0} → (W → W → W) → Follow W K F
merged merge x (Ok y) = Ok (merge x y)
merged merge x (Err e) = Err e

-- what is kept of a list behind another is merged from what is kept of each
abbrev pub Merges : {B W : Type 0} → (List B → W) → (W → W → W) → Type 0
Merges {B} view merge = (xs ys : List B) → merge (view xs) (view ys) ≡ view (xs ++ ys)

-- ---- orders

-- the keys of tuples, in order
abbrev pub keys_of : {A K : Type 0} → List (K × A) → List K
keys_of ps = map (λ p. p.0) ps

-- the keys that were seen, of all tuples or up to the one that faults
abbrev pub seen_by : {A K F : Type 0} → Result (List (K × A)) (Met K F) → List K
seen_by (Ok ps) = keys_of ps
seen_by (Err e) = e.seen

-- a clash behind these keys has seen them too
abbrev pub having_seen : {K F : Type 0} → K → Option (Met K F) → Option (Met K F)
having_seen r None = None
having_seen r (Some e) = Some (record e { seen = r ∷ e.seen })

-- the keys of the tuple at place `n` clash with keys before them, or else a later clash stands
abbrev pub clash_or : {K F : Type 0} → ℕ → ℕ → K → Option F → Option (Met K F) → Option (Met K F)
clash_or step n r (Some fault) rest =
    Some (record { step = step; tuple = n; fault = fault; seen = r ∷ [] })
clash_or step n r None rest = having_seen r rest

-- the first clash of one of these keys with keys before it, among these or in `before`; the first
-- one's place is `n`
abbrev pub clash_after : {K F : Type 0} → ℕ → (List K → K → Option F) → List K → ℕ → List K
    → Option (Met K F)
clash_after step clash before n [] = None
clash_after step clash before n (r ∷ rs) =
    clash_or step n r (clash before r) (clash_after step clash (before ++ r ∷ []) (n + 1) rs)

-- what there is, unless there was a clash
abbrev pub unless : {B E : Type 0} → Option E → Result B E → Result B E
unless None r = r
unless (Some e) r = Err e

-- a fault has seen these keys too
abbrev pub seen_behind : {K F : Type 0} → List K → Met K F → Met K F
seen_behind before e = record e { seen = before ++ e.seen }

-- these tuples and those behind them; a fault has seen their keys too
abbrev pub in_front : {A K F : Type 0} → List (K × A) → Result (List (K × A)) (Met K F)
    → Result (List (K × A)) (Met K F)
in_front ps (Ok qs) = Ok (ps ++ qs)
in_front ps (Err e) = Err (seen_behind (keys_of ps) e)

-- keys behind those of other tuples: they are compared with these first
abbrev pub compared : {A K F : Type 0} → ℕ → (List K → K → Option F) → List (K × A)
    → Result (List (K × A)) (Met K F) → Result (List (K × A)) (Met K F)
compared step clash ps r =
    in_front ps (unless (clash_after step clash (keys_of ps) (length ps + 1) (seen_by r)) r)

-- an order's end: keys are compared with those before them; a fault of an earlier step stays
abbrev pub in_order : {A K F : Type 0} → ℕ → (List K → K → Option F) → Follow (List (K × A)) K F
in_order step clash ps (Ok qs) = compared step clash ps (Ok qs)
in_order step clash ps (Err e) =
    if e.step == step then compared step clash ps (Err e) else Err e

-- keys that clash with some also clash where more stand in front of these
abbrev pub ClashesStay : {K F : Type 0} → (List K → K → Option F) → Type 0
ClashesStay {K} clash = (front before : List K) (r : K)
    → IsSome (clash before r) → IsSome (clash (front ++ before) r)

-- ---- the results of stages

-- what an end makes of all that comes out; a fault is marked with where it was met
abbrev pub ended_by : {B C K F : Type 0} → (Met K F → F) → (B → Result C F) → Result B (Met K F)
    → Result C F
ended_by mark finish (Ok x) = finish x
ended_by mark finish (Err e) = Err (mark e)

-- the result of a stage on a whole list, by its end
abbrev pub stage : {A B C K F : Type 0} → (Met K F → F) → (B → Result C F) → Stage A B K F → List A
    → Result C F
stage mark finish s xs = ended_by mark finish (s.run xs)

-- the result on pieces, where all is known of them
abbrev pub result_of : {B C K F : Type 0} → (Met K F → F) → (B → Result C F) → Known B K F
    → Option (Result C F)
result_of mark finish (known r) = Some (ended_by mark finish r)
result_of mark finish (clear l) = None

-- the result of `count`: each tuple with its place
abbrev pub numbered_from : {A B : Type 0} → (ℕ → A → B) → ℕ → List A → List B
numbered_from bind n [] = []
numbered_from bind n (x ∷ xs) = bind n x ∷ numbered_from bind (n + 1) xs
