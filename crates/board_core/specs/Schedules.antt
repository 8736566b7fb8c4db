-- What a list of events says of pieces and their faults.
use Rattle.std.specs.Prelude.{◌≡◌, ◌<◌, ◌+◌, ◌==◌, ℕ, zero, suc, Bool, true, false, List, [], ◌∷◌, Option, Some, if◌then◌else◌}
use Rattle.fault_merge.specs.declared.at.At.{At}
use Rattle.fault_merge.specs.Enough.{enough_of}
use Rattle.board_core.specs.declared.event.CoreEvent.{CoreEvent}
use Rattle.board_core.specs.declared.event.CoreEvent.TheVariants.{Took, Told, Stopped}

abbrev pub is_told : CoreEvent → Bool
is_told (Took piece limit) = false
is_told (Told clause piece) = true
is_told Stopped = false

-- the pieces that were taken, in order
abbrev pub pieces_of : List CoreEvent → List ℕ
pieces_of [] = []
pieces_of (Took piece limit ∷ es) = piece ∷ pieces_of es
pieces_of (Told clause piece ∷ es) = pieces_of es
pieces_of (Stopped ∷ es) = pieces_of es

-- the limits at which this piece was taken, in order
abbrev pub limits_of : ℕ → List CoreEvent → List ℕ
limits_of p [] = []
limits_of p (Took piece limit ∷ es) =
    if piece == p then limit ∷ limits_of p es else limits_of p es
limits_of p (Told clause piece ∷ es) = limits_of p es
limits_of p (Stopped ∷ es) = limits_of p es

-- the clauses that were told of this piece, in order
abbrev pub tells_of : ℕ → List CoreEvent → List ℕ
tells_of p [] = []
tells_of p (Took piece limit ∷ es) = tells_of p es
tells_of p (Told clause piece ∷ es) =
    if piece == p then clause ∷ tells_of p es else tells_of p es
tells_of p (Stopped ∷ es) = tells_of p es

-- that many numbers from this one on
abbrev pub numbers_from : ℕ → ℕ → List ℕ
numbers_from first zero = []
numbers_from first (suc count) = first ∷ numbers_from (first + 1) count

-- f has for each piece the clause of its fault: of pieces below total, and clauses below full
abbrev pub IsFaults : (ℕ → Option ℕ) → ℕ → ℕ → Type 0
IsFaults f total full = (p c : ℕ) → f p ≡ Some c → (p < total) × (c < full)

-- each tell is true of f
abbrev pub Truthful : (ℕ → Option ℕ) → List CoreEvent → Type 0
Truthful f [] = Unit {0}
Truthful f (Took piece limit ∷ es) = Truthful f es
Truthful f (Told clause piece ∷ es) = (f piece ≡ Some clause) × Truthful f es
Truthful f (Stopped ∷ es) = Truthful f es

-- each piece that was taken has a limit that is enough for this least fault
abbrev pub TakesEnough : Option At → ℕ → List CoreEvent → Type 0
TakesEnough a full [] = Unit {0}
TakesEnough a full (Took piece limit ∷ es) =
    (enough_of limit piece a full ≡ true) × TakesEnough a full es
TakesEnough a full (Told clause piece ∷ es) = TakesEnough a full es
TakesEnough a full (Stopped ∷ es) = TakesEnough a full es
