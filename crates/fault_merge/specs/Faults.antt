-- The faults that the outputs of all pieces tell, and the least of them.
use Rattle.std.specs.Prelude.{◌≡◌, ◌+◌, ℕ, List, [], ◌∷◌, Option, None, Some, slice_get}
use Rattle.std.specs.Option.{option_and_then}
use Rattle.fault_merge.specs.declared.at.At.{At}
use Rattle.fault_merge.specs.declared.done.Done.{Done}
use Rattle.fault_merge.specs.Places.{NotAfter, least_of}

-- the clause in which each piece faulted, where it did; pieces are numbered as their outputs stand
abbrev pub fault_at : {O : Type 0} → (O → Option ℕ) → List (Done O) → ℕ → Option ℕ
fault_at tells done p = option_and_then (λ d. tells d.out) (slice_get done p)

-- a is the least of the faults that f has for each piece, or f has none
abbrev pub IsLeastFault : (ℕ → Option ℕ) → Option At → Type 0
IsLeastFault f None = (p : ℕ) → f p ≡ None
IsLeastFault f (Some a) =
    (f a.piece ≡ Some a.clause)
    × ((p c : ℕ) → f p ≡ Some c → NotAfter a (record { clause = c; piece = p }))

-- the least place found, once it is known whether this piece faulted
abbrev pub least_with : Option At → Option ℕ → ℕ → Option At
least_with found None piece = found
least_with found (Some clause) piece =
    Some (least_of found (record { clause = clause; piece = piece }))

-- the least place found so far and in these outputs, of which the first is of this piece
abbrev pub least_fault : {O : Type 0} → (O → Option ℕ) → Option At → ℕ → List (Done O) → Option At
least_fault tells found piece [] = found
least_fault tells found piece (d ∷ ds) =
    least_fault tells (least_with found (tells d.out) piece) (piece + 1) ds
