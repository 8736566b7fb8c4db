-- Laws of least faults and of limits that are enough.
use Rattle.std.specs.Prelude.{◌≡◌, ◌<◌, ◌↔◌, ℕ, List, Option, None, Some, true}
use Rattle.fault_merge.specs.declared.at.At.{At}
use Rattle.fault_merge.specs.declared.done.Done.{Done}
use Rattle.fault_merge.specs.Places.{NotAfter}
use Rattle.fault_merge.specs.Enough.{enough_of}
use Rattle.fault_merge.specs.Faults.{fault_at, IsLeastFault, least_fault}

-- A limit is enough for a piece exactly where it lies above each clause in which a fault of the
-- piece would not come after the least one.
abbrev pub EnoughReaches : Type 0
EnoughReaches =
    (limit piece full : ℕ) (a : At) → (enough_of limit piece (Some a) full ≡ true)
    ↔ ((clause : ℕ) → NotAfter (record { clause = clause; piece = piece }) a → clause < limit)

-- What is found in a list of outputs is the least of the faults that they tell.
abbrev pub LeastFaultStands : Type 0 → Type 0
LeastFaultStands O =
    (tells : O → Option ℕ) (done : List (Done O))
    → IsLeastFault (fault_at tells done) (least_fault tells None 0 done)

-- There is one least fault, or none.
abbrev pub LeastFaultIsOne : Type 0
LeastFaultIsOne =
    (f : ℕ → Option ℕ) (a b : Option At) → IsLeastFault f a → IsLeastFault f b → a ≡ b
