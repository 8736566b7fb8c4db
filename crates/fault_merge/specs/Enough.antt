-- How far a piece must have run so that it can hide no fault that comes before the least one.
use Rattle.std.specs.Prelude.{◌≡◌, ◌==◌, ℕ, Bool, true, List, Option, None, Some, nat_lt, nat_le, slice_get, if◌then◌else◌}
use Rattle.fault_merge.specs.declared.at.At.{At}
use Rattle.fault_merge.specs.declared.done.Done.{Done}
use Rattle.fault_merge.specs.Faults.{least_fault}

-- A piece ran the clauses below the limit. Up to the piece of the least fault, the clause of that
-- fault was run too; in a later piece, all clauses before it.
abbrev pub enough_of : ℕ → ℕ → Option At → ℕ → Bool
enough_of limit piece None full = limit == full
enough_of limit piece (Some a) full =
    if nat_le piece a.piece then nat_lt a.clause limit else nat_le a.clause limit

-- each output of all pieces, in order, has a limit that is enough for the least of their faults
abbrev pub AllEnough : {O : Type 0} → (O → Option ℕ) → ℕ → List (Done O) → Type 0
AllEnough {O = O} tells full done =
    (p : ℕ) (d : Done O) → slice_get done p ≡ Some d
    → enough_of d.limit p (least_fault tells None 0 done) full ≡ true
