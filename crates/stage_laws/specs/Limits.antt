-- Outputs of pieces that tell the same faults as outcomes do.
use Rattle.std.specs.Prelude.{◌≡◌, ℕ, List, [], ◌∷◌, Option}
use Rattle.fault_merge.specs.declared.done.Done.{Done}
use Rattle.fault_merge.specs.Enough.{AllEnough}
use Rattle.stage_laws.specs.Pieces.{PieceDone, step_told}

-- each output ran at the limit of the outcome at its place, and tells the step of the same fault
abbrev pub TellTheSame : {O B K F : Type 0} → (O → Option ℕ) → List (Done O)
    → List (PieceDone B K F) → Type 0
TellTheSame tells [] [] = Unit {0}
TellTheSame tells [] (d ∷ ds) = ⊥
TellTheSame tells (o ∷ os) [] = ⊥
TellTheSame tells (o ∷ os) (d ∷ ds) =
    (o.limit ≡ d.limit) × (tells o.out ≡ step_told d.out) × TellTheSame tells os ds

-- limits that are enough for the faults that outputs tell are enough for these outcomes
abbrev pub LimitsAreEnough : (O B K F : Type 0) → Type 0
LimitsAreEnough O B K F = (tells : O → Option ℕ) (full : ℕ) (outputs : List (Done O))
    (ds : List (PieceDone B K F)) → TellTheSame tells outputs ds → AllEnough tells full outputs
    → AllEnough step_told full ds
