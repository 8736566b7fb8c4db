-- What a worker finds in its slot, and what it leaves there.
use Rattle.std.specs.Prelude.{◌≡◌, ◌≤◌, ◌⊎◌, ℕ, List, [], ◌∷◌, None, Some, All, IfSome, map}
use Rattle.outside.specs.Counted.{Rose}
use Rattle.fault_merge.specs.declared.done.Done.{Done}
use Rattle.piece_board.specs.declared.job.JobFault.{JobFault}
use Rattle.piece_board.specs.declared.worker.Slot.{Slot}
use Rattle.piece_board.specs.Faults.{IsJobFault}

abbrev pub IsGood : {O : Type 0} → (ℕ → ℕ → O → Type 0) → Done O → Type 0
IsGood good d = good d.piece d.limit d.out

abbrev pub AllGood : {S O F : Type 0} → (ℕ → ℕ → O → Type 0) → List (Slot S O F) → Type 0
AllGood good ss = All (λ s. All (IsGood good) s.done.items) ss

abbrev pub seats_of : {S O F : Type 0} → List (Slot S O F) → List S
seats_of ss = map (λ s. s.seat) ss

-- a slot with nothing done
pub record IsFresh {S O F : Type 0} (slot : Slot S O F) : Type 0 where
  pub nothing : slot.done.items ≡ []
  pub no_fault : slot.fault ≡ None

-- a slot that a worker may begin with
pub record IsReady {S O F : Type 0} (fits : S → Type 0) (slot : Slot S O F) : Type 0 where
  pub seat_fits : fits slot.seat
  pub fresh : slot.done.items ≡ []
  pub no_fault : slot.fault ≡ None

-- what a worker leaves of a slot
pub record IsWorked {S O F : Type 0} (fits : S → Type 0) (trouble : S → ℕ)
    (good : ℕ → ℕ → O → Type 0) (old new : Slot S O F) : Type 0 where
  pub seat_fits : fits new.seat
  pub all_good : All (IsGood good) new.done.items
  pub calm : new.fault ≡ None → trouble new.seat ≡ trouble old.seat
  pub cause : IfSome new.fault (λ e. IsJobFault e → Rose (trouble old.seat) (trouble new.seat))
  pub rises : trouble old.seat ≤ trouble new.seat

-- each slot was worked on
abbrev pub WorkedAll : {S O F : Type 0} → (S → Type 0) → (S → ℕ) → (ℕ → ℕ → O → Type 0)
    → List (Slot S O F) → List (Slot S O F) → Type 0
WorkedAll fits trouble good [] [] = Unit {0}
WorkedAll fits trouble good [] (y ∷ ys) = ⊥
WorkedAll fits trouble good (x ∷ xs) [] = ⊥
WorkedAll fits trouble good (x ∷ xs) (y ∷ ys) =
    IsWorked fits trouble good x y × WorkedAll fits trouble good xs ys

-- no slot has a fault
abbrev pub NoFaults : {S O F : Type 0} → List (Slot S O F) → Type 0
NoFaults [] = Unit {0}
NoFaults (s ∷ ss) = (s.fault ≡ None) × NoFaults ss

-- some slot has this fault
abbrev pub SomeFault : {S O F : Type 0} → JobFault F → List (Slot S O F) → Type 0
SomeFault e [] = ⊥
SomeFault e (s ∷ ss) = (s.fault ≡ Some e) ⊎ SomeFault e ss
