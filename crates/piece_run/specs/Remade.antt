-- The same steps, where something else is kept of what comes out, and no step sees keys.
use Rattle.std.specs.Prelude.{◌≡◌, ℕ, List, [], Result, Ok, Err}
use Rattle.stage_laws.specs.Runs.{Met}
use Rattle.stage_laws.specs.Stages.{Stage}
use Rattle.stage_laws.specs.Pieces.{Outcome, whole, met, clean, Counted}

-- a fault of a step that sees no keys, in a stage whose keys are of another type
abbrev pub unseen : {K J F : Type 0} → Met K F → Met J F
unseen e = record { step = e.step; tuple = e.tuple; fault = e.fault; seen = [] }

abbrev pub remade : {B W K J F : Type 0} → (B → W) → Result B (Met K F) → Result W (Met J F)
remade view (Ok x) = Ok (view x)
remade view (Err e) = Err (unseen e)

abbrev pub outcome_remade : {B W K J F : Type 0} → (B → W) → Outcome B K F → Outcome W J F
outcome_remade view (whole x) = whole (view x)
outcome_remade view (met e) = met (unseen e)
outcome_remade view clean = clean

abbrev pub counted_remade : {B W K J F : Type 0} → (B → W) → Counted B K F → Counted W J F
counted_remade view out = record { outcome = outcome_remade view out.outcome; into = out.into }

-- the second stage is the first one, seen so
pub record IsRemade {A B W K J F : Type 0} (view : B → W) (s : Stage A B K F) (t : Stage A W J F)
    : Type 0 where
  pub run : (xs : List A) → t.run xs ≡ remade view (s.run xs)
  pub into : (c : ℕ) (xs : List A) → t.into c xs ≡ s.into c xs
