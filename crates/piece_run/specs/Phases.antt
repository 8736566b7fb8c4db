-- A stage in two phases: the steps before the last one are run on the whole list, and then the last
-- one on what they give.
use Rattle.std.specs.Prelude.{◌≡◌, ℕ, ◌+◌, ◌<◌, ◌≤◌, nat_le, if◌then◌else◌, List, Err}
use Rattle.stage_laws.specs.Runs.{Met, ◌>>=◌}
use Rattle.stage_laws.specs.Stages.{Stage, into_next}
use Rattle.stage_laws.specs.Pieces.{Outcome, whole, met, clean, told_below}

-- the smaller of two limits
abbrev pub lower : ℕ → ℕ → ℕ
lower a b = if nat_le a b then a else b

-- The stage is what the first steps, from `number` up to the one before `at`, give, and then the
-- last step, whose number is `at`.
pub record IsThen {A M B K F : Type 0} (number at : ℕ) (first : Stage A (List M) K F)
    (last_step : Stage M B K F) (s : Stage A B K F) : Type 0 where
  pub run : (xs : List A) → s.run xs ≡ (first.run xs >>= last_step.run)
  pub below : (c : ℕ) (xs : List A) → number ≤ c → c < at → s.into c xs ≡ first.into c xs
  pub here : (xs : List A) → s.into at xs ≡ into_next last_step at (first.run xs)

-- its faults leave this step
abbrev pub LeavesAt : {M B K F : Type 0} → ℕ → Stage M B K F → Type 0
LeavesAt {M} {B} {K} {F} at s = (ys : List M) (e : Met K F) → s.run ys ≡ Err e → e.step ≡ at

-- what the last step makes of what was told of those before it
abbrev pub next_outcome : {M B K F : Type 0} → (at limit : ℕ) → Stage M B K F
    → Outcome (List M) K F → Outcome B K F
next_outcome at limit last_step (whole ys) = told_below (at + 1) limit (last_step.run ys)
next_outcome at limit last_step (met e) = met e
next_outcome at limit last_step clean = clean
