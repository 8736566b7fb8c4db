-- What numbered outputs have made, and what a create and a finish do to each of their counts.
use Rattle.std.specs.Prelude.{◌≡◌, ◌<◌, ◌≤◌, ◌+◌, ◌++◌, ℕ, List, [], ◌∷◌, Option, None, Some, Result, Ok, Err, IfSome}
use Rattle.outside.specs.Counted.{Rose}
use Rattle.outside.specs.declared.outputs.CreateFault.{CreateFault}
use Rattle.outside.specs.declared.outputs.CreateFault.TheVariants.{Failed}

-- each output that was finished: its number and its bytes
abbrev pub Made : Type 0
Made = List (ℕ × List ℕ)

-- a sink is as good as new: where it tells what it wrote, that is nothing, and it tells it wherever
-- what was made is told
abbrev pub BeginsEmpty : Option Made → Option (List ℕ) → Type 0
BeginsEmpty None wrote = IfSome wrote (λ bytes. bytes ≡ [])
BeginsEmpty (Some made) wrote = wrote ≡ Some []

-- what is told once this output was finished too
abbrev pub finished_with : Option Made → ℕ → Option (List ℕ) → Option Made
finished_with (Some made) label (Some bytes) = Some (made ++ (label, bytes) ∷ [])
finished_with _ label _ = None

-- faults rise exactly where the create fails
abbrev pub CreateFaultsBy : {O : Type 0} → Result O CreateFault → ℕ → ℕ → Type 0
CreateFaultsBy (Err Failed) before after = (before ≤ after) × Rose before after
CreateFaultsBy _ before after = after ≡ before

-- one more was created exactly where a sink is given
abbrev pub CreatedBy : {O : Type 0} → Result O CreateFault → ℕ → ℕ → Type 0
CreatedBy (Ok out) before after = after ≡ before + 1
CreatedBy _ before after = after ≡ before

-- what a finish does to the faults, by how often a write to the sink that it takes has failed
pub record FinishFaults (failed before after : ℕ) : Type 0 where
  pub carried : 0 < failed → Rose before after
  pub clean : failed ≡ 0 → after ≡ before
  pub rises : before ≤ after
