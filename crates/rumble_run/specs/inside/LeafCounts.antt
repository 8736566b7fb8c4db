-- What a leaf leaves of the counts of inputs.
use Rattle.std.specs.Prelude.{◌≡◌, ℕ, Bool, true, false, Result, Ok, Err}
use Rattle.outside.specs.Counted.{Rose}
use Rattle.outside.specs.Opens.{InputCounts}
use Rattle.rumble_run.specs.Ends.{NoCountFalls, IsBalanced, OpenedAtMost, OpenedJust, MissedAtMost, MissedJust}
use Rattle.piece_run.specs.declared.leaf_fault.LeafFault.{LeafFault}
use Rattle.piece_run.specs.declared.leaf_fault.LeafFault.TheVariants as leaf

-- the faults stay at an answer of the query, and rise where reading failed
abbrev pub CausedByLeaf : {K : Type 0} → Result K LeafFault → ℕ → ℕ → Type 0
CausedByLeaf (Ok kept) before after = after ≡ before
CausedByLeaf (Err (leaf.Raised fault)) before after = after ≡ before
CausedByLeaf (Err leaf.ReadFault) before after = Rose before after
CausedByLeaf (Err leaf.NoMemory) before after = Unit {0}

-- what is left of the counts, whatever is answered
pub record LeavesOfLeaf {K : Type 0} (result : Result K LeafFault) (before after : InputCounts)
    : Type 0 where
  pub cause : CausedByLeaf result before.faults after.faults
  pub rises : NoCountFalls before after
  pub balanced : IsBalanced before after

-- Over a told world: that many files were opened, and no name was missing, where each driver ran
-- and had a value; and else no more, with one missing name for each driver at most.
abbrev pub Drove : {K : Type 0} → Result K LeafFault → Bool → (files drivers : ℕ) → InputCounts
    → InputCounts → Type 0
Drove (Ok kept) true files drivers before after =
    OpenedJust files before after × MissedJust 0 before after
Drove (Ok kept) false files drivers before after =
    OpenedAtMost files before after × MissedAtMost drivers before after
Drove (Err fault) sure files drivers before after =
    OpenedAtMost files before after × MissedAtMost drivers before after
