-- What a read through the inputs leaves.
use Rattle.std.specs.Prelude.{◌≡◌, ◌≤◌, ◌+◌, ℕ, List, [], ◌∷◌, length, Option, None, Some, Result, Ok, Err}
use Rattle.outside.specs.Counted.{Rose, RoseByOne}
use Rattle.outside.specs.Opens.{InputCounts}
use Rattle.outside.specs.World.{World}
use Rattle.rumble_run.specs.Ends.{NoCountFalls, IsBalanced, OpenedAtMost, OpenedJust, MissedAtMost, MissedJust}
use Rattle.rumble_run.specs.Opens.{Search, search_among}
use Rattle.rumble_run.specs.declared.status.Stop.{Stop}
use Rattle.rumble_run.specs.declared.status.Stop.TheVariants.{ReadFault}

-- the faults stay at an answer, and rise where reading failed
abbrev pub CausedBy : {T : Type 0} → Result T Stop → ℕ → ℕ → Type 0
CausedBy (Ok x) before after = after ≡ before
CausedBy (Err ReadFault) before after = Rose before after
CausedBy (Err _) before after = Unit {0}

-- what is left of the counts, whatever is answered
pub record Leaves {T : Type 0} (result : Result T Stop) (before after : InputCounts) : Type 0 where
  pub cause : CausedBy result before.faults after.faults
  pub rises : NoCountFalls before after
  pub balanced : IsBalanced before after

-- one more file was missing where there was no such file, and else none
abbrev pub MissedOne : {T : Type 0} → Result (Option T) Stop → ℕ → ℕ → Type 0
MissedOne (Ok None) before after = RoseByOne before after
MissedOne _ before after = after ≡ before

-- a file was opened where its bytes were read, and none where there was no such file
abbrev pub OpenedOne : {T : Type 0} → Result (Option T) Stop → ℕ → ℕ → Type 0
OpenedOne (Ok (Some x)) before after = RoseByOne before after
OpenedOne (Ok None) before after = after ≡ before
OpenedOne (Err stop) before after = after ≤ before + 1

-- what a read of a whole file leaves of the counts
pub record LeavesRead {T : Type 0} (result : Result (Option T) Stop) (before after : InputCounts)
    : Type 0 where
  pub leaves : Leaves result before after
  pub missed : MissedOne result before.misses after.misses
  pub opened : OpenedOne result before.opened after.opened

-- a name that is looked for
abbrev pub search_of_name : World → List ℕ → Search
search_of_name world name = search_among world (name ∷ [])

-- the search was gone through
abbrev pub SearchedAll : Search → InputCounts → InputCounts → Type 0
SearchedAll search before after =
    OpenedJust (length search.files) before after × MissedJust (length search.missing) before after

-- some of it was
abbrev pub SearchedSome : Search → InputCounts → InputCounts → Type 0
SearchedSome search before after =
    OpenedAtMost (length search.files) before after
    × MissedAtMost (length search.missing) before after

-- the search was gone through, or, where the call stopped, some of it was
abbrev pub Searched : {T : Type 0} → Result T Stop → Search → InputCounts → InputCounts → Type 0
Searched (Ok x) search before after = SearchedAll search before after
Searched (Err stop) search before after = SearchedSome search before after
