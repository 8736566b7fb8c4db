-- What finding a query leaves of the counts.
use Rattle.std.specs.Prelude.{◌≡◌, ◌<◌, ◌≤◌, ◌+◌, ℕ, length, Result, Ok, Err}
use Rattle.item_tree.specs.declared.code.Code.{Code}
use Rattle.item_tree.specs.declared.code.Code.TheVariants.{PJST0007}
use Rattle.outside.specs.Counted.{Rose, RoseByOne}
use Rattle.outside.specs.Opens.{InputCounts}
use Rattle.module_names.specs.Counts.{NoCountFalls, IsBalanced, OpenedAtMost, OpenedJust}
use Rattle.module_names.specs.Loading.{most_files}
use Rattle.query_files.specs.declared.finding.Together.{Together}
use Rattle.query_files.specs.declared.finding.Unfound.{Unfound}
use Rattle.query_files.specs.declared.finding.Unfound.TheVariants.{NoQuery, Refused, ReadFault, NoMemory}

-- a query, or why there is none
abbrev pub Answered : Type 0
Answered = Result Together Unfound

-- the faults stay, and rose where reading failed
abbrev pub FaultsBy : Answered → ℕ → ℕ → Type 0
FaultsBy (Err ReadFault) before after = Rose before after
FaultsBy (Err NoMemory) before after = Unit {0}
FaultsBy _ before after = after ≡ before

-- one more file was missing where a library was, and else none
abbrev pub MissedFor : Code → ℕ → ℕ → Type 0
MissedFor PJST0007 before after = RoseByOne before after
MissedFor _ before after = after ≡ before

-- one more file was missing where the query or a library was, and else none
abbrev pub MissesBy : Answered → ℕ → ℕ → Type 0
MissesBy (Ok found) before after = after ≡ before
MissesBy (Err NoQuery) before after = RoseByOne before after
MissesBy (Err (Refused r contents)) before after = MissedFor r.code before after
MissesBy (Err ReadFault) before after = after ≡ before
MissesBy (Err NoMemory) before after = after ≤ before + 1

-- so many files were opened, at least one, and no more than a query may have
abbrev pub OpenedFiles : ℕ → InputCounts → InputCounts → Type 0
OpenedFiles n before after = (0 < n) × (n ≤ most_files) × OpenedJust n before after

-- the query's file and those of its libraries were opened, each once
abbrev pub OpensBy : Answered → InputCounts → InputCounts → Type 0
OpensBy (Ok found) before after = OpenedFiles (length found.texts) before after
OpensBy (Err NoQuery) before after = after.opened ≡ before.opened
OpensBy (Err (Refused r contents)) before after = OpenedFiles r.opened before after
OpensBy (Err _) before after = OpenedAtMost most_files before after

pub record LeavesFound (result : Answered) (before after : InputCounts) : Type 0 where
  pub faults : FaultsBy result before.faults after.faults
  pub misses : MissesBy result before.misses after.misses
  pub falls : NoCountFalls before after
  pub balanced : IsBalanced before after
  pub opened : OpensBy result before after
