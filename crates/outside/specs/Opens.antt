-- What inputs count, and what an open and a close do to each count.
use Rattle.std.specs.Prelude.{◌≡◌, ◌<◌, ◌≤◌, ℕ, Result, Ok, Err}
use Rattle.outside.specs.Counted.{Rose, Rises, RoseByOne, StaysFull}
use Rattle.outside.specs.declared.input.OpenFault.{OpenFault}
use Rattle.outside.specs.declared.input.OpenFault.TheVariants.{Missing, Failed}

-- how often an open, or a call on a file that was closed since, has failed; how often there was no
-- file of the name; and how many files were given out and taken back
pub record InputCounts : Type 0 where
  pub faults : ℕ
  pub misses : ℕ
  pub opened : ℕ
  pub closed : ℕ

-- one more file was missing exactly where the answer says so
abbrev pub MissesBy : {F : Type 0} → Result F OpenFault → ℕ → ℕ → Type 0
MissesBy (Err Missing) before after = RoseByOne before after
MissesBy _ before after = after ≡ before

-- faults rise exactly where the open fails
abbrev pub FaultsBy : {F : Type 0} → Result F OpenFault → ℕ → ℕ → Type 0
FaultsBy (Err Failed) before after = Rises before after
FaultsBy _ before after = after ≡ before

-- one more file was opened exactly where one is given
abbrev pub OpensBy : {F : Type 0} → Result F OpenFault → ℕ → ℕ → Type 0
OpensBy (Ok f) before after = RoseByOne before after
OpensBy _ before after = after ≡ before

-- what an open does to the counts, by its answer
pub record CountsOpen {F : Type 0} (answer : Result F OpenFault) (before after : InputCounts)
    : Type 0 where
  pub misses : MissesBy answer before.misses after.misses
  pub faults : FaultsBy answer before.faults after.faults
  pub opened : OpensBy answer before.opened after.opened
  pub closed : after.closed ≡ before.closed

-- what a close does to the counts, by how often a call on the file that it takes back has failed
pub record CountsClose (failed : ℕ) (before after : InputCounts) : Type 0 where
  pub carried : 0 < failed → Rose before.faults after.faults
  pub clean : failed ≡ 0 → after.faults ≡ before.faults
  pub rises : before.faults ≤ after.faults
  pub full : StaysFull before.faults after.faults
  pub closed : RoseByOne before.closed after.closed
  pub opened : after.opened ≡ before.opened
  pub misses : after.misses ≡ before.misses
