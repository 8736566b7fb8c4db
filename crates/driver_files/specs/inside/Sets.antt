-- What opening one set of files leaves, and what opening more of them does.
use Rattle.std.specs.Prelude.{◌≡◌, ◌<◌, ◌≤◌, ◌⊎◌, ◌+◌, ◌*◌, ℕ, List, length, Option, Result, Ok, Err, IfSome, Bool, true, false, is_some}
use Rattle.outside.specs.Counted.{Rose, RoseByOne}
use Rattle.outside.specs.Opens as opens
use Rattle.outside.specs.Opens.{InputCounts}
use Rattle.outside.specs.World.{World}
use Rattle.outside.specs.declared.input.OpenFault.{OpenFault}
use Rattle.outside.specs.declared.input.OpenFault.TheVariants as open_fault
use Rattle.line_pieces.specs.declared.fault.PieceFault.{PieceFault}
use Rattle.line_pieces.specs.declared.fault.PieceFault.TheVariants.{ReadFault, NoMemory}
use Rattle.driver_files.specs.Counts.{RoseBy}
use Rattle.driver_files.specs.Driver.{FaultsBy, files_in}
use Rattle.driver_files.specs.Seats.{driver_opens, found_before}
use Rattle.driver_files.specs.declared.driver.DriverFiles.{DriverFiles}

-- how many of k files are opened, by the answer
abbrev pub OpenedBy : {V : Type 0} → (k : ℕ) → Result V OpenFault → (opened : ℕ) → Type 0
OpenedBy k (Ok v) opened = opened ≡ k
OpenedBy k (Err open_fault.Missing) opened = opened < k
OpenedBy k (Err fault) opened = opened ≤ k

-- the same over a told world that has n of them before the first that is missing
abbrev pub FoundBy : {V : Type 0} → (n : ℕ) → Result V OpenFault → (opened : ℕ) → Type 0
FoundBy n (Ok v) opened = opened ≡ n
FoundBy n (Err open_fault.Missing) opened = opened ≡ n
FoundBy n (Err fault) opened = opened ≤ n

-- how many of the files that were opened are closed again: all, unless they are given
abbrev pub closed_again : {V : Type 0} → Result V OpenFault → ℕ → ℕ
closed_again (Ok v) opened = 0
closed_again (Err fault) opened = opened

-- what opening n files of these names leaves of the counts, of which some are closed again
pub record CountsSet {V : Type 0} (world : Option World) (names : List (List ℕ))
    (answer : Result V OpenFault) (n again : ℕ) (before after : InputCounts) : Type 0 where
  pub most : OpenedBy (length names) answer n
  pub told : IfSome world (λ w. FoundBy (found_before w names) answer n)
  pub opened : RoseBy n before.opened after.opened
  pub closed : RoseBy again before.closed after.closed
  pub misses : opens.MissesBy answer before.misses after.misses
  pub faults : opens.FaultsBy answer before.faults after.faults

-- the same with the number of files that were opened, which are closed where none is given
abbrev pub LeavesSet : {V : Type 0} → Option World → List (List ℕ) → Result V OpenFault
    → InputCounts → InputCounts → Type 0
LeavesSet world names answer before after =
    (n : ℕ) × CountsSet world names answer n (closed_again answer n) before after

-- what asking for lengths does to the faults of the files
abbrev pub LengthsFaults : {T : Type 0} → Result T PieceFault → ℕ → ℕ → Type 0
LengthsFaults (Ok x) before after = after ≡ before
LengthsFaults (Err ReadFault) before after = Rose before after
LengthsFaults (Err NoMemory) before after = after ≡ before

-- how many of some more sets are there: all of them, unless a name is missing that had been there,
-- which no told world allows
abbrev pub MoreBy : {T : Type 0} → (told : Bool) → (more : ℕ) → Result T PieceFault
    → (added again : ℕ) → Type 0
MoreBy true more (Ok x) added again = (added ≡ more) × (again ≡ 0)
MoreBy told more answer added again = Unit {0}

abbrev pub MissesMore : {T : Type 0} → (told : Bool) → Result T PieceFault → ℕ → ℕ → Type 0
MissesMore false (Ok x) before after = (after ≡ before) ⊎ RoseByOne before after
MissesMore told answer before after = after ≡ before

-- What opening more sets of k files leaves of the counts: so many sets were added, and `again`
-- other files were closed again.
pub record CountsMore {T : Type 0} (told : Bool) (k more added : ℕ) (answer : Result T PieceFault)
    (before after : InputCounts) : Type 0 where
  pub again : ℕ
  pub few : added ≤ more
  pub within : k * added + again ≤ k * more
  pub all : MoreBy told more answer added again
  pub opened : RoseBy (k * added + again) before.opened after.opened
  pub closed : RoseBy again before.closed after.closed
  pub misses : MissesMore told answer before.misses after.misses
  pub faults : FaultsBy answer before.faults after.faults

-- how many files an answer gives
abbrev pub files_had : {S : Type 0} → Result (DriverFiles S) PieceFault → ℕ
files_had (Ok d) = files_in d.sets.items
files_had (Err fault) = 0

-- over a told world that opens n files: those that are given and those that were closed again
abbrev pub RestJust : {S : Type 0} → (n : ℕ) → Result (DriverFiles S) PieceFault → (again : ℕ)
    → Type 0
RestJust n (Ok d) again = (files_in d.sets.items ≡ n) × (again ≡ 0)
RestJust n (Err fault) again = again ≤ n

-- What opening the sets behind the first leaves of the counts: so many more files were opened, and
-- of all, those of the first set among them, `again` were closed again.
pub record CountsRest {S : Type 0} (world : Option World) (names : List (List ℕ))
    (workers wanted : ℕ) (answer : Result (DriverFiles S) PieceFault) (before after : InputCounts)
    : Type 0 where
  pub more : ℕ
  pub again : ℕ
  pub whole : files_had answer + again ≡ length names + more
  pub within : length names + more ≤ length names * workers
  pub told : IfSome world (λ w. RestJust (driver_opens w workers wanted names) answer again)
  pub opened : RoseBy more before.opened after.opened
  pub closed : RoseBy again before.closed after.closed
  pub misses : MissesMore (is_some world) answer before.misses after.misses
  pub faults : FaultsBy answer before.faults after.faults
