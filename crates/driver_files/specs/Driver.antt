-- The open files of a driver, and what opening them leaves of the counts.
use Rattle.std.specs.Prelude.{◌≡◌, ◌<◌, ◌≤◌, ◌⊎◌, ◌+◌, ◌*◌, ℕ, List, Vec, length, vec_len, map, sum_by, All, Option, None, Some, Result, Ok, Err, IfSome, Bool, true, false, is_some}
use Rattle.std.specs.declared.alloc.Global.{Global}
use Rattle.outside.specs.Counted.{Rises, RoseByOne}
use Rattle.outside.specs.Opens.{InputCounts}
use Rattle.outside.specs.World.{World, file_of}
use Rattle.line_pieces.specs.Cuts.{size_used, HaveLengths}
use Rattle.line_pieces.specs.declared.fault.PieceFault.{PieceFault}
use Rattle.line_pieces.specs.declared.fault.PieceFault.TheVariants.{ReadFault, NoMemory}
use Rattle.driver_files.specs.Counts.{RoseBy}
use Rattle.driver_files.specs.Seats.{cutting_of, driver_opens, files_of, most_files, pieces_in_all, seats_of}
use Rattle.driver_files.specs.declared.driver.DriverFiles.{DriverFiles}
use Rattle.driver_files.specs.declared.driver.Opening.{Opening}
use Rattle.driver_files.specs.declared.driver.Opening.TheVariants.{Open, Missing}

-- what a file of this name tells of its bytes: all of them in a told world, else nothing
abbrev pub told_file : Option World → List ℕ → Option (List ℕ)
told_file None name = None
told_file (Some world) name = file_of world name

-- what files of these names tell
abbrev pub told_files : Option World → List (List ℕ) → List (Option (List ℕ))
told_files world names = map (told_file world) names

-- open files that tell this, and on which no call has failed
pub record IsSet {S : Type 0} (held : S → Option (List ℕ)) (faults : S → ℕ)
    (told : List (Option (List ℕ))) (files : List S) : Type 0 where
  pub tells : map held files ≡ told
  pub calm : All (λ f. faults f ≡ 0) files

-- how many files these sets have
abbrev pub files_in : {S : Type 0} → List (Vec S Global) → ℕ
files_in sets = sum_by vec_len sets

-- how often calls on these files have failed
abbrev pub failures : {S : Type 0} → (S → ℕ) → List S → ℕ
failures faults files = sum_by faults files

-- how often calls on the files of these sets have failed
abbrev pub failures_in : {S : Type 0} → (S → ℕ) → List (Vec S Global) → ℕ
failures_in faults sets = sum_by (λ s. failures faults s.items) sets

-- open files of these names: sets of one file for each name, in order, cut by their lengths
pub record IsDriver {S : Type 0} (held : S → Option (List ℕ)) (faults : S → ℕ)
    (world : Option World) (names : List (List ℕ)) (workers wanted : ℕ) (d : DriverFiles S)
    : Type 0 where
  pub lengths : HaveLengths d.cut.lengths (told_files world names)
  pub size : d.cut.size ≡ size_used d.cut.lengths wanted
  pub sets : All (λ s. IsSet held faults (told_files world names) s.items) d.sets.items
  pub some : 0 < vec_len d.sets
  pub most : vec_len d.sets ≤ seats_of workers (pieces_in_all d.cut) (length names)
  pub few : files_in d.sets.items ≤ most_files

-- the same over a told world: each name is there, the cut is that of their bytes, and there are as
-- many sets as are to be
pub record IsToldDriver {S : Type 0} (world : World) (names : List (List ℕ)) (workers wanted : ℕ)
    (d : DriverFiles S) : Type 0 where
  pub files : List (List ℕ)
  pub there : files_of world names ≡ Some files
  pub cut : d.cut ≡ cutting_of files wanted
  pub sets : vec_len d.sets ≡ seats_of workers (pieces_in_all d.cut) (length names)

-- what an answer says over any world
abbrev pub IsOpening : {S : Type 0} → (S → Option (List ℕ)) → (S → ℕ) → Option World
    → List (List ℕ) → (workers wanted : ℕ) → Opening S → Type 0
IsOpening held faults world names workers wanted (Open d) =
    IsDriver held faults world names workers wanted d
IsOpening held faults world names workers wanted Missing = Unit {0}

-- what an answer says over a told world
abbrev pub IsToldOpening : {S : Type 0} → World → List (List ℕ) → (workers wanted : ℕ) → Opening S
    → Type 0
IsToldOpening world names workers wanted (Open d) = IsToldDriver world names workers wanted d
IsToldOpening world names workers wanted Missing = files_of world names ≡ None

-- how many files an answer gives
abbrev pub files_given : {S : Type 0} → Result (Opening S) PieceFault → ℕ
files_given (Ok (Open d)) = files_in d.sets.items
files_given (Ok Missing) = 0
files_given (Err fault) = 0

-- how many files are opened, of k for each of some workers: all that are found before a missing one
-- is, and else no more than all
abbrev pub OpenedWithin : {S : Type 0} → (k workers : ℕ) → Result (Opening S) PieceFault → ℕ
    → Type 0
OpenedWithin k workers (Ok Missing) opened = opened < k
OpenedWithin k workers answer opened = opened ≤ k * workers

-- over a told world that opens n files: those that are given and those that were closed again
abbrev pub OpensJust : {S : Type 0} → (n : ℕ) → Result (Opening S) PieceFault → (again : ℕ)
    → Type 0
OpensJust n (Ok (Open d)) again = (files_in d.sets.items ≡ n) × (again ≡ 0)
OpensJust n (Ok Missing) again = again ≡ n
OpensJust n (Err fault) again = again ≤ n

-- a file was missing exactly where the answer says so; or, in a world that is not told, one was
-- that had been there, and there are fewer sets
abbrev pub MissesBy : {S : Type 0} → (told : Bool) → Result (Opening S) PieceFault → ℕ → ℕ → Type 0
MissesBy told (Ok Missing) before after = RoseByOne before after
MissesBy false (Ok (Open d)) before after = (after ≡ before) ⊎ RoseByOne before after
MissesBy true (Ok (Open d)) before after = after ≡ before
MissesBy told (Err fault) before after = after ≡ before

-- the faults rise exactly where reading failed
abbrev pub FaultsBy : {T : Type 0} → Result T PieceFault → ℕ → ℕ → Type 0
FaultsBy (Ok x) before after = after ≡ before
FaultsBy (Err ReadFault) before after = Rises before after
FaultsBy (Err NoMemory) before after = after ≡ before

-- what opening a driver leaves of the counts: the files that it gives stand open, and `again`
-- others were closed again
pub record CountsDriver {S : Type 0} (world : Option World) (names : List (List ℕ))
    (workers wanted : ℕ) (answer : Result (Opening S) PieceFault) (before after : InputCounts)
    : Type 0 where
  pub again : ℕ
  pub opened : RoseBy (files_given answer + again) before.opened after.opened
  pub closed : RoseBy again before.closed after.closed
  pub within : OpenedWithin (length names) workers answer (files_given answer + again)
  pub told : IfSome world (λ w. OpensJust (driver_opens w workers wanted names) answer again)
  pub misses : MissesBy (is_some world) answer before.misses after.misses
  pub faults : FaultsBy answer before.faults after.faults
