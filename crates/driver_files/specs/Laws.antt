-- Laws of opening and closing the files of a driver.
use Rattle.std.specs.Prelude.{ℕ, List, Option, Ok, Err}
use Rattle.outside.specs.Opens.{InputCounts}
use Rattle.outside.specs.World.{World}
use Rattle.line_pieces.specs.declared.fault.PieceFault.{PieceFault}
use Rattle.driver_files.specs.Counts.{ClosesFiles, IsBalanced, NoCountFalls}
use Rattle.driver_files.specs.Driver.{CountsDriver, files_in}
use Rattle.driver_files.specs.Together.{LeavesDriver}
use Rattle.driver_files.specs.declared.driver.DriverFiles.{DriverFiles}
use Rattle.driver_files.specs.declared.driver.Opening.TheVariants.{Open, Missing}

-- whoever closes all files that were given leaves as many closed as opened
abbrev pub FilesAreClosed : (S : Type 0) → Type 0
FilesAreClosed S =
    (world : Option World) → (names : List (List ℕ)) → (workers wanted failed : ℕ)
    → (d : DriverFiles S) → (before opened after : InputCounts)
    → CountsDriver world names workers wanted (Ok (Open d)) before opened
    → ClosesFiles (files_in d.sets.items) failed opened after
    → LeavesDriver world names workers wanted failed before after

-- where no file is given, none is left open
abbrev pub NoneIsLeftOpen : (S : Type 0) → Type 0
NoneIsLeftOpen S =
    (world : Option World) → (names : List (List ℕ)) → (workers wanted : ℕ)
    → (before after : InputCounts)
    → (CountsDriver {S = S} world names workers wanted (Ok Missing) before after
    → NoCountFalls before after × IsBalanced before after)
    × ((fault : PieceFault)
    → CountsDriver {S = S} world names workers wanted (Err fault) before after
    → NoCountFalls before after × IsBalanced before after)
