-- What there is of the name that loading wants next.
use Rattle.std.specs.Prelude.{◌≡◌, ◌+◌, ◌≤◌, ℕ, List, None, Some, Result, Ok, Err}
use Rattle.outside.specs.Counted.{RoseByOne}
use Rattle.outside.specs.Opens.{InputCounts}
use Rattle.line_pieces.specs.Faults.{CausedBy}
use Rattle.line_pieces.specs.declared.fault.PieceFault.{PieceFault}
use Rattle.outside.specs.World.{World, file_of}
use Rattle.module_names.specs.declared.alone.Unread.TheVariants as unread
use Rattle.module_names.specs.declared.wanted.Found.{Found}
use Rattle.module_names.specs.declared.wanted.Found.TheVariants.{Missing, Refused, Read}
use Rattle.module_names.specs.declared.file_bytes.Kept.{Kept}
use Rattle.module_names.specs.declared.order.Source as code
use Rattle.module_names.specs.Alone.{Reader, IsRead, AreKept, with_contents}
use Rattle.module_names.specs.Counts.{NoCountFalls, IsBalanced, OtherCause}
use Rattle.module_names.specs.Loading.{Name}
use Rattle.module_names.specs.Remaining.{source_view}

-- the reader's answer from which this was made
abbrev pub IsKept : {T : Type 0} → Reader T → List ℕ → code.Source (Kept T) → Type 0
IsKept {T} reads bytes kept =
    (source : code.Source T) × IsRead reads bytes (Ok source)
    × (source_view kept ≡ with_contents bytes (source_view source))

-- what is found in a world
abbrev pub IsFound : {T : Type 0} → Reader T → World → Name → Found T → Type 0
IsFound reads w name Missing = file_of w name ≡ None
IsFound reads w name (Refused code place contents) =
    (bytes : List ℕ) × (file_of w name ≡ Some bytes) × AreKept code place bytes contents
    × IsRead reads bytes (Err (unread.Refused code place))
IsFound reads w name (Read source) =
    (file_of w name ≡ Some source.rest.contents) × IsKept reads source.rest.contents source

-- one more file was missing where there is none, and else none
abbrev pub MissesFound : {T : Type 0} → Reader T → Result (Found T) PieceFault → ℕ → ℕ → Type 0
MissesFound reads (Ok Missing) before after = RoseByOne before after
MissesFound reads (Ok (Refused code place contents)) before after =
    OtherCause reads code × (after ≡ before)
MissesFound reads _ before after = after ≡ before

-- a file was opened where there is one
abbrev pub OpensFound : {T : Type 0} → Result (Found T) PieceFault → ℕ → ℕ → Type 0
OpensFound (Ok Missing) before after = after ≡ before
OpensFound (Ok _) before after = RoseByOne before after
OpensFound (Err fault) before after = after ≤ before + 1

pub record LeavesFound {T : Type 0} (reads : Reader T) (result : Result (Found T) PieceFault)
    (before after : InputCounts) : Type 0 where
  pub faults : CausedBy result before.faults after.faults
  pub misses : MissesFound reads result before.misses after.misses
  pub falls : NoCountFalls before after
  pub balanced : IsBalanced before after
  pub opened : OpensFound result before.opened after.opened
