-- What calls leave of the counts of their inputs.
use Rattle.std.specs.Prelude.{◌≡◌, ◌<◌, ◌≤◌, ◌⊎◌, ◌+◌, ◌-◌, ◌^◌, ℕ, List, Option, None, Some, Result, Ok, Err}
use Rattle.item_tree.specs.declared.code.Code.{Code}
use Rattle.item_tree.specs.declared.code.Code.TheVariants.{XPST0003, PJST0005, PJST0006, PJST0007, PJST0008, PJST0009}
use Rattle.outside.specs.Counted.{Rose, RoseByOne}
use Rattle.outside.specs.Opens.{InputCounts}
use Rattle.line_pieces.specs.Faults as piece
use Rattle.line_pieces.specs.declared.fault.PieceFault.{PieceFault}
use Rattle.module_names.specs.declared.alone.Unread.TheVariants as unread
use Rattle.module_names.specs.declared.load_fault.LoadFault.{LoadFault}
use Rattle.module_names.specs.declared.load_fault.LoadFault.TheVariants.{Refused, NoQuery, ReadFault, NoMemory}
use Rattle.module_names.specs.Alone.{Reader}

-- ---- of any call

-- no count falls
pub record NoCountFalls (before after : InputCounts) : Type 0 where
  pub faults : before.faults ≤ after.faults
  pub misses : before.misses ≤ after.misses
  pub opened : before.opened ≤ after.opened
  pub closed : before.closed ≤ after.closed

-- as many files were closed as were opened
pub record IsBalanced (before after : InputCounts) : Type 0 where
  pub same : after.opened < 2 ^ 64 - 1 → after.closed < 2 ^ 64 - 1
      → after.opened + before.closed ≡ before.opened + after.closed

-- so many files were opened, or fewer
abbrev pub OpenedAtMost : ℕ → InputCounts → InputCounts → Type 0
OpenedAtMost n before after = after.opened ≤ before.opened + n

-- so many files were opened
abbrev pub OpenedJust : ℕ → InputCounts → InputCounts → Type 0
OpenedJust n before after =
    OpenedAtMost n before after
    × (after.opened < 2 ^ 64 - 1 → after.opened ≡ before.opened + n)

-- ---- of a read of a file, which may not be there

-- one more file was missing where there was no such file, and else none
abbrev pub MissedBy : {T : Type 0} → Result (Option T) PieceFault → ℕ → ℕ → Type 0
MissedBy (Ok None) before after = RoseByOne before after
MissedBy _ before after = after ≡ before

-- a file was opened where its bytes were read, and none where there was no such file
abbrev pub OpenedOne : {T : Type 0} → Result (Option T) PieceFault → ℕ → ℕ → Type 0
OpenedOne (Ok (Some x)) before after = RoseByOne before after
OpenedOne (Ok None) before after = after ≡ before
OpenedOne (Err fault) before after = after ≤ before + 1

pub record LeavesRead {T : Type 0} (result : Result (Option T) PieceFault)
    (before after : InputCounts) : Type 0 where
  pub cause : piece.CausedBy result before.faults after.faults
  pub falls : NoCountFalls before after
  pub balanced : IsBalanced before after
  pub missed : MissedBy result before.misses after.misses
  pub opened : OpenedOne result before.opened after.opened

-- ---- of loading

-- a file is refused with this code though each file that was wanted was there
pub data OtherCause {T : Type 0} (reads : Reader T) : Code → Type 0 where
  long : OtherCause reads PJST0005
  bytes : OtherCause reads XPST0003
  circle : OtherCause reads PJST0006
  full : OtherCause reads PJST0008
  body : OtherCause reads PJST0009
  reader : (text : List ℕ) (code : Code) (place : ℕ)
      → reads text (Err (unread.Refused code place)) → OtherCause reads code

-- one more file was missing where a library was, and else none
abbrev pub MissesByCode : {T : Type 0} → Reader T → Code → ℕ → ℕ → Type 0
MissesByCode reads code before after =
    (OtherCause reads code × (after ≡ before)) ⊎ ((code ≡ PJST0007) × RoseByOne before after)

-- one more file was missing where the query or a library was, and else none; or memory ran out
abbrev pub MissesBy : {T A : Type 0} → Reader T → Result A LoadFault → ℕ → ℕ → Type 0
MissesBy reads (Ok x) before after = after ≡ before
MissesBy reads (Err (Refused r contents)) before after = MissesByCode reads r.code before after
MissesBy reads (Err NoQuery) before after = RoseByOne before after
MissesBy reads (Err ReadFault) before after = after ≡ before
MissesBy reads (Err NoMemory) before after = after ≤ before + 1

-- the faults rise where reading failed
abbrev pub FaultsBy : {A : Type 0} → Result A LoadFault → ℕ → ℕ → Type 0
FaultsBy (Err ReadFault) before after = Rose before after
FaultsBy (Err NoMemory) before after = Unit {0}
FaultsBy _ before after = after ≡ before

pub record LeavesLoad {T A : Type 0} (reads : Reader T) (result : Result A LoadFault)
    (before after : InputCounts) : Type 0 where
  pub faults : FaultsBy result before.faults after.faults
  pub misses : MissesBy reads result before.misses after.misses
  pub falls : NoCountFalls before after
  pub balanced : IsBalanced before after
