-- What a call of the program leaves, by the status that it ends with.
use Rattle.std.specs.Prelude.{◌≡◌, ◌<◌, ◌≤◌, ◌⊎◌, ◌+◌, ◌-◌, ◌^◌, ℕ, Bool, true, false, List, [], ◌∷◌, ◌++◌, Option, None, Some, codes, length}
use Rattle.std.specs.Fmt.{decimal}
use Rattle.std.specs.Str.{encode_utf8_all}
use Rattle.item_tree.specs.declared.code.Code.{Code}
use Rattle.item_tree.specs.declared.fault.Spot.{Spot}
use Rattle.item_tree.specs.Codes.{code_text}
use Rattle.outside.specs.Counted.{Rose, RoseByOne, appended, CutShort}
use Rattle.outside.specs.Opens.{InputCounts}
use Rattle.rumble_run.specs.Answer.{Answer, lined, spot_text, stats_text, usage}
use Rattle.rumble_run.specs.Commands.{wants_stats}
use Rattle.rumble_run.specs.Opens.{Search, all_opens, all_misses}
use Rattle.rumble_run.specs.declared.status.Status.{Status}
use Rattle.rumble_run.specs.declared.command.Action.{Action}
use Rattle.rumble_run.specs.declared.command.Action.TheVariants as action
use Rattle.rumble_run.specs.declared.command.Command.{Command}
use Rattle.rumble_run.specs.declared.command.Command.TheVariants.{Query, Trial}
use Rattle.rumble_run.specs.declared.status.Status.TheVariants.{Done, Raised, Refused, Usage, ReadFault, WriteFault, NoMemory, NoQuery}

-- the status is the answer's; or writing its output failed, reading failed, or memory was short
abbrev pub StatusBy : Answer → Status → Type 0
StatusBy a WriteFault = a.status ≡ Done
StatusBy a ReadFault = Unit {0}
StatusBy a NoMemory = Unit {0}
StatusBy a status = a.status ≡ status

-- all of the text is on the output, or a prefix of it that lacks a byte, or nothing
abbrev pub OutBy : List ℕ → Status → Option (List ℕ) → Option (List ℕ) → Type 0
OutBy text Done before after = after ≡ appended before text
OutBy text WriteFault before after = CutShort text before after
OutBy text _ before after = after ≡ before

-- the text for the errors, given the answer's
abbrev pub err_by : List ℕ → Status → List ℕ
err_by text ReadFault = lined (codes "read fault")
err_by text WriteFault = lined (codes "write fault")
err_by text NoMemory = lined (codes "no memory")
err_by text _ = text

-- a code and where it stands, as `CODE at LINE:COLUMN`
abbrev pub code_at : Code → ℕ → ℕ → List ℕ
code_at code line column = code_text code ++ codes " at " ++ (decimal line ++ 58 ∷ decimal column)

-- a text in the form `refused CODE at LINE:COLUMN`
abbrev pub TellsRefusal : List ℕ → Type 0
TellsRefusal text =
    (code : Code) × (line : ℕ) × (column : ℕ)
    × (text ≡ lined (codes "refused " ++ code_at code line column))

-- a text in the form `raised CODE at LINE:COLUMN`, with a spot after it where there is one
abbrev pub TellsError : List ℕ → Type 0
TellsError text =
    (code : Code) × (line : ℕ) × (column : ℕ) × (spot : Option Spot)
    × (text ≡ lined (codes "raised " ++ code_at code line column ++ spot_text spot))

-- the query that is missing is the command's
abbrev pub TellsNoQuery : Option Command → List ℕ → Type 0
TellsNoQuery command text =
    (act : Action) × (name : List ℕ) × (command ≡ Some (Query act name))
    × (text ≡ lined (codes "no query " ++ encode_utf8_all name))

-- the statistics where they are asked for, and else nothing
abbrev pub TellsStats : Bool → List ℕ → Type 0
TellsStats true text = (items : ℕ) × (bytes : ℕ) × (text ≡ lined (stats_text items bytes))
TellsStats false text = text ≡ []

-- the form of the text for the errors that a status has, by the command and whatever the world
abbrev pub HasText : Option Command → List ℕ → Status → Type 0
HasText command text Done = TellsStats (wants_stats command) text
HasText command text Raised = TellsError text
HasText command text Refused = TellsRefusal text
HasText command text Usage = text ≡ usage.err
HasText command text ReadFault = text ≡ lined (codes "read fault")
HasText command text WriteFault = text ≡ lined (codes "write fault")
HasText command text NoMemory = text ≡ lined (codes "no memory")
HasText command text NoQuery = TellsNoQuery command text

-- the text is added whole and no fault is counted, or it is cut short and one is
abbrev pub Wrote : List ℕ → Option (List ℕ) → Option (List ℕ) → ℕ → ℕ → Type 0
Wrote text before after faults faults_after =
    ((after ≡ appended before text) × (faults_after ≡ faults))
    ⊎ (CutShort text before after × Rose faults faults_after)

-- no count falls
pub record NoCountFalls (before after : InputCounts) : Type 0 where
  pub faults : before.faults ≤ after.faults
  pub misses : before.misses ≤ after.misses
  pub opened : before.opened ≤ after.opened
  pub closed : before.closed ≤ after.closed

-- as many files were closed as were opened
pub record IsBalanced (before after : InputCounts) : Type 0 where
  pub same : after.opened < 2 ^ 64 - 1 → after.closed < 2 ^ 64 - 1
      → after.opened + before.closed ≡ before.opened + after.closed

-- so many files were opened, or fewer
abbrev pub OpenedAtMost : ℕ → InputCounts → InputCounts → Type 0
OpenedAtMost n before after = after.opened ≤ before.opened + n

-- so many files were opened
abbrev pub OpenedJust : ℕ → InputCounts → InputCounts → Type 0
OpenedJust n before after =
    OpenedAtMost n before after
    × (after.opened < 2 ^ 64 - 1 → after.opened ≡ before.opened + n)

-- that many files were opened, or more, but no more than `most`
abbrev pub OpenedBetween : (least most : ℕ) → InputCounts → InputCounts → Type 0
OpenedBetween least most before after =
    OpenedAtMost most before after
    × (after.opened < 2 ^ 64 - 1 → before.opened + least ≤ after.opened)

-- each file of a search was opened, in all that many times where it is certain that each driver
-- ran; and else at least those that no driver opens
abbrev pub OpenedWhere : (certain : Bool) → Search → InputCounts → InputCounts → Type 0
OpenedWhere true search before after = OpenedJust (all_opens search) before after
OpenedWhere false search before after =
    OpenedBetween (length search.files) (all_opens search) before after

-- The files of a search were opened: where the output was made, each; where the query raised an
-- error, at least those that no driver opens; and where reading failed or memory was short, some.
abbrev pub OpenedBy : Search → Status → InputCounts → InputCounts → Type 0
OpenedBy search Done before after = OpenedWhere search.driven.certain search before after
OpenedBy search WriteFault before after = OpenedWhere search.driven.certain search before after
OpenedBy search ReadFault before after = OpenedAtMost (all_opens search) before after
OpenedBy search NoMemory before after = OpenedAtMost (all_opens search) before after
OpenedBy search _ before after =
    OpenedBetween (length search.files) (all_opens search) before after

-- so many names were missing, or fewer
abbrev pub MissedAtMost : ℕ → InputCounts → InputCounts → Type 0
MissedAtMost n before after = after.misses ≤ before.misses + n

-- so many names were missing
abbrev pub MissedJust : ℕ → InputCounts → InputCounts → Type 0
MissedJust n before after =
    MissedAtMost n before after
    × (after.misses < 2 ^ 64 - 1 → after.misses ≡ before.misses + n)

-- that many names were missing, or more, but no more than `most`
abbrev pub MissedBetween : (least most : ℕ) → InputCounts → InputCounts → Type 0
MissedBetween least most before after =
    MissedAtMost most before after
    × (after.misses < 2 ^ 64 - 1 → before.misses + least ≤ after.misses)

-- each name that is missing was looked for once; where it is not certain that each driver had a
-- value, each may have met one missing name more
abbrev pub MissedWhere : (certain : Bool) → Search → InputCounts → InputCounts → Type 0
MissedWhere true search before after = MissedJust (length search.missing) before after
MissedWhere false search before after =
    MissedBetween (length search.missing) (all_misses search) before after

-- the same by the status; where reading failed or memory was short, some were looked for
abbrev pub MissedBy : Search → Status → InputCounts → InputCounts → Type 0
MissedBy search Done before after = MissedWhere search.driven.certain search before after
MissedBy search WriteFault before after = MissedWhere search.driven.certain search before after
MissedBy search ReadFault before after = MissedAtMost (all_misses search) before after
MissedBy search NoMemory before after = MissedAtMost (all_misses search) before after
MissedBy search _ before after =
    MissedBetween (length search.missing) (all_misses search) before after

-- an open, or a call on a file, failed
abbrev pub FaultsRose : InputCounts → InputCounts → Type 0
FaultsRose before after = Rose before.faults after.faults

-- there was no file of one name
abbrev pub MissesRose : InputCounts → InputCounts → Type 0
MissesRose before after = RoseByOne before.misses after.misses

-- no file was looked for: each count is what it was
abbrev pub LooksForNone : InputCounts → InputCounts → Type 0
LooksForNone before after = after ≡ before

-- one file was looked for at most: none was opened, or one and none was missing
abbrev pub LooksForOne : Status → InputCounts → InputCounts → Type 0
LooksForOne NoQuery before after = after.opened ≡ before.opened
LooksForOne NoMemory before after =
    OpenedAtMost 1 before after
    × ((after.opened ≡ before.opened) ⊎ (after.misses ≡ before.misses))
LooksForOne status before after =
    OpenedAtMost 1 before after × (after.misses ≡ before.misses)

-- `check` and `explain` look for no file but their query, and a trial for none
abbrev pub ChecksAlone : Option Command → Status → InputCounts → InputCounts → Type 0
ChecksAlone (Some (Query action.Check name)) status before after = LooksForOne status before after
ChecksAlone (Some (Query action.Explain name)) status before after =
    LooksForOne status before after
ChecksAlone (Some (Trial number lines run)) status before after = LooksForNone before after
ChecksAlone _ status before after = Unit {0}

-- a count of faults that did not rise
abbrev pub Calm : ℕ → ℕ → Type 0
Calm before after = (after ≤ before) × (after < 2 ^ 64 - 1)

-- where no object that was handed in failed, the call ends with the answer's status, or for want
-- of memory
abbrev pub Completes : Answer → Status → Type 0
Completes a status = (status ≡ NoMemory) ⊎ (status ≡ a.status)

-- a file was opened
abbrev pub OpensRose : InputCounts → InputCounts → Type 0
OpensRose before after = Rose before.opened after.opened

-- which files were looked for: where a query ran the query's, which was there; with a refusal that
-- one alone; with a missing query one alone, which was missing; without a command none
abbrev pub OpensByStatus : Status → InputCounts → InputCounts → Type 0
OpensByStatus Done before after = OpensRose before after
OpensByStatus Raised before after = OpensRose before after
OpensByStatus WriteFault before after = OpensRose before after
OpensByStatus Refused before after =
    RoseByOne before.opened after.opened × (after.misses ≡ before.misses)
OpensByStatus Usage before after = LooksForNone before after
OpensByStatus NoQuery before after =
    (after.opened ≡ before.opened) × RoseByOne before.misses after.misses
OpensByStatus _ before after = Unit {0}

-- the same by the command: a trial looks for no file at all
abbrev pub OpensBy : Option Command → Status → InputCounts → InputCounts → Type 0
OpensBy (Some (Trial number lines run)) status before after = LooksForNone before after
OpensBy (Some (Query act name)) status before after = OpensByStatus status before after
OpensBy None status before after = OpensByStatus status before after
