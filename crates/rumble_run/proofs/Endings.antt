-- What an ending is, by the parts that it was made of.
use Rattle.std.proofs.Common.{◌≡◌, ◌≤◌, ◌+◌, ◌⊎◌, ℕ, Bool, true, false, List, length, ◌++◌, Option, None, Some, Result, Ok, Err, refl, sym, ap, ◌∙◌, subst, codes, inl, inr, arith}
use Rattle.std.specs.Prelude.{IfSome, IfOk, string_bytes}
use Rattle.std.specs.Str.{encode_utf8_all}
use Rattle.item_tree.specs.declared.fault.Fault.{Fault}
use Rattle.item_reader.specs.Lines.{without_mark}
use Rattle.outside.specs.Counted.{RoseByOne}
use Rattle.outside.specs.World.{World, file_of}
use Rattle.outside.specs.Opens.{InputCounts}
use Rattle.query_tree.specs.Inputs.{input_names}
use Rattle.query_meaning.specs.Library.{Library}
use Rattle.query_meaning.specs.Outcome.{Outcome}
use Rattle.query_meaning.specs.Queries.{query_value}
use Rattle.query_meaning.specs.inside.Computed.{inputs_of}
use Rattle.rumble_run.specs.Answer.{Answer, IsOfQuery, IsOfFile, IsOfTrial, IsOfExecutable, of_outcome, output_of, says, refused, accepted, usage}
use Rattle.rumble_run.specs.Commands.{command_of, wants_stats, ReadsNone}
use Rattle.rumble_run.specs.Ends.{StatusBy, Completes, Calm, OpensBy, OpensByStatus, OpensRose, OpenedAtMost, OpenedBy, MissedBy, LooksForNone, LooksForOne, ChecksAlone, NoCountFalls}
use Rattle.rumble_run.specs.Front.{Executable, IsFront}
use Rattle.rumble_run.specs.Opens.{Search, OfSearch}
use Rattle.text_places.specs.Places.{line_of, column_of}
use Rattle.rumble_run.specs.inside.Computed.{of_executable, of_run}
use Rattle.rumble_run.specs.inside.Decided.{SearchedBy}
use Rattle.rumble_run.specs.inside.Seen.{IsShaped, IsSilent, IsOfStatus, IsToldAnswer, LeavesRun, EndsAs, answer_of, decided_status, status_of_stop}
use Rattle.rumble_run.specs.declared.ending.Ending.{Ending}
use Rattle.rumble_run.specs.declared.status.Status.{Status}
use Rattle.rumble_run.specs.declared.status.Stop.{Stop}
use Rattle.rumble_run.specs.declared.status.Stop.TheVariants as stop
use Rattle.rumble_run.specs.declared.status.Status.TheVariants.{Done, Raised, Refused, Usage, ReadFault, WriteFault, NoMemory, NoQuery}
use Rattle.rumble_run.specs.declared.command.Action.{Action}
use Rattle.rumble_run.specs.declared.command.Action.TheVariants as action
use Rattle.rumble_run.specs.declared.command.Running.{Running}
use Rattle.rumble_run.specs.declared.command.Command.{Command}
use Rattle.rumble_run.specs.declared.command.Command.TheVariants.{Query, Trial}
use Rattle.rumble_run.proofs.Answered.{anywhere, over_told}
use Rattle.rumble_run.proofs.Computing.{executable_answered}

abbrev pub IsOf : Bool → Answer → Type 0
IsOf stats a = IsOfStatus stats a.out a.err a.status

of_refused : (stats : Bool) (text : List ℕ) (fault : Fault) → IsOf stats (refused text fault)
of_refused stats text fault = ((fault.code, line_of text fault.place, column_of text fault.place, refl), refl)

pub of_refusal : (stats : Bool) (a : Answer) (text : List ℕ) (fault : Fault) → a ≡ refused text fault → IsOf stats a
of_refusal stats a text fault e = subst (IsOf stats) (sym e) (of_refused stats text fault)

pub of_accepted : (a : Answer) → a ≡ accepted → IsOf false a
of_accepted a e = subst (IsOf false) (sym e) refl

of_given : (stats : Bool) (text : List ℕ) (outcome : Outcome) → IsOf stats (of_outcome stats text outcome)
of_given true text (Ok items) = (length items, length (output_of items), refl)
of_given false text (Ok items) = refl
of_given stats text (Err fault) = ((fault.code, line_of text fault.place, column_of text fault.place, fault.spot, refl), refl)

pub of_outcome_is : (stats : Bool) (a : Answer) (text : List ℕ) (outcome : Outcome) → a ≡ of_outcome stats text outcome → IsOf stats a
of_outcome_is stats a text outcome e = subst (IsOf stats) (sym e) (of_given stats text outcome)

-- ---- the answer to a compiled query

pub run_ended : (stats : Bool) (a : Answer) (text : List ℕ) (query : Executable) (library : Library) (world : Option World) → IfSome world (λ w. library ≡ inputs_of w (input_names query.trees))
    → a ≡ of_outcome stats text (query_value query.width query.trees library) → IfSome world (λ w. a ≡ of_run stats text w query)
unfolding of_run
run_ended stats a text query library None is e = tt
run_ended stats a text query library (Some w) is e = e ∙ ap (λ l. of_outcome stats text (query_value query.width query.trees l)) is

pub check_accepts : (a : Answer) (text : List ℕ) (query : Executable) (world : Option World) → a ≡ accepted → IfSome world (λ w. a ≡ of_executable action.Check text w query)
check_accepts a text query None e = tt
check_accepts a text query (Some w) e = e

-- ---- the answer to a query

pub query_refused : (a : Answer) (act : Action) (query text : List ℕ) (fault : Fault) (world : Option World) → text ≡ without_mark query → IsFront query (Err fault)
    → a ≡ refused text fault → IfSome world (λ w. IsOfQuery act w query a)
query_refused a act query text fault None behind front e = tt
query_refused a act query text fault (Some w) behind front e = (Err fault, front, e ∙ ap (λ t. refused t fault) behind)

query_compiled : (a : Answer) (act : Action) (bytes text : List ℕ) (query : Executable) (world : Option World) → text ≡ without_mark bytes → IsFront bytes (Ok query)
    → IfSome world (λ w. a ≡ of_executable act text w query) → IfSome world (λ w. IsOfQuery act w bytes a)
query_compiled a act bytes text query None behind front e = tt
query_compiled a act bytes text query (Some w) behind front e =
    let same : a ≡ of_executable act (without_mark bytes) w query = e ∙ ap (λ t. of_executable act t w query) behind in
    (Ok query, front, subst (IsOfExecutable act (without_mark bytes) w query) (sym same) (executable_answered act (without_mark bytes) w query))

pub query_ended : (ending : Result Ending Stop) (act : Action) (bytes text : List ℕ) (query : Executable) (world : Option World) → text ≡ without_mark bytes → IsFront bytes (Ok query)
    → IfOk ending (λ e. IfSome world (λ w. answer_of e ≡ of_executable act text w query)) → IfOk ending (λ e. IfSome world (λ w. IsOfQuery act w bytes (answer_of e)))
query_ended (Ok e) act bytes text query world behind front h = query_compiled (answer_of e) act bytes text query world behind front h
query_ended (Err stop) act bytes text query world behind front h = tt

-- ---- the answer to the words

pub answer_usage : (a : Answer) (words : List (List ℕ)) (world : Option World) → command_of words ≡ None → a ≡ usage → IsToldAnswer world words a
answer_usage a words world q e = anywhere words None world a q tt (λ w. e)

pub answer_file : (ending : Result Ending Stop) (words : List (List ℕ)) (act : Action) (name : List ℕ) (world : Option World) → command_of words ≡ Some (Query act name)
    → IfOk ending (λ e. IfSome world (λ w. IsOfFile act name w (file_of w name) (answer_of e))) → IfOk ending (λ e. IsToldAnswer world words (answer_of e))
answer_file (Ok e) words act name world q h = over_told words act name world (answer_of e) q h
answer_file (Err stop) words act name world q h = tt

pub answer_trial : (ending : Result Ending Stop) (words : List (List ℕ)) (number lines : ℕ) (run : Running) (world : Option World) → command_of words ≡ Some (Trial number lines run)
    → IfOk ending (λ e. IsOfTrial number lines run (answer_of e)) → IfOk ending (λ e. IsToldAnswer world words (answer_of e))
answer_trial (Ok e) words number lines run world q h = anywhere words (Some (Trial number lines run)) world (answer_of e) q tt (λ w. h)
answer_trial (Err stop) words number lines run world q h = tt

-- ---- the answer to the query of a name

pub file_missing : (a : Answer) (act : Action) (name : List ℕ) (world : Option World) → IfSome world (λ w. None ≡ file_of w name)
    → a ≡ says NoQuery (codes "no query " ++ encode_utf8_all name) → IfSome world (λ w. IsOfFile act name w (file_of w name) a)
file_missing a act name None m e = tt
file_missing a act name (Some w) m e = subst (λ f. IsOfFile act name w f a) m e

file_read : (a : Answer) (act : Action) (name query : List ℕ) (o : Option (List ℕ)) (world after : Option World)
    → IfSome world (λ w. o ≡ file_of w name) → o ≡ Some query → after ≡ world → IfSome after (λ w. IsOfQuery act w query a) → IfSome world (λ w. IsOfFile act name w (file_of w name) a)
file_read a act name query o world after m is same h = go world (subst (λ (W : Option World). IfSome W (λ w. IsOfQuery act w query a)) same h) m
  where
    go : (world : Option World) → IfSome world (λ w. IsOfQuery act w query a) → IfSome world (λ w. o ≡ file_of w name) → IfSome world (λ w. IsOfFile act name w (file_of w name) a)
    go None h m = tt
    go (Some w) h m = subst (λ f. IsOfFile act name w f a) (sym is ∙ m) h

pub ended_read : (ending : Result Ending Stop) (act : Action) (name query : List ℕ) (o : Option (List ℕ)) (world after : Option World)
    → IfSome world (λ w. o ≡ file_of w name) → o ≡ Some query → after ≡ world → IfOk ending (λ e. IfSome after (λ w. IsOfQuery act w query (answer_of e)))
    → IfOk ending (λ e. IfSome world (λ w. IsOfFile act name w (file_of w name) (answer_of e)))
ended_read (Ok e) act name query o world after m is same h = file_read (answer_of e) act name query o world after m is same h
ended_read (Err stop) act name query o world after m is same h = tt

-- ---- shapes

pub shaped_query : (command : Option Command) (a : Answer) → IsOf (wants_stats command) a → IsShaped command a
shaped_query command a h = go a.out a.err a.status h
  where
    go : (out err : List ℕ) (s : Status) → IsOfStatus (wants_stats command) out err s → IsShaped command (record { status = s; out = out; err = err })
    go out err Done h = record { text = h; silent = tt; usage = tt }
    go out err Raised h = record { text = h.0; silent = h.1; usage = tt }
    go out err Refused h = record { text = h.0; silent = h.1; usage = tt }
    go out err Usage h = absurd h
    go out err ReadFault h = absurd h
    go out err WriteFault h = absurd h
    go out err NoMemory h = absurd h
    go out err NoQuery h = absurd h

-- ---- the status of a call

pub ends_status : (a : Answer) (r : Status) (before after : ℕ) → EndsAs a.status r before after → StatusBy a r
ends_status a WriteFault before after e = e.0
ends_status a ReadFault before after e = tt
ends_status a NoMemory before after e = tt
ends_status a Done before after e = sym e.0
ends_status a Raised before after e = sym e.0
ends_status a Refused before after e = sym e.0
ends_status a Usage before after e = sym e.0
ends_status a NoQuery before after e = sym e.0

pub ends_complete : (a : Answer) (r : Status) (before after : ℕ) → Calm before after → EndsAs a.status r before after → Completes a r
ends_complete a WriteFault before after calm e = absurd (omega (arith, calm.0, calm.1, e.1))
ends_complete a ReadFault before after calm e = inr e.0
ends_complete a NoMemory before after calm e = inr e.0
ends_complete a Done before after calm e = inr e.0
ends_complete a Raised before after calm e = inr e.0
ends_complete a Refused before after calm e = inr e.0
ends_complete a Usage before after calm e = inr e.0
ends_complete a NoQuery before after calm e = inr e.0

-- ---- the files that a command looks for

-- what holds of the status that was decided holds of the one that it comes to
pub ends_by : (Holds : Status → Type 0) (s r : Status) (before after : ℕ) → (Holds Done → Holds WriteFault) → EndsAs s r before after → Holds s → Holds r
ends_by Holds s WriteFault before after write e h = write (subst Holds e.0 h)
ends_by Holds s ReadFault before after write e h = subst Holds (sym e.0) h
ends_by Holds s NoMemory before after write e h = subst Holds (sym e.0) h
ends_by Holds s Done before after write e h = subst Holds (sym e.0) h
ends_by Holds s Raised before after write e h = subst Holds (sym e.0) h
ends_by Holds s Refused before after write e h = subst Holds (sym e.0) h
ends_by Holds s Usage before after write e h = subst Holds (sym e.0) h
ends_by Holds s NoQuery before after write e h = subst Holds (sym e.0) h

pub ends_opens : (command : Option Command) (s r : Status) (faults faults' : ℕ) (before after : InputCounts) → EndsAs s r faults faults'
    → OpensBy command s before after → OpensBy command r before after
ends_opens command s r faults faults' before after e o = ends_by (λ s. OpensBy command s before after) s r faults faults' (write command) e o
  where
    write : (command : Option Command) → OpensBy command Done before after → OpensBy command WriteFault before after
    write (Some (Trial number lines run)) h = h
    write (Some (Query act name)) h = h
    write None h = h

pub ends_alone : (command : Option Command) (s r : Status) (faults faults' : ℕ) (before after : InputCounts) → EndsAs s r faults faults'
    → ChecksAlone command s before after → ChecksAlone command r before after
ends_alone command s r faults faults' before after e o = ends_by (λ s. ChecksAlone command s before after) s r faults faults' (write command) e o
  where
    write : (command : Option Command) → ChecksAlone command Done before after → ChecksAlone command WriteFault before after
    write (Some (Trial number lines run)) h = h
    write (Some (Query (action.Run run) name)) h = tt
    write (Some (Query action.Check name)) h = h
    write (Some (Query action.Explain name)) h = h
    write None h = tt

-- the two halves of a search, by the status
pub ends_opened : (world : Option World) (command : Option Command) (s r : Status) (faults faults' : ℕ) (before after : InputCounts) → EndsAs s r faults faults'
    → OfSearch world command (λ search. SearchedBy search s before after) → OfSearch world command (λ search. OpenedBy search r before after)
ends_opened None command s r faults faults' before after e h = tt
ends_opened (Some w) command s r faults faults' before after e h = λ search is.
    ends_by (λ s. OpenedBy search s before after) s r faults faults' (λ h. h) e (h search is).0

pub ends_missed : (world : Option World) (command : Option Command) (s r : Status) (faults faults' : ℕ) (before after : InputCounts) → EndsAs s r faults faults'
    → OfSearch world command (λ search. SearchedBy search s before after) → OfSearch world command (λ search. MissedBy search r before after)
ends_missed None command s r faults faults' before after e h = tt
ends_missed (Some w) command s r faults faults' before after e h = λ search is.
    ends_by (λ s. MissedBy search s before after) s r faults faults' (λ h. h) e (h search is).1

pub search_opened : (world : Option World) (command : Option Command) (s : Status) (before after : InputCounts)
    → OfSearch world command (λ search. SearchedBy search s before after) → OfSearch world command (λ search. OpenedBy search s before after)
search_opened None command s before after h = tt
search_opened (Some w) command s before after h = λ search is. (h search is).0

pub search_missed : (world : Option World) (command : Option Command) (s : Status) (before after : InputCounts)
    → OfSearch world command (λ search. SearchedBy search s before after) → OfSearch world command (λ search. MissedBy search s before after)
search_missed None command s before after h = tt
search_missed (Some w) command s before after h = λ search is. (h search is).1

-- ---- the query that was read was opened

rose_after : (before mid after : InputCounts) → RoseByOne before.opened mid.opened → NoCountFalls mid after → OpensRose before after
rose_after before mid after (inl h) falls = inl (omega (arith, h.0, h.1, falls.opened))
rose_after before mid after (inr h) falls = inr (omega (arith, h.0, h.1, falls.opened))

read_opens_by : (stats : Bool) (out err : List ℕ) (s : Status) (before mid after : InputCounts) → IsOfStatus stats out err s → RoseByOne before.opened mid.opened → mid.misses ≡ before.misses
    → NoCountFalls mid after → (s ≡ Refused → LooksForNone mid after) → OpensByStatus s before after
read_opens_by stats out err Done before mid after is opened missed falls alone = rose_after before mid after opened falls
read_opens_by stats out err Raised before mid after is opened missed falls alone = rose_after before mid after opened falls
read_opens_by stats out err Refused before mid after is opened missed falls alone =
    subst (λ c. RoseByOne before.opened c.opened × (c.misses ≡ before.misses)) (sym (alone refl)) (opened, missed)
read_opens_by stats out err Usage before mid after is opened missed falls alone = absurd is
read_opens_by stats out err ReadFault before mid after is opened missed falls alone = absurd is
read_opens_by stats out err WriteFault before mid after is opened missed falls alone = absurd is
read_opens_by stats out err NoMemory before mid after is opened missed falls alone = absurd is
read_opens_by stats out err NoQuery before mid after is opened missed falls alone = absurd is

pub read_opens : (result : Result Ending Stop) (stats : Bool) (before mid after : InputCounts) → IfOk result (λ e. IsOf stats (answer_of e)) → RoseByOne before.opened mid.opened → mid.misses ≡ before.misses
    → LeavesRun result mid after → IfOk result (λ e. OpensByStatus e.status before after)
read_opens (Ok e) stats before mid after is opened missed leaves =
    read_opens_by stats e.out.items (string_bytes e.err) e.status before mid after is opened missed leaves.leaves.rises leaves.refused
read_opens (Err stop) stats before mid after is opened missed leaves = tt

-- ---- a query that is only checked

one_by : (s : Status) (before after : InputCounts) → (s ≡ NoQuery → ⊥) → OpenedAtMost 1 before after → after.misses ≡ before.misses → LooksForOne s before after
one_by Done before after other opened missed = (opened, missed)
one_by Raised before after other opened missed = (opened, missed)
one_by Refused before after other opened missed = (opened, missed)
one_by Usage before after other opened missed = (opened, missed)
one_by ReadFault before after other opened missed = (opened, missed)
one_by WriteFault before after other opened missed = (opened, missed)
one_by NoMemory before after other opened missed = (opened, inr missed)
one_by NoQuery before after other opened missed = absurd (other refl)

pub checked_alone : (act : Action) (name : List ℕ) (s : Status) (before after : InputCounts) → (ReadsNone act → LooksForOne s before after) → ChecksAlone (Some (Query act name)) s before after
checked_alone (action.Run run) name s before after h = tt
checked_alone action.Check name s before after h = h tt
checked_alone action.Explain name s before after h = h tt

status_read : (stats : Bool) (out err : List ℕ) (s : Status) → IsOfStatus stats out err s → s ≡ NoQuery → ⊥
status_read stats out err s is e = subst (λ s. IsOfStatus stats out err s) e is

stop_read : (stop : Stop) → status_of_stop stop ≡ NoQuery → ⊥
stop_read stop.ReadFault e = cc
stop_read stop.NoMemory e = cc

decided_read : (result : Result Ending Stop) (stats : Bool) → IfOk result (λ e. IsOf stats (answer_of e)) → decided_status result ≡ NoQuery → ⊥
decided_read (Ok e) stats is same = status_read stats e.out.items (string_bytes e.err) e.status is same
decided_read (Err stop) stats is same = stop_read stop same

pub read_alone : (result : Result Ending Stop) (act : Action) (name : List ℕ) (stats : Bool) (before mid after : InputCounts) → IfOk result (λ e. IsOf stats (answer_of e))
    → RoseByOne before.opened mid.opened → mid.misses ≡ before.misses → (ReadsNone act → after ≡ mid) → ChecksAlone (Some (Query act name)) (decided_status result) before after
read_alone result act name stats before mid after is opened missed same =
    checked_alone act name (decided_status result) before after
    (λ none. subst (λ c. LooksForOne (decided_status result) before c) (sym (same none)) (one_by (decided_status result) before mid (decided_read result stats is) (most opened) missed))
  where
    most : RoseByOne before.opened mid.opened → OpenedAtMost 1 before mid
    most (inl h) = omega (arith, h.0, h.1)
    most (inr h) = omega (arith, h.0, h.1)

pub stopped_alone : (act : Action) (name : List ℕ) (stop : Stop) (before after : InputCounts) → after.opened ≤ before.opened + 1 → after.misses ≡ before.misses
    → ChecksAlone (Some (Query act name)) (status_of_stop stop) before after
stopped_alone act name stop before after opened missed =
    checked_alone act name (status_of_stop stop) before after (λ none. one_by (status_of_stop stop) before after (stop_read stop) opened missed)

pub missing_alone : (act : Action) (name : List ℕ) (s : Status) (before after : InputCounts) → (s ≡ NoQuery) ⊎ (s ≡ NoMemory) → after.opened ≡ before.opened
    → ChecksAlone (Some (Query act name)) s before after
missing_alone act name s before after (inl e) opened = checked_alone act name s before after (λ none. subst (λ s. LooksForOne s before after) (sym e) opened)
missing_alone act name s before after (inr e) opened = checked_alone act name s before after (λ none. subst (λ s. LooksForOne s before after) (sym e) (omega (arith, opened), inl opened))

-- ---- the files that a stop leaves

-- ---- what the query's file tells of the command

stop_file : (stop : Stop) (before after : InputCounts) → OpensByStatus (status_of_stop stop) before after
stop_file stop.ReadFault before after = tt
stop_file stop.NoMemory before after = tt

pub file_opens : (result : Result Ending Stop) (command : Option Command) (act : Action) (name : List ℕ) (before after : InputCounts) → command ≡ Some (Query act name)
    → IfOk result (λ e. OpensByStatus e.status before after) → OpensBy command (decided_status result) before after
file_opens (Ok e) command act name before after c h = subst (λ c. OpensBy c e.status before after) (sym c) h
file_opens (Err stop) command act name before after c h = subst (λ c. OpensBy c (status_of_stop stop) before after) (sym c) (stop_file stop before after)

pub file_alone : (result : Result Ending Stop) (command : Option Command) (act : Action) (name : List ℕ) (before after : InputCounts) → command ≡ Some (Query act name)
    → ChecksAlone (Some (Query act name)) (decided_status result) before after → ChecksAlone command (decided_status result) before after
file_alone result command act name before after c h = subst (λ c. ChecksAlone c (decided_status result) before after) (sym c) h
