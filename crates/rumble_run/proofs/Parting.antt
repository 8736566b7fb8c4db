-- Runs whose result is written as parts.
use Rattle.std.proofs.Common.{◌≡◌, ◌≢◌, ℕ, List, [], Option, None, Some, Result, Err, length, refl, sym, ap, ◌∙◌, subst, inl, inr, arith, false, Bool, true}
use Rattle.std.specs.Prelude.{IfSome, IfOk}
use Rattle.outside.specs.Opens.{InputCounts}
use Rattle.outside.specs.Outputs.{Made}
use Rattle.outside.specs.World.{World, file_of}
use Rattle.part_writer.specs.Parts.{parts_of}
use Rattle.run_words.specs.declared.task.PartsTask.{PartsTask}
use Rattle.rumble_run.specs.Answer.{Answer, AnswersOver, IsOfFile}
use Rattle.rumble_run.specs.Ends.{HasText, StatusBy, Completes, Calm, OpensBy, OpensByStatus, OpenedAtMost, OpenedWhere, MissedAtMost, MissedWhere, MissesRose, NoCountFalls, IsBalanced, Wrote, err_by}
use Rattle.rumble_run.specs.Headline.{RunsParts, Looked, Told}
use Rattle.rumble_run.specs.Commands.{running}
use Rattle.rumble_run.specs.Opens.{Search, OfSearch, all_opens, all_misses}
use Rattle.rumble_run.specs.Parts.{IsOfParts, IsPartsAnswer, OfPartsAnswer, HasPartsText, parts_task, parts_count, parts_usage, output_parts, run_of_parts, Written, PartsBy, IsUnwritten, PartsStopped}
use Rattle.rumble_run.specs.inside.Decided.{IsStop, SearchedBy}
use Rattle.rumble_run.specs.inside.Parted.{IsPartsShaped, IsToldParts, IsWriting, PartsEnd}
use Rattle.rumble_run.specs.inside.Reads.{CausedBy}
use Rattle.rumble_run.specs.inside.Seen.{IsShaped, IsUsage, IsSilent, decided_status, status_of_stop}
use Rattle.rumble_run.specs.declared.ending.Ending.{Ending}
use Rattle.rumble_run.specs.declared.parts.Parted.{Parted}
use Rattle.rumble_run.specs.declared.status.Status.{Status}
use Rattle.rumble_run.specs.declared.status.Status.TheVariants.{Done, Raised, Refused, Usage, ReadFault, WriteFault, NoMemory, NoQuery}
use Rattle.rumble_run.specs.declared.status.Stop.{Stop}
use Rattle.rumble_run.specs.declared.status.Stop.TheVariants as stop
use Rattle.rumble_run.specs.declared.command.Action.TheVariants as action
use Rattle.rumble_run.specs.declared.command.Running.{Running}
use Rattle.rumble_run.specs.declared.command.Command.{Command}
use Rattle.rumble_run.specs.declared.command.Command.TheVariants.{Query}
use Rattle.rumble_run.proofs.Answered.{only_of_command, no_file_searched, search_of_query, OfFiles}
use Rattle.rumble_run.proofs.Endings.{file_opens}

-- ---- one answer

only_of_parts : (world : World) (task : Option PartsTask) (a b : Answer) → IsOfParts world task a
    → IsOfParts world task b → a ≡ b
only_of_parts world None a b e f = e ∙ sym f
only_of_parts world (Some task) a b is it = only_of_command world (run_of_parts (Some task)) a b is it

pub told_parts : (world : Option World) (words : List (List ℕ)) (a : Answer) (Holds : Answer → Type 0)
    → IsToldParts world words a → Holds a → OfPartsAnswer world words Holds
unfolding IsPartsAnswer
told_parts world words a Holds is h = λ w b over it.
    subst Holds (only_of_parts w (parts_task words) a b (is w over) it) h

-- how the query is run
abbrev pub run_for : PartsTask → Running
run_for task = running false task.workers task.size false

-- ---- what is decided

pub usage_decided : (world : Option World) (words : List (List ℕ)) (a : Answer) → parts_task words ≡ None
    → a ≡ parts_usage → IsToldParts world words a
unfolding IsPartsAnswer
usage_decided world words a none e = λ w over. subst (λ t. IsOfParts w t a) (sym none) e

pub run_decided : (told : Option World) (words : List (List ℕ)) (a : Answer) (task : PartsTask)
    → parts_task words ≡ Some task
    → IfSome told (λ w. IsOfFile (action.Run (run_for task)) task.query w (file_of w task.query) a)
    → IsToldParts told words a
unfolding IsPartsAnswer
run_decided told words a task some h = λ w over.
    subst (λ t. IsOfParts w t a) (sym some)
    (by w (subst (λ t. AnswersOver told (run_of_parts t) w) some over))
  where
    by : (w : World) → AnswersOver told (run_of_parts (Some task)) w
        → IsOfFile (action.Run (run_for task)) task.query w (file_of w task.query) a
    by w (inl e) =
        subst (λ t. IfSome t (λ w. IsOfFile (action.Run (run_for task)) task.query w (file_of w task.query) a)) e h
    by w (inr none) = absurd none

usage_shaped_by : (a : Answer) → a ≡ parts_usage → IsPartsShaped None a
usage_shaped_by a e =
    subst (λ (b : Answer). IsPartsShaped None b) (sym e)
    (record { text = refl; silent = refl; usage = λ u. refl })

pub usage_shaped : (words : List (List ℕ)) (a : Answer) → parts_task words ≡ None → a ≡ parts_usage
    → IsPartsShaped (parts_task words) a
usage_shaped words a none e = subst (λ t. IsPartsShaped t a) (sym none) (usage_shaped_by a e)

run_shaped_by : (task : PartsTask) (s : Status) (out err : List ℕ)
    → HasText (Some (Query (action.Run (run_for task)) task.query)) err s → IsSilent out s
    → IsUsage (Some (Query (action.Run (run_for task)) task.query)) s
    → IsPartsShaped (Some task) (record { status = s; out = out; err = err })
run_shaped_by task Done out err t s u = record { text = t; silent = s; usage = λ e. cc }
run_shaped_by task Raised out err t s u = record { text = t; silent = s; usage = λ e. cc }
run_shaped_by task Refused out err t s u = record { text = t; silent = s; usage = λ e. cc }
run_shaped_by task Usage out err t s u = cc
run_shaped_by task ReadFault out err t s u = absurd s
run_shaped_by task WriteFault out err t s u = absurd s
run_shaped_by task NoMemory out err t s u = absurd s
run_shaped_by task NoQuery out err t s u = record { text = t; silent = s; usage = λ e. cc }

pub run_shaped : (words : List (List ℕ)) (a : Answer) (task : PartsTask) → parts_task words ≡ Some task
    → IsShaped (Some (Query (action.Run (run_for task)) task.query)) a → IsPartsShaped (parts_task words) a
run_shaped words a task some h =
    subst (λ t. IsPartsShaped t a) (sym some)
    (run_shaped_by task a.status a.out a.err h.text h.silent h.usage)

pub opens_decided : (result : Result Ending Stop) (words : List (List ℕ)) (task : PartsTask) (before after : InputCounts)
    → parts_task words ≡ Some task → IfOk result (λ e. OpensByStatus e.status before after)
    → OpensBy (run_of_parts (parts_task words)) (decided_status result) before after
opens_decided result words task before after some o =
    subst (λ t. OpensBy (run_of_parts t) (decided_status result) before after) (sym some)
    (file_opens result (run_of_parts (Some task)) (action.Run (run_for task)) task.query before after refl o)

pub opens_usage : (words : List (List ℕ)) (a : Answer) (counts : InputCounts) → parts_task words ≡ None
    → a ≡ parts_usage → OpensBy (run_of_parts (parts_task words)) a.status counts counts
opens_usage words a counts none e =
    subst (λ t. OpensBy (run_of_parts t) a.status counts counts) (sym none)
    (subst (λ (b : Answer). OpensByStatus b.status counts counts) (sym e) refl)

pub opens_nothing : (task : Option PartsTask) (counts : InputCounts)
    → OpensBy (run_of_parts task) NoMemory counts counts
opens_nothing None counts = tt
opens_nothing (Some task) counts = tt

pub search_no_task : (world : Option World) (words : List (List ℕ)) (counts : InputCounts)
    → parts_task words ≡ None
    → (s : Status) → OfSearch world (run_of_parts (parts_task words)) (λ search. SearchedBy search s counts counts)
search_no_task world words counts none s =
    no_file_searched world None (run_of_parts (parts_task words)) s counts (ap run_of_parts none) tt

pub search_decided : (s : Status) (world : Option World) (words : List (List ℕ)) (task : PartsTask) (before after : InputCounts)
    → parts_task words ≡ Some task
    → OfFiles world (action.Run (run_for task)) task.query (λ search. SearchedBy search s before after)
    → OfSearch world (run_of_parts (parts_task words)) (λ search. SearchedBy search s before after)
search_decided s world words task before after some h =
    search_of_query s world (run_of_parts (parts_task words)) (action.Run (run_for task)) task.query before after
    (ap run_of_parts some) h

-- ---- how it ends

abbrev pub ended : Status → List ℕ → List ℕ → Answer
ended s out err = record { status = s; out = out; err = err }

status_by : (s r : Status) (out err : List ℕ) → IsSilent out s → PartsEnd s r → StatusBy (ended s out err) r
status_by Done Done out err silent e = refl
status_by Done WriteFault out err silent e = refl
status_by Done NoMemory out err silent e = tt
status_by Done Raised out err silent e = absurd e
status_by Done Refused out err silent e = absurd e
status_by Done Usage out err silent e = absurd e
status_by Done ReadFault out err silent e = absurd e
status_by Done NoQuery out err silent e = absurd e
status_by Raised r out err silent e = subst (StatusBy (ended Raised out err)) (sym e) refl
status_by Refused r out err silent e = subst (StatusBy (ended Refused out err)) (sym e) refl
status_by Usage r out err silent e = subst (StatusBy (ended Usage out err)) (sym e) refl
status_by NoQuery r out err silent e = subst (StatusBy (ended NoQuery out err)) (sym e) refl
status_by ReadFault r out err silent e = absurd silent
status_by WriteFault r out err silent e = absurd silent
status_by NoMemory r out err silent e = absurd silent

pub parts_status : (a : Answer) (r : Status) → IsSilent a.out a.status → PartsEnd a.status r → StatusBy a r
parts_status a r silent e = status_by a.status r a.out a.err silent e

complete_by : (s r : Status) (out err : List ℕ) (parts : Made) (w w' : Written)
    → Calm w.faults w'.faults → Calm w.list_faults w'.list_faults → IsSilent out s → PartsEnd s r
    → PartsBy parts r w w' → Completes (ended s out err) r
complete_by Done Done out err parts w w' made listed silent e p = inr refl
complete_by Done WriteFault out err parts w w' made listed silent e (inl p) =
    absurd (omega (arith, made.0, made.1, p.cause))
complete_by Done WriteFault out err parts w w' made listed silent e (inr p) =
    absurd (omega (arith, listed.0, listed.1, p.cause))
complete_by Done NoMemory out err parts w w' made listed silent e p = inl refl
complete_by Done Raised out err parts w w' made listed silent e p = absurd e
complete_by Done Refused out err parts w w' made listed silent e p = absurd e
complete_by Done Usage out err parts w w' made listed silent e p = absurd e
complete_by Done ReadFault out err parts w w' made listed silent e p = absurd e
complete_by Done NoQuery out err parts w w' made listed silent e p = absurd e
complete_by Raised r out err parts w w' made listed silent e p = inr e
complete_by Refused r out err parts w w' made listed silent e p = inr e
complete_by Usage r out err parts w w' made listed silent e p = inr e
complete_by NoQuery r out err parts w w' made listed silent e p = inr e
complete_by ReadFault r out err parts w w' made listed silent e p = absurd silent
complete_by WriteFault r out err parts w w' made listed silent e p = absurd silent
complete_by NoMemory r out err parts w w' made listed silent e p = absurd silent

pub parts_complete : (a : Answer) (r : Status) (parts : Made) (w w' : Written)
    → IsSilent a.out a.status → PartsEnd a.status r → PartsBy parts r w w'
    → Calm w.faults w'.faults → Calm w.list_faults w'.list_faults → Completes a r
parts_complete a r parts w w' silent e p made listed =
    complete_by a.status r a.out a.err parts w w' made listed silent e p

text_by : (task : Option PartsTask) (s r : Status) (out err : List ℕ) → HasPartsText task err s
    → IsSilent out s → PartsEnd s r → HasPartsText task (err_by err r) r
text_by task Done Done out err t silent e = t
text_by task Done WriteFault out err t silent e = refl
text_by task Done NoMemory out err t silent e = refl
text_by task Done Raised out err t silent e = absurd e
text_by task Done Refused out err t silent e = absurd e
text_by task Done Usage out err t silent e = absurd e
text_by task Done ReadFault out err t silent e = absurd e
text_by task Done NoQuery out err t silent e = absurd e
text_by task Raised r out err t silent e = subst (λ s. HasPartsText task (err_by err s) s) (sym e) t
text_by task Refused r out err t silent e = subst (λ s. HasPartsText task (err_by err s) s) (sym e) t
text_by task Usage r out err t silent e = subst (λ s. HasPartsText task (err_by err s) s) (sym e) t
text_by task NoQuery r out err t silent e = subst (λ s. HasPartsText task (err_by err s) s) (sym e) t
text_by task ReadFault r out err t silent e = absurd silent
text_by task WriteFault r out err t silent e = absurd silent
text_by task NoMemory r out err t silent e = absurd silent

pub parts_text : (task : Option PartsTask) (a : Answer) (r : Status) → IsPartsShaped task a
    → PartsEnd a.status r → HasPartsText task (err_by a.err r) r
parts_text task a r h e = text_by task a.status r a.out a.err h.text h.silent e

-- an ending that is not Done is the status, and else the status is one of writing
ends_as : (s r other : Status) (out : List ℕ) → IsSilent out s → PartsEnd s r → r ≡ other
    → (IsWriting other → ⊥) → s ≡ other
ends_as Done r other out silent e same past = absurd (past (subst IsWriting same e))
ends_as Raised r other out silent e same past = sym e ∙ same
ends_as Refused r other out silent e same past = sym e ∙ same
ends_as Usage r other out silent e same past = sym e ∙ same
ends_as NoQuery r other out silent e same past = sym e ∙ same
ends_as ReadFault r other out silent e same past = absurd silent
ends_as WriteFault r other out silent e same past = absurd silent
ends_as NoMemory r other out silent e same past = absurd silent

pub parts_usage_only : (task : Option PartsTask) (a : Answer) (r : Status) → IsPartsShaped task a
    → PartsEnd a.status r → r ≡ Usage → task ≡ None
parts_usage_only task a r h e same = h.usage (ends_as a.status r Usage a.out h.silent e same (λ w. w))

pub parts_never_read : (task : Option PartsTask) (a : Answer) (r : Status) → IsPartsShaped task a
    → PartsEnd a.status r → r ≡ ReadFault → ⊥
parts_never_read task a r h e same =
    subst (IsSilent a.out) (ends_as a.status r ReadFault a.out h.silent e same (λ w. w)) h.silent

pub usage_ends : (a : Answer) (r : Status) → a ≡ parts_usage → PartsEnd a.status r → r ≡ Usage
usage_ends a r same e = subst (λ (b : Answer). PartsEnd b.status r) same e

opens_status : (s r : Status) (before after : InputCounts) → PartsEnd s r → OpensByStatus s before after
    → OpensByStatus r before after
opens_status Done Done before after e o = o
opens_status Done WriteFault before after e o = o
opens_status Done NoMemory before after e o = tt
opens_status Done Raised before after e o = absurd e
opens_status Done Refused before after e o = absurd e
opens_status Done Usage before after e o = absurd e
opens_status Done ReadFault before after e o = absurd e
opens_status Done NoQuery before after e o = absurd e
opens_status Raised r before after e o = subst (λ s. OpensByStatus s before after) (sym e) o
opens_status Refused r before after e o = subst (λ s. OpensByStatus s before after) (sym e) o
opens_status Usage r before after e o = subst (λ s. OpensByStatus s before after) (sym e) o
opens_status NoQuery r before after e o = subst (λ s. OpensByStatus s before after) (sym e) o
opens_status ReadFault r before after e o = subst (λ s. OpensByStatus s before after) (sym e) o
opens_status WriteFault r before after e o = subst (λ s. OpensByStatus s before after) (sym e) o
opens_status NoMemory r before after e o = subst (λ s. OpensByStatus s before after) (sym e) o

pub parts_opens : (task : Option PartsTask) (s r : Status) (before after : InputCounts) → PartsEnd s r
    → OpensBy (run_of_parts task) s before after → OpensBy (run_of_parts task) r before after
parts_opens None s r before after e o = opens_status s r before after e o
parts_opens (Some task) s r before after e o = opens_status s r before after e o

pub missed : (task : Option PartsTask) (r : Status) (before after : InputCounts)
    → OpensBy (run_of_parts task) r before after → r ≡ NoQuery → MissesRose before after
missed None r before after o same = (subst (λ s. OpensByStatus s before after) same o).1
missed (Some task) r before after o same = (subst (λ s. OpensByStatus s before after) same o).1

pub counted : (words : List (List ℕ)) (n : ℕ) (out : List ℕ) (r : Status) (w w' : Written)
    → n ≡ parts_count (parts_task words) → PartsBy (parts_of n out) r w w'
    → PartsBy (output_parts words out) r w w'
counted words n out r w w' e p = subst (λ n. PartsBy (parts_of n out) r w w') e p

pub unwritten : (w : Written) → IsUnwritten w w
unwritten w = record { made = refl; faults = refl; list = record { listed = refl; faults = refl } }

pub stopped : (parts : Made) (w : Written) → PartsStopped parts w w
stopped parts w = record {
  made = inl refl;
  faults = refl;
  list = record { listed = refl; faults = refl };
}

-- ---- the clauses of a run with parts

opened_some : (search : Search) (certain : Bool) (before after : InputCounts) → OpenedWhere certain search before after → OpenedAtMost (all_opens search) before after
opened_some search true before after h = h.0
opened_some search false before after h = h.0

missed_some : (search : Search) (certain : Bool) (before after : InputCounts) → MissedWhere certain search before after → MissedAtMost (all_misses search) before after
missed_some search true before after h = omega (arith, h.0)
missed_some search false before after h = h.0

end_searched : (search : Search) (s r : Status) (before after : InputCounts) → PartsEnd s r → SearchedBy search s before after → SearchedBy search r before after
end_searched search Done Done before after e h = h
end_searched search Done WriteFault before after e h = h
end_searched search Done NoMemory before after e h =
    (opened_some search search.driven.certain before after h.0, missed_some search search.driven.certain before after h.1)
end_searched search Done Raised before after e h = absurd e
end_searched search Done Refused before after e h = absurd e
end_searched search Done Usage before after e h = absurd e
end_searched search Done ReadFault before after e h = absurd e
end_searched search Done NoQuery before after e h = absurd e
end_searched search Raised r before after e h = subst (λ r. SearchedBy search r before after) (sym e) h
end_searched search Refused r before after e h = subst (λ r. SearchedBy search r before after) (sym e) h
end_searched search Usage r before after e h = subst (λ r. SearchedBy search r before after) (sym e) h
end_searched search ReadFault r before after e h = subst (λ r. SearchedBy search r before after) (sym e) h
end_searched search WriteFault r before after e h = subst (λ r. SearchedBy search r before after) (sym e) h
end_searched search NoMemory r before after e h = subst (λ r. SearchedBy search r before after) (sym e) h
end_searched search NoQuery r before after e h = subst (λ r. SearchedBy search r before after) (sym e) h

search_by : {P Q : Search → Type 0} (world : Option World) (command : Option Command) → ((s : Search) → P s → Q s)
    → OfSearch world command P → OfSearch world command Q
search_by None command f h = tt
search_by (Some w) command f h = λ search is. f search (h search is)

pub parts_ran : (words : List (List ℕ)) (a : Answer) (n : ℕ) (r : Status) (inputs inputs' : Looked) (w w' : Written) (err err' : Told)
    → IsToldParts inputs.world words a → n ≡ parts_count (parts_task words)
    → IsPartsShaped (parts_task words) a → (parts_task words ≡ None → a ≡ parts_usage)
    → inputs'.counts.faults ≡ inputs.counts.faults → NoCountFalls inputs.counts inputs'.counts
    → IsBalanced inputs.counts inputs'.counts
    → OpensBy (run_of_parts (parts_task words)) a.status inputs.counts inputs'.counts
    → OfSearch inputs.world (run_of_parts (parts_task words)) (λ search. SearchedBy search a.status inputs.counts inputs'.counts)
    → inputs'.world ≡ inputs.world → PartsEnd a.status r → PartsBy (parts_of n a.out) r w w'
    → Wrote (err_by a.err r) err.wrote err'.wrote err.faults err'.faults
    → RunsParts words r inputs inputs' w w' err err'
parts_ran words a n r inputs inputs' w w' err err' is count shape usage calm rises balanced opens search world end parts wrote =
    let command = run_of_parts (parts_task words) in
    let opened = parts_opens (parts_task words) a.status r inputs.counts inputs'.counts end opens in
    record {
      status = told_parts inputs.world words a _ is (parts_status a r shape.silent end);
      parts = told_parts inputs.world words a _ is (counted words n a.out r w w' count parts);
      text = told_parts inputs.world words a _ is wrote;
      completes = λ read made listed. told_parts inputs.world words a _ is
          (parts_complete a r (parts_of n a.out) w w' shape.silent end parts made listed);
      untold_parts = (a.out, counted words n a.out r w w' count parts);
      untold_text = (err_by a.err r, parts_text (parts_task words) a r shape end, wrote);
      usage = λ same. parts_usage_only (parts_task words) a r shape end same;
      only_usage = λ none. inl (usage_ends a r (usage none) end);
      no_query = λ same. missed (parts_task words) r inputs.counts inputs'.counts opened same;
      read_fault = λ same. absurd (parts_never_read (parts_task words) a r shape end same);
      read_first = λ more. absurd (omega (arith, more, calm));
      opened = search_by inputs.world command (λ s h.
          (end_searched s a.status r inputs.counts inputs'.counts end h).0) search;
      missed = search_by inputs.world command (λ s h.
          (end_searched s a.status r inputs.counts inputs'.counts end h).1) search;
      opens = opened;
      closed = balanced;
      rises = rises;
      world = world;
    }

stop_parts_text : (task : Option PartsTask) (s : Status) → IsStop s → HasPartsText task (err_by [] s) s
stop_parts_text task ReadFault is = refl
stop_parts_text task NoMemory is = refl
stop_parts_text task Done is = absurd is
stop_parts_text task Raised is = absurd is
stop_parts_text task Refused is = absurd is
stop_parts_text task Usage is = absurd is
stop_parts_text task WriteFault is = absurd is
stop_parts_text task NoQuery is = absurd is

pub parts_stopped : (words : List (List ℕ)) (s : Stop) (r : Status) (inputs inputs' : Looked) (w : Written) (err err' : Told)
    → r ≡ status_of_stop s → (s ≡ stop.ReadFault → parts_task words ≢ None)
    → CausedBy {T = Parted} (Err s) inputs.counts.faults inputs'.counts.faults → NoCountFalls inputs.counts inputs'.counts
    → IsBalanced inputs.counts inputs'.counts
    → OpensBy (run_of_parts (parts_task words)) (status_of_stop s) inputs.counts inputs'.counts
    → OfSearch inputs.world (run_of_parts (parts_task words)) (λ search. SearchedBy search (status_of_stop s) inputs.counts inputs'.counts)
    → inputs'.world ≡ inputs.world
    → ((text : List ℕ) → Wrote (err_by text r) err.wrote err'.wrote err.faults err'.faults)
    → RunsParts words r inputs inputs' w w err err'
parts_stopped words s r inputs inputs' w err err' is unread cause rises balanced opens search world wrote =
    subst (λ r. RunsParts words r inputs inputs' w w err err') (sym is)
    (by s unread cause opens search (subst (λ r. (text : List ℕ) → Wrote (err_by text r) err.wrote err'.wrote err.faults err'.faults) is wrote))
  where
    by : (s : Stop) → (s ≡ stop.ReadFault → parts_task words ≢ None)
        → CausedBy {T = Parted} (Err s) inputs.counts.faults inputs'.counts.faults
        → OpensBy (run_of_parts (parts_task words)) (status_of_stop s) inputs.counts inputs'.counts
        → OfSearch inputs.world (run_of_parts (parts_task words)) (λ search. SearchedBy search (status_of_stop s) inputs.counts inputs'.counts)
        → ((text : List ℕ) → Wrote (err_by text (status_of_stop s)) err.wrote err'.wrote err.faults err'.faults)
        → RunsParts words (status_of_stop s) inputs inputs' w w err err'
    by stop.ReadFault unread rose opens search wrote = record {
      status = λ world b over it. tt;
      parts = λ world b over it. unwritten w;
      text = λ world b over it. wrote b.err;
      completes = λ read made listed. absurd (omega (arith, rose, read.0, read.1));
      untold_parts = ([], unwritten w);
      untold_text = (err_by [] ReadFault, stop_parts_text (parts_task words) ReadFault tt, wrote []);
      usage = λ same. cc;
      only_usage = λ none. absurd (unread refl none);
      no_query = λ same. cc;
      read_fault = λ same. rose;
      read_first = λ more. inl refl;
      opened = search_by inputs.world (run_of_parts (parts_task words)) (λ s h. h.0) search;
      missed = search_by inputs.world (run_of_parts (parts_task words)) (λ s h. h.1) search;
      opens = opens;
      closed = balanced;
      rises = rises;
      world = world;
    }
    by stop.NoMemory unread rose opens search wrote = record {
      status = λ world b over it. tt;
      parts = λ world b over it. stopped (output_parts words b.out) w;
      text = λ world b over it. wrote b.err;
      completes = λ read made listed. λ world b over it. inl refl;
      untold_parts = ([], stopped (output_parts words []) w);
      untold_text = (err_by [] NoMemory, stop_parts_text (parts_task words) NoMemory tt, wrote []);
      usage = λ same. cc;
      only_usage = λ none. inr refl;
      no_query = λ same. cc;
      read_fault = λ same. cc;
      read_first = λ more. inr refl;
      opened = search_by inputs.world (run_of_parts (parts_task words)) (λ s h. h.0) search;
      missed = search_by inputs.world (run_of_parts (parts_task words)) (λ s h. h.1) search;
      opens = opens;
      closed = balanced;
      rises = rises;
      world = world;
    }
