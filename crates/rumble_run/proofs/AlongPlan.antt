-- What a run along the plan comes to, and what it looks for.
use Rattle.std.proofs.Common.{◌≡◌, ◌≤◌, ◌+◌, ◌++◌, ◌||◌, ◌&&◌, ℕ, Bool, true, false, not, cond, List, [], ◌∷◌, length, map, replicate, Option, None, Some, Result, Ok, Err, refl, sym, ap, ap₂, ◌∙◌, subst, arith}
use Rattle.std.specs.Prelude.{Vec, IfSome, IfOk, nat_le, string_bytes}
use Rattle.std.specs.declared.alloc.Global.{Global}
use Rattle.std.specs.List.{All, AllByRecursion, flat_map, cons_option, list_any, sum_by}
use Rattle.std.specs.Str.{bytes_eq}
use Rattle.std.proofs.lemmas.Bool.{and_parts, false≢true}
use Rattle.std.proofs.lemmas.List.{append-nil}
use Rattle.std.proofs.lemmas.List.Elements.{recursion_from_All, All-from_recursion}
use Rattle.std.proofs.lemmas.List.Folds.{list_any-append}
use Rattle.std.proofs.lemmas.Slice.Eq.{bytes_eq-Decides}
use Rattle.item_tree.specs.Datum.{Datum}
use Rattle.item_tree.specs.ItemText.{item_text}
use Rattle.item_tree.specs.declared.fault.Fault.{Fault}
use Rattle.item_tree.specs.declared.item.Item.{Item}
use Rattle.outside.specs.Opens.{InputCounts}
use Rattle.outside.specs.World.{World}
use Rattle.query_tree.specs.Bound.{BoundTree}
use Rattle.query_tree.specs.Compiled.{BoundTrees, CompiledTree, bound_trees}
use Rattle.query_tree.specs.Inputs.{input_names}
use Rattle.query_tree.specs.Spines.{spine}
use Rattle.mode_planner.specs.Beside.{drivers, names_beside, stand_once}
use Rattle.mode_planner.specs.Drivers.{DriverPlan}
use Rattle.mode_planner.specs.Laws.{is_among}
use Rattle.mode_planner.specs.Plans.{LeafPlan, leaf_plan, plan}
use Rattle.mode_planner.specs.Spine.{leaves, handlers}
use Rattle.query_meaning.specs.Calls.{Program}
use Rattle.query_meaning.specs.Library.{Library, held}
use Rattle.query_meaning.specs.Meaning.{eval}
use Rattle.query_meaning.specs.Environment.{Tuple}
use Rattle.query_meaning.specs.Outcome.{OrFault, Outcome, ◌>>=◌}
use Rattle.query_meaning.specs.Queries.{whole_depth, outermost, program_of, globals_value, query_value}
use Rattle.query_meaning.specs.declared.library.Library.{Library as Held}
use Rattle.query_meaning.specs.declared.value.Value.{Value}
use Rattle.query_meaning.specs.inside.Computed.{read_of, inputs_of}
use Rattle.query_meaning.specs.inside.Views.{library_of, tuple_of, lists_of}
use Rattle.meaning_laws.specs.Agreement.{AgreeOn, CallsTheSame}
use Rattle.meaning_laws.specs.Laws.{LibrariesAgree, QueriesReadNames}
use Rattle.meaning_laws.specs.Planned.{PlansReadBeside, RunsTheSame, PartsTheSame}
use Rattle.rumble_run.specs.Answer.{Answer, output_of, of_outcome, writes_items, raised}
use Rattle.rumble_run.specs.Ends.{NoCountFalls, OpenedJust, OpenedAtMost, OpenedBetween, OpenedWhere, MissedJust, MissedAtMost, MissedBetween, MissedWhere, LooksForNone}
use Rattle.rumble_run.specs.Front.{Executable}
use Rattle.rumble_run.specs.Opens.{Search, all_opens, all_misses, search_among, along_search, run_search, can_run_along, most_spine, leaf_opens, leaf_drivers, is_nothing}
use Rattle.rumble_run.specs.declared.command.Running.{Running}
use Rattle.rumble_run.specs.declared.ending.Ending.{Ending}
use Rattle.piece_run.specs.declared.leaf_fault.LeafFault.{LeafFault}
use Rattle.piece_run.specs.declared.leaf_fault.LeafFault.TheVariants.{Raised, ReadFault, NoMemory}
use Rattle.piece_seats.specs.declared.text.Text.{Text}
use Rattle.rumble_run.specs.declared.status.Status.{Status}
use Rattle.rumble_run.specs.declared.status.Status.TheVariants as status
use Rattle.rumble_run.specs.declared.status.Stop.{Stop}
use Rattle.rumble_run.specs.declared.status.Stop.TheVariants as stop
use Rattle.rumble_run.specs.inside.Along.{names_along, EndedFrom, PrintsAlong}
use Rattle.rumble_run.specs.inside.Computed.{of_run}
use Rattle.rumble_run.specs.inside.Decided.{SearchedBy}
use Rattle.rumble_run.specs.inside.LeafCounts.{CausedByLeaf, LeavesOfLeaf, Drove}
use Rattle.rumble_run.specs.inside.Reads.{CausedBy, Leaves, SearchedAll, SearchedSome}
use Rattle.rumble_run.specs.inside.Seen.{answer_of, IsOfStatus, LeavesRun, decided_status, status_of_stop}
use Rattle.piece_seats.specs.Texts.{text_lines}
use Rattle.piece_run.specs.Kept.{KeptIs}
use Rattle.rumble_run.specs.inside.Walked.{Prints, Setting, own_program, own_environment, LeafFinds, Finds, Walked, leaf_driver, files_on, drivers_on, none_handled}
use Rattle.rumble_run.proofs.DriverSteps.{plan_tree}
use Rattle.rumble_run.proofs.LeafCounting.{most_of}
use Rattle.rumble_run.proofs.SpineSteps.{joined_none}

abbrev Names : Type 0
Names = List (List ℕ)

-- ---- names among others

among_left : (xs ys : Names) (n : List ℕ) → is_among xs n ≡ true → is_among (xs ++ ys) n ≡ true
among_left xs ys n h = list_any-append (λ m. bytes_eq m n) xs ys ∙ ap (λ b. b || is_among ys n) h

or_true : (b : Bool) → (b || true) ≡ true
or_true true = refl
or_true false = refl

among_right : (xs ys : Names) (n : List ℕ) → is_among ys n ≡ true → is_among (xs ++ ys) n ≡ true
among_right xs ys n h = list_any-append (λ m. bytes_eq m n) xs ys ∙ ap (λ b. is_among xs n || b) h ∙ or_true (is_among xs n)

-- each of these is among them, and so among any that have them all
each_among : (P : List ℕ → Type 0) (ns : Names) → ((n : List ℕ) → is_among ns n ≡ true → P n) → AllByRecursion P ns
each_among P [] f = tt
each_among P (n ∷ ns) f = (
  f n (ap (λ b. b || is_among ns n) ((bytes_eq-Decides n n).1 refl)),
  each_among P ns (λ m h. f m (ap (λ b. bytes_eq n m || b) h ∙ or_true (bytes_eq n m))),
)

all_among : (P : List ℕ → Type 0) (ns : Names) → ((n : List ℕ) → is_among ns n ≡ true → P n) → All P ns
all_among P ns f = All-from_recursion P ns (each_among P ns f)

-- ---- a library that holds all names of a query, and those of its drivers and beside them

abbrev driver_names : BoundTrees → Names
driver_names m = flat_map (λ d. d.names) (drivers (plan false m.body))

abbrev beside : BoundTrees → Names
beside m = names_beside (plan false m.body) m

abbrev pub known_names : BoundTrees → Names
known_names m = input_names m ++ beside m ++ driver_names m

module _ (laws : LibrariesAgree) (w : World) where
  reads_known : (ns : Names) (n : List ℕ) → is_among ns n ≡ true → held (inputs_of w ns) n ≡ read_of w n
  reads_known ns n h = laws.read w ns n h

  -- two libraries that are read of one world agree on what both hold
  both_read : (names xs ys : Names) → ((n : List ℕ) → is_among names n ≡ true → is_among xs n ≡ true) → ((n : List ℕ) → is_among names n ≡ true → is_among ys n ≡ true)
      → AgreeOn names (inputs_of w xs) (inputs_of w ys)
  both_read names xs ys f g = all_among (λ n. held (inputs_of w xs) n ≡ held (inputs_of w ys) n) names (λ n h. reads_known xs n (f n h) ∙ sym (reads_known ys n (g n h)))

  of_inputs : (m : BoundTrees) → AgreeOn (input_names m) (inputs_of w (input_names m)) (inputs_of w (known_names m))
  of_inputs m = both_read (input_names m) (input_names m) (known_names m) (λ n h. h) (λ n h. among_left (input_names m ++ beside m) (driver_names m) n (among_left (input_names m) (beside m) n h))

  of_beside : (m : BoundTrees) → AgreeOn (beside m) (inputs_of w (known_names m)) (inputs_of w (beside m))
  of_beside m = both_read (beside m) (known_names m) (beside m) (λ n h. among_left (input_names m ++ beside m) (driver_names m) n (among_right (input_names m) (beside m) n h)) (λ n h. h)

  of_drivers : (m : BoundTrees) (n : List ℕ) → is_among (driver_names m) n ≡ true → held (inputs_of w (known_names m)) n ≡ read_of w n
  of_drivers m n h = reads_known (known_names m) n (among_right (input_names m ++ beside m) (driver_names m) n h)

-- ---- what leaves find

abbrev names_of : List DriverPlan → Names
names_of ds = flat_map (λ d. d.names) ds

own_among : (o : Option DriverPlan) (d : DriverPlan) (rest : List DriverPlan) (n : List ℕ) → o ≡ Some d → is_among d.names n ≡ true → is_among (names_of (cons_option o rest)) n ≡ true
own_among o d rest n e h = subst (λ o. is_among (names_of (cons_option o rest)) n ≡ true) (sym e) (among_left d.names (names_of rest) n h)

later_among : (o : Option DriverPlan) (rest : List DriverPlan) (n : List ℕ) → is_among (names_of rest) n ≡ true → is_among (names_of (cons_option o rest)) n ≡ true
later_among None rest n h = h
later_among (Some d) rest n h = among_right d.names (names_of rest) n h

module _ (own full : Program) (w : World) where
  abbrev Whole : LeafPlan → Type 0
  Whole l = l.driver ≡ None → CallsTheSame l.tree full own

  leaves_found : (ts : List BoundTree) → AllByRecursion Whole (map (leaf_plan false) ts) → AllByRecursion (PartsTheSame full own) (map (leaf_plan false) ts)
      → ((n : List ℕ) → is_among (names_of (drivers (map (leaf_plan false) ts))) n ≡ true → held full.library n ≡ read_of w n) → AllByRecursion (LeafFinds own full w) ts
  leaves_found [] whole driven names = tt
  leaves_found (t ∷ ts) whole driven names =
      let rest = drivers (map (leaf_plan false) ts) in (
        record {
          whole = λ e. subst (λ u. CallsTheSame u full own) (plan_tree t) (whole.0 e);
          driven = driven.0;
          read = λ d e. all_among (λ n. held full.library n ≡ read_of w n) d.names (λ n h. names n (own_among (leaf_driver t) d rest n e h));
        },
        leaves_found ts whole.1 driven.1 (λ n h. names n (later_among (leaf_driver t) rest n h)),
      )

-- ---- all but the drivers finds the same

pub record Known (width : ℕ) (m : BoundTrees) (w : World) (own full : Library) : Type 0 where
  pub globals : globals_value width m own ≡ globals_value width m full
  pub finds : Finds (program_of width m own) (program_of width m full) w (m.body ∷ [])

pub known : LibrariesAgree → PlansReadBeside → (width : ℕ) (m : BoundTrees) (w : World) → stand_once (drivers (plan false m.body)) m ≡ true → Known width m w (inputs_of w (beside m)) (inputs_of w (known_names m))
known laws plans width m w once =
    let own = program_of width m (inputs_of w (beside m)) in
    let full = program_of width m (inputs_of w (known_names m)) in
    let runs = plans false width m (inputs_of w (known_names m)) (inputs_of w (beside m)) once (of_beside laws w m) in
    let planned = plan false m.body in
    record {
      globals = sym runs.variables;
      finds = record {
        handlers = subst (AllByRecursion (λ u. CallsTheSame u full own)) (sym (append-nil (handlers m.body))) (recursion_from_All (λ u. CallsTheSame u full own) (handlers m.body) runs.handlers);
        leaves = subst (AllByRecursion (LeafFinds own full w)) (sym (append-nil (leaves m.body)))
            (leaves_found own full w (leaves m.body) (recursion_from_All (Whole own full w) planned runs.whole) (recursion_from_All (PartsTheSame full own) planned runs.driven) (of_drivers laws w m));
      };
    }

-- ---- the answer

lines_output : (ds : List Datum) → text_lines ds ≡ output_of ds
lines_output [] = refl
lines_output (d ∷ ds) = ap (λ ls. item_text d ++ 10 ∷ ls) (lines_output ds)

-- a query that can be run along its plan
pub record CanRun (m : BoundTrees) (names : Names) : Type 0 where
  pub once : stand_once (drivers (plan false m.body)) m ≡ true
  pub room : nat_le (spine m.body) most_spine ≡ true
  pub are : names ≡ beside m

can_by : (m : BoundTrees) (names : Names) (b : Bool) → can_run_along m ≡ b → ◌≡◌ {A = Option Names} (cond b (Some (beside m)) None) (Some names) → CanRun m names
can_by m names true e h =
    let both = and_parts (stand_once (drivers (plan false m.body)) m) (nat_le (spine m.body) most_spine) e in
    record { once = both.0; room = both.1; are = sym (ap (names_or names) h) }
  where
    names_or : Names → Option Names → Names
    names_or ns None = ns
    names_or ns (Some ms) = ms
can_by m names false e h = absurd (subst is_none h tt)
  where
    is_none : Option Names → Type 0
    is_none None = Unit {0}
    is_none (Some ns) = ⊥

pub can_run : (m : BoundTrees) (names : Names) → names_along m ≡ Some names → CanRun m names
can_run m names h = can_by m names (can_run_along m) refl h

can_true : (m : BoundTrees) (names : Names) (b : Bool) → can_run_along m ≡ b → ◌≡◌ {A = Option Names} (cond b (Some (beside m)) None) (Some names) → can_run_along m ≡ true
can_true m names true e h = e
can_true m names false e h = absurd (subst is_none h tt)
  where
    is_none : Option Names → Type 0
    is_none None = Unit {0}
    is_none (Some ns) = ⊥

can_false : (m : BoundTrees) (b : Bool) → can_run_along m ≡ b → ◌≡◌ {A = Option Names} (cond b (Some (beside m)) None) None → can_run_along m ≡ false
can_false m true e h = absurd (subst is_some_names h tt)
  where
    is_some_names : Option Names → Type 0
    is_some_names None = ⊥
    is_some_names (Some ns) = Unit {0}
can_false m false e h = e

pub planned_value : (stats : Bool) (text : List ℕ) (run : Running) (query : Executable) (names : Names) (a : Answer) (own : Library) (printed : Result Text LeafFault) (w : World) (before after : InputCounts)
    → LibrariesAgree → PlansReadBeside → QueriesReadNames → names_along query.trees ≡ Some names → own ≡ inputs_of w names → PrintsAlong run query.width query.trees own w printed before after
    → ((outcome : Outcome) → KeptIs Prints printed outcome → a ≡ of_outcome stats text outcome) → a ≡ of_run stats text w query
unfolding of_run
planned_value stats text run query names a own printed w before after laws plans reads along is prints h =
    let m = query.trees in
    let can = can_run m names along in
    let same : inputs_of w (beside m) ≡ own = sym (is ∙ ap (inputs_of w) can.are) in
    let k = subst (λ l. Known query.width m w l (inputs_of w (known_names m))) same (known laws plans query.width m w can.once) in
    h (query_value query.width m (inputs_of w (known_names m))) (prints.value (inputs_of w (known_names m)) k.globals k.finds)
    ∙ ap (of_outcome stats text) (sym (reads.agreed query.width m (inputs_of w (input_names m)) (inputs_of w (known_names m)) (of_inputs laws w m)))

-- ---- the counts

opened_then : (m n : ℕ) (start now after : InputCounts) → NoCountFalls now after → OpenedJust m start now → OpenedJust n now after → OpenedJust (m + n) start after
opened_then m n start now after falls h g = (
  omega (arith, h.0, g.0),
  λ small.
      let last = g.1 small in
      let mid = h.1 (omega (arith, falls.opened, small)) in
      omega (arith, last, mid),
)

missed_then : (m : ℕ) (start now after : InputCounts) → NoCountFalls now after → MissedJust m start now → MissedJust 0 now after → MissedJust m start after
missed_then m start now after falls h g = (
  omega (arith, h.0, g.0),
  λ small.
      let last = g.1 small in
      let mid = h.1 (omega (arith, falls.misses, small)) in
      omega (arith, last, mid),
)

module _ (s : Search) (before mid after : InputCounts) (falls : NoCountFalls mid after) (read : SearchedAll s before mid) where
  opened_between : OpenedAtMost s.driven.opens mid after → OpenedBetween (length s.files) (all_opens s) before after
  opened_between most = (omega (arith, most, read.0.0), λ small. let first = read.0.1 (omega (arith, falls.opened, small)) in omega (arith, first, falls.opened))

  missed_between : MissedAtMost s.driven.drivers mid after → MissedBetween (length s.missing) (all_misses s) before after
  missed_between most = (omega (arith, most, read.1.0), λ small. let first = read.1.1 (omega (arith, falls.misses, small)) in omega (arith, first, falls.misses))

  done_by : (t : Text) (certain : Bool) → Drove {K = Text} (Ok t) certain s.driven.opens s.driven.drivers mid after → OpenedWhere certain s before after × MissedWhere certain s before after
  done_by t true d = (opened_then (length s.files) s.driven.opens before mid after falls read.0 d.0, missed_then (length s.missing) before mid after falls read.1 d.1)
  done_by t false d = (opened_between d.0, missed_between d.1)

  raised_by : OpenedAtMost s.driven.opens mid after × MissedAtMost s.driven.drivers mid after → SearchedBy s status.Raised before after
  raised_by d = (opened_between d.0, missed_between d.1)

  most_by : OpenedAtMost s.driven.opens mid after × MissedAtMost s.driven.drivers mid after → OpenedAtMost (all_opens s) before after × MissedAtMost (all_misses s) before after
  most_by d = (omega (arith, d.0, read.0.0), omega (arith, d.1, read.1.0))

  ended_by : (printed : Result Text LeafFault) (result : Result Ending Stop) → EndedFrom printed result → Drove printed s.driven.certain s.driven.opens s.driven.drivers mid after → SearchedBy s (decided_status result) before after
  ended_by (Ok t) (Ok e) is d = subst (λ st. SearchedBy s st before after) (sym is) (done_by t s.driven.certain d)
  ended_by (Ok t) (Err x) is d = subst (λ st. SearchedBy s (status_of_stop st) before after) (sym is) (most_by (most_of {K = Text} (Ok t) s.driven.certain s.driven.opens s.driven.drivers mid after d))
  ended_by (Err (Raised f)) (Ok e) is d = subst (λ st. SearchedBy s st before after) (sym is) (raised_by d)
  ended_by (Err (Raised f)) (Err x) is d = subst (λ st. SearchedBy s (status_of_stop st) before after) (sym is) (most_by d)
  ended_by (Err ReadFault) result is d = subst (λ r. SearchedBy s (decided_status r) before after) (sym is) (most_by d)
  ended_by (Err NoMemory) result is d = subst (λ r. SearchedBy s (decided_status r) before after) (sym is) (most_by d)

-- what was looked for of a query along its plan
pub planned_searched : (run : Running) (w : World) (m : BoundTrees) (names : Names) (printed : Result Text LeafFault) (result : Result Ending Stop) (before mid after : InputCounts) → names_along m ≡ Some names
    → SearchedAll (search_among w names) before mid → NoCountFalls mid after
    → Drove printed (none_handled (m.body ∷ [])) (files_on w run.workers run.size (m.body ∷ [])) (drivers_on (m.body ∷ [])) mid after → EndedFrom printed result
    → SearchedBy (along_search run w m) (decided_status result) before after
planned_searched run w m names printed result before mid after along read falls d ended =
    let can = can_run m names along in
    let all : SearchedAll (search_among w (beside m)) before mid = subst (λ ns. SearchedAll (search_among w ns) before mid) can.are read in
    let drove =
    subst (λ (us : List BoundTree). Drove printed (is_nothing us) (files_on w run.workers run.size (m.body ∷ [])) (drivers_on (m.body ∷ [])) mid after) (append-nil (handlers m.body)) d in
    let driven =
    subst (λ (us : List BoundTree). Drove printed (is_nothing (handlers m.body)) (sum_by (leaf_opens w run.workers run.size) us) (sum_by leaf_drivers us) mid after) (append-nil (leaves m.body)) drove in
    ended_by (along_search run w m) before mid after falls all printed result ended driven

-- reading the names beside the drivers stopped
pub planned_stopped : (run : Running) (w : World) (m : BoundTrees) (names : Names) (x : Stop) (before after : InputCounts) → names_along m ≡ Some names → SearchedSome (search_among w names) before after
    → SearchedBy (along_search run w m) (status_of_stop x) before after
planned_stopped run w m names x before after along some =
    let can = can_run m names along in
    by x (subst (λ ns. SearchedSome (search_among w ns) before after) can.are some)
  where
    s : Search
    s = along_search run w m

    most : SearchedSome (search_among w (beside m)) before after → OpenedAtMost (all_opens s) before after × MissedAtMost (all_misses s) before after
    most h = (omega (arith, h.0), omega (arith, h.1))

    by : (x : Stop) → SearchedSome (search_among w (beside m)) before after → SearchedBy s (status_of_stop x) before after
    by stop.ReadFault h = most h
    by stop.NoMemory h = most h

-- ---- the same, where the world may not be told

pub told_each : {P Q : World → Type 0} (world : Option World) → ((w : World) → P w → Q w) → IfSome world P → IfSome world Q
told_each None f h = tt
told_each (Some w) f h = f w h

both_told : {P Q R : World → Type 0} (world after : Option World) → after ≡ world → ((w : World) → P w → Q w → R w) → IfSome world P → IfSome after Q → IfSome world R
both_told {P} {Q} {R} world after same f h g = by world h (subst (λ (o : Option World). IfSome o Q) same g)
  where
    by : (world : Option World) → IfSome world P → IfSome world Q → IfSome world R
    by None h g = tt
    by (Some w) h g = f w h g

pub value_told : (stats : Bool) (text : List ℕ) (run : Running) (query : Executable) (names : Names) (own : Library) (printed : Result Text LeafFault) (result : Result Ending Stop) (world after : Option World) (mid new : InputCounts)
    → LibrariesAgree → PlansReadBeside → QueriesReadNames → names_along query.trees ≡ Some names → IfSome world (λ w. own ≡ inputs_of w names) → after ≡ world
    → IfSome after (λ w. PrintsAlong run query.width query.trees own w printed mid new)
    → IfOk result (λ e. (outcome : Outcome) → KeptIs Prints printed outcome → answer_of e ≡ of_outcome stats text outcome)
    → IfOk result (λ e. IfSome world (λ w. answer_of e ≡ of_run stats text w query))
value_told stats text run query names own printed (Ok e) world after mid new laws plans reads along held same prints h =
    both_told world after same (λ w is p. planned_value stats text run query names (answer_of e) own printed w mid new laws plans reads along is p h) held prints
value_told stats text run query names own printed (Err x) world after mid new laws plans reads along held same prints h = tt

pub searched_told : (run : Running) (width : ℕ) (m : BoundTrees) (names : Names) (own : Library) (printed : Result Text LeafFault) (result : Result Ending Stop) (world after : Option World) (before mid new : InputCounts)
    → names_along m ≡ Some names → IfSome world (λ w. SearchedAll (search_among w names) before mid) → after ≡ world
    → IfSome after (λ w. PrintsAlong run width m own w printed mid new) → NoCountFalls mid new → EndedFrom printed result
    → IfSome world (λ w. SearchedBy (along_search run w m) (decided_status result) before new)
searched_told run width m names own printed result world after before mid new along read same prints falls ended =
    both_told world after same (λ w all p. planned_searched run w m names printed result before mid new along all falls p.drove ended) read prints

pub stopped_told : (run : Running) (m : BoundTrees) (names : Names) (x : Stop) (world : Option World) (before after : InputCounts) → names_along m ≡ Some names
    → IfSome world (λ w. SearchedSome (search_among w names) before after) → IfSome world (λ w. SearchedBy (along_search run w m) (status_of_stop x) before after)
stopped_told run m names x world before after along some =
    told_each world (λ w h. planned_stopped run w m names x before after along h) some

chosen : (run : Running) (w : World) (m : BoundTrees) (local can : Bool) → run.local ≡ local → can_run_along m ≡ can
    → run_search run w m ≡ cond (not local && can) (along_search run w m) (search_among w (input_names m))
chosen run w m local can l e = ap₂ (λ x y. cond (not x && y) (along_search run w m) (search_among w (input_names m))) l e

-- a run along the plan, one that is not, and one that is asked for in one place
pub chosen_along : (run : Running) (m : BoundTrees) (names : Names) (s : Status) (world : Option World) (before after : InputCounts) → run.local ≡ false → names_along m ≡ Some names
    → IfSome world (λ w. SearchedBy (along_search run w m) s before after) → IfSome world (λ w. SearchedBy (run_search run w m) s before after)
chosen_along run m names s world before after l along h =
    told_each world (λ w it. subst (λ (x : Search). SearchedBy x s before after) (sym (chosen run w m false true l (can_true m names (can_run_along m) refl along))) it) h

pub chosen_whole : (run : Running) (m : BoundTrees) (s : Status) (world : Option World) (before after : InputCounts) → run.local ≡ false → names_along m ≡ None
    → IfSome world (λ w. SearchedBy (search_among w (input_names m)) s before after) → IfSome world (λ w. SearchedBy (run_search run w m) s before after)
chosen_whole run m s world before after l along h =
    told_each world (λ w it. subst (λ (x : Search). SearchedBy x s before after) (sym (chosen run w m false false l (can_false m (can_run_along m) refl along))) it) h

-- ---- the faults

cause_ended : (printed : Result Text LeafFault) (result : Result Ending Stop) (before after : ℕ) → EndedFrom printed result → CausedByLeaf printed before after → CausedBy result before after
cause_ended (Ok t) (Ok e) before after is c = c
cause_ended (Ok t) (Err x) before after is c = subst (λ x. CausedBy {T = Ending} (Err x) before after) (sym is) tt
cause_ended (Err (Raised f)) (Ok e) before after is c = c
cause_ended (Err (Raised f)) (Err x) before after is c = subst (λ x. CausedBy {T = Ending} (Err x) before after) (sym is) tt
cause_ended (Err ReadFault) result before after is c = subst (λ r. CausedBy r before after) (sym is) c
cause_ended (Err NoMemory) result before after is c = subst (λ r. CausedBy r before after) (sym is) tt

never_refused : (printed : Result Text LeafFault) (result : Result Ending Stop) (before after : InputCounts) → EndedFrom printed result → IfOk result (λ e. e.status ≡ status.Refused → LooksForNone before after)
never_refused (Ok t) (Ok e) before after is = λ r. absurd (apart (sym is ∙ r))
  where
    apart : status.Done ≡ status.Refused → ⊥
    apart e = cc
never_refused (Ok t) (Err x) before after is = tt
never_refused (Err (Raised f)) (Ok e) before after is = λ r. absurd (apart (sym is ∙ r))
  where
    apart : status.Raised ≡ status.Refused → ⊥
    apart e = cc
never_refused (Err (Raised f)) (Err x) before after is = tt
never_refused (Err ReadFault) result before after is = subst (λ r. IfOk r (λ e. e.status ≡ status.Refused → LooksForNone before after)) (sym is) tt
never_refused (Err NoMemory) result before after is = subst (λ r. IfOk r (λ e. e.status ≡ status.Refused → LooksForNone before after)) (sym is) tt

pub planned_leaves : {T : Type 0} (x : T) (printed : Result Text LeafFault) (result : Result Ending Stop) (before mid after : InputCounts) → Leaves (Ok x) before mid → LeavesOfLeaf printed mid after → EndedFrom printed result
    → LeavesRun result before after
planned_leaves x printed result before mid after h g ended = record {
  leaves = record {
    cause = subst (λ n. CausedBy result n after.faults) h.cause (cause_ended printed result mid.faults after.faults ended g.cause);
    rises = record {
      faults = omega (arith, g.rises.faults, h.rises.faults);
      misses = omega (arith, g.rises.misses, h.rises.misses);
      opened = omega (arith, g.rises.opened, h.rises.opened);
      closed = omega (arith, g.rises.closed, h.rises.closed);
    };
    balanced = record {
      same = λ o c.
          let late = g.balanced.same o c in
          let early = h.balanced.same (omega (arith, g.rises.opened, o)) (omega (arith, g.rises.closed, c)) in
          omega (arith, early, late);
    };
  };
  refused = never_refused printed result before after ended;
}

-- ---- what is printed of the body

with_globals : (width : ℕ) (m : BoundTrees) (library : Library) (globals : List (List Datum)) → globals_value width m library ≡ Ok globals
    → query_value width m library ≡ eval (program_of width m library) whole_depth m.body (outermost (program_of width m library) globals)
unfolding query_value
with_globals width m library globals e =
    ap (λ o. o >>= λ gs. eval (program_of width m library) whole_depth m.body (outermost (program_of width m library) gs)) e

without_globals : (width : ℕ) (m : BoundTrees) (library : Library) (f : Fault) → globals_value width m library ≡ Err f → query_value width m library ≡ Err f
unfolding query_value
without_globals width m library f e =
    ap (λ o. o >>= λ gs. eval (program_of width m library) whole_depth m.body (outermost (program_of width m library) gs)) e

pub walk_prints : (run : Running) (width : ℕ) (m : BoundTrees) (own : Library) (w : World) (s : Setting) (globals : List (List Datum)) (printed : Result Text LeafFault) (before after : InputCounts)
    → s.own ≡ program_of width m own → s.env ≡ outermost (program_of width m own) globals → s.workers ≡ run.workers → s.size ≡ run.size → globals_value width m own ≡ Ok globals
    → Walked Prints s w whole_depth (m.body ∷ []) printed before after → PrintsAlong run width m own w printed before after
walk_prints run width m own w s globals printed before after programs places workers size found h = record {
  value = λ full same finds.
      let mine = subst (λ q. Finds q (program_of width m full) w (m.body ∷ [])) (sym programs) finds in
      let meant = with_globals width m full globals (sym same ∙ found) in
      let at = ap (eval (program_of width m full) whole_depth m.body) places in
      subst (KeptIs Prints printed) (joined_none (eval (program_of width m full) whole_depth m.body s.env) ∙ at ∙ sym meant) (h.value (program_of width m full) mine);
  drove =
      subst (λ n. Drove printed (none_handled (m.body ∷ [])) (files_on w n run.size (m.body ∷ [])) (drivers_on (m.body ∷ [])) before after) workers
      (subst (λ n. Drove printed (none_handled (m.body ∷ [])) (files_on w s.workers n (m.body ∷ [])) (drivers_on (m.body ∷ [])) before after) size h.drove);
}

frame_or_none : OrFault Tuple → Tuple
frame_or_none (Ok frame) = frame
frame_or_none (Err fault) = []

abbrev setting_with : Running → CompiledTree → Held → List Value → List (Vec Item Global) → Setting
setting_with run query library frame globals = record {
  own = own_program query library;
  env = own_environment frame globals;
  workers = run.workers;
  size = run.size;
}

pub walk_told : (run : Running) (query : CompiledTree) (library : Held) (frame : List Value) (lent globals : List (Vec Item Global)) (tree : BoundTree) (printed : Result Text LeafFault) (world : Option World) (before after : InputCounts)
    → lent ≡ globals → ◌≡◌ {A = OrFault Tuple} (Ok (replicate query.width [])) (Ok (tuple_of frame)) → tree ≡ (bound_trees query.tree).body
    → globals_value query.width (bound_trees query.tree) (library_of library) ≡ Ok (lists_of globals)
    → IfSome world (λ w. Walked Prints (setting_with run query library frame lent) w whole_depth (tree ∷ []) printed before after)
    → IfSome world (λ w. PrintsAlong run query.width (bound_trees query.tree) (library_of library) w printed before after)
unfolding frame_or_none
walk_told run query library frame lent globals tree printed world before after g f body found walked =
    let frames : tuple_of frame ≡ replicate query.width [] = sym (ap frame_or_none f) in
    let m = bound_trees query.tree in
    let s = setting_with run query library frame lent in
    told_each world
    (λ w h.
    walk_prints run query.width m (library_of library) w s (lists_of globals) printed before after refl
    (λ i. record { frame = frames i; globals = lists_of (g i); item = None }) refl refl found
    (subst (λ t. Walked Prints s w whole_depth (t ∷ []) printed before after) body h))
    walked

pub raised_prints : (run : Running) (width : ℕ) (m : BoundTrees) (own : Library) (w : World) (f : Fault) (counts : InputCounts) → globals_value width m own ≡ Err f → PrintsAlong run width m own w (Err (Raised f)) counts counts
raised_prints run width m own w f counts e = record {
  value = λ full same finds. without_globals width m full f (sym same ∙ e);
  drove = (omega arith, omega arith);
}

pub short_prints : (run : Running) (width : ℕ) (m : BoundTrees) (own : Library) (w : World) (counts : InputCounts) → PrintsAlong run width m own w (Err NoMemory) counts counts
short_prints run width m own w counts = record { value = λ full same finds. tt; drove = (omega arith, omega arith) }

-- ---- what an ending is of what was printed

pub text_ends : (stats : Bool) (text : List ℕ) (t : Text) (a : Answer) → a ≡ writes_items stats t.items t.bytes.items → (outcome : Outcome) → KeptIs Prints (Ok t) outcome → a ≡ of_outcome stats text outcome
text_ends stats text t a e outcome h =
    let is = h.2 in
    e ∙ ap₂ (writes_items stats) is.many (is.text ∙ lines_output h.0) ∙ ap (of_outcome stats text) (sym h.1)

pub text_shape : (stats : Bool) (n : ℕ) (out : List ℕ) (a : Answer) → a ≡ writes_items stats n out → IsOfStatus stats a.out a.err a.status
text_shape true n out a e = subst (λ (a : Answer). IsOfStatus true a.out a.err a.status) (sym e) (n, length out, refl)
text_shape false n out a e = subst (λ (a : Answer). IsOfStatus false a.out a.err a.status) (sym e) refl

pub fault_ends : (stats : Bool) (text : List ℕ) (f : Fault) (a : Answer) → a ≡ raised text f → (outcome : Outcome) → outcome ≡ Err f → a ≡ of_outcome stats text outcome
fault_ends stats text f a e outcome h = e ∙ ap (of_outcome stats text) (sym h)
