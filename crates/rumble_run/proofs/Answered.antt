-- A command line has one answer, and looks for one list of files.
use Rattle.std.proofs.Common.{◌≡◌, ◌+◌, ℕ, List, [], ◌∷◌, ◌++◌, length, suc, cond, arith, false, not, inl, inr, Option, None, Some, Result, Ok, Err, refl, sym, ap, ◌∙◌, subst, codes}
use Rattle.std.specs.Prelude.{IfSome, is_some}
use Rattle.std.specs.Str.{encode_utf8_all}
use Rattle.item_reader.specs.Lines.{without_mark}
use Rattle.outside.specs.Opens.{InputCounts}
use Rattle.outside.specs.World.{World, file_of}
use Rattle.rumble_run.specs.Answer.{Answer, AnswersOver, ReadsNoFile, IsAnswer, IsOfQuery, IsOfCommand, IsOfFile, OfAnswer, says, usage}
use Rattle.rumble_run.specs.Trial.{trial_query, trial_world}
use Rattle.rumble_run.specs.Commands.{command_of}
use Rattle.rumble_run.specs.Ends.{OpenedJust, OpenedAtMost, MissedJust, MissedAtMost, NoCountFalls}
use Rattle.rumble_run.specs.Front.{Front, IsFront}
use Rattle.rumble_run.specs.Laws.{HasOneAnswer, HasOneSearch}
use Rattle.rumble_run.specs.Opens.{Search, no_search, search_of, after_file, inputs_search, SearchOfFile, IsSearch, OfSearch}
use Rattle.rumble_run.specs.inside.Computed.{of_front}
use Rattle.rumble_run.specs.inside.Decided.{SearchedBy}
use Rattle.rumble_run.specs.inside.Reads.{SearchedAll, SearchedSome, search_of_name}
use Rattle.rumble_run.specs.inside.Seen.{IsToldAnswer, status_of_stop}
use Rattle.rumble_run.specs.declared.status.Status.{Status}
use Rattle.rumble_run.specs.declared.status.Status.TheVariants.{NoQuery}
use Rattle.rumble_run.specs.declared.status.Stop.{Stop}
use Rattle.rumble_run.specs.declared.command.Action.{Action}
use Rattle.rumble_run.specs.declared.command.Action.TheVariants as action
use Rattle.rumble_run.specs.declared.command.Running.{Running}
use Rattle.rumble_run.specs.declared.command.Command.{Command}
use Rattle.rumble_run.specs.declared.command.Command.TheVariants.{Query, Trial}
use Rattle.item_tree.specs.declared.fault.Fault.{Fault}
use Rattle.rumble_run.proofs.Computing.{front_answered, only_of_front}
use Rattle.rumble_run.proofs.Fronts.{front_is, only_front}
use Rattle.rumble_run.proofs.Opened.{nothing_some}
use Rattle.rumble_run.proofs.Searching.{plain_searched, nothing_by, some_searched, behind_file}

-- ---- the answer

answer_of_query : (act : Action) (world : World) (query : List ℕ) → (answer : Answer) × IsOfQuery act world query answer
answer_of_query act world query =
    let f : (front : Front) × IsFront query front = front_is query in
    let text = without_mark query in
    (of_front act text world f.0, (f.0, f.1, front_answered act text world f.0))

answer_of_file : (act : Action) (name : List ℕ) (world : World) (file : Option (List ℕ)) → (answer : Answer) × IsOfFile act name world file answer
answer_of_file act name world None = (says NoQuery (codes "no query " ++ encode_utf8_all name), refl)
answer_of_file act name world (Some query) = answer_of_query act world query

answer_of_command : (world : World) (command : Option Command) → (answer : Answer) × IsOfCommand world command answer
answer_of_command world None = (usage, refl)
answer_of_command world (Some (Query act name)) = answer_of_file act name world (file_of world name)
answer_of_command world (Some (Trial number lines run)) = answer_of_query (action.Run run) (trial_world number lines) trial_query

only_of_query : (act : Action) (world : World) (query : List ℕ) (a b : Answer) → IsOfQuery act world query a → IsOfQuery act world query b → a ≡ b
only_of_query act world query a b (front, is, e) (other, it, f) =
    let text = without_mark query in
    only_of_front act text world front a e ∙ ap (of_front act text world) (only_front query front other is it)
    ∙ sym (only_of_front act text world other b f)

only_of_file : (act : Action) (name : List ℕ) (world : World) (file : Option (List ℕ)) (a b : Answer) → IsOfFile act name world file a → IsOfFile act name world file b → a ≡ b
only_of_file act name world None a b e f = e ∙ sym f
only_of_file act name world (Some query) a b is it = only_of_query act world query a b is it

pub only_of_command : (world : World) (command : Option Command) (a b : Answer) → IsOfCommand world command a → IsOfCommand world command b → a ≡ b
only_of_command world None a b e f = e ∙ sym f
only_of_command world (Some (Query act name)) a b is it = only_of_file act name world (file_of world name) a b is it
only_of_command world (Some (Trial number lines run)) a b is it = only_of_query (action.Run run) (trial_world number lines) trial_query a b is it

pub one_answer : (words : List (List ℕ)) (world : World) → HasOneAnswer words world
unfolding IsAnswer
one_answer words world = record { some = answer_of_command world (command_of words); only = only_of_command world (command_of words) }

-- ---- what holds of the answer

-- the answer where no file is read, which no world changes
pub anywhere : (words : List (List ℕ)) (command : Option Command) (told : Option World) (a : Answer) → command_of words ≡ command → ReadsNoFile command
    → ((w : World) → IsOfCommand w command a) → IsToldAnswer told words a
unfolding IsAnswer
anywhere words command told a c none h = λ w over. subst (λ c. IsOfCommand w c a) (sym c) (h w)

-- the answer of a query, over the world that is told
pub over_told : (words : List (List ℕ)) (act : Action) (name : List ℕ) (told : Option World) (a : Answer) → command_of words ≡ Some (Query act name)
    → IfSome told (λ w. IsOfFile act name w (file_of w name) a) → IsToldAnswer told words a
unfolding IsAnswer
over_told words act name told a c h = λ w over.
    let is : AnswersOver told (Some (Query act name)) w = subst (λ c. AnswersOver told c w) c over in
    subst (λ c. IsOfCommand w c a) (sym c) (by w is)
  where
    by : (w : World) → AnswersOver told (Some (Query act name)) w → IsOfFile act name w (file_of w name) a
    by w (inl e) = subst (λ t. IfSome t (λ w. IsOfFile act name w (file_of w name) a)) e h
    by w (inr none) = absurd none

-- of an ending that is the answer, what holds of it
pub told : (world : Option World) (words : List (List ℕ)) (a : Answer) (Holds : Answer → Type 0) → IsToldAnswer world words a → Holds a → OfAnswer world words Holds
told world words a Holds is h = λ w b over it. subst Holds ((one_answer words w).only a b (is w over) it) h

-- what holds of every answer
pub untold : (world : Option World) (words : List (List ℕ)) (Holds : Answer → Type 0) → ((a : Answer) → Holds a) → OfAnswer world words Holds
untold world words Holds h = λ w b over it. h b

-- ---- the files that are looked for

search_of_file : (act : Action) (name : List ℕ) (world : World) (file : Option (List ℕ)) → (search : Search) × SearchOfFile act name world file search
search_of_file act name world None = (search_of [] (name ∷ []), refl)
search_of_file act name world (Some query) =
    let f : (front : Front) × IsFront query front = front_is query in
    (after_file name (inputs_search act world f.0), (f.0, f.1, refl))

search_is : (command : Option Command) (world : World) → (search : Search) × IsSearch command world search
unfolding IsSearch
search_is None world = (no_search, refl)
search_is (Some (Query act name)) world = search_of_file act name world (file_of world name)
search_is (Some (Trial number lines run)) world = (no_search, refl)

only_search_of_file : (act : Action) (name : List ℕ) (world : World) (file : Option (List ℕ)) (a b : Search) → SearchOfFile act name world file a → SearchOfFile act name world file b → a ≡ b
only_search_of_file act name world None a b e f = e ∙ sym f
only_search_of_file act name world (Some query) a b (front, is, e) (other, it, f) =
    e ∙ ap (λ g. after_file name (inputs_search act world g)) (only_front query front other is it) ∙ sym f

only_search : (command : Option Command) (world : World) (a b : Search) → IsSearch command world a → IsSearch command world b → a ≡ b
unfolding IsSearch
only_search None world a b e f = e ∙ sym f
only_search (Some (Query act name)) world a b is it = only_search_of_file act name world (file_of world name) a b is it
only_search (Some (Trial number lines run)) world a b e f = e ∙ sym f

pub one_search : (command : Option Command) (world : World) → HasOneSearch command world
one_search command world = record { some = search_is command world; only = only_search command world }

-- ---- what a search leaves of the counts

-- nothing is searched where the command reads no file
pub no_file_searched : (told : Option World) (command other : Option Command) (s : Status) (counts : InputCounts) → other ≡ command → ReadsNoFile command
    → OfSearch told other (λ search. SearchedBy search s counts counts)
unfolding IsSearch
no_file_searched told command other s counts e none = subst (λ c. OfSearch told c (λ search. SearchedBy search s counts counts)) (sym e) (by told command none)
  where
    all : (w : World) (command : Option Command) → ReadsNoFile command → (search : Search) → IsSearch command w search → SearchedBy search s counts counts
    all w None none search is = subst (λ x. SearchedBy x s counts counts) (sym is) (nothing_by s counts)
    all w (Some (Query act name)) none search is = absurd none
    all w (Some (Trial number lines run)) none search is = subst (λ x. SearchedBy x s counts counts) (sym is) (nothing_by s counts)

    by : (told : Option World) (command : Option Command) → ReadsNoFile command → OfSearch told command (λ search. SearchedBy search s counts counts)
    by None command none = tt
    by (Some w) command none = all w command none

-- the search of a name alone, where there is a file of it
searched_there : (w : World) (name : List ℕ) (query : List ℕ) (before after : InputCounts) → Some query ≡ file_of w name → SearchedAll (search_of_name w name) before after
    → OpenedJust 1 before after × MissedJust 0 before after
searched_there w name query before after f h =
    subst (λ (o : Option (List ℕ)). OpenedJust (length (cond (is_some o) (name ∷ []) [])) before after × MissedJust (length (cond (not (is_some o)) (name ∷ []) [])) before after) (sym f) h

-- and where there is none
searched_missing : (w : World) (name : List ℕ) (before after : InputCounts) → None ≡ file_of w name → SearchedAll (search_of_name w name) before after
    → OpenedJust 0 before after × MissedJust 1 before after
searched_missing w name before after f h =
    subst (λ (o : Option (List ℕ)). OpenedJust (length (cond (is_some o) (name ∷ []) [])) before after × MissedJust (length (cond (not (is_some o)) (name ∷ []) [])) before after) (sym f) h

-- what holds of the search for the query of this name, in a told world
abbrev pub OfFiles : Option World → Action → List ℕ → (Search → Type 0) → Type 0
OfFiles world act name Holds = IfSome world (λ w. (search : Search) → SearchOfFile act name w (file_of w name) search → Holds search)

pub searched_missing_query : (s : Status) (world : Option World) (act : Action) (name : List ℕ) (before after : InputCounts)
    → IfSome world (λ w. None ≡ file_of w name) → IfSome world (λ w. SearchedAll (search_of_name w name) before after) → OfFiles world act name (λ search. SearchedBy search s before after)
searched_missing_query s None act name before after m h = tt
searched_missing_query s (Some w) act name before after m h = λ search is.
    let none : search ≡ search_of [] (name ∷ []) = subst (λ o. SearchOfFile act name w o search) (sym m) is in
    subst (λ x. SearchedBy x s before after) (sym none) (plain_searched [] (name ∷ []) s before after (searched_missing w name before after m h))

-- a read of the query that stopped
at_most : (act : Action) (name : List ℕ) (w : World) (o : Option (List ℕ)) (search : Search) (before after : InputCounts) → SearchOfFile act name w o search
    → OpenedAtMost (length (cond (is_some o) (name ∷ []) [])) before after × MissedAtMost (length (cond (not (is_some o)) (name ∷ []) [])) before after → SearchedSome search before after
at_most act name w None search before after is h = subst (λ x. SearchedSome x before after) (sym is) h
at_most act name w (Some query) search before after (front, f, e) h =
    subst (λ x. SearchedSome x before after) (sym e) (omega (arith, h.0), omega (arith, h.1))

pub searched_at_most : (x : Stop) (world : Option World) (act : Action) (name : List ℕ) (before after : InputCounts)
    → IfSome world (λ w. SearchedSome (search_of_name w name) before after) → OfFiles world act name (λ search. SearchedBy search (status_of_stop x) before after)
searched_at_most x None act name before after h = tt
searched_at_most x (Some w) act name before after h = λ search is. some_searched search x before after (at_most act name w (file_of w name) search before after is h)

pub searched_query : (s : Status) (world : Option World) (act : Action) (name query : List ℕ) (before mid after : InputCounts)
    → NoCountFalls mid after → IfSome world (λ w. Some query ≡ file_of w name) → IfSome world (λ w. SearchedAll (search_of_name w name) before mid)
    → IfSome world (λ w. (front : Front) → IsFront query front → SearchedBy (inputs_search act w front) s mid after)
    → OfFiles world act name (λ search. SearchedBy search s before after)
searched_query s None act name query before mid after falls f one h = tt
searched_query s (Some w) act name query before mid after falls f one h = λ search is.
    let o : SearchOfFile act name w (Some query) search = subst (λ o. SearchOfFile act name w o search) (sym f) is in
    let first = searched_there w name query before mid f one in
    subst (λ x. SearchedBy x s before after) (sym o.2)
    (behind_file (inputs_search act w o.0) name before mid after falls first.0 first.1 s (h o.0 o.1))

-- the search of a command line, by its command
pub search_of_query : (s : Status) (world : Option World) (command : Option Command) (act : Action) (name : List ℕ) (before after : InputCounts)
    → command ≡ Some (Query act name) → OfFiles world act name (λ search. SearchedBy search s before after)
    → OfSearch world command (λ search. SearchedBy search s before after)
unfolding IsSearch
search_of_query s world command act name before after c h =
    subst (λ c. OfSearch world c (λ search. SearchedBy search s before after)) (sym c) (by world h)
  where
    at : (w : World) → ((search : Search) → SearchOfFile act name w (file_of w name) search → SearchedBy search s before after)
        → (search : Search) → IsSearch (Some (Query act name)) w search → SearchedBy search s before after
    at w h search is = h search is

    by : (world : Option World) → OfFiles world act name (λ search. SearchedBy search s before after) → OfSearch world (Some (Query act name)) (λ search. SearchedBy search s before after)
    by None h = tt
    by (Some w) h = at w h

-- the inputs of the one front
pub of_front_searched : (s : Status) (world : Option World) (act : Action) (query : List ℕ) (front : Front) (before after : InputCounts) → IsFront query front
    → IfSome world (λ w. SearchedBy (inputs_search act w front) s before after)
    → IfSome world (λ w. (other : Front) → IsFront query other → SearchedBy (inputs_search act w other) s before after)
of_front_searched s None act query front before after is h = tt
of_front_searched s (Some w) act query front before after is h = λ other it.
    subst (λ f. SearchedBy (inputs_search act w f) s before after) (only_front query front other is it) h

none_searched : (act : Action) (w : World) (fault : Fault) → inputs_search act w (Err fault) ≡ no_search
none_searched (action.Run run) w fault = refl
none_searched action.Check w fault = refl
none_searched action.Explain w fault = refl

pub refused_searched : (s : Status) (world : Option World) (act : Action) (query : List ℕ) (fault : Fault) (counts : InputCounts) → IsFront query (Err fault)
    → IfSome world (λ w. (other : Front) → IsFront query other → SearchedBy (inputs_search act w other) s counts counts)
refused_searched s None act query fault counts is = tt
refused_searched s (Some w) act query fault counts is = λ other it.
    let none : inputs_search act w other ≡ no_search = ap (inputs_search act w) (only_front query other (Err fault) it is) ∙ none_searched act w fault in
    subst (λ x. SearchedBy x s counts counts) (sym none) (nothing_by s counts)

-- a call that stops with nothing looked for
pub stopped_at_once : (x : Stop) (world : Option World) (command : Option Command) (counts : InputCounts) → OfSearch world command (λ search. SearchedBy search (status_of_stop x) counts counts)
stopped_at_once x None command counts = tt
stopped_at_once x (Some w) command counts = λ search is. some_searched search x counts counts (nothing_some search counts)

pub trial_searched : (s : Status) (world : Option World) (command : Option Command) (number lines : ℕ) (run : Running) (counts : InputCounts)
    → command ≡ Some (Trial number lines run) → OfSearch world command (λ search. SearchedBy search s counts counts)
trial_searched s world command number lines run counts c = no_file_searched world (Some (Trial number lines run)) command s counts c tt
