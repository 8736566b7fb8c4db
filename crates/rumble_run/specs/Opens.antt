-- Which files a command line looks for: those that it opens, in order, those that are missing, and
-- how often those of drivers are opened.
use Rattle.std.specs.Prelude.{◌≡◌, ℕ, ◌+◌, nat_le, Bool, true, false, ◌&&◌, if◌then◌else◌, List, [], ◌∷◌, length, Option, None, Some, Ok, Err, is_some, not, IfSome, filter}
use Rattle.std.specs.List.{sum_by}
use Rattle.outside.specs.World.{World, file_of}
use Rattle.driver_files.specs.Seats.{driver_opens}
use Rattle.query_tree.specs.Bound.{BoundTree}
use Rattle.query_tree.specs.Compiled.{BoundTrees}
use Rattle.query_tree.specs.Inputs.{input_names}
use Rattle.query_tree.specs.Spines.{spine}
use Rattle.mode_planner.specs.Beside.{drivers, names_beside, stand_once}
use Rattle.mode_planner.specs.Drivers.{DriverPlan}
use Rattle.mode_planner.specs.Plans.{leaf_plan, plan}
use Rattle.mode_planner.specs.Spine.{leaves, handlers}
use Rattle.rumble_run.specs.Front.{Front, IsFront}
use Rattle.rumble_run.specs.declared.command.Action.{Action}
use Rattle.rumble_run.specs.declared.command.Action.TheVariants as action
use Rattle.rumble_run.specs.declared.command.Command.{Command}
use Rattle.rumble_run.specs.declared.command.Running.{Running}
use Rattle.rumble_run.specs.declared.command.Command.TheVariants.{Query, Trial}

-- what the drivers of a run look for
pub record Driven : Type 0 where
  -- how many files they open, where each of them runs
  pub opens : ℕ
  pub drivers : ℕ
  -- whether each of them ran and had a value, where the run made its output
  pub certain : Bool

abbrev pub no_driven : Driven
no_driven = record { opens = 0; drivers = 0; certain = true }

-- the names of the files that are opened and read whole, and the names of which there is no file;
-- and what drivers look for
pub record Search : Type 0 where
  pub files : List (List ℕ)
  pub missing : List (List ℕ)
  pub driven : Driven

-- a search without drivers
abbrev pub search_of : (files missing : List (List ℕ)) → Search
search_of files missing =
    record { files = files; missing = missing; driven = no_driven }

-- how many files are opened at most
abbrev pub all_opens : Search → ℕ
all_opens search = length search.files + search.driven.opens

-- how many names are missing at most: each driver stops at the first that it misses
abbrev pub all_misses : Search → ℕ
all_misses search = length search.missing + search.driven.drivers

-- those of these names of which there are files
abbrev pub files_among : World → List (List ℕ) → List (List ℕ)
files_among world names = filter (λ n. is_some (file_of world n)) names

-- those of these names of which there is none
abbrev pub missing_among : World → List (List ℕ) → List (List ℕ)
missing_among world names = filter (λ n. not (is_some (file_of world n))) names

-- each of these names is looked for once
abbrev pub search_among : World → List (List ℕ) → Search
search_among world names = search_of (files_among world names) (missing_among world names)

abbrev pub no_search : Search
no_search = search_of [] []

-- how many parentheses, commas and `try`s may stand one in another on the spine, so that there is
-- room below each leaf
abbrev pub most_spine : ℕ
most_spine = 995

-- Whether a query can be run along its plan: each of its drivers stands once in it, and its spine
-- is no deeper than that. It is so of each query that was read from a text: no two of its calls
-- have one place, and its nesting is bounded. That it is so is not proved.
abbrev pub can_run_along : BoundTrees → Bool
can_run_along m =
    stand_once (drivers (plan false m.body)) m && nat_le (spine m.body) most_spine

-- how many files a driver opens, if there is one
abbrev pub opens_of : World → (workers size : ℕ) → Option DriverPlan → ℕ
opens_of world workers size None = 0
opens_of world workers size (Some driver) = driver_opens world workers size driver.names

-- how many files the driver of a leaf opens, and how many drivers it has
abbrev pub leaf_opens : World → (workers size : ℕ) → BoundTree → ℕ
leaf_opens world workers size leaf = opens_of world workers size (leaf_plan false leaf).driver

abbrev pub one_if_some : {A : Type 0} → Option A → ℕ
one_if_some None = 0
one_if_some (Some x) = 1

abbrev pub leaf_drivers : BoundTree → ℕ
leaf_drivers leaf = one_if_some (leaf_plan false leaf).driver

-- whether a list has no element
abbrev pub is_nothing : {A : Type 0} → List A → Bool
is_nothing [] = true
is_nothing (x ∷ xs) = false

-- All drivers of a body. Where no `try` with a handler stands on the spine, no fault of a driver is
-- hidden, and so each has run where the run made its output.
abbrev pub driven_of : World → Running → BoundTree → Driven
driven_of world run body = record {
  opens = sum_by (leaf_opens world run.workers run.size) (leaves body);
  drivers = sum_by leaf_drivers (leaves body);
  certain = is_nothing (handlers body);
}

-- the names beside the drivers are looked for once each, and then the drivers look for theirs
abbrev pub along_search : Running → World → BoundTrees → Search
along_search run world m =
    record (search_among world (names_beside (plan false m.body) m)) {
      driven = driven_of world run m.body;
    }

-- the inputs of a query that is run: where all is evaluated in one place, each input of its calls
-- of `json-lines` once, in order of first appearance
abbrev pub run_search : Running → World → BoundTrees → Search
run_search run world m =
    if not run.local && can_run_along m
    then along_search run world m else search_among world (input_names m)

-- the inputs that are looked for, for a query with this front
abbrev pub inputs_search : Action → World → Front → Search
inputs_search (action.Run run) world (Ok query) = run_search run world query.trees
inputs_search (action.Run run) world (Err fault) = no_search
inputs_search action.Check world front = no_search
inputs_search action.Explain world front = no_search

-- the file of this name is opened first
abbrev pub after_file : List ℕ → Search → Search
after_file name search = record search { files = name ∷ search.files }

-- a query that is there, and after it its inputs
abbrev pub SearchOfFile : Action → List ℕ → World → Option (List ℕ) → Search → Type 0
SearchOfFile act name world None search = search ≡ search_of [] (name ∷ [])
SearchOfFile act name world (Some query) search =
    (front : Front)
    × IsFront query front × (search ≡ after_file name (inputs_search act world front))

-- the search of a command over a world, where a trial looks for none of its files; by a law there
-- is one, and only one
unfoldable pub IsSearch : Option Command → World → Search → Type 0
IsSearch None world search = search ≡ no_search
IsSearch (Some (Query act name)) world search =
    SearchOfFile act name world (file_of world name) search
IsSearch (Some (Trial number lines run)) world search = search ≡ no_search

-- where the world is told, this holds of the search
abbrev pub OfSearch : Option World → Option Command → (Search → Type 0) → Type 0
OfSearch world command Holds =
    IfSome world (λ w. (search : Search) → IsSearch command w search → Holds search)
