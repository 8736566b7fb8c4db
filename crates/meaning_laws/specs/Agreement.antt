-- What an expression finds in an environment and in a program, and where it finds the same in two.
-- A call of `json-lines` looks for the inputs that it names; one of a declared function for all
-- functions, and for all that their bodies look for; one of a function of the language for nothing.
use Rattle.std.specs.Prelude.{◌≡◌, ℕ, ◌<◌, Bool, true, false, List, length, filter}
use Rattle.std.specs.List.{All, flat_map, list_any}
use Rattle.seq_types.specs.declared.types.SeqType.{SeqType}
use Rattle.query_tree.specs.declared.bound.Slot.{Slot}
use Rattle.query_tree.specs.declared.bound.Slot.TheVariants.{Local}
use Rattle.query_tree.specs.declared.bound.Target.{Target}
use Rattle.query_tree.specs.declared.bound.Target.TheVariants.{Built, Own, Lines}
use Rattle.query_tree.specs.Bound.{BoundTree}
use Rattle.query_tree.specs.Calls.{calls}
use Rattle.query_tree.specs.Inputs.{all_names}
use Rattle.query_tree.specs.Modules.{PlainFunction}
use Rattle.mode_planner.specs.Laws.{is_among}
use Rattle.query_meaning.specs.Environment.{Environment}
use Rattle.query_meaning.specs.Library.{Library, held}
use Rattle.query_meaning.specs.Calls.{Program}
use Rattle.query_meaning.specs.Sources.{Source, of_variable, sources, SameIn}

-- ---- environments

-- a slot is in frames of both widths, or of neither
abbrev pub IsOfBoth : ℕ → ℕ → ℕ → Type 0
IsOfBoth width other n = (n < width → n < other) × (n < other → n < width)

-- it is so of a source, where that is a slot
abbrev pub FitsBoth : ℕ → ℕ → Source → Type 0
FitsBoth width other (of_variable (Local n)) = IsOfBoth width other n
FitsBoth width other _ = Unit {0}

-- All that the expression finds is the same. The frames may be of different widths, where each slot
-- that is read is in both or in neither.
pub record ReadsTheSame (t : BoundTree) (env other : Environment) : Type 0 where
  pub slots : All (FitsBoth (length env.frame) (length other.frame)) (sources t)
  pub found : All (SameIn env other) (sources t)

-- ---- programs

-- the names in the calls of `json-lines` of a tree
abbrev pub names_called : BoundTree → List (List ℕ)
names_called t = all_names (calls t)

-- those in all bodies of functions
abbrev pub names_in_bodies : List (PlainFunction Slot Target SeqType) → List (List ℕ)
names_in_bodies functions = flat_map (λ f. names_called f.body) functions

-- what all bodies find in their environments
abbrev pub sources_in_bodies : List (PlainFunction Slot Target SeqType) → List Source
sources_in_bodies functions = flat_map (λ f. sources f.body) functions

-- of each of these names both libraries hold the same
abbrev pub AgreeOn : List (List ℕ) → Library → Library → Type 0
AgreeOn names library other = All (λ name. held library name ≡ held other name) names

-- the same functions, which find the same inputs; each slot that they read is in the frames of both
-- or of neither
pub record SameFunctions (program other : Program) : Type 0 where
  pub functions : program.functions ≡ other.functions
  pub slots : All (FitsBoth program.width other.width) (sources_in_bodies program.functions)
  pub inputs : AgreeOn (names_in_bodies program.functions) program.library other.library

abbrev pub SameForCall : Program → Program → Target → Type 0
SameForCall program other (Built id) = Unit {0}
SameForCall program other (Own n) = SameFunctions program other
SameForCall program other (Lines names) = AgreeOn names program.library other.library

-- all calls of a tree find the same in both programs
abbrev pub CallsTheSame : BoundTree → Program → Program → Type 0
CallsTheSame t program other = All (λ c. SameForCall program other c.name) (calls t)

abbrev pub is_declared : Target → Bool
is_declared (Built id) = false
is_declared (Own n) = true
is_declared (Lines names) = false

-- whether a declared function is called in a tree
abbrev pub calls_declared : BoundTree → Bool
calls_declared t = list_any (λ c. is_declared c.name) (calls t)

-- ---- libraries

-- a library from which all names but these are missing
abbrev pub only : List (List ℕ) → Library → Library
only names library = filter (λ entry. is_among names entry.0) library
