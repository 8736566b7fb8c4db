-- The width of frames makes no difference to a compiled query, where it is great enough.
use Rattle.std.specs.Prelude.{◌≡◌, ℕ, ◌≤◌, true, length}
use Rattle.std.specs.List.{All}
use Rattle.query_tree.specs.Bound.{BoundTree, is_bound}
use Rattle.query_tree.specs.Compiled.{BoundTrees, IsFramed}
use Rattle.query_tree.specs.Inputs.{input_names}
use Rattle.query_tree.specs.Scopes.{Scope, below}
use Rattle.query_meaning.specs.Library.{Library}
use Rattle.query_meaning.specs.Environment.{Environment}
use Rattle.query_meaning.specs.Queries.{program_of, globals_value, query_value}
use Rattle.query_meaning.specs.Sources.{sources, SameIn}
use Rattle.meaning_laws.specs.Agreement.{ReadsTheSame, AgreeOn, names_in_bodies, SameFunctions}

-- The expressions of a query are bound over frames of some width. Then all frames that are at least
-- as wide do equally well: slots behind these are neither read nor missed.
pub record WidthsMeanTheSame (width : ℕ) (m : BoundTrees) : Type 0 where
  pub query : (wide wider : ℕ) (library other : Library) → width ≤ wide → width ≤ wider
      → AgreeOn (input_names m) library other
      → query_value wide m library ≡ query_value wider m other
  pub variables : (wide wider : ℕ) (library other : Library) → width ≤ wide → width ≤ wider
      → AgreeOn (input_names m) library other
      → globals_value wide m library ≡ globals_value wider m other
  pub functions : (wide wider : ℕ) (library other : Library) → width ≤ wide → width ≤ wider
      → AgreeOn (names_in_bodies m.functions) library other
      → SameFunctions (program_of wide m library) (program_of wider m other)

-- An expression that is bound over frames of a width reads the same in two environments whose
-- frames are at least as wide, where all that it finds is the same.
pub record WiderFramesMeanTheSame : Type 0 where
  pub queries : (width : ℕ) (m : BoundTrees) → IsFramed width m → WidthsMeanTheSame width m
  pub reads : (width : ℕ) (s : Scope) (t : BoundTree) (env other : Environment)
      → s.locals ≡ below width → is_bound s t ≡ true
      → width ≤ length env.frame → width ≤ length other.frame
      → All (SameIn env other) (sources t) → ReadsTheSame t env other
