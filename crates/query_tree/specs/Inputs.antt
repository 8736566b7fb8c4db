-- The inputs that a query may read: the names in all its calls of `json-lines`.
use Rattle.std.specs.Prelude.{ℕ, List, [], ◌∷◌, not, filter}
use Rattle.std.specs.List.{flat_map}
use Rattle.std.specs.Str.{bytes_eq}
use Rattle.query_tree.specs.declared.bound.Target.{Target}
use Rattle.query_tree.specs.declared.bound.Target.TheVariants.{Built, Own, Lines}
use Rattle.query_tree.specs.declared.names.Placed.{Placed}
use Rattle.query_tree.specs.Calls.{module_calls}
use Rattle.query_tree.specs.Compiled.{BoundTrees}

-- the names of the inputs that a target reads
abbrev pub names_read : Target → List (List ℕ)
names_read (Built id) = []
names_read (Own n) = []
names_read (Lines names) = names

-- those that calls read, one call behind the other
abbrev pub all_names : List (Placed Target) → List (List ℕ)
all_names cs = flat_map (λ c. names_read c.name) cs

-- each of these names once, where it stands first
abbrev pub first_appearances : List (List ℕ) → List (List ℕ)
first_appearances [] = []
first_appearances (n ∷ ns) = n ∷ filter (λ m. not (bytes_eq n m)) (first_appearances ns)

-- the different names of the inputs of a query, in order of first appearance
abbrev pub input_names : BoundTrees → List (List ℕ)
input_names m = first_appearances (all_names (module_calls m))
