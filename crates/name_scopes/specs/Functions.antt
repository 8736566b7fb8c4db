-- Declared functions, as a list of their names and of how many arguments they take.
use Rattle.std.specs.Prelude.{ℕ, ◌==◌, ◌&&◌, Option, List, position}
use Rattle.std.specs.Str.{bytes_eq}

-- the position of the first function of this name that takes so many arguments
abbrev pub function_position : List (List ℕ × ℕ) → List ℕ → ℕ → Option ℕ
function_position fs name arity = position (λ f. bytes_eq f.0 name && f.1 == arity) fs
