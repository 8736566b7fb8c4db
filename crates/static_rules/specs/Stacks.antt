-- The declared functions that the walk sees, as plain values.
use Rattle.std.specs.Prelude.{ℕ, List}
use Rattle.static_rules.specs.Views.{Callee}

abbrev pub callee_of : List ℕ × ℕ → Callee
callee_of f = record { name = f.0; arity = f.1 }
