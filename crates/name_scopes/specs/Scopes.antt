-- Names that are bound to values, as a list. The latest stands first.
use Rattle.std.specs.Prelude.{ℕ, ◌-◌, Bool, Option, Some, None, List, [], ◌∷◌, length, take, drop, if◌then◌else◌}
use Rattle.std.specs.List.{list_any}
use Rattle.std.specs.Str.{bytes_eq}

module _ {V : Type 0} where
  -- what a name stands for
  abbrev pub value_found : List (List ℕ × V) → List ℕ → Option V
  value_found [] name = None
  value_found (b ∷ bs) name = if bytes_eq b.0 name then Some b.1 else value_found bs name

  -- the first so many names that were bound, and those after them
  abbrev pub first_bound : ℕ → List (List ℕ × V) → List (List ℕ × V)
  first_bound n bs = drop (length bs - n) bs

  abbrev pub bound_after : ℕ → List (List ℕ × V) → List (List ℕ × V)
  bound_after n bs = take (length bs - n) bs

  abbrev pub is_bound : List (List ℕ × V) → List ℕ → Bool
  is_bound bs name = list_any (λ b. bytes_eq b.0 name) bs

  -- whether a name is bound among the first `mark` names, and after the first `base`
  abbrev pub is_between : ℕ → ℕ → List (List ℕ × V) → List ℕ → Bool
  is_between base mark bs name = is_bound (bound_after base (first_bound mark bs)) name
