-- Comparisons of two operands.
use Rattle.std.specs.Prelude.{Bool, true, false, List, [], ◌∷◌, Option, Some, None, Result, Ok, Err}
use Rattle.std.specs.declared.cmp.Ordering.{Ordering}
use Rattle.std.specs.declared.cmp.Ordering.TheVariants.{Less, Equal, Greater}
use Rattle.item_tree.specs.declared.code.Code.{Code}
use Rattle.item_tree.specs.declared.code.Code.TheVariants.{XPTY0004}
use Rattle.item_tree.specs.Compare.{compare_atoms}
use Rattle.item_tree.specs.Datum.{Datum}
use Rattle.atom_ops.specs.declared.comparison.Cmp.{Cmp}
use Rattle.atom_ops.specs.declared.comparison.Cmp.TheVariants.{Eq, Ne, Lt, Le, Gt, Ge}
use Rattle.value_rules.specs.Operands.{and_then, atomic, one_atomic}

-- whether a comparison holds of two atomics in this order
abbrev pub holds : Cmp → Ordering → Bool
holds Eq Less = false
holds Eq Equal = true
holds Eq Greater = false
holds Ne Less = true
holds Ne Equal = false
holds Ne Greater = true
holds Lt Less = true
holds Lt Equal = false
holds Lt Greater = false
holds Le Less = true
holds Le Equal = true
holds Le Greater = false
holds Gt Less = false
holds Gt Equal = false
holds Gt Greater = true
holds Ge Less = false
holds Ge Equal = true
holds Ge Greater = true

-- atomics that don't compare are an error
abbrev pub holds_if : Cmp → Option Ordering → Result Bool Code
holds_if op None = Err XPTY0004
holds_if op (Some o) = Ok (holds op o)

abbrev pub compared : Cmp → Datum → Datum → Result Bool Code
compared op v w = holds_if op (compare_atoms v w)

abbrev pub some_if : Result Bool Code → Result (Option Bool) Code
some_if (Ok b) = Ok (Some b)
some_if (Err e) = Err e

-- of two atomics; nothing where an operand is empty, whatever the other one is
abbrev pub value_comparison : Cmp → List Datum → List Datum → Result (Option Bool) Code
value_comparison op [] ws = Ok None
value_comparison op (v ∷ vs) [] = Ok None
value_comparison op (v ∷ vs) (w ∷ ws) =
    and_then (one_atomic (v ∷ vs)) (λ x.
    and_then (one_atomic (w ∷ ws)) (λ y. some_if (compared op x y)))

-- of two items, each of which must be an atomic
abbrev pub pair_comparison : Cmp → Datum → Datum → Result Bool Code
pair_comparison op v w = and_then (atomic v) (λ x. and_then (atomic w) (λ y. compared op x y))

-- what is said next counts only where this does not hold and is no error
abbrev pub or_next : Result Bool Code → Result Bool Code → Result Bool Code
or_next (Ok false) next = next
or_next (Ok true) next = Ok true
or_next (Err e) next = Err e

-- of an item with each item on the right, until one pair holds or is an error
abbrev pub comparison_with : Cmp → Datum → List Datum → Result Bool Code
comparison_with op v [] = Ok false
comparison_with op v (w ∷ ws) = or_next (pair_comparison op v w) (comparison_with op v ws)

-- of each item on the left in turn
abbrev pub general_comparison : Cmp → List Datum → List Datum → Result Bool Code
general_comparison op [] ws = Ok false
general_comparison op (v ∷ vs) ws = or_next (comparison_with op v ws) (general_comparison op vs ws)
