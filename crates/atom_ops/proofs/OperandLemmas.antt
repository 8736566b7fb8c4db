-- What operators say of operands that are what they take.
use Rattle.std.proofs.Common.{◌≡◌, List, [], ◌∷◌, Ok, refl}
use Rattle.item_tree.specs.Datum.{Datum}
use Rattle.num_fixed.specs.declared.number.Number.{Number}
use Rattle.atom_ops.specs.declared.arithmetic.Arith.{Arith}
use Rattle.value_rules.specs.Operands.{one_number}
use Rattle.atom_ops.specs.Arithmetic.{calculated, some_datum, arithmetic}

pub arithmetic_of : (op : Arith) (vs ws : List Datum) (x y : Number) → one_number vs ≡ Ok x → one_number ws ≡ Ok y → arithmetic op vs ws ≡ some_datum (calculated op x y)
arithmetic_of op [] ws x y e f = absurd cc
arithmetic_of op (v ∷ vs) [] x y e f = absurd cc
arithmetic_of op (v ∷ vs) (w ∷ ws) x y e f = rw (e, f) refl
