-- The numbers of the local bindings of two parts, one behind the other.
use Rattle.std.proofs.Common.{◌≡◌, List, [], ◌∷◌, ◌++◌, refl, ap, sym, ◌∙◌}
use Rattle.std.proofs.lemmas.List.{append_assoc}
use Rattle.query_tree.specs.declared.bound.Slot.{Slot}
use Rattle.query_tree.specs.Bindings.{own_number, numbers_of}

pub numbers-append : (vs ws : List Slot) → numbers_of (vs ++ ws) ≡ numbers_of vs ++ numbers_of ws
numbers-append [] ws = refl
numbers-append (v ∷ vs) ws = ap (λ ns. own_number v ++ ns) (numbers-append vs ws) ∙ sym (append_assoc (own_number v) (numbers_of vs) (numbers_of ws))
