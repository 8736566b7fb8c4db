-- Texts and sequences that are empty.
use Rattle.std.proofs.Common.{◌≡◌, ℕ, ◌≤◌, Bool, List, [], ◌∷◌, length, refl, arith, Ok, Err, not, ap, ◌==◌}
use Rattle.std.specs.Str.{encode_utf8_all}
use Rattle.std.proofs.lemmas.Str.{length-le-encodes}
use Rattle.std.proofs.lemmas.Bool.Decides.{nat_tests}
use Rattle.item_tree.specs.declared.item.Item.{Item}
use Rattle.item_tree.specs.declared.code.Code.TheVariants.{FORG0006}
use Rattle.item_tree.specs.Datum.{text}
use Rattle.item_tree.specs.Item.{datums}
use Rattle.item_tree.specs.Truth.{value_of_one, boolean_value}

pub many : (xs : List Item) → 2 ≤ length xs → boolean_value (datums xs) ≡ Err FORG0006
many [] h = absurd (omega arith)
many (x ∷ []) h = absurd (omega arith)
many (x ∷ y ∷ xs) h = refl

pub text_true : (t : List ℕ) → (b : Bool) → b ≡ (length (encode_utf8_all t) == 0) → Ok (not b) ≡ value_of_one (text t)
text_true [] b e = ap (λ c. Ok (not c)) e
text_true (c ∷ cs) b e = let l = length-le-encodes (c ∷ cs) in grind (arith, nat_tests)
