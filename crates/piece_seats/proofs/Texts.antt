-- The printed text of one list after another.
use Rattle.std.proofs.Common.{◌≡◌, ℕ, ◌+◌, List, [], ◌∷◌, ◌++◌, append_assoc, length, length-append, refl, sym, ap, ap₂, ◌∙◌, arith}
use Rattle.item_tree.specs.Datum.{Datum}
use Rattle.item_tree.specs.Item.{datums}
use Rattle.item_tree.specs.declared.item.Item.{Item}
use Rattle.item_tree.specs.ItemText.{item_text}
use Rattle.piece_seats.specs.Texts.{text_lines, IsTextOf}

pub text_append : (xs ys : List Datum) → text_lines (xs ++ ys) ≡ text_lines xs ++ text_lines ys
text_append [] ys = refl
text_append (x ∷ xs) ys =
    ap (λ (t : List ℕ). item_text x ++ 10 ∷ t) (text_append xs ys)
    ∙ sym (append_assoc (item_text x) (10 ∷ text_lines xs) (text_lines ys))

pub text_after : (xs ys : List Datum) (before after both : List ℕ) (m n count : ℕ) → IsTextOf xs before m → after ≡ text_lines ys → both ≡ before ++ after → n ≡ length ys → count ≡ m + n → IsTextOf (xs ++ ys) both count
text_after xs ys before after both m n count h t e l c = record {
  text = e ∙ ap₂ (λ (a b : List ℕ). a ++ b) h.text t ∙ sym (text_append xs ys);
  many = let k = length-append xs ys in let a = h.many in omega arith;
}

pub datums_length : (xs : List Item) → length (datums xs) ≡ length xs
datums_length [] = refl
datums_length (x ∷ xs) = let k = datums_length xs in omega arith
