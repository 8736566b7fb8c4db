-- What is printed of items is whole lines.
use Rattle.std.proofs.Common.{◌≡◌, ◌++◌, ℕ, List, [], ◌∷◌, inl, inr, refl, sym, ap, ◌∙◌, append_assoc}
use Rattle.item_tree.specs.Datum.{Datum}
use Rattle.item_tree.specs.ItemText.{item_text}
use Rattle.part_writer.specs.Parts.{EndsLine}
use Rattle.rumble_run.specs.Answer.{output_of}

more : (text rest : List ℕ) → EndsLine rest → EndsLine (text ++ 10 ∷ rest)
more text rest (inl e) = inr (text, ap (λ (r : List ℕ). text ++ 10 ∷ r) e)
more text rest (inr (front, e)) =
    inr (text ++ 10 ∷ front, ap (λ (r : List ℕ). text ++ 10 ∷ r) e ∙ sym (append_assoc text (10 ∷ front) (10 ∷ [])))

pub ends_line : (items : List Datum) → EndsLine (output_of items)
ends_line [] = inl refl
ends_line (x ∷ xs) = more (item_text x) (output_of xs) (ends_line xs)
