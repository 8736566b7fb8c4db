-- The name of a type is ASCII, so its characters are its bytes.
use Rattle.std.proofs.Common.{◌≡◌, ℕ, Bool, true, not, ◌&&◌, ◌||◌, List, [], ◌∷◌, Some, refl, ap, ◌∙◌, if◌then◌else◌}
use Rattle.std.specs.Str.{chars, bytes_eq, IsUtf8}
use Rattle.std.specs.List.{list_all}
use Rattle.item_tree.proofs.AsciiTexts.{is_ascii, all_below, same_text}
use Rattle.item_tree.proofs.Members.{both}
use Rattle.seq_types.specs.Names.{TypeRow, type_rows, found_in, name_of, type_named}

same_row : (rows : List TypeRow) → list_all (λ r. is_ascii (name_of r.meaning)) rows ≡ true → (name : List ℕ) (parens : Bool) → IsUtf8 name → found_in rows (chars name) parens ≡ found_in rows name parens
same_row [] e name parens text = refl
same_row (r ∷ rows) e name parens text =
    let h = both _ _ e in
    ap (λ t. if t && (not parens || r.parens) then Some r.meaning else found_in rows (chars name) parens) (same_text name (name_of r.meaning) text (all_below (name_of r.meaning) h.0))
    ∙ ap (λ o. if bytes_eq name (name_of r.meaning) && (not parens || r.parens) then Some r.meaning else o) (same_row rows h.1 name parens text)

pub type_named-chars : (name : List ℕ) (parens : Bool) → IsUtf8 name → type_named (chars name) parens ≡ type_named name parens
type_named-chars name parens text = same_row type_rows refl name parens text
