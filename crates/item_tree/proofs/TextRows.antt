-- Texts of items, as they are told in the documentation.
use Rattle.std.specs.Prelude.{◌≡◌, [], ◌∷◌, codes, pos, negsuc, refl}
use Rattle.std.specs.Fmt.{digits}
use lib.Utf8.{encode}
use Rattle.item_tree.specs.Datum.{integer, decimal, text, array, object, null, value, no_values, member, no_members}
use Rattle.item_tree.specs.ItemText.{item_text}

whole_decimal : item_text (decimal (pos 100000000)) ≡ codes "100"
unfolding digits encode
whole_decimal = refl

smallest_decimal : item_text (decimal (negsuc 0)) ≡ codes "-0.000001"
unfolding digits encode
smallest_decimal = refl

no_trailing_zero : item_text (decimal (pos 1500000)) ≡ codes "1.5"
unfolding digits encode
no_trailing_zero = refl

negative_zero_part : item_text (decimal (negsuc 499999)) ≡ codes "-0.5"
unfolding digits encode
negative_zero_part = refl

an_integer : item_text (integer (negsuc 6)) ≡ codes "-7"
unfolding digits encode
an_integer = refl

escapes : item_text (text (34 ∷ 92 ∷ 47 ∷ 31 ∷ 127 ∷ 10 ∷ 252 ∷ [])) ≡ 34 ∷ 92 ∷ 34 ∷ 92 ∷ 92 ∷ 47 ∷ 92 ∷ 117 ∷ 48 ∷ 48 ∷ 49 ∷ 102 ∷ 127 ∷ 92 ∷ 110 ∷ 195 ∷ 188 ∷ 34 ∷ []
unfolding digits encode
escapes = refl

nested : item_text (object (member (codes "k") (array (value (integer (pos 1)) (value null no_values))) (member (codes "m") (array no_values) no_members))) ≡ codes "{\"k\":[1,null],\"m\":[]}"
unfolding digits encode
nested = refl
