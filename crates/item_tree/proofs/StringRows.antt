-- Strings of JSON, and what they spell.
use Rattle.std.proofs.Common.{inl, inr}
use Rattle.std.specs.Prelude.{◌≡◌, [], ◌∷◌, Some, None, codes, refl}
use lib.Utf8.{encode}
use Rattle.item_tree.specs.JsonString.{byte, unit, code_unit, content, IsString, short_escape}

four_digits : code_unit 48 48 69 57 ≡ Some 233
unfolding code_unit
four_digits = refl

both_cases : code_unit 100 56 51 68 ≡ Some 0xd83d
unfolding code_unit
both_cases = refl

no_digit : code_unit 48 48 48 103 ≡ None
unfolding code_unit
no_digit = refl

no_short_escape : short_escape 120 ≡ None
no_short_escape = refl

one_unit : content (unit 233 ∷ byte 33 ∷ []) ≡ 195 ∷ 169 ∷ 33 ∷ []
unfolding encode
one_unit = refl

joined_halves : content (unit 0xd83d ∷ unit 0xde00 ∷ []) ≡ 240 ∷ 159 ∷ 152 ∷ 128 ∷ []
unfolding encode
joined_halves = refl

lone_high_half : content (unit 0xd800 ∷ byte 97 ∷ []) ≡ 239 ∷ 191 ∷ 189 ∷ 97 ∷ []
unfolding encode
lone_high_half = refl

halves_in_wrong_order : content (unit 0xdc00 ∷ unit 0xd800 ∷ []) ≡ 239 ∷ 191 ∷ 189 ∷ 239 ∷ 191 ∷ 189 ∷ []
unfolding encode
halves_in_wrong_order = refl

second_high_half_joins : content (unit 0xd800 ∷ unit 0xd83d ∷ unit 0xde00 ∷ []) ≡ 239 ∷ 191 ∷ 189 ∷ 240 ∷ 159 ∷ 152 ∷ 128 ∷ []
unfolding encode
second_high_half_joins = refl

-- "a\n\u00e9" is a string of three characters
escaped_string : IsString (97 ∷ 10 ∷ 233 ∷ []) (codes "\"a\\n\\u00e9\",") (44 ∷ [])
unfolding code_unit encode
escaped_string = record {
  inside = codes "a\\n\\u00e9\",";
  pieces = byte 97 ∷ byte 10 ∷ unit 233 ∷ [];
  opened = refl;
  closed = (codes "\\n\\u00e9\",", inl (refl, refl), (codes "\\u00e9\",", inr (110, refl, refl), (codes "\",", (48, 48, 101, 57, refl, refl), refl)));
  scalars = refl;
  spelled = refl;
}
