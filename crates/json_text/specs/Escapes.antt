-- What an escape in a string spells (RFC 8259, section 7), and what stands in front in a string.
use Rattle.std.specs.Prelude.{◌≡◌, ◌<◌, ℕ, ◌==◌, ◌&&◌, List, [], ◌∷◌, length, Option, Some, None, option_map, if◌then◌else◌}
use Rattle.std.specs.Char.{IsScalar, encode_utf8}
use Rattle.item_tree.specs.JsonString.{short_escape, code_unit, is_high_half, is_low_half, lone_character, paired_character}
use Rattle.json_text.specs.inside.Scan.{string_at, after_bytes}
use Rattle.json_text.specs.declared.escapes.Spelled.{Spelled}
use Rattle.json_text.specs.declared.escapes.Spelled.TheVariants as s

-- the bytes of what is spelled
abbrev pub bytes_of : Spelled → List ℕ
bytes_of (s.Byte b) = b ∷ []
bytes_of (s.Char c) = encode_utf8 c

abbrev pub IsSound : Spelled → Type 0
IsSound (s.Byte b) = Unit {0}
IsSound (s.Char c) = IsScalar c

-- ---- an escape

-- a code unit, and what is behind it
abbrev pub Unit16 : Type 0
Unit16 = Option (ℕ × List ℕ)

-- the code unit of four hexadecimal digits at the front
abbrev pub digits_unit : List ℕ → Unit16
digits_unit (a ∷ b ∷ c ∷ d ∷ r) = option_map (λ u. (u, r)) (code_unit a b c d)
digits_unit l = None

-- the code unit of a whole escape at the front
abbrev pub escaped_unit : List ℕ → Unit16
escaped_unit (x ∷ y ∷ r) = if x == 92 && y == 117 then digits_unit r else None
escaped_unit l = None

abbrev pub low_half_of : Unit16 → Unit16
low_half_of None = None
low_half_of (Some p) = if is_low_half p.0 then Some p else None

-- the low half of a surrogate pair at the front
abbrev pub low_half_at : List ℕ → Unit16
low_half_at l = low_half_of (escaped_unit l)

-- the low half behind this unit, if this is a high half
abbrev pub other_half : ℕ → List ℕ → Unit16
other_half u r = if is_high_half u then low_half_at r else None

-- what is spelled, and what is behind it
abbrev pub Escape : Type 0
Escape = Option (Spelled × List ℕ)

-- a unit alone, or a high half with the low half behind it
abbrev pub unit_escape : ℕ → List ℕ → Unit16 → Escape
unit_escape u r None = Some (s.Char (lone_character u), r)
unit_escape u r (Some p) = Some (s.Char (paired_character u p.0), p.1)

abbrev pub unit_at : ℕ → List ℕ → Escape
unit_at u r = unit_escape u r (other_half u r)

abbrev pub long_escape : Unit16 → Escape
long_escape None = None
long_escape (Some p) = unit_at p.0 p.1

-- what an escape spells, from what is behind its backslash: a u and four digits, or one byte
abbrev pub escape_of : List ℕ → Escape
escape_of [] = None
escape_of (b ∷ l) =
    if b == 117 then long_escape (digits_unit l)
    else option_map (λ c. (s.Byte c, l)) (short_escape b)

-- ---- in a string

-- what stands at the front of the inside of a string l, where r is behind it
pub record Begins (l : List ℕ) (s : Spelled) (r : List ℕ) : Type 0 where
  pub same : string_at l ≡ after_bytes (bytes_of s) (string_at r)
  pub shorter : length r < length l
  pub sound : IsSound s
