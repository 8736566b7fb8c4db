-- How a reader takes a number or a string from the front of a text.
use Rattle.std.specs.Prelude.{ℕ, Bool, true, false, not, ◌==◌, List, [], ◌∷◌, ◌++◌, Option, Some, None, option_map, if◌then◌else◌}
use Rattle.num_fixed.specs.Fronts.{numeral_front, behind_front, whole_at}
use Rattle.num_fixed.specs.Numeral.{Numeral}
use Rattle.item_tree.specs.JsonString.{Piece, byte, unit, is_raw, short_escape, code_unit, content}

-- something and the rest behind it, if it is there
abbrev pub Part : Type 0 → Type 0
Part A = Option (A × List ℕ)

-- ---- numbers

abbrev pub is_int : List ℕ → Bool
is_int [] = false
is_int (d ∷ []) = true
is_int (d ∷ e ∷ ds) = not (d == 48)

-- of the longest number at the front JSON refuses one with no digit before the point, or a zero
-- before other digits there
abbrev pub is_json_front : List ℕ → Bool
is_json_front l = is_int (whole_at l)

-- a point or a letter e that no digit follows is left behind the number, and begins no token there
unfoldable pub numeral_at : List ℕ → Part Numeral
numeral_at l = if is_json_front l then Some (numeral_front l, behind_front l) else None

-- ---- strings

-- where in a string: between pieces, behind a backslash, or behind a backslash and a u
pub data Within : Type 0 where
  plain : Within
  after_backslash : Within
  after_u : Within

abbrev pub put_front : Piece → Part (List Piece) → Part (List Piece)
put_front p r = option_map (λ q. (p ∷ q.0, q.1)) r

abbrev pub byte_front : Option ℕ → Part (List Piece) → Part (List Piece)
byte_front None r = None
byte_front (Some b) r = put_front (byte b) r

abbrev pub unit_front : Option ℕ → Part (List Piece) → Part (List Piece)
unit_front None r = None
unit_front (Some u) r = put_front (unit u) r

-- the pieces up to the closing quote, and what is behind it
unfoldable pub pieces_at : Within → List ℕ → Part (List Piece)
pieces_at plain [] = None
pieces_at plain (x ∷ l) =
    if x == 34 then Some ([], l) else
    if x == 92 then pieces_at after_backslash l else
    if is_raw x then put_front (byte x) (pieces_at plain l) else None
pieces_at after_backslash [] = None
pieces_at after_backslash (x ∷ l) =
    if x == 117 then pieces_at after_u l else byte_front (short_escape x) (pieces_at plain l)
pieces_at after_u [] = None
pieces_at after_u (a ∷ []) = None
pieces_at after_u (a ∷ b ∷ []) = None
pieces_at after_u (a ∷ b ∷ c ∷ []) = None
pieces_at after_u (a ∷ b ∷ c ∷ d ∷ l) = unit_front (code_unit a b c d) (pieces_at plain l)

-- the bytes that pieces spell
abbrev pub spell : Part (List Piece) → Part (List ℕ)
spell r = option_map (λ q. (content q.0, q.1)) r

-- the bytes that a string spells up to its closing quote, and what is behind it
abbrev pub string_at : List ℕ → Part (List ℕ)
string_at l = spell (pieces_at plain l)

-- ---- a string, copied by a loop: what the rest of the string adds to the bytes so far

abbrev pub after_bytes : List ℕ → Part (List ℕ) → Part (List ℕ)
after_bytes front r = option_map (λ q. (front ++ q.0, q.1)) r
