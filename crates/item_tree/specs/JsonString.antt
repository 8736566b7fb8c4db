-- Strings of JSON (RFC 8259, section 7): the pieces between the quotes, and the characters that
-- they spell.
use Rattle.std.specs.Prelude.{◌≡◌, ◌⊎◌, ℕ, ◌+◌, ◌-◌, ◌*◌, Bool, true, ◌||◌, ◌&&◌, not, if◌then◌else◌, ◌==◌, nat_le, nat_lt, List, [], ◌∷◌, ◌++◌, Option, Some, None}
use Rattle.std.specs.Char.{digit_value, is_digit, encode_utf8}
use Rattle.std.specs.Str.{encode_utf8_all, all_scalars}

-- a byte of the content, raw or by a short escape, or a code unit by four hexadecimal digits
pub data Piece : Type 0 where
  byte : ℕ → Piece
  unit : ℕ → Piece

-- a byte that stands for itself: no control character, no quote and no backslash
abbrev pub is_raw : ℕ → Bool
is_raw b = nat_le 32 b && not (b == 34) && not (b == 92)

-- what a backslash and this byte stand for
abbrev pub short_escape : ℕ → Option ℕ
short_escape x =
    if x == 34 then Some 34 else
    if x == 92 then Some 92 else
    if x == 47 then Some 47 else
    if x == 98 then Some 8 else
    if x == 102 then Some 12 else
    if x == 110 then Some 10 else
    if x == 114 then Some 13 else
    if x == 116 then Some 9 else None

-- the code unit of four hexadecimal digits
unfoldable pub code_unit : ℕ → ℕ → ℕ → ℕ → Option ℕ
code_unit a b c d =
    if is_digit a 16 && is_digit b 16 && is_digit c 16 && is_digit d 16
    then Some (digit_value a * 4096 + digit_value b * 256 + digit_value c * 16 + digit_value d)
    else None

-- the bytes up to the rest are this piece
abbrev pub IsPiece : Piece → List ℕ → List ℕ → Type 0
IsPiece (byte b) bytes rest =
    ((is_raw b ≡ true) × (bytes ≡ b ∷ rest))
    ⊎ ((x : ℕ) × (short_escape x ≡ Some b) × (bytes ≡ 92 ∷ x ∷ rest))
IsPiece (unit u) bytes rest =
    (a : ℕ) × (b : ℕ) × (c : ℕ) × (d : ℕ) × (code_unit a b c d ≡ Some u)
    × (bytes ≡ 92 ∷ 117 ∷ a ∷ b ∷ c ∷ d ∷ rest)

-- the bytes up to the rest are these pieces and the closing quote
abbrev pub ArePieces : List Piece → List ℕ → List ℕ → Type 0
ArePieces [] bytes rest = bytes ≡ 34 ∷ rest
ArePieces (p ∷ ps) bytes rest =
    (between : List ℕ) × IsPiece p bytes between × ArePieces ps between rest

abbrev pub is_high_half : ℕ → Bool
is_high_half u = nat_le 0xd800 u && nat_lt u 0xdc00

abbrev pub is_low_half : ℕ → Bool
is_low_half u = nat_le 0xdc00 u && nat_lt u 0xe000

-- the character of a unit that is in no pair: U+FFFD for half a pair
abbrev pub lone_character : ℕ → ℕ
lone_character u = if is_high_half u || is_low_half u then 0xfffd else u

abbrev pub paired_character : ℕ → ℕ → ℕ
paired_character high low = 0x10000 + (high - 0xd800) * 1024 + (low - 0xdc00)

-- the content in UTF-8: a high half and a low half right behind it are one character
abbrev pub content : List Piece → List ℕ
content [] = []
content (byte b ∷ ps) = b ∷ content ps
content (unit u ∷ []) = encode_utf8 (lone_character u)
content (unit u ∷ byte b ∷ ps) = encode_utf8 (lone_character u) ++ b ∷ content ps
content (unit u ∷ unit w ∷ ps) =
    if is_high_half u && is_low_half w then encode_utf8 (paired_character u w) ++ content ps
    else encode_utf8 (lone_character u) ++ content (unit w ∷ ps)

-- the bytes up to the rest are a string of these characters
pub record IsString (cs : List ℕ) (bytes : List ℕ) (rest : List ℕ) : Type 0 where
  pub inside : List ℕ
  pub pieces : List Piece
  pub opened : bytes ≡ 34 ∷ inside
  pub closed : ArePieces pieces inside rest
  pub scalars : all_scalars cs ≡ true
  pub spelled : encode_utf8_all cs ≡ content pieces
