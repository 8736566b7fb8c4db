-- Comments by a grammar: a comment begins with (: and ends with :), and between them stand
-- comments and other bytes.
use Rattle.std.specs.Prelude.{◌≡◌, ℕ, ◌+◌, Bool, false, List, [], ◌∷◌, length}
use Rattle.query_lexer.specs.Bytes.{next_passes}
use Rattle.query_lexer.specs.Comments.{begins_comment, closes}

-- what stands behind the beginning of a comment: its end, or a byte, or a comment, and then what
-- stands behind that
pub data Inside : Type 0 where
  closed : Inside
  byte : Inside → Inside
  comment : Inside → Inside → Inside

abbrev pub ends_comment : List ℕ → Bool
ends_comment [] = false
ends_comment (b ∷ r) = next_passes (closes b) r

-- the bytes up to the rest are the inside of a comment and its end; a byte is one with which no
-- comment begins or ends
abbrev pub IsInside : Inside → List ℕ → List ℕ → Type 0
IsInside closed l r = l ≡ 58 ∷ 41 ∷ r
IsInside (byte more) l r =
    (b : ℕ) × (between : List ℕ) × (l ≡ b ∷ between) × (begins_comment l ≡ false)
    × (ends_comment l ≡ false) × IsInside more between r
IsInside (comment inner more) l r =
    (at between : List ℕ) × (l ≡ 40 ∷ 58 ∷ at) × IsInside inner at between × IsInside more between r

-- the first n bytes are a comment
pub record IsNested (text : List ℕ) (n : ℕ) : Type 0 where
  pub inside : Inside
  pub behind : List ℕ
  pub rest : List ℕ
  pub begins : text ≡ 40 ∷ 58 ∷ behind
  pub nested : IsInside inside behind rest
  pub size : n + length rest ≡ length text
