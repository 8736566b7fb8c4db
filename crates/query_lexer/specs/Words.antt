-- What each kind of token is.
use Rattle.std.specs.Prelude.{◌≡◌, ◌⊎◌, ◌<◌, ℕ, true, false, List, [], ◌∷◌, ◌++◌, length, codes}
use Rattle.std.specs.Char.{is_ascii_digit}
use Rattle.std.specs.List.{list_all}
use Rattle.item_tree.specs.JsonString.{Piece, ArePieces}
use Rattle.query_lexer.specs.Bytes.{is_letter, is_name_byte, is_sign, is_mark, is_double_mark, next_passes}
use Rattle.query_lexer.specs.declared.token.TokenKind.{TokenKind}
use Rattle.query_lexer.specs.declared.token.TokenKind.TheVariants as k

-- a letter or _, then letters, digits, _ and -
abbrev pub IsName : List ℕ → Type 0
IsName [] = ⊥
IsName (b ∷ r) = (is_letter b ≡ true) × (list_all is_name_byte r ≡ true)

-- $ and a name, or $err:code where no further name byte follows
abbrev pub IsVar : List ℕ → List ℕ → Type 0
IsVar [] rest = ⊥
IsVar (b ∷ r) rest =
    (b ≡ 36) × (IsName r ⊎ ((r ≡ codes "err:code") × (next_passes is_name_byte rest ≡ false)))

abbrev pub IsDigits : List ℕ → Type 0
IsDigits w = (0 < length w) × (list_all is_ascii_digit w ≡ true)

-- digits, which may lack, a point and digits
abbrev pub IsDec : List ℕ → Type 0
IsDec w = (a b : List ℕ) × (w ≡ a ++ 46 ∷ b) × (list_all is_ascii_digit a ≡ true) × IsDigits b

-- a sign or nothing
abbrev pub IsSign : List ℕ → Type 0
IsSign [] = Unit {0}
IsSign (b ∷ []) = is_sign b ≡ true
IsSign (b ∷ c ∷ r) = ⊥

-- e or E, an optional sign and digits
abbrev pub IsExponent : List ℕ → Type 0
IsExponent w =
    (e : ℕ) × (s b : List ℕ) × (w ≡ e ∷ (s ++ b)) × ((e ≡ 101) ⊎ (e ≡ 69)) × IsSign s × IsDigits b

abbrev pub IsDouble : List ℕ → Type 0
IsDouble w = (m x : List ℕ) × (w ≡ m ++ x) × (IsDigits m ⊎ IsDec m) × IsExponent x

-- a quote, the pieces of a JSON string and a quote
abbrev pub IsText : List ℕ → Type 0
IsText w = (inside : List ℕ) × (ps : List Piece) × (w ≡ 34 ∷ inside) × ArePieces ps inside []

-- a mark of one byte or of two
abbrev pub IsMark : List ℕ → Type 0
IsMark [] = ⊥
IsMark (b ∷ []) = is_mark b ≡ true
IsMark (b ∷ c ∷ []) = is_double_mark b c ≡ true
IsMark (b ∷ c ∷ d ∷ r) = ⊥

-- w is a token of this kind where rest follows it
abbrev pub Fits : TokenKind → List ℕ → List ℕ → Type 0
Fits k.Name w rest = IsName w
Fits k.Var w rest = IsVar w rest
Fits k.Context w rest = w ≡ codes "$$"
Fits k.Int w rest = IsDigits w
Fits k.Dec w rest = IsDec w
Fits k.Double w rest = IsDouble w
Fits k.Text w rest = IsText w
Fits k.Mark w rest = IsMark w
