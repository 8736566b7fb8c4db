-- What the code's tokens stand for.
use Rattle.std.specs.Prelude.{◌≡◌, ◌==◌, ◌||◌, ℕ, ℤ, Bool, false, List, [], ◌∷◌, Option, Some, None, Ok, Err}
use Rattle.item_tree.specs.Datum.{Datum, null, boolean, integer}
use Rattle.item_tree.specs.Item.{datum}
use Rattle.json_text.specs.Meaning.{number_out}
use Rattle.json_text.specs.inside.Machine as m
use Rattle.num_fixed.specs.Values.{said}
use Rattle.json_text.specs.inside.Build.{number_outcome}
use Rattle.item_reader.specs.declared.token.Token.{Token}
use Rattle.item_reader.specs.declared.token.Token.TheVariants.{OpenArray, CloseArray, OpenObject, CloseObject, Comma, Colon, Atom, NumberOut, End, Bad}

-- a token that is this value, or a number that is out of bounds
abbrev pub IsAtom : Datum → m.Token → Type 0
IsAtom x m.null_word = x ≡ null
IsAtom x (m.boolean_word b) = x ≡ boolean b
IsAtom x (m.numeral n) = number_outcome (said n) ≡ Ok x
IsAtom x _ = ⊥

abbrev pub IsNumberOut : m.Token → Type 0
IsNumberOut (m.numeral n) = number_outcome (said n) ≡ Err number_out
IsNumberOut _ = ⊥

abbrev pub StandsFor : Token → m.Token → Type 0
StandsFor OpenArray t = t ≡ m.open_array
StandsFor CloseArray t = t ≡ m.close_array
StandsFor OpenObject t = t ≡ m.open_object
StandsFor CloseObject t = t ≡ m.close_object
StandsFor Comma t = t ≡ m.comma
StandsFor Colon t = t ≡ m.colon
StandsFor (Atom x) t = IsAtom (datum x) t
StandsFor NumberOut t = IsNumberOut t
StandsFor End t = t ≡ m.end
StandsFor Bad t = t ≡ m.bad

-- a token and the bytes behind it
abbrev pub IsPart : Token → List ℕ → m.Token × List ℕ → Type 0
IsPart t r p = StandsFor t p.0 × (r ≡ p.1)

-- an integer and the bytes behind it
abbrev pub IsInteger : ℤ → List ℕ → m.Token × List ℕ → Type 0
IsInteger n r p = IsAtom (integer n) p.0 × (r ≡ p.1)

-- what stands behind the first letter of null, of true and of false
abbrev pub behind_n : List ℕ
behind_n = 117 ∷ 108 ∷ 108 ∷ []

abbrev pub behind_t : List ℕ
behind_t = 114 ∷ 117 ∷ 101 ∷ []

abbrev pub behind_f : List ℕ
behind_f = 97 ∷ 108 ∷ 115 ∷ 101 ∷ []

-- a bracket, a comma or a colon
abbrev pub is_mark : ℕ → Bool
is_mark b = b == 91 || b == 93 || b == 123 || b == 125 || b == 44 || b == 58

abbrev pub begins : (ℕ → Bool) → List ℕ → Bool
begins p [] = false
begins p (b ∷ l) = p b

abbrev pub uncons : List ℕ → Option (ℕ × List ℕ)
uncons [] = None
uncons (b ∷ l) = Some (b, l)
