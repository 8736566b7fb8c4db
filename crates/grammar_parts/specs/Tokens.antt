-- Classes of tokens, and lists of tokens.
use Rattle.std.specs.Prelude.{Bool, false, ◌||◌, ◌&&◌, not, List, [], ◌∷◌}

-- a class of tokens
abbrev pub Class : Type 0 → Type 0
Class T = T → Bool

abbrev pub never : {T : Type 0} → Class T
never t = false

abbrev pub either : {T : Type 0} → Class T → Class T → Class T
either c d t = c t || d t

-- a class of tokens where it is allowed
abbrev pub given : {T : Type 0} → Bool → Class T → Class T
given b c t = b && c t

-- the tokens of the first class that are not of the second
abbrev pub without : {T : Type 0} → Class T → Class T → Class T
without c d t = c t && not (d t)

-- the tokens whose kinds are of a class
abbrev pub over : {T K : Type 0} → (T → K) → Class K → Class T
over kind c t = c (kind t)

-- whether the list has a first token, and it is of the class
abbrev pub sees : {T : Type 0} → Class T → List T → Bool
sees c [] = false
sees c (t ∷ r) = c t

-- whether the list begins with a token of the first class and then one of the second
abbrev pub sees_two : {T : Type 0} → Class T → Class T → List T → Bool
sees_two c d [] = false
sees_two c d (t ∷ []) = false
sees_two c d (t ∷ s ∷ r) = c t && d s

-- what follows the first token
abbrev pub rest_of : {T : Type 0} → List T → List T
rest_of [] = []
rest_of (t ∷ r) = r
