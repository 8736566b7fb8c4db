-- Texts of JSON (RFC 8259), with one case for each of its productions.
-- `Rule x l r` says that the bytes of l before its rest r are written by the rule and say x.
use Rattle.std.specs.Prelude.{◌≡◌, ◌⊎◌, ℕ, Bool, true, false, ◌||◌, ◌==◌, List, [], ◌∷◌, ◌++◌, codes}
use Rattle.num_fixed.specs.Fronts.{IsFront}
use Rattle.num_fixed.specs.Numeral.{Numeral}
use Rattle.item_tree.specs.JsonString.{IsString}
use Rattle.json_text.specs.Raw.{Raw, raw_null, raw_boolean, raw_number, raw_string, raw_array, raw_object, Raws, no_raws, raw_value, Fields, no_fields, field}

-- ---- section 2, the grammar of texts: white space and structural characters

-- space, tab, line feed and carriage return
abbrev pub is_space : ℕ → Bool
is_space b = b == 32 || b == 9 || b == 10 || b == 13

-- ws: spaces, or none
abbrev pub Spaces : List ℕ → List ℕ → Type 0
Spaces [] r = r ≡ []
Spaces (b ∷ l) r = (r ≡ b ∷ l) ⊎ ((is_space b ≡ true) × Spaces l r)

-- a structural character, as begin-array: ws, the character, ws
pub record Structural (c : ℕ) (l r : List ℕ) : Type 0 where
  pub behind : List ℕ
  pub before : Spaces l (c ∷ behind)
  pub after : Spaces behind r

-- ---- section 6, numbers: [ minus ] int [ frac ] [ exp ]

-- int: one digit, or digits that begin with another than 0
abbrev pub IsInt : List ℕ → Type 0
IsInt [] = ⊥
IsInt (d ∷ []) = Unit {0}
IsInt (d ∷ e ∷ ds) = (d == 48) ≡ false

-- what num_fixed has as a number at the front, which has neither a plus in front nor a point that no
-- digit follows; JSON wants an int in it
pub record IsJsonNumber (n : Numeral) (l r : List ℕ) : Type 0 where
  pub front : IsFront n l r
  pub int : IsInt n.int

-- ---- section 3, values; section 4, objects; section 5, arrays (section 7, strings, is `IsString`)

abbrev mutual
  -- value: null, true, false, number, string, array or object
  pub Value : Raw → List ℕ → List ℕ → Type 0
  Value raw_null l r = l ≡ codes "null" ++ r
  Value (raw_boolean true) l r = l ≡ codes "true" ++ r
  Value (raw_boolean false) l r = l ≡ codes "false" ++ r
  Value (raw_number n) l r = IsJsonNumber n l r
  Value (raw_string cs) l r = IsString cs l r
  Value (raw_array vs) l r =
      (m : List ℕ) × (n : List ℕ)
      × Structural 91 l m × Elements vs m n × Structural 93 n r
  Value (raw_object fs) l r =
      (m : List ℕ) × (n : List ℕ)
      × Structural 123 l m × Members fs m n × Structural 125 n r

  -- in an array: [ value *( value-separator value ) ]
  pub Elements : Raws → List ℕ → List ℕ → Type 0
  Elements no_raws l r = l ≡ r
  Elements (raw_value v vs) l r = (m : List ℕ) × Value v l m × MoreElements vs m r

  -- *( value-separator value )
  pub MoreElements : Raws → List ℕ → List ℕ → Type 0
  MoreElements no_raws l r = l ≡ r
  MoreElements (raw_value v vs) l r =
      (m : List ℕ) × (n : List ℕ)
      × Structural 44 l m × Value v m n × MoreElements vs n r

  -- in an object: [ member *( value-separator member ) ]; member: string name-separator value
  pub Members : Fields → List ℕ → List ℕ → Type 0
  Members no_fields l r = l ≡ r
  Members (field k v fs) l r =
      (m : List ℕ) × (n : List ℕ) × (o : List ℕ)
      × IsString k l m × Structural 58 m n × Value v n o × MoreMembers fs o r

  -- *( value-separator member )
  pub MoreMembers : Fields → List ℕ → List ℕ → Type 0
  MoreMembers no_fields l r = l ≡ r
  MoreMembers (field k v fs) l r =
      (s : List ℕ) × (m : List ℕ) × (n : List ℕ) × (o : List ℕ)
      × Structural 44 l s × IsString k s m × Structural 58 m n × Value v n o × MoreMembers fs o r

-- JSON-text: ws value ws, and nothing behind it. It is in UTF-8 (section 8.1), since the content of
-- each string is, and all else is ASCII: that is the law `texts_are_utf8`.
pub record Json (t : List ℕ) (v : Raw) : Type 0 where
  pub from : List ℕ
  pub to : List ℕ
  pub before : Spaces t from
  pub value : Value v from to
  pub after : Spaces to []
