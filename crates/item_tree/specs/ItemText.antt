-- The text of an item: compact JSON (RFC 8259), with no blank between its tokens.
use Rattle.std.specs.Prelude.{ℕ, ◌+◌, ◌/◌, ◌%◌, ◌==◌, nat_lt, ℤ, pos, negsuc, suc, Bool, true, false, List, [], ◌∷◌, ◌++◌, drop, codes, encode_utf8, if◌then◌else◌}
use Rattle.std.specs.Fmt.{decimal as digits_of, signed_decimal, digit_glyph}
pub use Rattle.item_tree.specs.Digits.{without_last_zeros}
use Rattle.item_tree.specs.Dates.{date_text, date_time_text}
use Rattle.item_tree.specs.Datum.{Datum, null, boolean, integer, decimal, text, date, date_time, array, object, Data, no_values, value, Members, no_members, member}

-- the point and the places behind it, for a number of units of 10^-6 below one
abbrev pub fraction_text : ℕ → List ℕ
fraction_text units =
    if units == 0 then [] else 46 ∷ without_last_zeros (drop 1 (digits_of (1000000 + units)))

-- a number of units of 10^-6, without trailing zeros, and without a point where it is whole
abbrev pub units_text : ℕ → List ℕ
units_text units = digits_of (units / 1000000) ++ fraction_text (units % 1000000)

abbrev pub decimal_text : ℤ → List ℕ
decimal_text (pos units) = units_text units
decimal_text (negsuc units) = 45 ∷ units_text (suc units)

-- a control character in the form of four hexadecimal digits
abbrev pub control_text : ℕ → List ℕ
control_text c = codes "\\u00" ++ digit_glyph false (c / 16) ∷ digit_glyph false (c % 16) ∷ []

-- a character of a string
abbrev pub character_text : ℕ → List ℕ
character_text c =
    if c == 34 then codes "\\\"" else
    if c == 92 then codes "\\\\" else
    if c == 8 then codes "\\b" else
    if c == 9 then codes "\\t" else
    if c == 10 then codes "\\n" else
    if c == 12 then codes "\\f" else
    if c == 13 then codes "\\r" else
    if nat_lt c 32 then control_text c else encode_utf8 c

abbrev pub characters_text : List ℕ → List ℕ
characters_text [] = []
characters_text (c ∷ cs) = character_text c ++ characters_text cs

-- a string between its quotes
abbrev pub string_text : List ℕ → List ℕ
string_text cs = 34 ∷ characters_text cs ++ 34 ∷ []

abbrev pub boolean_text : Bool → List ℕ
boolean_text true = codes "true"
boolean_text false = codes "false"

abbrev mutual
  pub item_text : Datum → List ℕ
  item_text null = codes "null"
  item_text (boolean b) = boolean_text b
  item_text (integer n) = signed_decimal n
  item_text (decimal m) = decimal_text m
  item_text (text cs) = string_text cs
  item_text (date d) = string_text (date_text d)
  item_text (date_time t) = string_text (date_time_text t)
  item_text (array vs) = 91 ∷ values_text vs
  item_text (object ms) = 123 ∷ members_text ms

  -- the values behind `[`, and the `]`
  pub values_text : Data → List ℕ
  values_text no_values = 93 ∷ []
  values_text (value v vs) = item_text v ++ more_values_text vs

  pub more_values_text : Data → List ℕ
  more_values_text no_values = 93 ∷ []
  more_values_text (value v vs) = 44 ∷ item_text v ++ more_values_text vs

  -- the pairs behind `{`, and the `}`
  pub members_text : Members → List ℕ
  members_text no_members = 125 ∷ []
  members_text (member k v ms) = string_text k ++ 58 ∷ item_text v ++ more_members_text ms

  pub more_members_text : Members → List ℕ
  more_members_text no_members = 125 ∷ []
  more_members_text (member k v ms) = 44 ∷ string_text k ++ 58 ∷ item_text v ++ more_members_text ms

-- the characters of an atomic's text: of a string the string itself, and else the item's text,
-- which is ASCII
abbrev pub atom_text : Datum → List ℕ
atom_text (text cs) = cs
atom_text null = item_text null
atom_text (boolean b) = item_text (boolean b)
atom_text (integer n) = item_text (integer n)
atom_text (decimal m) = item_text (decimal m)
atom_text (date d) = date_text d
atom_text (date_time t) = date_time_text t
atom_text (array vs) = item_text (array vs)
atom_text (object ms) = item_text (object ms)
