-- How a reader goes through a text: token by token, with the kinds of the open brackets.
use Rattle.std.specs.Prelude.{ℕ, zero, suc, Bool, true, false, ◌==◌, List, [], ◌∷◌, length, Option, Some, None, option_map, codes, nat_eq, drop, if◌then◌else◌}
use Rattle.std.specs.List.{starts_with}
use Rattle.std.specs.Str.{chars, is_utf8}
use Rattle.num_fixed.specs.Numeral.{Numeral}
use Rattle.json_text.specs.Json.{is_space}
use Rattle.json_text.specs.inside.Scan.{Part, string_at, numeral_at}

-- ---- tokens

pub data Token : Type 0 where
  open_array : Token
  close_array : Token
  open_object : Token
  close_object : Token
  comma : Token
  colon : Token
  null_word : Token
  boolean_word : Bool → Token
  numeral : Numeral → Token
  characters : List ℕ → Token
  end : Token
  bad : Token

-- a word of letters, and what is behind it
abbrev pub word_at : List ℕ → Token → List ℕ → Token × List ℕ
word_at word t l = if starts_with nat_eq l word then (t, drop (length word) l) else (bad, [])

abbrev pub numeral_token : Part Numeral → Token × List ℕ
numeral_token None = (bad, [])
numeral_token (Some p) = (numeral p.0, p.1)

abbrev pub string_token : Part (List ℕ) → Token × List ℕ
string_token None = (bad, [])
string_token (Some p) = if is_utf8 p.0 then (characters (chars p.0), p.1) else (bad, [])

-- the token of this byte and what is behind it
unfoldable pub token_from : ℕ → List ℕ → Token × List ℕ
token_from b l =
    if b == 91 then (open_array, l) else
    if b == 93 then (close_array, l) else
    if b == 123 then (open_object, l) else
    if b == 125 then (close_object, l) else
    if b == 44 then (comma, l) else
    if b == 58 then (colon, l) else
    if b == 34 then string_token (string_at l) else
    if b == 110 then word_at (codes "ull") null_word l else
    if b == 116 then word_at (codes "rue") (boolean_word true) l else
    if b == 102 then word_at (codes "alse") (boolean_word false) l else
    numeral_token (numeral_at (b ∷ l))

-- the token behind the spaces at the front, and what is behind it
unfoldable pub token_at : List ℕ → Token × List ℕ
token_at [] = (end, [])
token_at (b ∷ l) = if is_space b then token_at l else token_from b l

-- ---- events

pub data Event : Type 0 where
  opens_array : Event
  opens_object : Event
  closes : Event
  keyed : List ℕ → Event
  a_null : Event
  a_boolean : Bool → Event
  a_number : Numeral → Event
  a_string : List ℕ → Event

-- what may come: a value, or, where the flag is set, the end of an array; a key, or, where it is
-- set, the end of an object; the colon behind a key; what follows a value
pub data Mode : Type 0 where
  value : Bool → Mode
  key : Bool → Mode
  name : Mode
  after : Mode

-- the open brackets, the innermost first: true for an array, false for an object
abbrev pub Kinds : Type 0
Kinds = List Bool

-- the events of the rest of a text, if it is one
abbrev pub Events : Type 0
Events = Option (List Event)

abbrev pub emit : Event → Events → Events
emit e r = option_map (λ es. e ∷ es) r

-- what a token does: there is no text; the text ends; or, with an event or without, it goes on
-- with a mode and open brackets
pub data Turn : Type 0 where
  stops : Turn
  ends : Turn
  goes : Option Event → Mode → Kinds → Turn

abbrev pub closes_array : Kinds → Turn
closes_array [] = stops
closes_array (true ∷ ks) = goes (Some closes) after ks
closes_array (false ∷ ks) = stops

abbrev pub closes_object : Kinds → Turn
closes_object [] = stops
closes_object (true ∷ ks) = stops
closes_object (false ∷ ks) = goes (Some closes) after ks

abbrev pub goes_on : Kinds → Turn
goes_on [] = stops
goes_on (true ∷ ks) = goes None (value false) (true ∷ ks)
goes_on (false ∷ ks) = goes None (key false) (false ∷ ks)

abbrev pub ends_at : Kinds → Turn
ends_at [] = ends
ends_at (b ∷ ks) = stops

abbrev pub turn : Mode → Kinds → Token → Turn
turn (value f) ks open_array = goes (Some opens_array) (value true) (true ∷ ks)
turn (value f) ks open_object = goes (Some opens_object) (key true) (false ∷ ks)
turn (value f) ks null_word = goes (Some a_null) after ks
turn (value f) ks (boolean_word b) = goes (Some (a_boolean b)) after ks
turn (value f) ks (numeral n) = goes (Some (a_number n)) after ks
turn (value f) ks (characters cs) = goes (Some (a_string cs)) after ks
turn (value f) ks close_array = if f then closes_array ks else stops
turn (value f) ks t = stops
turn (key f) ks (characters cs) = goes (Some (keyed cs)) name ks
turn (key f) ks close_object = if f then closes_object ks else stops
turn (key f) ks t = stops
turn name ks colon = goes None (value false) ks
turn name ks t = stops
turn after ks comma = goes_on ks
turn after ks close_array = closes_array ks
turn after ks close_object = closes_object ks
turn after ks end = ends_at ks
turn after ks t = stops

-- the events from a mode and open brackets on
abbrev pub Next : Type 0
Next = Mode → Kinds → Events

-- the events of a turn, and then the rest
abbrev pub follow : Turn → Next → Events
follow stops k = None
follow ends k = Some []
follow (goes None m ks) k = k m ks
follow (goes (Some e) m ks) k = emit e (k m ks)

-- one token, and then the rest
abbrev pub step : Mode → Kinds → Token → Next → Events
step m ks t k = follow (turn m ks t) k

-- the events of at most this many tokens
unfoldable pub run_for : ℕ → Mode → Kinds → List ℕ → Events
run_for zero m ks l = None
run_for (suc n) m ks l = step m ks (token_at l).0 (λ m2 ks2. run_for n m2 ks2 (token_at l).1)

-- the events of the rest of a text, in which each token but the end takes a byte
unfoldable pub run : Mode → Kinds → List ℕ → Events
run m ks l = run_for (suc (length l)) m ks l
