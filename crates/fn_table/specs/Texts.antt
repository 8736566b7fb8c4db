-- The functions between items and their texts, and the one that only fails.
use Rattle.std.specs.Prelude.{List, [], ◌∷◌, Result, Ok, Err}
use Rattle.std.specs.Str.{chars, encode_utf8_all}
use Rattle.item_tree.specs.declared.code.Code.{Code}
use Rattle.item_tree.specs.declared.code.Code.TheVariants.{XPTY0004, JNDY0021, FOER0000}
use Rattle.item_tree.specs.Datum.{Datum, text}
use Rattle.item_tree.specs.ItemText.{item_text}
use Rattle.json_text.specs.Line.{Reading, blank, item, fault}
use Rattle.json_text.specs.inside.Build.{reading}
use Rattle.value_rules.specs.Operands.{and_then, optional_string}

-- the JSON text of one item
abbrev pub serialize : List Datum → Result (List Datum) Code
serialize [] = Err XPTY0004
serialize (v ∷ []) = Ok (text (chars (item_text v)) ∷ [])
serialize (v ∷ w ∷ vs) = Err XPTY0004

-- what a text reads as; a blank one is no text of JSON
abbrev pub read_as : Reading → Result (List Datum) Code
read_as blank = Err JNDY0021
read_as (item v) = Ok (v ∷ [])
read_as (fault e) = Err e

-- the item of a text, by the rules for a line of an input
abbrev pub parse_json : List Datum → Result (List Datum) Code
parse_json [] = Ok []
parse_json (v ∷ vs) =
    and_then (optional_string (v ∷ vs)) (λ t. read_as (reading (encode_utf8_all t)))

abbrev pub error : Result (List Datum) Code
error = Err FOER0000
