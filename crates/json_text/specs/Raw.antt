-- Raw values: what a text of JSON says, before any of it is refused, rounded or replaced.
use Rattle.std.specs.Prelude.{ℕ, Bool, List}
use Rattle.num_fixed.specs.Numeral.{Numeral}

-- a number keeps its sign, its digits, its fraction and its exponent; a string is the list of its
-- characters' codes; an object keeps all its pairs in text order
mutual
  pub data Raw : Type 0 where
    raw_null : Raw
    raw_boolean : Bool → Raw
    raw_number : Numeral → Raw
    raw_string : List ℕ → Raw
    raw_array : Raws → Raw
    raw_object : Fields → Raw

  pub data Raws : Type 0 where
    no_raws : Raws
    raw_value : Raw → Raws → Raws

  pub data Fields : Type 0 where
    no_fields : Fields
    field : List ℕ → Raw → Fields → Fields
