-- What a raw value gives: its item, or its first trouble in text order.
use Rattle.std.specs.Prelude.{◌≡◌, ℕ, suc, nat_lt, List, [], ◌∷◌, Result, Ok, Err, if◌then◌else◌}
use Rattle.std.specs.Result.{result_map_both}
use Rattle.num_fixed.specs.Bounds.{NumberInBounds}
use Rattle.num_fixed.specs.Numeral.{Numeral, Says}
use Rattle.num_fixed.specs.declared.number.Number.{Number}
use Rattle.num_fixed.specs.declared.number.Number.TheVariants.{Int, Dec}
use Rattle.item_tree.specs.Datum.{Datum, null, boolean, integer, decimal, text, array_of_list, object_of_pairs}
pub use Rattle.item_tree.specs.Lookup.{put}
use Rattle.json_text.specs.Raw.{Raw, raw_null, raw_boolean, raw_number, raw_string, raw_array, raw_object, Raws, no_raws, raw_value, Fields, no_fields, field}

-- a number out of its bounds, or a bracket that opens inside 128 open ones
pub data Trouble : Type 0 where
  number_out : Trouble
  too_deep : Trouble

abbrev pub Outcome : Type 0 → Type 0
Outcome A = Result A Trouble

-- of two parts of a text: both, or the first trouble
abbrev pub together : {A B C : Type 0} → (A → B → C) → Outcome A → Outcome B → Outcome C
together f (Ok x) (Ok y) = Ok (f x y)
together f (Ok x) (Err t) = Err t
together f (Err t) r = Err t

-- a bracket that opens inside this many open ones, and what is inside it
abbrev pub bracketed : {A : Type 0} → ℕ → (A → Datum) → Outcome A → Outcome Datum
bracketed around f r = if nat_lt around 128 then result_map_both f (λ t. t) r else Err too_deep

abbrev pub put_all : List (List ℕ × Datum) → List (List ℕ × Datum) → List (List ℕ × Datum)
put_all done [] = done
put_all done (p ∷ ps) = put_all (put p.0 p.1 done) ps

-- the object of all the pairs of a text: a repeated key has the first one's place and the last
-- one's value
abbrev pub object_of_fields : List (List ℕ × Datum) → Datum
object_of_fields ps = object_of_pairs (put_all [] ps)

abbrev pub number_datum : Number → Datum
number_datum (Int n) = integer n
number_datum (Dec m) = decimal m

-- an integer where the numeral has neither point nor exponent, and else the nearest decimal; or
-- it is out of bounds
abbrev pub NumberGives : Numeral → Outcome Datum → Type 0
NumberGives n (Ok x) = (a : Number) × Says n a × NumberInBounds a × (x ≡ number_datum a)
NumberGives n (Err t) = (a : Number) × Says n a × (¬ NumberInBounds a) × (t ≡ number_out)

-- the raw value, inside this many open brackets, gives this
abbrev mutual
  pub Gives : ℕ → Raw → Outcome Datum → Type 0
  Gives around raw_null r = r ≡ Ok null
  Gives around (raw_boolean b) r = r ≡ Ok (boolean b)
  Gives around (raw_number n) r = NumberGives n r
  Gives around (raw_string cs) r = r ≡ Ok (text cs)
  Gives around (raw_array vs) r =
      (s : Outcome (List Datum))
      × AllGive (suc around) vs s × (r ≡ bracketed around array_of_list s)
  Gives around (raw_object fs) r =
      (s : Outcome (List (List ℕ × Datum)))
      × FieldsGive (suc around) fs s × (r ≡ bracketed around object_of_fields s)

  pub AllGive : ℕ → Raws → Outcome (List Datum) → Type 0
  AllGive around no_raws r = r ≡ Ok []
  AllGive around (raw_value v vs) r =
      (x : Outcome Datum) × (s : Outcome (List Datum))
      × Gives around v x × AllGive around vs s × (r ≡ together (λ y ys. y ∷ ys) x s)

  pub FieldsGive : ℕ → Fields → Outcome (List (List ℕ × Datum)) → Type 0
  FieldsGive around no_fields r = r ≡ Ok []
  FieldsGive around (field k v fs) r =
      (x : Outcome Datum) × (s : Outcome (List (List ℕ × Datum)))
      × Gives around v x × FieldsGive around fs s × (r ≡ together (λ y ps. (k, y) ∷ ps) x s)
