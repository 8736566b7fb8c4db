-- The functions on objects and arrays, each under its name in the language: what it gives for its
-- arguments, or the error with which it refuses them. Items that are no objects have no keys and no
-- values; `project` and `remove-keys` leave them as they are.
use Rattle.std.specs.Prelude.{ℕ, nat_lt, pos, Bool, true, false, not, if◌then◌else◌, List, [], ◌∷◌, ◌++◌, length, map, Result, Ok, Err}
use Rattle.std.specs.List.{filter, flat_map, list_any}
use Rattle.std.specs.Str.{bytes_eq}
use Rattle.item_tree.specs.declared.code.Code.{Code}
use Rattle.item_tree.specs.declared.code.Code.TheVariants.{XPTY0004, PJDY0002}
use Rattle.item_tree.specs.Datum.{Datum, null, boolean, integer, decimal, text, date, date_time, array, object, Data, no_values, value, Members, no_members, member, listed, pairs, array_of_list, object_of_pairs, depth}
use Rattle.value_rules.specs.Operands.{and_then, string_of}
use Rattle.value_rules.specs.Sequences.{each, firsts}

-- the pairs of an object, and of all objects in turn
abbrev pub pairs_of : Datum → List (List ℕ × Datum)
pairs_of (object ms) = pairs ms
pairs_of _ = []

abbrev pub all_pairs : List Datum → List (List ℕ × Datum)
all_pairs vs = flat_map pairs_of vs

-- the members of an array
abbrev pub members_of : Datum → List Datum
members_of (array vs) = listed vs
members_of _ = []

-- the different keys, each where it stands first
abbrev pub different_keys : List (List ℕ × Datum) → List (List ℕ)
different_keys ps = firsts bytes_eq (map (λ p. p.0) ps)

abbrev pub keys : List Datum → Result (List Datum) Code
keys vs = Ok (map text (different_keys (all_pairs vs)))

abbrev pub values : List Datum → Result (List Datum) Code
values vs = Ok (map (λ p. p.1) (all_pairs vs))

abbrev pub members : List Datum → Result (List Datum) Code
members vs = Ok (flat_map members_of vs)

-- how many members an array has
abbrev pub size : List Datum → Result (List Datum) Code
size [] = Ok []
size (array vs ∷ []) = Ok (integer (pos (length (listed vs))) ∷ [])
size (v ∷ vs) = Err XPTY0004

-- an object with the pairs alone whose keys pass the test
abbrev pub with_keys : (List ℕ → Bool) → Datum → Datum
with_keys test (object ms) = object_of_pairs (filter (λ p. test p.0) (pairs ms))
with_keys test v = v

abbrev pub is_among : List (List ℕ) → List ℕ → Bool
is_among names k = list_any (λ name. bytes_eq name k) names

abbrev pub project : List Datum → List Datum → Result (List Datum) Code
project vs ks =
    and_then (each string_of ks) (λ names. Ok (map (with_keys (is_among names)) vs))

abbrev pub remove_keys : List Datum → List Datum → Result (List Datum) Code
remove_keys vs ks =
    and_then (each string_of ks) (λ names.
    Ok (map (with_keys (λ k. not (is_among names k))) vs))

-- what stands in the place of a value without arrays, at every depth of arrays
abbrev mutual
  pub flat : Datum → List Datum
  flat null = null ∷ []
  flat (boolean b) = boolean b ∷ []
  flat (integer n) = integer n ∷ []
  flat (decimal m) = decimal m ∷ []
  flat (text t) = text t ∷ []
  flat (date d) = date d ∷ []
  flat (date_time t) = date_time t ∷ []
  flat (array vs) = flat_data vs
  flat (object ms) = object ms ∷ []

  pub flat_data : Data → List Datum
  flat_data no_values = []
  flat_data (value v vs) = flat v ++ flat_data vs

abbrev pub flatten : List Datum → Result (List Datum) Code
flatten vs = Ok (flat_map flat vs)

-- a value and all that it holds at any depth, an outer value before what is inside it
abbrev mutual
  pub parts : Datum → List Datum
  parts null = null ∷ []
  parts (boolean b) = boolean b ∷ []
  parts (integer n) = integer n ∷ []
  parts (decimal m) = decimal m ∷ []
  parts (text t) = text t ∷ []
  parts (date d) = date d ∷ []
  parts (date_time t) = date_time t ∷ []
  parts (array vs) = array vs ∷ parts_of_data vs
  parts (object ms) = object ms ∷ parts_of_members ms

  pub parts_of_data : Data → List Datum
  parts_of_data no_values = []
  parts_of_data (value v vs) = parts v ++ parts_of_data vs

  pub parts_of_members : Members → List Datum
  parts_of_members no_members = []
  parts_of_members (member k v ms) = parts v ++ parts_of_members ms

abbrev pub is_object : Datum → Bool
is_object (object ms) = true
is_object _ = false

abbrev pub is_array : Datum → Bool
is_array (array vs) = true
is_array _ = false

abbrev pub descendant_objects : List Datum → Result (List Datum) Code
descendant_objects vs = Ok (filter is_object (flat_map parts vs))

abbrev pub descendant_arrays : List Datum → Result (List Datum) Code
descendant_arrays vs = Ok (filter is_array (flat_map parts vs))

-- the values at a key, in order
abbrev pub values_at : List ℕ → List (List ℕ × Datum) → List Datum
values_at k ps = map (λ p. p.1) (filter (λ p. bytes_eq p.0 k) ps)

-- one value as it is, and several as an array
abbrev pub gathered : List Datum → Datum
gathered (v ∷ []) = v
gathered vs = array_of_list vs

-- each key once, with all its values
abbrev pub gathered_pairs : List (List ℕ × Datum) → List (List ℕ × Datum)
gathered_pairs ps = map (λ k. (k, gathered (values_at k ps))) (different_keys ps)

-- no value is deeper than 128
abbrev pub if_not_deep : Datum → Result (List Datum) Code
if_not_deep v = if nat_lt 128 (depth v) then Err PJDY0002 else Ok (v ∷ [])

abbrev pub accumulate : List Datum → Result (List Datum) Code
accumulate vs = if_not_deep (object_of_pairs (gathered_pairs (all_pairs vs)))
