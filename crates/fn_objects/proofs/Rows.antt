-- Rows of the functions on objects, which compute.
use Rattle.std.proofs.Common.{◌≡◌, pos, List, [], ◌∷◌, Ok, Err, refl}
use Rattle.item_tree.specs.declared.code.Code.TheVariants.{XPTY0004, JNTY0004}
use Rattle.item_tree.specs.Datum.{Datum, null, integer, text, array, object, no_values, value, no_members, member}
use Rattle.value_rules.specs.Objects as objects

-- {"a":1} and {"b":2,"a":null}
abbrev two_objects : List Datum
two_objects =
    object (member (97 ∷ []) (integer (pos 1)) no_members)
    ∷ object (member (98 ∷ []) (integer (pos 2)) (member (97 ∷ []) null no_members)) ∷ []

-- {"a":[1,null],"b":2}
accumulated : objects.accumulate two_objects ≡ Ok (object (member (97 ∷ []) (array (value (integer (pos 1)) (value null no_values))) (member (98 ∷ []) (integer (pos 2)) no_members)) ∷ [])
accumulated = refl

nothing_accumulated : objects.accumulate (null ∷ []) ≡ Ok (object no_members ∷ [])
nothing_accumulated = refl

keys_once : objects.keys two_objects ≡ Ok (text (97 ∷ []) ∷ text (98 ∷ []) ∷ [])
keys_once = refl

all_values : objects.values (null ∷ two_objects) ≡ Ok (integer (pos 1) ∷ integer (pos 2) ∷ null ∷ [])
all_values = refl

named : objects.project (null ∷ two_objects) (text (98 ∷ []) ∷ []) ≡ Ok (null ∷ object no_members ∷ object (member (98 ∷ []) (integer (pos 2)) no_members) ∷ [])
named = refl

others : objects.remove_keys two_objects (text (98 ∷ []) ∷ []) ≡ Ok (object (member (97 ∷ []) (integer (pos 1)) no_members) ∷ object (member (97 ∷ []) null no_members) ∷ [])
others = refl

first_name_decides : objects.project [] (text [] ∷ null ∷ array no_values ∷ []) ≡ Err XPTY0004
first_name_decides = refl

array_as_name : objects.project [] (array no_values ∷ null ∷ []) ≡ Err JNTY0004
array_as_name = refl

-- [[1],[[null]]]
abbrev nested : Datum
nested = array (value (array (value (integer (pos 1)) no_values)) (value (array (value (array (value null no_values)) no_values)) no_values))

flattened : objects.flatten (nested ∷ []) ≡ Ok (integer (pos 1) ∷ null ∷ [])
flattened = refl

-- [{"a":{"b":1}}]
abbrev inner : Datum
inner = object (member (98 ∷ []) (integer (pos 1)) no_members)

abbrev outer : Datum
outer = object (member (97 ∷ []) inner no_members)

outer_first : objects.descendant_objects (array (value outer no_values) ∷ []) ≡ Ok (outer ∷ inner ∷ [])
outer_first = refl

one_array : objects.descendant_arrays (outer ∷ array (value outer no_values) ∷ []) ≡ Ok (array (value outer no_values) ∷ [])
one_array = refl

two_members : objects.size (array (value null (value null no_values)) ∷ []) ≡ Ok (integer (pos 2) ∷ [])
two_members = refl

no_array : objects.size (outer ∷ []) ≡ Err XPTY0004
no_array = refl
