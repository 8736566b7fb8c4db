-- Rows of the functions on strings, as they are told in the documentation.
use Rattle.std.specs.Fmt.{digits}
use Rattle.std.specs.Prelude.{◌≡◌, [], ◌∷◌, pos, negsuc, codes, true, Ok, Err, refl}
use Rattle.item_tree.specs.declared.code.Code.TheVariants.{XPTY0004, JNTY0004}
use Rattle.item_tree.specs.Datum.{null, boolean, integer, text, array, no_values}
use Rattle.value_rules.specs.Strings.{concat, string_join_2, substring, substring_3, contains, ends_with, substring_before, substring_after, normalize_space, tokenize, translate}

-- "müesli" from its second character on, of three characters
middle : substring_3 (text (109 ∷ 252 ∷ codes "esli") ∷ []) (integer (pos 2) ∷ []) (integer (pos 3) ∷ []) ≡ Ok (text (252 ∷ codes "es") ∷ [])
middle = refl

-- a start below 1 takes characters from the length
start_below : substring_3 (text (codes "abc") ∷ []) (integer (negsuc 0) ∷ []) (integer (pos 3) ∷ []) ≡ Ok (text (codes "a") ∷ [])
start_below = refl

start_behind : substring (text (codes "abc") ∷ []) (integer (pos 4) ∷ []) ≡ Ok (text [] ∷ [])
start_behind = refl

first_repeated : translate (text (codes "banana") ∷ []) (text (codes "an") ∷ []) (text (codes "o") ∷ []) ≡ Ok (text (codes "booo") ∷ [])
first_repeated = refl

first_place_counts : translate (text (codes "abc") ∷ []) (text (codes "aab") ∷ []) (text (codes "xyz") ∷ []) ≡ Ok (text (codes "xzc") ∷ [])
first_place_counts = refl

pieces : tokenize (text (codes "  x y ") ∷ []) ≡ Ok (text (codes "x") ∷ text (codes "y") ∷ [])
pieces = refl

one_space : normalize_space (text (32 ∷ 97 ∷ 9 ∷ 10 ∷ 98 ∷ 13 ∷ []) ∷ []) ≡ Ok (text (codes "a b") ∷ [])
one_space = refl

before_first : substring_before (text (codes "a=b=c") ∷ []) (text (codes "=") ∷ []) ≡ Ok (text (codes "a") ∷ [])
before_first = refl

after_first : substring_after (text (codes "a=b=c") ∷ []) (text (codes "=") ∷ []) ≡ Ok (text (codes "b=c") ∷ [])
after_first = refl

after_none : substring_after (text (codes "abc") ∷ []) (text (codes "x") ∷ []) ≡ Ok (text [] ∷ [])
after_none = refl

after_empty : substring_after (text (codes "abc") ∷ []) [] ≡ Ok (text (codes "abc") ∷ [])
after_empty = refl

empty_in_empty : contains [] [] ≡ Ok (boolean (true) ∷ [])
empty_in_empty = refl

joined : string_join_2 (text (codes "a") ∷ null ∷ integer (pos 7) ∷ []) (text (codes ", ") ∷ []) ≡ Ok (text (codes "a, null, 7") ∷ [])
unfolding digits
joined = refl

items_first : string_join_2 (array no_values ∷ []) (null ∷ []) ≡ Err JNTY0004
items_first = refl

two_in_one_argument : concat ([] ∷ (null ∷ null ∷ []) ∷ []) ≡ Err XPTY0004
two_in_one_argument = refl

ending : ends_with (text (codes "abc") ∷ []) (text (codes "bc") ∷ []) ≡ Ok (boolean (true) ∷ [])
ending = refl
