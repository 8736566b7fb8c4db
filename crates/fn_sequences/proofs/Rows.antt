-- Rows of the functions on sequences, which compute.
use Rattle.std.proofs.Common.{◌≡◌, pos, negsuc, true, List, [], ◌∷◌, Ok, Err, refl}
use Rattle.item_tree.specs.declared.code.Code.TheVariants.{XPTY0004, JNTY0004}
use Rattle.item_tree.specs.Datum.{Datum, null, boolean, integer, decimal, text, array, no_values, object, no_members}
use Rattle.value_rules.specs.Sequences as sequences

abbrev one_two_three : List Datum
one_two_three = integer (pos 1) ∷ integer (pos 2) ∷ integer (pos 3) ∷ []

three : sequences.count one_two_three ≡ Ok (integer (pos 3) ∷ [])
three = refl

-- from position 0 on, two items: that at position 1
first_alone : sequences.subsequence_3 one_two_three (integer (pos 0) ∷ []) (integer (pos 2) ∷ []) ≡ Ok (integer (pos 1) ∷ [])
first_alone = refl

from_below : sequences.subsequence one_two_three (integer (negsuc 4) ∷ []) ≡ Ok one_two_three
from_below = refl

start_is_checked : sequences.subsequence_3 one_two_three (array no_values ∷ []) [] ≡ Err JNTY0004
start_is_checked = refl

before_two : sequences.insert_before one_two_three (integer (pos 2) ∷ []) (null ∷ []) ≡ Ok (integer (pos 1) ∷ null ∷ integer (pos 2) ∷ integer (pos 3) ∷ [])
before_two = refl

goes_last : sequences.insert_before (null ∷ []) (integer (pos 9) ∷ []) (boolean true ∷ []) ≡ Ok (null ∷ boolean true ∷ [])
goes_last = refl

without_second : sequences.remove one_two_three (integer (pos 2) ∷ []) ≡ Ok (integer (pos 1) ∷ integer (pos 3) ∷ [])
without_second = refl

without_ninth : sequences.remove one_two_three (integer (pos 9) ∷ []) ≡ Ok one_two_three
without_ninth = refl

-- 1, 1.0, "1", null, 1
abbrev some_same : List Datum
some_same = integer (pos 1) ∷ decimal (pos 1000000) ∷ text (49 ∷ []) ∷ null ∷ integer (pos 1) ∷ []

different : sequences.distinct_values some_same ≡ Ok (integer (pos 1) ∷ text (49 ∷ []) ∷ null ∷ [])
different = refl

ones : sequences.index_of some_same (decimal (pos 1000000) ∷ []) ≡ Ok (integer (pos 1) ∷ integer (pos 2) ∷ integer (pos 5) ∷ [])
ones = refl

items_go_first : sequences.index_of (null ∷ object no_members ∷ []) [] ≡ Err JNTY0004
items_go_first = refl

no_item_is_wanted : sequences.index_of some_same [] ≡ Err XPTY0004
no_item_is_wanted = refl
