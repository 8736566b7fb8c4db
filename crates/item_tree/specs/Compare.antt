-- Comparisons of values.
use Rattle.std.specs.Prelude.{ℕ, ◌==◌, ◌&&◌, ℤ, pos, Bool, true, false, Option, Some, None, List, length}
use Rattle.std.specs.Ordering.{nat_cmp, int_cmp, bool_cmp}
use Rattle.std.specs.Cmp.Lexicographic.{slice_cmp}
use Rattle.std.specs.declared.cmp.Ordering.{Ordering}
use Rattle.std.specs.declared.cmp.Ordering.TheVariants.{Less, Equal, Greater}
use Rattle.std.proofs.Common.{◌*ℤ◌}
use Rattle.item_tree.specs.Datum.{Datum, null, boolean, integer, decimal, text, date, date_time, array, object, Data, no_values, value, Members, no_members, member, values, pairs}
use Rattle.item_tree.specs.Dates.{Date, DateTime, date_cmp, date_time_cmp}
use Rattle.item_tree.specs.Lookup.{lookup}

-- an atomic by its class; numbers are of one class, by their units of 10^-6
pub data Atom : Type 0 where
  nothing : Atom
  truth : Bool → Atom
  number : ℤ → Atom
  string : List ℕ → Atom
  day : Date → Atom
  moment : DateTime → Atom

-- a whole number in units of 10^-6
abbrev pub whole_units : ℤ → ℤ
whole_units n = n *ℤ pos 1000000

-- the class and the content of an atomic, none of an array or object
abbrev pub atom : Datum → Option Atom
atom null = Some nothing
atom (boolean b) = Some (truth b)
atom (integer n) = Some (number (whole_units n))
atom (decimal m) = Some (number m)
atom (text t) = Some (string t)
atom (date d) = Some (day d)
atom (date_time t) = Some (moment t)
atom (array vs) = None
atom (object ms) = None

-- null is less than every other atomic, and no two other classes compare; false is less than true,
-- strings compare by code points, and dates and date-times by time
abbrev pub order : Atom → Atom → Option Ordering
order nothing nothing = Some Equal
order nothing _ = Some Less
order (truth b) nothing = Some Greater
order (truth b) (truth c) = Some (bool_cmp b c)
order (truth b) _ = None
order (number m) nothing = Some Greater
order (number m) (number n) = Some (int_cmp m n)
order (number m) _ = None
order (string t) nothing = Some Greater
order (string t) (string u) = Some (slice_cmp nat_cmp t u)
order (string t) _ = None
order (day d) nothing = Some Greater
order (day d) (day e) = Some (date_cmp d e)
order (day d) _ = None
order (moment t) nothing = Some Greater
order (moment t) (moment u) = Some (date_time_cmp t u)
order (moment t) _ = None

abbrev pub order_if : Option Atom → Option Atom → Option Ordering
order_if None b = None
order_if (Some a) None = None
order_if (Some a) (Some b) = order a b

-- how two values compare, where they do
abbrev pub compare_atoms : Datum → Datum → Option Ordering
compare_atoms v w = order_if (atom v) (atom w)

abbrev pub is_equal : Option Ordering → Bool
is_equal None = false
is_equal (Some Less) = false
is_equal (Some Equal) = true
is_equal (Some Greater) = false

-- both absent, or both present and equal
abbrev pub same_keys : Option Datum → Option Datum → Bool
same_keys None None = true
same_keys None (Some w) = false
same_keys (Some v) None = false
same_keys (Some v) (Some w) = is_equal (compare_atoms v w)

-- whether there is a value that passes the test
abbrev pub passes : (Datum → Bool) → Option Datum → Bool
passes test None = false
passes test (Some w) = test w

-- equal values: numbers by their units, arrays member by member, objects by equal keys with equal
-- values in any order
abbrev mutual
  pub equal : Datum → Datum → Bool
  equal null w = is_equal (compare_atoms null w)
  equal (boolean b) w = is_equal (compare_atoms (boolean b) w)
  equal (integer n) w = is_equal (compare_atoms (integer n) w)
  equal (decimal m) w = is_equal (compare_atoms (decimal m) w)
  equal (text t) w = is_equal (compare_atoms (text t) w)
  equal (date d) w = is_equal (compare_atoms (date d) w)
  equal (date_time t) w = is_equal (compare_atoms (date_time t) w)
  equal (array vs) (array ws) = equal_data vs ws
  equal (array vs) _ = false
  equal (object ms) (object ns) = (length (pairs ms) == length (pairs ns)) && equal_in ms (pairs ns)
  equal (object ms) _ = false

  -- equal values in order
  pub equal_data : Data → Data → Bool
  equal_data no_values no_values = true
  equal_data no_values (value w ws) = false
  equal_data (value v vs) no_values = false
  equal_data (value v vs) (value w ws) = equal v w && equal_data vs ws

  -- each of the members has its key among the pairs, with an equal value
  pub equal_in : Members → List (List ℕ × Datum) → Bool
  equal_in no_members ps = true
  equal_in (member k v ms) ps = passes (λ w. equal v w) (lookup k ps) && equal_in ms ps

-- the same of lists of values
abbrev pub equal_lists : List Datum → List Datum → Bool
equal_lists vs ws = equal_data (values vs) (values ws)
