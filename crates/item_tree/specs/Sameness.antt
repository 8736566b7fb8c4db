-- Whether two values are the same. An integer and a decimal never are, nor are two objects whose
-- pairs stand in different orders.
use Rattle.std.specs.Prelude.{◌&&◌, Bool, true, false}
use Rattle.std.specs.Ordering.{int_eq, is_eq}
use Rattle.std.specs.Str.{bytes_eq}
use Rattle.item_tree.specs.Dates.{date_cmp, date_time_cmp}
use Rattle.item_tree.specs.Datum.{Datum, null, boolean, integer, decimal, text, date, date_time, array, object, Data, no_values, value, Members, no_members, member}

abbrev pub bool_same : Bool → Bool → Bool
bool_same true c = c
bool_same false true = false
bool_same false false = true

abbrev mutual
  pub same : Datum → Datum → Bool
  same null null = true
  same null _ = false
  same (boolean b) (boolean c) = bool_same b c
  same (boolean b) _ = false
  same (integer m) (integer n) = int_eq m n
  same (integer m) _ = false
  same (decimal m) (decimal n) = int_eq m n
  same (decimal m) _ = false
  same (text t) (text u) = bytes_eq t u
  same (text t) _ = false
  same (date d) (date e) = is_eq (date_cmp d e)
  same (date d) _ = false
  same (date_time x) (date_time y) = is_eq (date_time_cmp x y)
  same (date_time x) _ = false
  same (array vs) (array ws) = same_data vs ws
  same (array vs) _ = false
  same (object ms) (object ns) = same_members ms ns
  same (object ms) _ = false

  pub same_data : Data → Data → Bool
  same_data no_values no_values = true
  same_data no_values (value w ws) = false
  same_data (value v vs) no_values = false
  same_data (value v vs) (value w ws) = same v w && same_data vs ws

  pub same_members : Members → Members → Bool
  same_members no_members no_members = true
  same_members no_members (member l w ns) = false
  same_members (member k v ms) no_members = false
  same_members (member k v ms) (member l w ns) = bytes_eq k l && (same v w && same_members ms ns)
