-- Items with an equal integer in place of each decimal whose value is whole, and a string in place
-- of each date and date-time.
use Rattle.std.specs.Prelude.{◌/◌, ◌%◌, ◌==◌, ℤ, unsigned_abs, if◌then◌else◌}
use Rattle.num_fixed.specs.Signs.{with_sign, is_negative}
use Rattle.item_tree.specs.Dates.{date_text, date_time_text}
use Rattle.item_tree.specs.Datum.{Datum, null, boolean, integer, decimal, text, date, date_time, array, object, Data, no_values, value, Members, no_members, member}

-- of a number of units of 10^-6
abbrev pub plain_decimal : ℤ → Datum
plain_decimal m =
    if unsigned_abs m % 1000000 == 0
    then integer (with_sign (is_negative m) (unsigned_abs m / 1000000)) else decimal m

abbrev mutual
  pub plain : Datum → Datum
  plain null = null
  plain (boolean b) = boolean b
  plain (integer n) = integer n
  plain (decimal m) = plain_decimal m
  plain (text t) = text t
  plain (date d) = text (date_text d)
  plain (date_time t) = text (date_time_text t)
  plain (array vs) = array (plain_values vs)
  plain (object ms) = object (plain_members ms)

  pub plain_values : Data → Data
  plain_values no_values = no_values
  plain_values (value v vs) = value (plain v) (plain_values vs)

  pub plain_members : Members → Members
  plain_members no_members = no_members
  plain_members (member k v ms) = member k (plain v) (plain_members ms)
