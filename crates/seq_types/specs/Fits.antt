-- Which sequences a type fits.
use Rattle.std.specs.Prelude.{ℕ, Bool, true, false, ◌&&◌, not, ◌==◌, nat_le, List, length}
use Rattle.std.specs.List.{list_all}
use Rattle.item_tree.specs.Datum as value
use Rattle.item_tree.specs.Datum.{Datum}
use Rattle.seq_types.specs.declared.types.SeqType.{SeqType}
use Rattle.seq_types.specs.declared.types.SeqType.TheVariants.{Empty, Of}
use Rattle.seq_types.specs.declared.types.ItemType.{ItemType}
use Rattle.seq_types.specs.declared.types.ItemType.TheVariants.{Item, JsonItem, Object, Array, Atomic, Text, Integer, Decimal, Boolean, Null, Date, DateTime}
use Rattle.seq_types.specs.declared.types.Times.{Times}
use Rattle.seq_types.specs.declared.types.Times.TheVariants.{One, Optional, Any, Many}

-- whether there may be so many items
abbrev pub allows : Times → ℕ → Bool
allows One count = count == 1
allows Optional count = nat_le count 1
allows Any count = true
allows Many count = nat_le 1 count

abbrev pub is_object : Datum → Bool
is_object (value.object ms) = true
is_object _ = false

abbrev pub is_array : Datum → Bool
is_array (value.array vs) = true
is_array _ = false

abbrev pub is_json_item : Datum → Bool
is_json_item (value.object ms) = true
is_json_item (value.array vs) = true
is_json_item _ = false

abbrev pub is_text : Datum → Bool
is_text (value.text t) = true
is_text _ = false

abbrev pub is_integer : Datum → Bool
is_integer (value.integer n) = true
is_integer _ = false

-- an integer is a decimal too
abbrev pub is_decimal : Datum → Bool
is_decimal (value.integer n) = true
is_decimal (value.decimal m) = true
is_decimal _ = false

abbrev pub is_boolean : Datum → Bool
is_boolean (value.boolean b) = true
is_boolean _ = false

abbrev pub is_null : Datum → Bool
is_null value.null = true
is_null _ = false

abbrev pub is_date : Datum → Bool
is_date (value.date d) = true
is_date _ = false

abbrev pub is_date_time : Datum → Bool
is_date_time (value.date_time t) = true
is_date_time _ = false

-- whether the value is of this type
abbrev pub is_of : ItemType → Datum → Bool
is_of Item v = true
is_of JsonItem v = is_json_item v
is_of Object v = is_object v
is_of Array v = is_array v
is_of Atomic v = not (is_json_item v)
is_of Text v = is_text v
is_of Integer v = is_integer v
is_of Decimal v = is_decimal v
is_of Boolean v = is_boolean v
is_of Null v = is_null v
is_of Date v = is_date v
is_of DateTime v = is_date_time v

-- whether the sequence has as many values as the type allows, each of its type
abbrev pub fits : SeqType → List Datum → Bool
fits Empty vs = length vs == 0
fits (Of t times) vs = allows times (length vs) && list_all (is_of t) vs
