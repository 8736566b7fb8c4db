-- The classes of atomics.
use Rattle.std.specs.Prelude.{ℕ, ◌==◌, Bool, Option, Some, None}
use Rattle.item_tree.specs.declared.class.Class.{Class}
use Rattle.item_tree.specs.declared.class.Class.TheVariants.{Null, Boolean, Number, Text, Date, DateTime}
use Rattle.item_tree.specs.Datum.{Datum, null, boolean, integer, decimal, text, date, date_time, array, object}

-- integers and decimals are of one class; an array and an object have none
abbrev pub class_of : Datum → Option Class
class_of null = Some Null
class_of (boolean b) = Some Boolean
class_of (integer n) = Some Number
class_of (decimal m) = Some Number
class_of (text t) = Some Text
class_of (date d) = Some Date
class_of (date_time t) = Some DateTime
class_of (array vs) = None
class_of (object ms) = None

-- the classes, numbered
abbrev pub class_number : Class → ℕ
class_number Null = 0
class_number Boolean = 1
class_number Number = 2
class_number Text = 3
class_number Date = 4
class_number DateTime = 5

abbrev pub same_class : Class → Class → Bool
same_class c d = class_number c == class_number d
