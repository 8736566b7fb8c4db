-- What is noted of the keys that clash.
use Rattle.std.specs.Prelude.{◌≡◌, Option, Some, None}
use Rattle.item_tree.specs.declared.class.Class.{Class}
use Rattle.item_tree.specs.declared.class.Class.TheVariants.{Null, Boolean, Number, Text, Date, DateTime}
use Rattle.tuple_rows.specs.Keys.{KeyList}
use Rattle.eq_join.specs.declared.pair_fault.PairFault.{PairFault}
use Rattle.eq_join.specs.declared.clashes.Clashes.{Clashes}
use Rattle.eq_join.specs.Clashes.{first_clash}

-- what is noted for the keys of a class; an array or object has none
abbrev pub noted : Clashes → Option Class → Option PairFault
noted s None = s.no_atomic
noted s (Some Null) = s.null
noted s (Some Boolean) = s.boolean
noted s (Some Number) = s.number
noted s (Some Text) = s.text
noted s (Some Date) = s.date
noted s (Some DateTime) = s.date_time

-- for each class the first key is noted that its keys cannot be compared with
abbrev pub AreClashes : Clashes → KeyList → Type 0
AreClashes s ls = (c : Option Class) → noted s c ≡ first_clash c 0 ls
