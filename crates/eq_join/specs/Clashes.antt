-- Keys that cannot be compared with each other.
use Rattle.std.specs.Prelude.{ℕ, suc, [], ◌∷◌, Option, Some, None}
use Rattle.item_tree.specs.declared.code.Code.{Code}
use Rattle.item_tree.specs.declared.code.Code.TheVariants.{XPTY0004, JNTY0004}
use Rattle.item_tree.specs.declared.class.Class.{Class}
use Rattle.item_tree.specs.declared.class.Class.TheVariants.{Null, Boolean, Number, Text, Date, DateTime}
use Rattle.item_tree.specs.Classes.{class_of}
use Rattle.tuple_rows.specs.Keys.{KeyList}
use Rattle.eq_join.specs.declared.pair_fault.PairFault.{PairFault}

-- the error of two classes that differ, where neither is null
abbrev pub class_clash : Class → Class → Option Code
class_clash Null d = None
class_clash Boolean Null = None
class_clash Boolean Boolean = None
class_clash Boolean _ = Some XPTY0004
class_clash Number Null = None
class_clash Number Number = None
class_clash Number _ = Some XPTY0004
class_clash Text Null = None
class_clash Text Text = None
class_clash Text _ = Some XPTY0004
class_clash Date Null = None
class_clash Date Date = None
class_clash Date _ = Some XPTY0004
class_clash DateTime Null = None
class_clash DateTime DateTime = None
class_clash DateTime _ = Some XPTY0004

-- the error of comparing two items of these classes; an array or object has none
abbrev pub clash : Option Class → Option Class → Option Code
clash None d = Some JNTY0004
clash (Some c) None = Some JNTY0004
clash (Some c) (Some d) = class_clash c d

abbrev pub clash_at : Option Code → ℕ → Option PairFault
clash_at None at = None
clash_at (Some e) at = Some (record { code = e; at = at })

-- the first one where there is one, and else the second
abbrev pub earlier : Option PairFault → Option PairFault → Option PairFault
earlier None g = g
earlier (Some f) g = Some f

-- the first key, from this position on, that a key of this class cannot be compared with
abbrev pub first_clash : Option Class → ℕ → KeyList → Option PairFault
first_clash c at [] = None
first_clash c at (None ∷ ls) = first_clash c (suc at) ls
first_clash c at (Some w ∷ ls) =
    earlier (clash_at (clash c (class_of w)) at) (first_clash c (suc at) ls)
