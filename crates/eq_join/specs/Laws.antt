-- Laws of pairs.
use Rattle.std.specs.Prelude.{◌≡◌, Option}
use Rattle.item_tree.specs.Datum.{Datum}
use Rattle.eq_join.specs.Pairs.{key_comparison}

-- it does not matter which of two keys stands on the left
abbrev pub OperandsTurnRound : Type 0
OperandsTurnRound = (k l : Option Datum) → key_comparison k l ≡ key_comparison l k
