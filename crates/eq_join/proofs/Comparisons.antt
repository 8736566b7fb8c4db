-- Comparisons of keys, by the classes of their items.
use Rattle.std.proofs.Common.{◌≡◌, Bool, Option, Some, None, Result, Ok, Err, option_map, refl, sym, ap, ◌∙◌}
use Rattle.std.specs.Ordering.{ordering_reverse, int_cmp, bool_cmp, nat_cmp}
use Rattle.std.specs.Cmp.Lexicographic.{slice_cmp}
use Rattle.std.specs.declared.cmp.Ordering.{Ordering}
use Rattle.std.specs.declared.cmp.Ordering.TheVariants.{Less, Equal, Greater}
use Rattle.item_tree.specs.declared.code.Code.{Code}
use Rattle.item_tree.specs.declared.class.Class.{Class}
use Rattle.item_tree.specs.declared.class.Class.TheVariants.{Null, Boolean, Number, Text, Date, DateTime}
use Rattle.item_tree.specs.Datum.{Datum, null, boolean, integer, decimal, text, date, date_time, array, object}
use Rattle.item_tree.specs.Dates.{date_cmp, date_time_cmp}
use Rattle.item_tree.specs.Classes.{class_of}
use Rattle.item_tree.specs.Compare.{whole_units, compare_atoms, is_equal}
use Rattle.item_tree.proofs.AtomOrder.{atomics_ordered}
use Rattle.atom_ops.specs.declared.comparison.Cmp.TheVariants.{Eq}
use Rattle.atom_ops.specs.Comparison.{holds}
use Rattle.eq_join.specs.Pairs.{key_comparison}
use Rattle.eq_join.specs.Clashes.{class_clash, clash}
use Rattle.eq_join.specs.Laws.{OperandsTurnRound}

holds_equal : (o : Ordering) → holds Eq o ≡ is_equal (Some o)
holds_equal Less = refl
holds_equal Equal = refl
holds_equal Greater = refl

-- an error, or whether two items are equal
abbrev pub outcome : Option Code → Bool → Result (Option Bool) Code
outcome None b = Ok (Some b)
outcome (Some e) b = Err e

by_order : (o : Ordering) → outcome None (holds Eq o) ≡ outcome None (is_equal (Some o))
by_order o = ap (outcome None) (holds_equal o)

pub item_comparison : (v w : Datum)
    → key_comparison (Some v) (Some w) ≡ outcome (clash (class_of v) (class_of w)) (is_equal (compare_atoms v w))
item_comparison (array vs) w = refl
item_comparison (object ms) w = refl
item_comparison null (array ws) = refl
item_comparison null _ = refl
item_comparison (boolean b) (boolean c) = by_order (bool_cmp b c)
item_comparison (boolean b) _ = refl
item_comparison (integer n) (integer m) = by_order (int_cmp (whole_units n) (whole_units m))
item_comparison (integer n) (decimal m) = by_order (int_cmp (whole_units n) m)
item_comparison (integer n) _ = refl
item_comparison (decimal n) (integer m) = by_order (int_cmp n (whole_units m))
item_comparison (decimal n) (decimal m) = by_order (int_cmp n m)
item_comparison (decimal n) _ = refl
item_comparison (text t) (text u) = by_order (slice_cmp nat_cmp t u)
item_comparison (text t) _ = refl
item_comparison (date d) (date e) = by_order (date_cmp d e)
item_comparison (date d) _ = refl
item_comparison (date_time t) (date_time u) = by_order (date_time_cmp t u)
item_comparison (date_time t) _ = refl

class_turns : (c d : Class) → class_clash c d ≡ class_clash d c
class_turns Null Null = refl
class_turns Null _ = refl
class_turns Boolean Null = refl
class_turns Boolean _ = refl
class_turns Number Null = refl
class_turns Number _ = refl
class_turns Text Null = refl
class_turns Text _ = refl
class_turns Date Null = refl
class_turns Date _ = refl
class_turns DateTime Null = refl
class_turns DateTime _ = refl

clash_turns : (c d : Option Class) → clash c d ≡ clash d c
clash_turns None None = refl
clash_turns None (Some d) = refl
clash_turns (Some c) None = refl
clash_turns (Some c) (Some d) = class_turns c d

equal_back : (o : Option Ordering) → is_equal (option_map ordering_reverse o) ≡ is_equal o
equal_back None = refl
equal_back (Some Less) = refl
equal_back (Some Equal) = refl
equal_back (Some Greater) = refl

equal_turns : (v w : Datum) → is_equal (compare_atoms v w) ≡ is_equal (compare_atoms w v)
equal_turns v w = sym (ap is_equal (atomics_ordered.reversed v w) ∙ equal_back (compare_atoms v w))

pub operands_turn_round : OperandsTurnRound
operands_turn_round None None = refl
operands_turn_round None (Some w) = refl
operands_turn_round (Some v) None = refl
operands_turn_round (Some v) (Some w) =
    item_comparison v w
    ∙ (λ i. outcome (clash_turns (class_of v) (class_of w) i) (equal_turns v w i))
    ∙ sym (item_comparison w v)
