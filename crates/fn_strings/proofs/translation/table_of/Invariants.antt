use Rattle.std.proofs.Common.{◌≡◌, ℕ, drop, length, option_map}
use Rattle.std.specs.BTreeMap.{get}
use Rattle.std.specs.Option.{option_to_list}
use Rattle.std.specs.Ordering.{nat_cmp}
use Rattle.std.specs.Str.{chars, IsUtf8}
use Rattle.std.specs.Str.Iter.{chars_rest}
use Rattle.value_rules.specs.Strings.{replacement}
use Rattle.fn_strings.proofs.translation.table_of.Given as goal

abbrev pub invariant-loop-c : goal.invariant-loop-c
invariant-loop-c l = record {
  table : (q : ℕ) → option_map option_to_list (get nat_cmp l.table q) ≡ replacement l.yielded (chars l.images) q;
  text : IsUtf8 (chars_rest l.rest);
  rest : chars (chars_rest l.rest) ≡ drop (length l.yielded) (chars l.images);
}
