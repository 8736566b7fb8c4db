-- What is looked for inside of items.
use Rattle.std.specs.Prelude.{Bool}
use Rattle.item_tree.specs.Datum.{Datum}
use Rattle.value_rules.specs.Objects.{is_object, is_array}
use Rattle.fn_objects.specs.declared.nesting.Wanted.{Wanted}
use Rattle.fn_objects.specs.declared.nesting.Wanted.TheVariants.{Objects, Arrays}

abbrev pub is_wanted : Wanted → Datum → Bool
is_wanted Objects v = is_object v
is_wanted Arrays v = is_array v
