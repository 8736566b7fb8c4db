use Rattle.std.proofs.Common.{◌∙◌, ◌++◌, sym, ap, Ok}
use Rattle.std.specs.List.{filter}
use Rattle.item_tree.specs.Datum.{values}
use Rattle.item_tree.specs.Item.{datums}
use Rattle.value_rules.specs.Objects.{is_object, parts_of_data}
use Rattle.fn_objects.proofs.NestingLemmas.{parts_values}
use Rattle.fn_objects.proofs.nesting.descendant_objects.Goals as goal

pub returns-clause-value : goal.returns-clause-value
returns-clause-value c =
    let vs = datums c.args.s.now in
    ap Ok (sym (c.in_ok-find_in_items.ensures ∙ ap (λ xs. datums xs ++ filter is_object (parts_of_data (values vs))) c.new-found.ensures.items ∙ ap (filter is_object) (parts_values vs)))
