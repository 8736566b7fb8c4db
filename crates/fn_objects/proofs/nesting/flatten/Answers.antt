use Rattle.std.proofs.Common.{◌∙◌, ◌++◌, sym, ap, Ok}
use Rattle.item_tree.specs.Datum.{values}
use Rattle.item_tree.specs.Item.{datums}
use Rattle.value_rules.specs.Objects.{flat_data}
use Rattle.fn_objects.proofs.NestingLemmas.{flat_values}
use Rattle.fn_objects.proofs.nesting.flatten.Goals as goal

pub returns-clause-value : goal.returns-clause-value
returns-clause-value c =
    let vs = datums c.args.s.now in
    ap Ok (sym (c.in_ok-flatten_items.ensures ∙ ap (λ xs. datums xs ++ flat_data (values vs)) c.new-found.ensures.items ∙ flat_values vs))
