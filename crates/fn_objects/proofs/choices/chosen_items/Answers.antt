use Rattle.value_rules.specs.Objects.{with_keys}
use Rattle.fn_objects.specs.inside.KeySets.{has}
use Rattle.fn_objects.specs.inside.Choices.{chosen}
use Rattle.fn_objects.proofs.ListLemmas.{mapped_more}
use Rattle.fn_objects.proofs.choices.chosen_items.Goals as goal

pub loop-x-preserved : goal.loop-x-preserved
loop-x-preserved c =
    mapped_more (with_keys (λ k. chosen c.args.choice (has c.args.names.now k))) c.args.s.now c.loop-x.x-index c.x-item.result c.loop-x.items.items c.push.new.self.items c.in_ok-chosen_item.field-0 c.loop-x-test.true c.x-item.is c.loop-x.invariant c.in_ok-push.ensures.items c.in_ok-chosen_item.ensures
