use Rattle.std.proofs.Common.{◌∙◌, rules, ap}
use Rattle.value_rules.specs.Objects.{gathered}
use Rattle.fn_objects.specs.inside.Groups.{values_in}
use Rattle.fn_objects.proofs.GroupLemmas.{deep_further, pairs_more}
use Rattle.fn_objects.proofs.gathering.Groups.pairs.Goals as goal

pub returns-in_err-value-clause-fault : goal.returns-in_err-value-clause-fault
returns-in_err-value-clause-fault c =
    let same = c.deref-key-items.ensures.value in
    let deep = deep_further c.args.self.now c.loop-key.key-index c.key-item.result c.in_err-value.field-0.0 (rw same at c.loop-key-test.true) (rw same at c.key-item.is) (rw c.values_of.ensures at c.in_err-value.ensures.fault) in
    search (rules, deep)

pub loop-key-preserved : goal.loop-key-preserved
loop-key-preserved c =
    let same = c.deref-key-items.ensures.value in
    pairs_more (λ k. gathered (values_in c.args.self.now k)) c.args.self.now.keys.items c.loop-key.key-index c.key-item.result c.in_ok-copy.field-0 c.in_ok-value.value c.loop-key.pairs.items c.push.new.self.items (rw same at c.loop-key-test.true) (rw same at c.key-item.is) c.loop-key.invariant c.in_ok-push.ensures.items c.in_ok-copy.ensures (c.in_ok-value.ensures.value ∙ ap gathered c.values_of.ensures)
