use Rattle.std.proofs.Common.{rules, sym, subst}
use Rattle.std.proofs.lemmas.List.Elements.{All-more}
use Rattle.item_tree.specs.Datum.{IsAtomic}
use Rattle.item_tree.specs.Item.{datum}
use Rattle.value_rules.proofs.EachLemmas.{atomics_more, atomics_stop, atomic_is}
use Rattle.fn_sequences.proofs.sameness.check_atomics.Goals as goal

pub returns-in_err-atomic-clause-value : goal.returns-in_err-atomic-clause-value
returns-in_err-atomic-clause-value c =
    let stop = atomics_stop c.args.s.now c.loop-x.x-index c.x-item.result c.in_err-atomic.field-0.0 c.loop-x-test.true c.x-item.is c.loop-x.invariant.passed c.in_err-atomic.ensures.value in
    search (rules, stop)

pub loop-x-preserved : goal.loop-x-preserved
loop-x-preserved c =
    let same = atomic_is (datum c.x-item.result) (datum c.in_ok-atomic.field-0.now) c.in_ok-atomic.ensures.value in record {
      passed = atomics_more c.args.s.now c.loop-x.x-index c.x-item.result (datum c.in_ok-atomic.field-0.now) c.loop-x-test.true c.x-item.is c.loop-x.invariant.passed c.in_ok-atomic.ensures.value;
      atomics = All-more (λ x. IsAtomic (datum x)) c.args.s.now c.loop-x.x-index c.x-item.result c.loop-x-test.true c.loop-x.invariant.atomics (subst (λ x. IsAtomic (datum x)) c.x-item.is (subst IsAtomic (sym same) c.in_ok-atomic.ensures.atomic));
    }
