use Rattle.std.proofs.Common.{◌^◌, sym, subst, Option, ℕ}
use Rattle.order_runs.specs.inside.Follow.{IsPlaced}
use Rattle.order_runs.proofs.ColumnClasses.{clash_placed}
use Rattle.order_runs.proofs.ColumnLists.{within_at, earliest_step, earliest_end}
use Rattle.order_runs.proofs.class_seen.earliest_clash.Goals as goal

pub earlier-best-requires : goal.earlier-best-requires
earlier-best-requires c =
    subst (λ (o : Option ℕ). IsPlaced (2 ^ 60) o) (sym c.clash_after.ensures)
    (clash_placed (2 ^ 60) _ _ (within_at (2 ^ 60) c.args.own.now c.loop-i.i _ c.requires.within c.loop-i-test.true))

pub loop-i-preserved : goal.loop-i-preserved
loop-i-preserved c =
    earliest_step c.args.own.now c.args.before.now c.loop-i.i _ c.loop-i.best c.earlier-best.result _ c.clash_after.result
    c.requires.count c.loop-i-test.true c.clash_after.ensures c.earlier-best.ensures c.loop-i.invariant

pub returns : goal.returns
returns c = earliest_end c.args.own.now c.args.before.now c.loop-i.i c.loop-i.best _ c.requires.count c.loop-i-test.false c.loop-i.invariant
