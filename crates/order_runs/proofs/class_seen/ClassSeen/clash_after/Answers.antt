use Rattle.std.proofs.Common.{◌^◌, ◌<◌, ◌∙◌, None, List, sym, ap, subst, arith}
use Rattle.order_runs.specs.declared.column_seen.ColumnSeen.{ColumnSeen}
use Rattle.order_runs.specs.Seen.{Seen}
use Rattle.order_runs.specs.inside.Follow.{AllWithin, clash_list}
use Rattle.order_runs.specs.inside.Columns.{earliest}
use Rattle.order_runs.proofs.ColumnLists.{all_more, clash_told}
use Rattle.order_runs.proofs.class_seen.ClassSeen.clash_after.Goals as goal

pub earliest_clash-requires-clause-within : goal.earliest_clash-requires-clause-within
earliest_clash-requires-clause-within c =
    let most : c.self.inside.tuples < 2 ^ 60 = c.self.invariant.most_tuples in
    subst (λ (cs : List ColumnSeen). AllWithin (2 ^ 60) cs) (sym c.as_slice.ensures.value)
    (all_more c.self.inside.tuples (2 ^ 60) c.self.inside.columns.items (omega arith) c.self.invariant.within)

pub returns : goal.returns
returns c = λ B K a b.
    c.earliest_clash.ensures
    ∙ (λ i. earliest None 0 (clash_list ((c.as_slice.ensures.value ∙ ap (λ (s : Seen). s.columns) c.self.view_is) i)
    ((c.as_slice-2.ensures.value ∙ ap (λ (s : Seen). s.columns) c.before-2.view_is) i)))
    ∙ clash_told c.args.self.now c.args.before.now B K c.requires a b
