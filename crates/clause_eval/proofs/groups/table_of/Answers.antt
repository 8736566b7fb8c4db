use Rattle.std.proofs.Common.{sym, ◌∙◌, arith}
use Rattle.std.proofs.lemmas.Grind.{common_steps}
use Rattle.clause_eval.proofs.Ranges.{drop_next}
use Rattle.clause_eval.proofs.Tables.{table_next}
use Rattle.clause_eval.proofs.groups.table_of.Goals as goal

pub loop-entry-preserved : goal.loop-entry-preserved
loop-entry-preserved c =
    let before = c.loop-entry.invariant in
    let step = c.in-Some.ensures.steps in
    let here = sym before.0 ∙ step.0 in (
      sym (drop_next c.args.entries.items c.loop-entry.position _ _ here),
      table_next c.args.count c.args.entries.items c.loop-entry.position _ _ _ _ here before.1 c.in_ok-table-2.ensures.shape c.in_ok-table-2.ensures.stands c.in_ok-table-2.ensures.frames,
      grind (arith, common_steps),
      grind (arith, common_steps),
      grind (arith, common_steps),
    )
