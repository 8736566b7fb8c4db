use Rattle.std.proofs.Common.{Ok, sym, ap, ◌∙◌}
use Rattle.clause_eval.specs.Frames.{keyed_list}
use Rattle.clause_eval.proofs.Ordered.{entries_ordered}
use Rattle.clause_eval.proofs.sorting.sorted_entries.Goals as goal

pub returns : goal.returns
returns c =
    ap (λ X. Ok X) (sym (ap keyed_list c.in_ok-sort_keyed.ensures ∙ entries_ordered c.args.columns.now c.args.entries.items))
