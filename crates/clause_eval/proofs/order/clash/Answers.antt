use Rattle.std.proofs.Common.{◌∷◌, [], Ok, sym, ap, ◌∙◌}
use Rattle.tuple_rows.specs.Keys.{key_data}
use Rattle.clause_eval.specs.Ordering.{clashing_column}
use Rattle.clause_eval.proofs.Ordered.{one_clash}
use Rattle.clause_eval.proofs.order.clash.Goals as goal

pub returns : goal.returns
returns c before stands =
    ap (λ o. Ok o) (sym (c.column_of.ensures
    ∙ ap clashing_column (c.clash_after.ensures before (key_data c.args.keys.now ∷ []) stands (c.note.ensures.stands [] c.in_ok-own.ensures.stands))
    ∙ one_clash before (key_data c.args.keys.now)))
