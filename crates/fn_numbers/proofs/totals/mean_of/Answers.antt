use Rattle.std.proofs.Common.{◌∙◌, [], ◌∷◌, ap, sym, Ok, arith, FitsSigned}
use Rattle.std.specs.Int.{w128}
use Rattle.std.proofs.lemmas.Int.{ints, to_z-of_z}
use Rattle.item_tree.specs.Datum.{decimal}
use Rattle.fn_numbers.specs.inside.Tallies.{tally_kept}
use Rattle.fn_numbers.proofs.TallyLemmas.{mean_kept}
use Rattle.fn_numbers.proofs.totals.mean_of.Goals as goal

pub returns-in_ok-one_item-in-Ok-clause-value : goal.returns-in_ok-one_item-in-Ok-clause-value
returns-in_ok-one_item-in-Ok-clause-value c = λ vs h.
    let m = c.in-Ok.m in
    let mean = c.in-Ok.ensures.value in
    let fits : FitsSigned w128 m = omega (arith, ints, mean.1.0, mean.1.1) in
    let made = c.in_ok-one_item-in-Ok.ensures ∙ ap (λ n. decimal n ∷ []) (c.new.ensures ∙ to_z-of_z w128 m fits) in
    mean_kept vs c.in-Numbers.total m (ap tally_kept (sym c.in-Numbers.is) ∙ h) mean.0 ∙ ap Ok (sym made)
