use Rattle.std.proofs.Common.{◌≡◌, ◌∙◌, ap, sym, if◌then◌else◌}
use Rattle.num_fixed.specs.declared.number.Kind.TheVariants.{Whole, Units}
use Rattle.fn_numbers.proofs.TallyLemmas.{told_total}
use Rattle.fn_numbers.proofs.tallies.sum_of.Goals as goal
use Rattle.fn_numbers.proofs.tallies.sum_of.Goals.{then-is_whole, else-is_whole}

pub returns-clause-value : goal.returns-clause-value
returns-clause-value c = λ xs h.
    let t = c.args.sum.now in
    let kind : c.if-is_whole.kind ≡ (if t.whole then Whole else Units) =
    elim c.if-is_whole.branch [
      | then-is_whole w ↦ w.kind-is ∙ sym (ap (λ b. if b then Whole else Units) (sym c.is_whole.ensures ∙ w.if-is_whole.true))
      | else-is_whole w ↦ w.kind-is ∙ sym (ap (λ b. if b then Whole else Units) (sym c.is_whole.ensures ∙ w.if-is_whole.false))
    ] in
    c.told.ensures ∙ told_total xs t c.if-is_whole.kind c.value.result h kind c.value.ensures.value c.value.ensures.overflow
