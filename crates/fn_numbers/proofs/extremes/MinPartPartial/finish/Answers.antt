use Rattle.std.proofs.Common.{◌∙◌, sym, subst}
use Rattle.value_rules.specs.Numbers.{is_less}
use Rattle.value_rules.specs.Operands.{FailsWith}
use Rattle.fn_numbers.proofs.BestLemmas.{keeps_value, map_ok, map_err}
use Rattle.fn_numbers.proofs.extremes.MinPartPartial.finish.Goals as goal

pub returns-clause-value : goal.returns-clause-value
returns-clause-value c = map_ok c.finish.result (λ xs e vs h. sym (keeps_value is_less _ _ vs h) ∙ e) c.finish.ensures.value

pub returns-clause-fault : goal.returns-clause-fault
returns-clause-fault c = map_err c.finish.result (λ e f vs h. subst (λ r. FailsWith r e) (keeps_value is_less _ _ vs h) f) c.finish.ensures.fault
