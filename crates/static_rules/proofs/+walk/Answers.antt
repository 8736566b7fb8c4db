use Rattle.std.proofs.Common.{◌≡◌, IfOk, OnOk, sym, subst, ◌∙◌}
use Rattle.static_rules.specs.Mentions.{group_vars_mentions}
use Rattle.query_tree.specs.Binders.{group_vars_binders}
use Rattle.static_rules.specs.Compiling.{compiled_form, compiled_group_vars, after_keys}
use Rattle.query_tree.specs.NamedViews.{named_tree, named_type_cases, named_binds, named_clauses, named_group_vars}
use Rattle.query_tree.specs.BoundViews.{bound_form, bound_group_vars}
use Rattle.static_rules.specs.Sources.{behind_form}
use Rattle.static_rules.specs.Walks.{view_of}
use Rattle.static_rules.specs.Openings.{entered}
use Rattle.static_rules.specs.Behind.{stream_of, behind_clauses}
use Rattle.static_rules.proofs.Parts.{operands-begun, operands-more, operands-tree, operands-walk, OperandsLeft, terms-begun, terms-more, terms-tree, terms-walk, TermsLeft, factors-begun, factors-more, factors-tree, factors-walk, FactorsLeft, trees-begun, trees-more, trees-tree, trees-walk, TreesLeft, cases-begun, cases-more, cases-tree, cases-walk, CasesLeft, pairs-begun, pairs-more, pairs-tree, pairs-walk, PairsLeft, steps-begun, steps-more, steps-tree, steps-walk, StepsLeft, catches-begun, catches-more, catches-tree, catches-walk, CatchesLeft, type_cases-begun, type_cases-more, type_cases-tree, type_cases-walk, TypeCasesLeft, order_keys-begun, order_keys-more, order_keys-tree, order_keys-walk, OrderKeysLeft}
use Rattle.static_rules.proofs.Binds.{binds-begun, binds-more, binds-tree, binds-walk, BindsLeft}
use Rattle.static_rules.proofs.ClauseLoops.{clauses-begun, clauses-more, clauses-tree, clauses-walk, ClausesLeft}
use Rattle.static_rules.proofs.KeyLoops.{keys-begun, keys-more, keys-tree, keys-walk, KeysLeft}
use Rattle.static_rules.proofs.Switches.{switch-lent, typeswitch-lent, quant-lent}
use Rattle.static_rules.proofs.Made.{of-made, on-made}
use Rattle.static_rules.proofs.Typeswitches.{typeswitch-walk}
use Rattle.static_rules.proofs.Quantified.{quantified-walk}
use Rattle.static_rules.proofs.Flwors.{flwor-walk, no-more, below-here}
use Rattle.static_rules.proofs.+walk.Goals as goal

pub operators::operands-loop-part-init : goal.operators::operands-loop-part-init
operators::operands-loop-part-init t c = subst (λ out. OperandsLeft c.args.item c.args.walk.now c.args.parts.now c.args.walk.now out c.args.parts.now) (sym c.new-out.ensures.items) (operands-begun _ _ _)

pub operators::operands-loop-part-preserved : goal.operators::operands-loop-part-preserved
operators::operands-loop-part-preserved t c = operands-more _ _ _ _ _ _ _ _ _ _ c.loop-part.invariant c.loop-part-test.true c.part-item.is c.operand.ensures.tree c.operand.ensures.walk c.in_ok-out.ensures

pub operators::operands-returns-clause-tree : goal.operators::operands-returns-clause-tree
operators::operands-returns-clause-tree t c = operands-tree _ _ _ _ _ _ c.loop-part.invariant c.loop-part-test.false

pub operators::operands-returns-clause-walk : goal.operators::operands-returns-clause-walk
operators::operands-returns-clause-walk t c = operands-walk _ _ _ _ _ _ c.loop-part.invariant c.loop-part-test.false

pub operators::terms-loop-part-init : goal.operators::terms-loop-part-init
operators::terms-loop-part-init t c = subst (λ out. TermsLeft c.args.item c.args.walk.now c.args.parts.now c.args.walk.now out c.args.parts.now) (sym c.new-out.ensures.items) (terms-begun _ _ _)

pub operators::terms-loop-part-preserved : goal.operators::terms-loop-part-preserved
operators::terms-loop-part-preserved t c = terms-more _ _ _ _ _ _ _ _ _ _ c.loop-part.invariant c.loop-part-test.true c.part-item.is c.term.ensures.tree c.term.ensures.walk c.in_ok-out.ensures

pub operators::terms-returns-clause-tree : goal.operators::terms-returns-clause-tree
operators::terms-returns-clause-tree t c = terms-tree _ _ _ _ _ _ c.loop-part.invariant c.loop-part-test.false

pub operators::terms-returns-clause-walk : goal.operators::terms-returns-clause-walk
operators::terms-returns-clause-walk t c = terms-walk _ _ _ _ _ _ c.loop-part.invariant c.loop-part-test.false

pub operators::factors-loop-part-init : goal.operators::factors-loop-part-init
operators::factors-loop-part-init t c = subst (λ out. FactorsLeft c.args.item c.args.walk.now c.args.parts.now c.args.walk.now out c.args.parts.now) (sym c.new-out.ensures.items) (factors-begun _ _ _)

pub operators::factors-loop-part-preserved : goal.operators::factors-loop-part-preserved
operators::factors-loop-part-preserved t c = factors-more _ _ _ _ _ _ _ _ _ _ c.loop-part.invariant c.loop-part-test.true c.part-item.is c.factor.ensures.tree c.factor.ensures.walk c.in_ok-out.ensures

pub operators::factors-returns-clause-tree : goal.operators::factors-returns-clause-tree
operators::factors-returns-clause-tree t c = factors-tree _ _ _ _ _ _ c.loop-part.invariant c.loop-part-test.false

pub operators::factors-returns-clause-walk : goal.operators::factors-returns-clause-walk
operators::factors-returns-clause-walk t c = factors-walk _ _ _ _ _ _ c.loop-part.invariant c.loop-part-test.false

pub primaries::trees-loop-part-init : goal.primaries::trees-loop-part-init
primaries::trees-loop-part-init t c = subst (λ out. TreesLeft c.args.item c.args.walk.now c.args.parts.now c.args.walk.now out c.args.parts.now) (sym c.new-out.ensures.items) (trees-begun _ _ _)

pub primaries::trees-loop-part-preserved : goal.primaries::trees-loop-part-preserved
primaries::trees-loop-part-preserved t c = trees-more _ _ _ _ _ _ _ _ _ _ c.loop-part.invariant c.loop-part-test.true c.part-item.is c.expr.ensures.tree c.expr.ensures.walk c.in_ok-out.ensures

pub primaries::trees-returns-clause-tree : goal.primaries::trees-returns-clause-tree
primaries::trees-returns-clause-tree t c = trees-tree _ _ _ _ _ _ c.loop-part.invariant c.loop-part-test.false

pub primaries::trees-returns-clause-walk : goal.primaries::trees-returns-clause-walk
primaries::trees-returns-clause-walk t c = trees-walk _ _ _ _ _ _ c.loop-part.invariant c.loop-part-test.false

pub choices::cases-loop-part-init : goal.choices::cases-loop-part-init
choices::cases-loop-part-init t c = subst (λ out. CasesLeft c.args.item c.args.walk.now c.args.parts.now c.args.walk.now out c.args.parts.now) (sym c.new-out.ensures.items) (cases-begun _ _ _)

pub choices::cases-loop-part-preserved : goal.choices::cases-loop-part-preserved
choices::cases-loop-part-preserved t c = cases-more _ _ _ _ _ _ _ _ _ _ c.loop-part.invariant c.loop-part-test.true c.part-item.is c.case.ensures.tree c.case.ensures.walk c.in_ok-out.ensures

pub choices::cases-returns-clause-tree : goal.choices::cases-returns-clause-tree
choices::cases-returns-clause-tree t c = cases-tree _ _ _ _ _ _ c.loop-part.invariant c.loop-part-test.false

pub choices::cases-returns-clause-walk : goal.choices::cases-returns-clause-walk
choices::cases-returns-clause-walk t c = cases-walk _ _ _ _ _ _ c.loop-part.invariant c.loop-part-test.false

pub primaries::pairs-loop-part-init : goal.primaries::pairs-loop-part-init
primaries::pairs-loop-part-init t c = subst (λ out. PairsLeft c.args.item c.args.walk.now c.args.parts.now c.args.walk.now out c.args.parts.now) (sym c.new-out.ensures.items) (pairs-begun _ _ _)

pub primaries::pairs-loop-part-preserved : goal.primaries::pairs-loop-part-preserved
primaries::pairs-loop-part-preserved t c = pairs-more _ _ _ _ _ _ _ _ _ _ c.loop-part.invariant c.loop-part-test.true c.part-item.is c.pair.ensures.tree c.pair.ensures.walk c.in_ok-out.ensures

pub primaries::pairs-returns-clause-tree : goal.primaries::pairs-returns-clause-tree
primaries::pairs-returns-clause-tree t c = pairs-tree _ _ _ _ _ _ c.loop-part.invariant c.loop-part-test.false

pub primaries::pairs-returns-clause-walk : goal.primaries::pairs-returns-clause-walk
primaries::pairs-returns-clause-walk t c = pairs-walk _ _ _ _ _ _ c.loop-part.invariant c.loop-part-test.false

pub steps::steps-loop-part-init : goal.steps::steps-loop-part-init
steps::steps-loop-part-init t c = subst (λ out. StepsLeft c.args.item c.args.walk.now c.args.parts.now c.args.walk.now out c.args.parts.now) (sym c.new-out.ensures.items) (steps-begun _ _ _)

pub steps::steps-loop-part-preserved : goal.steps::steps-loop-part-preserved
steps::steps-loop-part-preserved t c = steps-more _ _ _ _ _ _ _ _ _ _ c.loop-part.invariant c.loop-part-test.true c.part-item.is c.step.ensures.tree c.step.ensures.walk c.in_ok-out.ensures

pub steps::steps-returns-clause-tree : goal.steps::steps-returns-clause-tree
steps::steps-returns-clause-tree t c = steps-tree _ _ _ _ _ _ c.loop-part.invariant c.loop-part-test.false

pub steps::steps-returns-clause-walk : goal.steps::steps-returns-clause-walk
steps::steps-returns-clause-walk t c = steps-walk _ _ _ _ _ _ c.loop-part.invariant c.loop-part-test.false

pub choices::catches-loop-part-init : goal.choices::catches-loop-part-init
choices::catches-loop-part-init t c = subst (λ out. CatchesLeft c.args.item c.args.walk.now c.args.parts.now c.args.walk.now out c.args.parts.now) (sym c.new-out.ensures.items) (catches-begun _ _ _)

pub choices::catches-loop-part-preserved : goal.choices::catches-loop-part-preserved
choices::catches-loop-part-preserved t c = catches-more _ _ _ _ _ _ _ _ _ _ c.loop-part.invariant c.loop-part-test.true c.part-item.is c.catch.ensures.tree c.catch.ensures.walk c.in_ok-out.ensures

pub choices::catches-returns-clause-tree : goal.choices::catches-returns-clause-tree
choices::catches-returns-clause-tree t c = catches-tree _ _ _ _ _ _ c.loop-part.invariant c.loop-part-test.false

pub choices::catches-returns-clause-walk : goal.choices::catches-returns-clause-walk
choices::catches-returns-clause-walk t c = catches-walk _ _ _ _ _ _ c.loop-part.invariant c.loop-part-test.false

pub choices::type_cases-loop-part-init : goal.choices::type_cases-loop-part-init
choices::type_cases-loop-part-init t c = subst (λ out. TypeCasesLeft c.args.item c.args.walk.now c.args.parts.now c.args.walk.now out c.args.parts.now) (sym c.new-out.ensures.items) (type_cases-begun _ _ _)

pub choices::type_cases-loop-part-preserved : goal.choices::type_cases-loop-part-preserved
choices::type_cases-loop-part-preserved t c = type_cases-more _ _ _ _ _ _ _ _ _ _ c.loop-part.invariant c.loop-part-test.true c.part-item.is c.type_case.ensures.tree c.type_case.ensures.walk c.in_ok-out.ensures

pub choices::type_cases-returns-clause-tree : goal.choices::type_cases-returns-clause-tree
choices::type_cases-returns-clause-tree t c = type_cases-tree _ _ _ _ _ _ c.loop-part.invariant c.loop-part-test.false

pub choices::type_cases-returns-clause-walk : goal.choices::type_cases-returns-clause-walk
choices::type_cases-returns-clause-walk t c = type_cases-walk _ _ _ _ _ _ c.loop-part.invariant c.loop-part-test.false

pub flwor::order_keys-loop-part-init : goal.flwor::order_keys-loop-part-init
flwor::order_keys-loop-part-init t c = subst (λ out. OrderKeysLeft c.args.item c.args.walk.now c.args.parts.now c.args.walk.now out c.args.parts.now) (sym c.new-out.ensures.items) (order_keys-begun _ _ _)

pub flwor::order_keys-loop-part-preserved : goal.flwor::order_keys-loop-part-preserved
flwor::order_keys-loop-part-preserved t c = order_keys-more _ _ _ _ _ _ _ _ _ _ c.loop-part.invariant c.loop-part-test.true c.part-item.is c.order_key.ensures.tree c.order_key.ensures.walk c.in_ok-out.ensures

pub flwor::order_keys-returns-clause-tree : goal.flwor::order_keys-returns-clause-tree
flwor::order_keys-returns-clause-tree t c = order_keys-tree _ _ _ _ _ _ c.loop-part.invariant c.loop-part-test.false

pub flwor::order_keys-returns-clause-walk : goal.flwor::order_keys-returns-clause-walk
flwor::order_keys-returns-clause-walk t c = order_keys-walk _ _ _ _ _ _ c.loop-part.invariant c.loop-part-test.false

pub quantifiers::binds-loop-part-init : goal.quantifiers::binds-loop-part-init
quantifiers::binds-loop-part-init t c = subst (λ out. BindsLeft c.args.item c.args.walk.now c.args.parts.now c.args.walk.now out c.args.parts.now) (sym c.new-out.ensures.items) (binds-begun _ _ _)

pub quantifiers::binds-loop-part-preserved : goal.quantifiers::binds-loop-part-preserved
quantifiers::binds-loop-part-preserved t c = binds-more _ _ _ _ _ _ _ _ _ _ c.loop-part.invariant c.loop-part-test.true c.part-item.is c.bind.ensures.tree c.bind.ensures.walk c.in_ok-out.ensures

pub quantifiers::binds-returns-clause-tree : goal.quantifiers::binds-returns-clause-tree
quantifiers::binds-returns-clause-tree t c = binds-tree _ _ _ _ _ _ c.loop-part.invariant c.loop-part-test.false

pub quantifiers::binds-returns-clause-walk : goal.quantifiers::binds-returns-clause-walk
quantifiers::binds-returns-clause-walk t c = binds-walk _ _ _ _ _ _ c.loop-part.invariant c.loop-part-test.false

pub flwor::clauses_from-loop-part-init : goal.flwor::clauses_from-loop-part-init
flwor::clauses_from-loop-part-init t c = λ h. subst (λ out. ClausesLeft c.args.item c.args.base c.args.walk.now c.args.parts.now c.args.walk.now out c.args.parts.now) (sym c.new-out.ensures.items) (clauses-begun _ _ _ _ h)

pub flwor::clauses_from-loop-part-preserved : goal.flwor::clauses_from-loop-part-preserved
flwor::clauses_from-loop-part-preserved t c = λ h. clauses-more _ _ _ _ _ _ _ _ _ _ _ (c.loop-part.invariant h) c.loop-part-test.true c.part-item.is c.clause.ensures.tree c.clause.ensures.walk c.in_ok-out.ensures

pub flwor::clauses_from-returns-clause-tree : goal.flwor::clauses_from-returns-clause-tree
flwor::clauses_from-returns-clause-tree t c = λ h. clauses-tree _ _ _ _ _ _ _ (c.loop-part.invariant h) c.loop-part-test.false

pub flwor::clauses_from-returns-clause-walk : goal.flwor::clauses_from-returns-clause-walk
flwor::clauses_from-returns-clause-walk t c = λ h. clauses-walk _ _ _ _ _ _ _ (c.loop-part.invariant h) c.loop-part-test.false

pub flwor::keys_from-loop-part-init : goal.flwor::keys_from-loop-part-init
flwor::keys_from-loop-part-init t c = λ h. subst (λ out. KeysLeft c.args.item c.args.base c.args.mark c.args.walk.now c.args.parts.now c.args.walk.now out c.args.parts.now) (sym c.new-out.ensures.items) (keys-begun _ _ _ _ _ h)

pub flwor::keys_from-loop-part-preserved : goal.flwor::keys_from-loop-part-preserved
flwor::keys_from-loop-part-preserved t c = λ h. keys-more _ _ _ _ _ _ _ _ _ _ _ _ (c.loop-part.invariant h) c.loop-part-test.true c.part-item.is c.key.ensures.tree c.key.ensures.walk c.in_ok-out.ensures

pub flwor::keys_from-returns-clause-tree : goal.flwor::keys_from-returns-clause-tree
flwor::keys_from-returns-clause-tree t c = λ h. keys-tree _ _ _ _ _ _ _ _ (c.loop-part.invariant h) c.loop-part-test.false

pub flwor::keys_from-returns-clause-walk : goal.flwor::keys_from-returns-clause-walk
flwor::keys_from-returns-clause-walk t c = λ h. keys-walk _ _ _ _ _ _ _ _ (c.loop-part.invariant h) c.loop-part-test.false

pub exprs::kind-returns-in-Switch-clause-tree : goal.exprs::kind-returns-in-Switch-clause-tree
exprs::kind-returns-in-Switch-clause-tree t c =
    subst (λ f. IfOk c.switch.result (λ b. bound_form b ≡ compiled_form c.args.walk.now.names c.args.walk.now.number f))
    (switch-lent _ _ _ _ _ _ _ c.in-Switch.is c.deref-in-Switch-2.ensures c.deref-in-Switch.ensures.value c.deref-in-Switch-3.ensures) c.switch.ensures.tree

pub exprs::kind-returns-in-Switch-clause-walk : goal.exprs::kind-returns-in-Switch-clause-walk
exprs::kind-returns-in-Switch-clause-walk t c =
    subst (λ f. OnOk c.switch.result (c.switch.new.walk ≡ behind_form c.args.walk.now c.args.item c.args.place f))
    (switch-lent _ _ _ _ _ _ _ c.in-Switch.is c.deref-in-Switch-2.ensures c.deref-in-Switch.ensures.value c.deref-in-Switch-3.ensures) c.switch.ensures.walk

pub exprs::kind-returns-in-Typeswitch-clause-tree : goal.exprs::kind-returns-in-Typeswitch-clause-tree
exprs::kind-returns-in-Typeswitch-clause-tree t c =
    subst (λ f. IfOk c.typeswitch.result (λ b. bound_form b ≡ compiled_form c.args.walk.now.names c.args.walk.now.number f))
    (typeswitch-lent _ _ _ _ _ _ _ _ c.in-Typeswitch.is c.deref-in-Typeswitch-2.ensures c.deref-in-Typeswitch.ensures.value c.deref-in-Typeswitch-3.ensures) c.typeswitch.ensures.tree

pub exprs::kind-returns-in-Typeswitch-clause-walk : goal.exprs::kind-returns-in-Typeswitch-clause-walk
exprs::kind-returns-in-Typeswitch-clause-walk t c =
    subst (λ f. OnOk c.typeswitch.result (c.typeswitch.new.walk ≡ behind_form c.args.walk.now c.args.item c.args.place f))
    (typeswitch-lent _ _ _ _ _ _ _ _ c.in-Typeswitch.is c.deref-in-Typeswitch-2.ensures c.deref-in-Typeswitch.ensures.value c.deref-in-Typeswitch-3.ensures) c.typeswitch.ensures.walk

pub exprs::kind-returns-in-Quant-clause-tree : goal.exprs::kind-returns-in-Quant-clause-tree
exprs::kind-returns-in-Quant-clause-tree t c =
    subst (λ f. IfOk c.quantified.result (λ b. bound_form b ≡ compiled_form c.args.walk.now.names c.args.walk.now.number f))
    (quant-lent _ _ _ _ _ _ c.in-Quant.is c.deref-in-Quant.ensures.value c.deref-in-Quant-2.ensures) c.quantified.ensures.tree

pub exprs::kind-returns-in-Quant-clause-walk : goal.exprs::kind-returns-in-Quant-clause-walk
exprs::kind-returns-in-Quant-clause-walk t c =
    subst (λ f. OnOk c.quantified.result (c.quantified.new.walk ≡ behind_form c.args.walk.now c.args.item c.args.place f))
    (quant-lent _ _ _ _ _ _ c.in-Quant.is c.deref-in-Quant.ensures.value c.deref-in-Quant-2.ensures) c.quantified.ensures.walk

pub choices::typeswitch-returns-clause-walk : goal.choices::typeswitch-returns-clause-walk
choices::typeswitch-returns-clause-walk t c =
    let pair = of-made _ _ _ c.in_ok-operand.ensures.first c.both.ensures.first in
    let cases = of-made _ _ _ c.in_ok-operand.ensures.first c.both.ensures.second in
    typeswitch-walk c.args.walk.now c.expr.new.walk c.type_cases-cases.new.walk c.otherwise-default.new.walk c.args.item (named_tree c.args.operand.now) (named_type_cases c.args.inner.now) c.args.variable.now (named_tree c.args.default.now)
    (on-made _ _ _ (of-made _ _ _ pair c.boxed-operand.ensures) c.expr.ensures.walk)
    (on-made _ _ _ cases c.type_cases-cases.ensures.walk)
    (on-made _ _ _ c.in_ok-operand.ensures.second c.otherwise-default.ensures.walk)

pub quantifiers::quantified-returns-clause-walk : goal.quantifiers::quantified-returns-clause-walk
quantifiers::quantified-returns-clause-walk t c =
    c.close.ensures
    ∙ quantified-walk c.args.walk.now c.binds-binds.new.walk c.expr.new.walk c.depth-depth.result c.args.item (named_binds c.args.inner.now) (named_tree c.args.test.now) c.depth-depth.ensures
    (on-made _ _ _ c.in_ok-binds.ensures.first c.binds-binds.ensures.walk)
    (on-made _ _ _ (of-made _ _ _ c.in_ok-binds.ensures.second c.boxed-test.ensures) c.expr.ensures.walk)

pub flwor::flwor-returns-clause-walk : goal.flwor::flwor-returns-clause-walk
flwor::flwor-returns-clause-walk t c =
    c.close.ensures
    ∙ flwor-walk c.args.walk.now c.clauses-clauses.new.walk c.expr.new.walk c.depth-depth.result c.args.item (named_clauses c.args.inner.now) (named_tree c.args.returned.now) c.depth-depth.ensures
    (on-made _ _ _ c.in_ok-clauses.ensures.first c.clauses-clauses.ensures.walk)
    (on-made _ _ _ (of-made _ _ _ c.in_ok-clauses.ensures.second c.boxed-last.ensures) c.expr.ensures.walk)

pub flwor::clauses-returns-clause-tree : goal.flwor::clauses-returns-clause-tree
flwor::clauses-returns-clause-tree t c = c.clauses_from.ensures.tree (no-more c.depth-base.ensures)

pub flwor::clauses-returns-clause-walk : goal.flwor::clauses-returns-clause-walk
flwor::clauses-returns-clause-walk t c =
    subst (λ n. OnOk c.clauses_from.result (c.clauses_from.new.walk ≡ behind_clauses c.args.walk.now c.args.item n (named_clauses c.args.parts.now))) c.depth-base.ensures (c.clauses_from.ensures.walk (no-more c.depth-base.ensures))

pub flwor::keys-returns-clause-tree : goal.flwor::keys-returns-clause-tree
flwor::keys-returns-clause-tree t c =
    subst (λ s. IfOk c.keys_from.result (λ r. bound_group_vars r.items ≡ compiled_group_vars s c.args.walk.now.names c.args.walk.now.number (named_group_vars c.args.parts.now)))
    (below-here c.args.walk.now.names c.depth-mark.result c.depth-mark.ensures) (c.keys_from.ensures.tree (no-more c.depth-mark.ensures))

pub flwor::keys-returns-clause-walk : goal.flwor::keys-returns-clause-walk
flwor::keys-returns-clause-walk t c =
    subst (λ s. OnOk c.keys_from.result (c.keys_from.new.walk ≡ entered c.args.walk.now (group_vars_mentions (view_of c.args.item c.args.walk.now.names) (stream_of c.args.base s) (named_group_vars c.args.parts.now)) (group_vars_binders (named_group_vars c.args.parts.now)) (after_keys c.args.walk.now.names c.args.walk.now.number (named_group_vars c.args.parts.now))))
    (below-here c.args.walk.now.names c.depth-mark.result c.depth-mark.ensures) (c.keys_from.ensures.walk (no-more c.depth-mark.ensures))
