use Rattle.std.proofs.Common.{◌≡◌, not, IfOk, OnOk, sym, ap, subst, ◌∙◌}
use Rattle.static_rules.specs.declared.rules.Rule.TheVariants.{UnnamedInput}
use Rattle.static_rules.specs.Walks.{tested}
use Rattle.query_tree.specs.NamedViews.{named_tree_list}
use Rattle.static_rules.proofs.Calling.{lines-tested, other-known, target-other}
use Rattle.static_rules.proofs.walk.Walk.call.Goals as goal

pub returns-then-is_lines-clause-walk : goal.returns-then-is_lines-clause-walk
returns-then-is_lines-clause-walk c =
    c.test.ensures ∙ ap (λ b. tested c.args.self.now (not b) UnnamedInput c.args.place) c.name_inputs.ensures
    ∙ lines-tested c.args.self.now c.args.name.now (named_tree_list c.args.arguments.now) c.args.place (sym c.is_lines.ensures ∙ c.if-is_lines.true)

pub returns-clause-value : goal.returns-clause-value
returns-clause-value c =
    subst (λ x. IfOk c.call_function.result (λ t. t ≡ x)) (target-other c.args.self.now.names c.args.name.now c.args.arguments.now (sym c.is_lines.ensures ∙ c.if-is_lines.false)) c.call_function.ensures.value

pub returns-clause-walk : goal.returns-clause-walk
returns-clause-walk c =
    subst (λ x. OnOk c.call_function.result (c.call_function.new.self ≡ x)) (other-known c.args.self.now c.args.name.now c.args.arguments.now c.args.place (sym c.is_lines.ensures ∙ c.if-is_lines.false)) c.call_function.ensures.walk
