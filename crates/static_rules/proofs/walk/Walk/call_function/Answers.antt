use Rattle.std.proofs.Common.{◌≡◌, not, IfOk, sym, ap, subst, ◌∙◌}
use Rattle.item_tree.specs.Functions.{function_named}
use Rattle.static_rules.specs.declared.rules.Rule.TheVariants.{UnknownFunction}
use Rattle.static_rules.specs.Walks.{tested}
use Rattle.static_rules.proofs.Calling.{own-found, own-target, known-here, on-ok}
use Rattle.static_rules.proofs.walk.Walk.call_function.Goals as goal

pub returns-in-None-clause-value : goal.returns-in-None-clause-value
returns-in-None-clause-value c =
    let own = own-found c.self.inside.functions c.args.self.now.names.functions c.args.name.now c.args.arity c.position-own.result (sym (ap (λ s. s.names.functions) c.self.view_is)) c.position-own.ensures in
    subst (λ x. IfOk c.own_target.result (λ t. t ≡ x))
    (own-target c.args.self.now.names.functions c.args.name.now c.args.arity c.position-own.result own (ap (λ w. function_named w c.args.arity) (sym c.as_str.ensures.value) ∙ sym c.find-built.ensures ∙ c.in-None.is))
    c.own_target.ensures

pub returns-in-None-clause-walk : goal.returns-in-None-clause-walk
returns-in-None-clause-walk c =
    let own = own-found c.self.inside.functions c.args.self.now.names.functions c.args.name.now c.args.arity c.position-own.result (sym (ap (λ s. s.names.functions) c.self.view_is)) c.position-own.ensures in
    on-ok _ c.own_target.result (c.test.ensures
    ∙ ap (λ b. tested c.args.self.now (not b) UnknownFunction c.args.place)
    (c.is_known.ensures ∙ known-here c.args.self.now.names.functions c.args.name.now c.args.arity c.position-own.result c.find-built.result own (c.find-built.ensures ∙ ap (λ w. function_named w c.args.arity) c.as_str.ensures.value)))
