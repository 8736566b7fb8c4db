use Rattle.std.proofs.Common.{sym, ap, ◌∙◌, ◌&&◌}
use Rattle.item_tree.specs.Functions.{allows}
use Rattle.item_tree.proofs.FunctionNames.{called}
use Rattle.item_tree.proofs.functions.FnId.is_called.Goals as goal

pub returns-then-eq : goal.returns-then-eq
returns-then-eq c =
    let t = c.signature-takes in
    c.allows.ensures ∙ sym (called c.args.name.now t.result.0.now t.result.1 c.args.arity c.args.self c.utf8.name t.ensures.name t.ensures.arity
    ∙ ap (λ b. b && allows t.result.1 c.args.arity) (sym c.eq.ensures ∙ c.if-eq.true))

pub returns-else-eq : goal.returns-else-eq
returns-else-eq c =
    let t = c.signature-takes in
    c.if-eq.false ∙ sym (called c.args.name.now t.result.0.now t.result.1 c.args.arity c.args.self c.utf8.name t.ensures.name t.ensures.arity
    ∙ ap (λ b. b && allows t.result.1 c.args.arity) (sym c.eq.ensures ∙ c.if-eq.false))
