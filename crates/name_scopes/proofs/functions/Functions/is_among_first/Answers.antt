use Rattle.std.proofs.Common.{sym, ap, ◌∙◌}
use Rattle.name_scopes.proofs.Declared.{is_before, among-first}
use Rattle.name_scopes.proofs.functions.Functions.is_among_first.Goals as goal

pub returns-in-Some : goal.returns-in-Some
returns-in-Some c =
    sym (among-first c.args.count c.args.self.now c.args.name.now c.args.arity
    ∙ ap (is_before c.args.count) (sym c.in-Some.ensures))

pub returns-in-None : goal.returns-in-None
returns-in-None c =
    sym (among-first c.args.count c.args.self.now c.args.name.now c.args.arity
    ∙ ap (is_before c.args.count) (sym c.in-None.ensures))
