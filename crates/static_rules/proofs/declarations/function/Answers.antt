use Rattle.std.proofs.Common.{◌≡◌, ◌||◌, length, rules, ap, ◌∙◌}
use Rattle.static_rules.specs.Views.{has_callee}
use Rattle.static_rules.specs.Rules.{is_lines, is_built_in}
use Rattle.static_rules.specs.Compiling.{compiled_params}
use Rattle.query_tree.specs.NamedViews.{named_function}
use Rattle.static_rules.specs.Declarations.{earlier_functions, behind_params}
use Rattle.static_rules.proofs.DeclaredFunctions.{functions-kept, deep-enough, function-walk, function-tree}
use Rattle.static_rules.proofs.declarations.function.Goals as goal

pub is_taken-twice-requires : goal.is_taken-twice-requires
is_taken-twice-requires c = functions-kept _ _ _ c.begin.ensures c.requires

pub params-requires : goal.params-requires
params-requires c = deep-enough _ _ _ _ _ _ _ c.depth-depth.ensures c.begin.ensures c.test.ensures

pub returns-clause-tree : goal.returns-clause-tree
returns-clause-tree c =
    let name = c.args.part.now.function.name in
    let arity : c.len.result ≡ length c.args.part.now.params.items = search rules in
    let own : c.in-Ok.own ≡ c.args.number = search rules in
    function-tree c.args.walk.now c.begin.new.self c.test.new.self c.params.new.walk c.any_type.new.walk c.is_taken-twice.result c.args.number c.depth-depth.result (named_function c.args.part.now)
    c.depth-depth.ensures c.begin.ensures
    (c.is_taken-twice.ensures ∙ ap (λ n. is_lines name || is_built_in name n || has_callee (earlier_functions c.begin.new.self.names c.args.number) name n) arity)
    c.test.ensures
    (c.in_ok-params.ensures.walk ∙ ap (behind_params c.test.new.self c.depth-depth.result) c.deref.ensures.value)
    c.in_ok-of.ensures.walk
    c.in-Ok.own c.in_ok-params.params.items c.in_ok-of.of _ own
    (c.in_ok-params.ensures.tree ∙ ap (compiled_params c.test.new.self.number) c.deref.ensures.value)
    c.in_ok-of.ensures.value c.in_ok-body.ensures.tree

pub returns-clause-walk : goal.returns-clause-walk
returns-clause-walk c =
    let name = c.args.part.now.function.name in
    let arity : c.len.result ≡ length c.args.part.now.params.items = search rules in
    function-walk c.args.walk.now c.begin.new.self c.test.new.self c.params.new.walk c.any_type.new.walk c.is_taken-twice.result c.args.number c.depth-depth.result (named_function c.args.part.now)
    c.depth-depth.ensures c.begin.ensures
    (c.is_taken-twice.ensures ∙ ap (λ n. is_lines name || is_built_in name n || has_callee (earlier_functions c.begin.new.self.names c.args.number) name n) arity)
    c.test.ensures
    (c.in_ok-params.ensures.walk ∙ ap (behind_params c.test.new.self c.depth-depth.result) c.deref.ensures.value)
    c.in_ok-of.ensures.walk
    c.expr.new.walk c.close.new.self c.in_ok-body.ensures.walk c.close.ensures
