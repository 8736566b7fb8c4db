use Rattle.std.proofs.Common.{◌≡◌, false, map, ap, ◌∙◌}
use Rattle.std.specs.Prelude.{max}
use Rattle.static_rules.specs.Compiling.{variable_width, function_width, greatest, compiled_variables, compiled_functions}
use Rattle.static_rules.specs.Mentions.{callee_of}
use Rattle.query_tree.specs.NamedViews.{named_variable, named_function, named_query}
use Rattle.static_rules.specs.Declarations.{with_functions, behind_variables, behind_functions}
use Rattle.static_rules.specs.Sources.{behind_tree}
use Rattle.static_rules.proofs.Made.{on-made, of-made}
use Rattle.static_rules.proofs.Queries.{starts-alone, query-tree, query-width, query-first}
use Rattle.static_rules.proofs.compiling.module.Goals as goal

pub variables-variables-requires : goal.variables-variables-requires
variables-variables-requires c = starts-alone _ c.requires

-- the walk behind the variables, behind the functions and behind the body
at-variables : (c : goal.After-max-width) → c.variables-variables.new.walk ≡ behind_variables c.args.walk.now 0 (named_query c.args.query.now).variables
at-variables c =
    on-made _ _ _ (of-made _ _ _ c.in_ok-variables.ensures.first c.both.ensures.first) c.variables-variables.ensures.walk
    ∙ ap (λ xs. behind_variables c.args.walk.now 0 (map named_variable xs)) c.deref.ensures.value

at-functions : (c : goal.After-max-width) → c.functions-functions.new.walk ≡ behind_functions c.variables-variables.new.walk (named_query c.args.query.now).functions
at-functions c =
    on-made _ _ _ (of-made _ _ _ c.in_ok-variables.ensures.first c.both.ensures.second) c.functions-functions.ensures.walk
    ∙ ap (λ fs. behind_functions c.variables-variables.new.walk (map named_function fs)) c.deref-2.ensures.value

at-body : (c : goal.After-max-width) → c.expr-body.new.walk ≡ behind_tree c.functions-functions.new.walk false (named_query c.args.query.now).body
at-body c = on-made _ _ _ c.in_ok-variables.ensures.second c.expr-body.ensures.walk

pub returns-clause-tree : goal.returns-clause-tree
returns-clause-tree c =
    query-tree (named_query c.args.query.now) c.args.walk.now c.variables-variables.new.walk c.functions-functions.new.walk c.expr-body.new.walk c.requires (at-variables c) (at-functions c) (at-body c)
    _ _ _
    (of-made _ _ _ (of-made _ _ _ c.in_ok-variables.ensures.first c.both.ensures.first) c.variables-variables.ensures.tree
    ∙ ap (λ xs. compiled_variables c.args.walk.now.names.variables 0 (map named_variable xs)) c.deref.ensures.value)
    (of-made _ _ _ (of-made _ _ _ c.in_ok-variables.ensures.first c.both.ensures.second) c.functions-functions.ensures.tree
    ∙ ap (λ fs. compiled_functions (with_functions c.variables-variables.new.walk.names (map callee_of (map named_function fs))) 0 (map named_function fs)) c.deref-2.ensures.value)
    (of-made _ _ _ c.in_ok-variables.ensures.second c.expr-body.ensures.tree)

pub returns-clause-width : goal.returns-clause-width
returns-clause-width c =
    c.max-width.ensures
    ∙ ap (max c.in_ok-variables.variables.1) (c.max.ensures ∙ ap (max c.in_ok-variables.functions.1) c.width.ensures)
    ∙ query-width (named_query c.args.query.now) c.args.walk.now c.variables-variables.new.walk c.functions-functions.new.walk c.expr-body.new.walk c.requires (at-variables c) (at-functions c) (at-body c)
    c.in_ok-variables.variables.1 c.in_ok-variables.functions.1
    (of-made _ _ _ (of-made _ _ _ c.in_ok-variables.ensures.first c.both.ensures.first) c.variables-variables.ensures.width
    ∙ ap (λ xs. greatest (map variable_width (map named_variable xs))) c.deref.ensures.value)
    (of-made _ _ _ (of-made _ _ _ c.in_ok-variables.ensures.first c.both.ensures.second) c.functions-functions.ensures.width
    ∙ ap (λ fs. greatest (map function_width (map named_function fs))) c.deref-2.ensures.value)

pub returns-clause-first : goal.returns-clause-first
returns-clause-first c =
    query-first (named_query c.args.query.now) c.args.walk.now c.variables-variables.new.walk c.functions-functions.new.walk c.expr-body.new.walk c.requires (at-variables c) (at-functions c) (at-body c)
