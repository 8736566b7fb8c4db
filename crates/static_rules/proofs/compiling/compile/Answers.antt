use Rattle.std.proofs.Common.{sym, ap, ◌∙◌}
use Rattle.query_tree.specs.Compiled.{is_compiled}
use Rattle.static_rules.specs.Compiling.{compiled_query}
use Rattle.query_tree.specs.NamedViews.{named_query}
use Rattle.static_rules.proofs.Made.{on-made, of-made}
use Rattle.static_rules.proofs.compiling.compile.Goals as goal

pub new-requires : goal.new-requires
new-requires c =
    let q = named_query c.args.query.now in
    ap (is_compiled c.in_ok-tree.width) (of-made _ _ _ c.in_ok-tree.ensures.made c.module-made.ensures.tree)
    ∙ ap (λ w. is_compiled w (compiled_query q)) (of-made _ _ _ c.in_ok-tree.ensures.made c.module-made.ensures.width)
    ∙ c.accepted_queries_pass.ensures q (sym (on-made _ _ _ c.in_ok-tree.ensures.made c.module-made.ensures.first) ∙ sym c.first.ensures ∙ c.in_ok-tree.ensures.accepted)
