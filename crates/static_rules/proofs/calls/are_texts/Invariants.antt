use Rattle.std.proofs.Common.{◌≡◌, drop}
use Rattle.static_rules.specs.Rules.{are_texts}
use Rattle.query_tree.specs.NamedViews.{named_tree_list}
use Rattle.static_rules.proofs.calls.are_texts.Given as goal

abbrev pub invariant-loop-argument : goal.invariant-loop-argument
invariant-loop-argument l = are_texts (named_tree_list l.arguments) ≡ are_texts (named_tree_list (drop l.argument-index l.arguments))
