use Rattle.std.proofs.Common.{◌≡◌, ◌++◌, drop}
use Rattle.static_rules.specs.Calls.{texts_of}
use Rattle.query_tree.specs.NamedViews.{named_tree_list}
use Rattle.static_rules.proofs.calls.texts.Given as goal

abbrev pub invariant-loop-argument : goal.invariant-loop-argument
invariant-loop-argument l = texts_of (named_tree_list l.arguments) ≡ l.out.items ++ texts_of (named_tree_list (drop l.argument-index l.arguments))
