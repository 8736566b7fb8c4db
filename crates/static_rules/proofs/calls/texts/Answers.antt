use Rattle.std.proofs.Common.{Some, drop, ◌++◌, sym, ap, ◌∙◌}
use Rattle.std.specs.Prelude.{option_map}
use Rattle.static_rules.specs.Calls.{texts_of}
use Rattle.query_tree.specs.NamedViews.{named_tree_list}
use Rattle.static_rules.proofs.Calling.{texts-more, texts-same}
use Rattle.static_rules.proofs.calls.texts.Goals as goal
use Rattle.static_rules.proofs.calls.texts.Goals.{in-Some+in_ok-copy+in_ok-push, in_default}

pub loop-argument-preserved : goal.loop-argument-preserved
loop-argument-preserved c =
    elim c.match-text_in.branch [
      | in-Some+in_ok-copy+in_ok-push w ↦
          texts-more c.args.arguments.now c.loop-argument.argument-index c.argument-item.result c.loop-argument.out.items c.match-text_in.out.items w.in_ok-copy.field-0 c.loop-argument.invariant c.loop-argument-test.true c.argument-item.is
          (sym c.text_in.ensures ∙ ap (option_map (λ s. s.now)) w.in-Some.is ∙ ap Some (sym w.in_ok-copy.ensures))
          (ap (λ v. v.items) w.out-is ∙ w.in_ok-push.ensures.items)
      | in_default w ↦
          texts-same c.args.arguments.now c.loop-argument.argument-index c.argument-item.result c.match-text_in.out.items
          (c.loop-argument.invariant ∙ ap (λ v. v.items ++ texts_of (named_tree_list (drop c.loop-argument.argument-index c.args.arguments.now))) (sym w.out-is))
          c.loop-argument-test.true c.argument-item.is (sym c.text_in.ensures ∙ ap (option_map (λ s. s.now)) w.in_default.is)
    ]
