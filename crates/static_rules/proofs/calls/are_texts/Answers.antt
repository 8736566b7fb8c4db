use Rattle.std.proofs.Common.{true, false, not, is_some, sym, ap, ◌∙◌}
use Rattle.static_rules.proofs.Calling.{are-texts-more, some-mapped}
use Rattle.static_rules.proofs.calls.are_texts.Goals as goal

pub returns-then-is_none : goal.returns-then-is_none
returns-then-is_none c =
    let t = ap is_some (sym c.text_in.ensures) ∙ sym (some-mapped _ c.text_in.result) ∙ c.is_none.ensures ∙ ap not c.if-is_none.true in
    sym (are-texts-more c.args.arguments.now c.loop-argument.argument-index c.argument-item.result false c.loop-argument.invariant c.loop-argument-test.true c.argument-item.is t)

pub loop-argument-preserved : goal.loop-argument-preserved
loop-argument-preserved c =
    let t = ap is_some (sym c.text_in.ensures) ∙ sym (some-mapped _ c.text_in.result) ∙ c.is_none.ensures ∙ ap not c.if-is_none.false in
    are-texts-more c.args.arguments.now c.loop-argument.argument-index c.argument-item.result true c.loop-argument.invariant c.loop-argument-test.true c.argument-item.is t
