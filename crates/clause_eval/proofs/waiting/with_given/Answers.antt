use Rattle.std.proofs.Common.{length, ap, ◌∙◌}
use Rattle.std.proofs.lemmas.List.{length-append}
use Rattle.clause_eval.proofs.Waits.{pushed_waits}
use Rattle.clause_eval.proofs.waiting.with_given.Goals as goal

pub returns : goal.returns
returns c = record {
  waits = pushed_waits _ c.args.others.items _ _ c.in_ok-push.ensures.items c.turned-given.ensures;
  lists = ap length c.in_ok-push.ensures.items ∙ length-append c.args.others.items _;
}
