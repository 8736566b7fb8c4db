use Rattle.std.proofs.Common.{sym, ◌∙◌, ◌++◌}
use Rattle.num_fixed.proofs.DigitLemmas.{rest_below, rest_half, rest_above}
use Rattle.num_fixed.proofs.digits.rest_behind.Goals as goal
use Rattle.num_fixed.proofs.digits.rest_behind.Goals.{else-first-eq53-via-then-first-eq53+else-all_zero_in, else-first-eq53-via-else-first-eq53}

pub returns-then-first-lt53 : goal.returns-then-first-lt53
returns-then-first-lt53 c = rest_below c.args.first (c.args.more.now ++ c.args.others.now) c.requires c.if-first-lt53.true

pub returns-then-all_zero_in : goal.returns-then-all_zero_in
returns-then-all_zero_in c = rest_half c.args.first (c.args.more.now ++ c.args.others.now) c.if-first-eq53.true (sym c.all_zero_in.ensures ∙ c.if-all_zero_in.true)

pub returns-else-first-eq53 : goal.returns-else-first-eq53
returns-else-first-eq53 c = rest_above c.args.first (c.args.more.now ++ c.args.others.now) c.requires c.if-first-lt53.false (λ e. elim c.else-first-eq53.branch [
  | else-first-eq53-via-then-first-eq53+else-all_zero_in w ↦ sym w.all_zero_in.ensures ∙ w.if-all_zero_in.false
  | else-first-eq53-via-else-first-eq53 w ↦ absurd (w.if-first-eq53.false e)
])
