use Rattle.std.proofs.Common.{◌∙◌, inl, inr, ap, sym, arith}
use Rattle.num_fixed.specs.Fronts.{may_go_on}
use Rattle.num_fixed.proofs.FrontLemmas.{slice_rest}
use Rattle.num_fixed.proofs.ShortFronts.{none_short, some_short, short_lengths, short_front}
use Rattle.num_fixed.proofs.front.short_whole.Goals as goal
use Rattle.num_fixed.proofs.front.short_whole.Goals.{then-len-eq0-via-then-len-eq0, then-len-eq0-via-else-len-eq0+then-len-gt18, then-len-eq0-via-else-len-eq0+else-len-gt18+then-may_go_on}

pub returns-then-len-eq0-clause-value : goal.returns-then-len-eq0-clause-value
returns-then-len-eq0-clause-value c =
    let l = c.args.bytes.now in
    let w = c.digits_front-len.result.0 in
    sym (none_short l w c.digits_front-len.ensures.length (elim c.then-len-eq0.branch [
      | then-len-eq0-via-then-len-eq0 h ↦ inl h.if-len-eq0.true
      | then-len-eq0-via-else-len-eq0+then-len-gt18 h ↦ inr (inl h.if-len-gt18.true)
      | then-len-eq0-via-else-len-eq0+else-len-gt18+then-may_go_on h ↦ inr (inr (ap may_go_on (sym (slice_rest l w)) ∙ sym h.may_go_on.ensures.value ∙ h.if-may_go_on.true))
    ]))

pub returns-clause-value : goal.returns-clause-value
returns-clause-value c =
    let l = c.args.bytes.now in
    let w = c.digits_front-len.result.0 in
    sym (some_short l w c.digits_front-len.result.1 c.digits_front-len.ensures.length c.if-len-eq0.false (omega arith) (ap may_go_on (sym (slice_rest l w)) ∙ sym c.may_go_on.ensures.value ∙ c.if-may_go_on.false) c.digits_front-len.ensures.number)

pub returns-clause-front : goal.returns-clause-front
returns-clause-front c =
    let l = c.args.bytes.now in
    let w = c.digits_front-len.result.0 in
    let nothing = c.may_go_on.ensures.no c.if-may_go_on.false in
    let h = short_lengths l w c.digits_front-len.ensures.length c.if-len-eq0.false nothing.0 nothing.1 in
    short_front l w c.digits_front-len.result.1 h (omega arith) c.digits_front-len.ensures.number
