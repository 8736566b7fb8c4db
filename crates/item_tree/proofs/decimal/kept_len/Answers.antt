use Rattle.std.proofs.Common.{sym, ◌∙◌, arith}
use Rattle.item_tree.proofs.LastZeros.{zero_last, digit_last}
use Rattle.item_tree.proofs.decimal.kept_len.Goals as goal

pub loop-end-preserved : goal.loop-end-preserved
loop-end-preserved c =
    (omega arith, zero_last c.args.digits.now c.loop-end.end (omega arith) (omega arith) c.if-digits-end-eq48.true ∙ c.loop-end.invariant.1)

pub returns-else-digits-end-eq48-clause-kept : goal.returns-else-digits-end-eq48-clause-kept
returns-else-digits-end-eq48-clause-kept c =
    sym (digit_last c.args.digits.now c.loop-end.end (omega arith) (omega arith) c.if-digits-end-eq48.false) ∙ c.loop-end.invariant.1
