use Rattle.std.proofs.Common.{◌≡◌, refl, arith}
use Rattle.std.proofs.lemmas.Bool.{true≢false}
use Rattle.query_tree.specs.BoundViews.{bound_tree}
use Rattle.query_tree.specs.Spines.{spine}
use Rattle.rumble_run.proofs.OtherKinds.{is_leaf}
use Rattle.rumble_run.proofs.SpineFits.{fits_first, fits_more, fits_all, operand_deeper, flat}
use Rattle.rumble_run.proofs.spine.+spine_fits.Goals as goal

pub loop-operand-init : goal.loop-operand-init
loop-operand-init t c =
    fits_first c.args.tree.now c.deref.result.now c.in-Comma.first c.in-Comma.rest c.deref-operand-items.result.now c.args.room c.in-Comma.is c.deref.ensures c.deref-operand-items.ensures.value c.if-room-eq0.false (c.if-not-spine_fits.ensures.fits refl)

pub returns-then-not-spine_fits-2-clause-not : goal.returns-then-not-spine_fits-2-clause-not
returns-then-not-spine_fits-2-clause-not t c = λ same.
    operand_deeper c.args.tree.now c.deref-operand-items.result.now c.loop-operand.operand-index c.args.room c.operand-item.result c.loop-operand.invariant c.loop-operand-test.true c.operand-item.is (c.if-not-spine_fits-2.ensures.not refl)

pub loop-operand-preserved : goal.loop-operand-preserved
loop-operand-preserved t c =
    fits_more c.args.tree.now c.deref-operand-items.result.now c.loop-operand.operand-index c.args.room c.operand-item.result c.loop-operand.invariant c.loop-operand-test.true c.operand-item.is (c.if-not-spine_fits-2.ensures.fits refl)

pub returns-after-loop-operand-clause-fits : goal.returns-after-loop-operand-clause-fits
returns-after-loop-operand-clause-fits t c = λ same. fits_all c.args.tree.now c.deref-operand-items.result.now c.loop-operand.operand-index c.args.room c.loop-operand.invariant c.loop-operand-test.false

pub returns-in_default : goal.returns-in_default
returns-in_default t c =
    let none : spine (bound_tree c.args.tree.now) ≡ 0 = flat (bound_tree c.args.tree.now) (is_leaf c.args.tree.now c.in_default.not-Comma c.in_default.not-Paren c.in_default.not-Try) in
    record { fits = λ same. omega (arith, none); not = λ same. absurd (true≢false same) }
