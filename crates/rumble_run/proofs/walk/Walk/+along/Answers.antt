use Rattle.std.proofs.Common.{Ok, ◌∙◌, ap}
use Rattle.std.proofs.lemmas.Result.{err_from_is_err_and}
use Rattle.query_tree.specs.declared.expr.Kind.TheVariants as kind
use Rattle.rumble_run.specs.inside.Walked.{setting_of}
use Rattle.rumble_run.proofs.OtherKinds.{is_leaf}
use Rattle.rumble_run.proofs.SpineLoops.{room_at_first, room_at_content, room_at_body, room_at_operand, comma_begun, comma_more, comma_failed, comma_done, operand_failed, operand_short, in_parens, nothing_printed, tried}
use Rattle.rumble_run.proofs.walk.Walk.+along.Goals as goal

pub along-requires-clause-room : goal.along-requires-clause-room
along-requires-clause-room g t c κs within =
    room_at_first c.args.tree.now c.deref.result.now c.args.depth c.requires.room c.in-Comma.first c.in-Comma.rest c.in-Comma.is c.deref.ensures

pub returns-in_err-text-in-Comma-clause-walked : goal.returns-in_err-text-in-Comma-clause-walked
returns-in_err-text-in-Comma-clause-walked g t c =
    let p = err_from_is_err_and c.from_residual.result c.from_residual.ensures.1 in
    rw (p.1, p.2) (comma_failed (setting_of c.args.self.now) (g.I.Inputs.world c.args.inputs.now) c.args.depth c.args.tree.now c.requires.room
    c.deref.result.now _ (g.I.Inputs.counts c.args.inputs.now) (g.I.Inputs.counts c.along.new.inputs) c.in-Comma.first c.in-Comma.rest c.in_err-text-in-Comma.ensures.walked c.in-Comma.is c.deref.ensures c.in_err-text-in-Comma.ensures.counts).walked

pub loop-operand-init : goal.loop-operand-init
loop-operand-init g t c =
    comma_begun (setting_of c.args.self.now) (g.I.Inputs.world c.args.inputs.now) c.args.depth c.args.tree.now c.requires.room
    c.deref.result.now (Ok c.in_ok-text-in-Comma.text) (g.I.Inputs.counts c.args.inputs.now) (g.I.Inputs.counts c.along.new.inputs) c.in_ok-text-in-Comma.ensures.walked c.in-Comma.first c.in-Comma.rest c.deref-operand-items.result.now (g.I.Inputs.world c.along.new.inputs)
    c.in-Comma.is c.deref.ensures c.deref-operand-items.ensures.value c.in_ok-text-in-Comma.ensures.world c.in_ok-text-in-Comma.ensures.counts

pub along-requires-in-loop-operand-clause-room : goal.along-requires-in-loop-operand-clause-room
along-requires-in-loop-operand-clause-room g t c κs within =
    room_at_operand (setting_of c.args.self.now) (g.I.Inputs.world c.args.inputs.now) c.args.depth c.args.tree.now c.requires.room
    (g.I.Inputs.world c.loop-operand.inputs) c.deref-operand-items.result.now c.loop-operand.operand-index c.operand-item.result c.loop-operand.text (g.I.Inputs.counts c.args.inputs.now) (g.I.Inputs.counts c.loop-operand.inputs) (g.I.Inputs.counts c.loop-operand.inputs)
    c.loop-operand.invariant c.loop-operand-test.true c.operand-item.is

pub returns-in_err-next-in-Comma-clause-world : goal.returns-in_err-next-in-Comma-clause-world
returns-in_err-next-in-Comma-clause-world g t c =
    c.in_err-next-in-Comma.ensures.world ∙ c.loop-operand.invariant.same

pub returns-in_err-next-in-Comma-clause-counts : goal.returns-in_err-next-in-Comma-clause-counts
returns-in_err-next-in-Comma-clause-counts g t c =
    let p = err_from_is_err_and c.from_residual-in_err-next-in-Comma.result c.from_residual-in_err-next-in-Comma.ensures.1 in
    rw (p.1, p.2) (operand_failed (setting_of c.args.self.now) (g.I.Inputs.world c.args.inputs.now) c.args.depth c.args.tree.now c.requires.room
    (g.I.Inputs.world c.loop-operand.inputs) c.deref-operand-items.result.now c.loop-operand.operand-index c.operand-item.result c.loop-operand.text (g.I.Inputs.counts c.args.inputs.now) (g.I.Inputs.counts c.loop-operand.inputs) (g.I.Inputs.counts c.along-in-loop-operand.new.inputs)
    c.loop-operand.invariant c.loop-operand-test.true c.operand-item.is
    _ c.in_err-next-in-Comma.ensures.counts c.in_err-next-in-Comma.ensures.walked).counts

pub returns-in_err-next-in-Comma-clause-walked : goal.returns-in_err-next-in-Comma-clause-walked
returns-in_err-next-in-Comma-clause-walked g t c =
    let p = err_from_is_err_and c.from_residual-in_err-next-in-Comma.result c.from_residual-in_err-next-in-Comma.ensures.1 in
    rw (p.1, p.2) (operand_failed (setting_of c.args.self.now) (g.I.Inputs.world c.args.inputs.now) c.args.depth c.args.tree.now c.requires.room
    (g.I.Inputs.world c.loop-operand.inputs) c.deref-operand-items.result.now c.loop-operand.operand-index c.operand-item.result c.loop-operand.text (g.I.Inputs.counts c.args.inputs.now) (g.I.Inputs.counts c.loop-operand.inputs) (g.I.Inputs.counts c.along-in-loop-operand.new.inputs)
    c.loop-operand.invariant c.loop-operand-test.true c.operand-item.is
    _ c.in_err-next-in-Comma.ensures.counts c.in_err-next-in-Comma.ensures.walked).walked

pub returns-in_err-text-in-Comma-2-clause-world : goal.returns-in_err-text-in-Comma-2-clause-world
returns-in_err-text-in-Comma-2-clause-world g t c =
    c.in_ok-next-in-Comma.ensures.world ∙ c.loop-operand.invariant.same

pub returns-in_err-text-in-Comma-2-clause-counts : goal.returns-in_err-text-in-Comma-2-clause-counts
returns-in_err-text-in-Comma-2-clause-counts g t c =
    let p = err_from_is_err_and c.from_residual-in_err-text-in-Comma-2.result c.from_residual-in_err-text-in-Comma-2.ensures.1 in
    rw (p.1, p.2) (operand_short (setting_of c.args.self.now) (g.I.Inputs.world c.args.inputs.now) c.args.depth c.args.tree.now c.requires.room
    (g.I.Inputs.world c.loop-operand.inputs) c.deref-operand-items.result.now c.loop-operand.operand-index c.operand-item.result c.loop-operand.text (g.I.Inputs.counts c.args.inputs.now) (g.I.Inputs.counts c.loop-operand.inputs) (g.I.Inputs.counts c.along-in-loop-operand.new.inputs)
    c.loop-operand.invariant c.loop-operand-test.true c.operand-item.is
    c.in_ok-next-in-Comma.next c.in_ok-next-in-Comma.ensures.counts c.in_ok-next-in-Comma.ensures.walked).counts

pub returns-in_err-text-in-Comma-2-clause-walked : goal.returns-in_err-text-in-Comma-2-clause-walked
returns-in_err-text-in-Comma-2-clause-walked g t c =
    let p = err_from_is_err_and c.from_residual-in_err-text-in-Comma-2.result c.from_residual-in_err-text-in-Comma-2.ensures.1 in
    rw (p.1, p.2) (operand_short (setting_of c.args.self.now) (g.I.Inputs.world c.args.inputs.now) c.args.depth c.args.tree.now c.requires.room
    (g.I.Inputs.world c.loop-operand.inputs) c.deref-operand-items.result.now c.loop-operand.operand-index c.operand-item.result c.loop-operand.text (g.I.Inputs.counts c.args.inputs.now) (g.I.Inputs.counts c.loop-operand.inputs) (g.I.Inputs.counts c.along-in-loop-operand.new.inputs)
    c.loop-operand.invariant c.loop-operand-test.true c.operand-item.is
    c.in_ok-next-in-Comma.next c.in_ok-next-in-Comma.ensures.counts c.in_ok-next-in-Comma.ensures.walked).walked

pub loop-operand-preserved : goal.loop-operand-preserved
loop-operand-preserved g t c =
    comma_more (setting_of c.args.self.now) (g.I.Inputs.world c.args.inputs.now) c.args.depth c.args.tree.now c.requires.room
    (g.I.Inputs.world c.loop-operand.inputs) c.deref-operand-items.result.now c.loop-operand.operand-index c.operand-item.result c.loop-operand.text (g.I.Inputs.counts c.args.inputs.now) (g.I.Inputs.counts c.loop-operand.inputs) (g.I.Inputs.counts c.along-in-loop-operand.new.inputs)
    c.loop-operand.invariant c.loop-operand-test.true c.operand-item.is
    (g.I.Inputs.world c.along-in-loop-operand.new.inputs) c.in_ok-next-in-Comma.next c.in_ok-text-in-Comma-2.text c.in_ok-next-in-Comma.ensures.world c.in_ok-text-in-Comma-2.ensures c.in_ok-next-in-Comma.ensures.counts c.in_ok-next-in-Comma.ensures.walked

pub along-requires-in-Some-clause-room : goal.along-requires-in-Some-clause-room
along-requires-in-Some-clause-room g t c κs within =
    room_at_content c.args.tree.now c.deref-in-Some.result.now c.args.depth c.requires.room c.in-Some.content (c.in-Paren.is ∙ ap kind.Paren c.in-Some.is) c.deref-in-Some.ensures

pub along-tried-requires-clause-room : goal.along-tried-requires-clause-room
along-tried-requires-clause-room g t c κs within =
    room_at_body c.args.tree.now c.deref-in-Try.result.now c.args.depth c.requires.room c.in-Try.body c.in-Try.catches c.in-Try.is c.deref-in-Try.ensures

pub returns-after-loop-operand-clause-world : goal.returns-after-loop-operand-clause-world
returns-after-loop-operand-clause-world g t c =
    c.loop-operand.invariant.same

pub returns-after-loop-operand-clause-counts : goal.returns-after-loop-operand-clause-counts
returns-after-loop-operand-clause-counts g t c =
    (comma_done (setting_of c.args.self.now) (g.I.Inputs.world c.args.inputs.now) c.args.depth c.args.tree.now c.requires.room
    (g.I.Inputs.world c.loop-operand.inputs) c.deref-operand-items.result.now c.loop-operand.operand-index c.loop-operand.text (g.I.Inputs.counts c.args.inputs.now) (g.I.Inputs.counts c.loop-operand.inputs) c.loop-operand.invariant c.loop-operand-test.false).counts

pub returns-after-loop-operand-clause-walked : goal.returns-after-loop-operand-clause-walked
returns-after-loop-operand-clause-walked g t c =
    (comma_done (setting_of c.args.self.now) (g.I.Inputs.world c.args.inputs.now) c.args.depth c.args.tree.now c.requires.room
    (g.I.Inputs.world c.loop-operand.inputs) c.deref-operand-items.result.now c.loop-operand.operand-index c.loop-operand.text (g.I.Inputs.counts c.args.inputs.now) (g.I.Inputs.counts c.loop-operand.inputs) c.loop-operand.invariant c.loop-operand-test.false).walked

pub returns-in-Some-clause-walked : goal.returns-in-Some-clause-walked
returns-in-Some-clause-walked g t c =
    in_parens (setting_of c.args.self.now) (g.I.Inputs.world c.args.inputs.now) c.args.depth c.args.tree.now c.requires.room
    c.deref-in-Some.result.now c.along-in-Some.result (g.I.Inputs.counts c.args.inputs.now) (g.I.Inputs.counts c.along-in-Some.new.inputs) c.along-in-Some.ensures.walked c.in-Some.content (c.in-Paren.is ∙ ap kind.Paren c.in-Some.is) c.deref-in-Some.ensures

pub returns-in-None-clause-walked : goal.returns-in-None-clause-walked
returns-in-None-clause-walked g t c =
    nothing_printed (setting_of c.args.self.now) (g.I.Inputs.world c.args.inputs.now) c.args.depth _ c.args.tree.now c.nothing.result (g.I.Inputs.counts c.args.inputs.now) (c.in-Paren.is ∙ ap kind.Paren c.in-None.is) c.requires.room c.nothing.ensures

pub returns-in-Try-clause-walked : goal.returns-in-Try-clause-walked
returns-in-Try-clause-walked g t c =
    tried (setting_of c.args.self.now) (g.I.Inputs.world c.args.inputs.now) c.args.depth c.args.tree.now c.requires.room
    c.deref-in-Try.result.now c.along-tried.result (g.I.Inputs.counts c.args.inputs.now) (g.I.Inputs.counts c.along-tried.new.inputs) c.along-tried.ensures.walked c.in-Try.body c.in-Try.catches c.deref-in-Try-2.result.now c.caught.result
    c.in-Try.is c.deref-in-Try.ensures c.deref-in-Try-2.ensures.value c.caught.ensures.others c.caught.ensures.value

pub returns-in_default : goal.returns-in_default
returns-in_default g t c =
    record { world = c.leaf.ensures.world; counts = c.leaf.ensures.counts; walked = c.leaf.ensures.walked (is_leaf c.args.tree.now c.in_default.not-Comma c.in_default.not-Paren c.in_default.not-Try) }
