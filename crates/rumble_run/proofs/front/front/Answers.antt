use Rattle.std.proofs.Common.{sym, subst, Err}
use Rattle.std.specs.Prelude.{IfSome}
use Rattle.item_tree.specs.declared.code.Code.TheVariants.{XPST0003}
use Rattle.rumble_run.specs.Front.{IsFront, refused_at}
use Rattle.rumble_run.specs.inside.Seen.{front_of}
use Rattle.rumble_run.proofs.Fronts.{behind, broken}
use Rattle.rumble_run.proofs.front.front.Goals as goal

pub returns-in-Ok : goal.returns-in-Ok
returns-in-Ok c =
    behind c.args.query.now c.without_mark.result.now c.in-Ok.text.now (front_of c.front_of_text.result) c.if-query-gt-MAX_LENGTH.false c.without_mark.ensures.rest c.in-Ok.ensures.cases c.front_of_text.ensures

pub returns-in-Err : goal.returns-in-Err
returns-in-Err c =
    subst (λ r. IfSome (front_of (Err r)) (IsFront c.args.query.now)) (sym c.refused-in-Err.ensures)
    (subst (λ n. IsFront c.args.query.now (refused_at XPST0003 n)) (sym c.valid_up_to.ensures) (broken c.args.query.now c.without_mark.result.now _ c.if-query-gt-MAX_LENGTH.false c.without_mark.ensures.rest c.in-Err.ensures.cases.1))
