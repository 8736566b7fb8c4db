use Rattle.expr_eval.proofs.FixedSteps.{plain_integer, plain_variable}
use Rattle.expr_eval.proofs.fixed.is_plain.Goals as goal

pub returns-in-Int : goal.returns-in-Int
returns-in-Int c = λ _. plain_integer c.args.e.now c.in-Int.value c.in-Int.is

pub returns-in-Var : goal.returns-in-Var
returns-in-Var c = λ _. plain_variable c.args.e.now c.in-Var.variable c.in-Var.is
