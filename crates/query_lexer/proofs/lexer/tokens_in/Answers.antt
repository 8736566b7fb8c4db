use Rattle.std.proofs.Common.{arith, length-drop, ap, is_ok, sym, subst, ◌+◌}
use Rattle.std.proofs.lemmas.List.{take_rest}
use Rattle.query_lexer.specs.Lexes.{Stands}
use Rattle.query_lexer.specs.declared.steps.Step.TheVariants.{Skip, Take, Refuse}
use Rattle.std.proofs.ResultArms.{chosen}
use Rattle.query_lexer.proofs.PathLemmas.{Done, skip_done, take_done, refuse_done, end_done}
use Rattle.query_lexer.proofs.lexer.tokens_in.Goals as goal

pub loop-at-smaller-in-Skip : goal.loop-at-smaller-in-Skip
loop-at-smaller-in-Skip c = omega (arith, c.in-Skip.ensures.forward.0, c.in-Skip.ensures.forward.1, length-drop c.loop-at.at c.args.text.now)

pub loop-at-preserved-in-Skip : goal.loop-at-preserved-in-Skip
loop-at-preserved-in-Skip c = record {
  within = omega (arith, c.in-Skip.ensures.forward.1, length-drop c.loop-at.at c.args.text.now);
  done = skip_done c.args.text.now c.loop-at.at c.in-Skip.n c.loop-at.tokens.items c.loop-at.invariant.done (subst (λ t. Stands t (Skip c.in-Skip.n)) (take_rest c.args.text.now c.loop-at.at) c.in-Skip.ensures.stands);
}

pub loop-at-smaller : goal.loop-at-smaller
loop-at-smaller c = omega (arith, c.in-Take.ensures.forward.0, c.in-Take.ensures.forward.1, length-drop c.loop-at.at c.args.text.now)

pub loop-at-preserved : goal.loop-at-preserved
loop-at-preserved c =
    let pushed = chosen _ _ _ _ c.push.ensures.items (ap is_ok c.in_ok-push-in-Take.was) in
    record {
      within = omega (arith, c.in-Take.ensures.forward.1, length-drop c.loop-at.at c.args.text.now);
      done = subst (Done c.args.text.now (c.loop-at.at + c.in-Take.n)) (sym pushed) (take_done c.args.text.now c.loop-at.at c.in-Take.n c.in-Take.kind c.loop-at.tokens.items c.loop-at.invariant.done (subst (λ t. Stands t (Take c.in-Take.kind c.in-Take.n)) (take_rest c.args.text.now c.loop-at.at) c.in-Take.ensures.stands));
    }

pub returns-in-Refuse-clause-refused : goal.returns-in-Refuse-clause-refused
returns-in-Refuse-clause-refused c = refuse_done c.args.text.now c.loop-at.at c.in-Refuse.code c.loop-at.tokens.items c.loop-at.invariant.done c.loop-at.invariant.within (subst (λ t. Stands t (Refuse c.in-Refuse.code)) (take_rest c.args.text.now c.loop-at.at) c.in-Refuse.ensures.stands)

pub returns-clause-found : goal.returns-clause-found
returns-clause-found c = end_done c.args.text.now c.loop-at.at c.loop-at.tokens.items c.loop-at.invariant.done c.loop-at-test.false
