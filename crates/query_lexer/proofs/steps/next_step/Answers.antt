use Rattle.std.proofs.Common.{sym, subst}
use Rattle.query_lexer.specs.Lexes.{Stands}
use Rattle.query_lexer.proofs.StepLemmas.{step_stands}
use Rattle.query_lexer.proofs.PathLemmas.{step_forward}
use Rattle.query_lexer.proofs.steps.next_step.Goals as goal

pub returns : goal.returns
returns c =
    let stands = subst (Stands c.args.text.now) (sym c.step_at.ensures) (step_stands c.args.text.now c.requires) in
    record { stands = stands; forward = step_forward c.args.text.now c.step_at.result stands }
