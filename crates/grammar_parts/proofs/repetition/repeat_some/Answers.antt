use Rattle.std.proofs.Common.{false}
use Rattle.grammar_parts.proofs.TurnLemmas.{turn_at, began_more}
use Rattle.grammar_parts.proofs.repetition.repeat_some.Goals as goal

pub returns : goal.returns
returns g c = record {
  began = began_more false (g.C.TokenClass.takes c.args.class) (λ old r new. goal.G-post g c.args.item old r new) _ c.item.new.arg2.rest.now _ c.in_ok-item.field-0 _
      (turn_at (λ old r new. goal.G-post g c.args.item old r new) _ _ _ c.in_ok-item.ensures) (rw (← c.in_ok-found.ensures) c.more.ensures);
}
