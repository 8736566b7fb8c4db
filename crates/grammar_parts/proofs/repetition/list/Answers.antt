use Rattle.std.proofs.Common.{true}
use Rattle.grammar_parts.proofs.TurnLemmas.{turn_at, began_more}
use Rattle.grammar_parts.proofs.repetition.list.Goals as goal

pub returns : goal.returns
returns g c = record {
  began = began_more true (g.C.TokenClass.takes c.args.separator) (λ old r new. goal.G-post g c.args.item old r new) _ c.item.new.arg2.rest.now _ c.in_ok-item.field-0 _
      (turn_at (λ old r new. goal.G-post g c.args.item old r new) _ _ _ c.in_ok-item.ensures) (rw (← c.in_ok-found.ensures) c.more.ensures);
}
