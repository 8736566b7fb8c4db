use Rattle.std.proofs.Common.{◌≤◌, ◌-◌, length}
use Rattle.query_lexer.proofs.PathLemmas.{Done}
use Rattle.query_lexer.proofs.lexer.tokens_in.Given as goal

abbrev pub invariant-loop-at : goal.invariant-loop-at
invariant-loop-at l = record {
  within : l.at ≤ length l.text;
  done : Done l.text l.at l.tokens.items;
}

abbrev pub decreases-loop-at : goal.decreases-loop-at
decreases-loop-at l = length l.initial.text - l.at
