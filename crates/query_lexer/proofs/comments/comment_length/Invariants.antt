use Rattle.std.proofs.Common.{◌≡◌, ◌≤◌, ◌-◌, length, drop}
use Rattle.query_lexer.specs.Comments.{comment_rest, plus}
use Rattle.query_lexer.proofs.comments.comment_length.Given as goal

abbrev pub invariant-loop-at : goal.invariant-loop-at
invariant-loop-at l = record {
  within : l.at ≤ length l.text;
  depth : l.depth ≤ l.at;
  same : plus l.at (comment_rest l.depth (drop l.at l.text)) ≡ comment_rest 0 l.text;
}

abbrev pub decreases-loop-at : goal.decreases-loop-at
decreases-loop-at l = length l.initial.text - l.at
