use Rattle.std.proofs.Common.{◌≡◌, ◌≤◌, length}
use Rattle.json_text.specs.inside.Scan.{string_at}
use Rattle.query_lexer.specs.Scan.{behind}
use Rattle.query_lexer.proofs.strings.string_length.Given as goal

abbrev pub invariant-loop-next : goal.invariant-loop-next
invariant-loop-next l = record {
  within : length l.rest ≤ length l.text;
  same : behind (string_at l.rest) ≡ behind (string_at l.text);
}

abbrev pub decreases-loop-next : goal.decreases-loop-next
decreases-loop-next l = length l.rest
