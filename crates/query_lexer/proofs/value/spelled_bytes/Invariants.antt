use Rattle.std.proofs.Common.{◌≡◌, length}
use Rattle.json_text.specs.inside.Scan.{string_at, after_bytes}
use Rattle.query_lexer.proofs.value.spelled_bytes.Given as goal

abbrev pub invariant-loop-spelled : goal.invariant-loop-spelled
invariant-loop-spelled l = string_at l.text ≡ after_bytes l.out.items (string_at l.rest)

abbrev pub decreases-loop-spelled : goal.decreases-loop-spelled
decreases-loop-spelled l = length l.rest
