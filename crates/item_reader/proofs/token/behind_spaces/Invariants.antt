use Rattle.std.proofs.Common.{◌≡◌, length}
use Rattle.json_text.specs.inside.Machine.{token_at}
use Rattle.item_reader.proofs.token.behind_spaces.Given as goal

abbrev pub invariant-loop-b : goal.invariant-loop-b
invariant-loop-b l = token_at l.left ≡ token_at l.line

abbrev pub decreases-loop-b : goal.decreases-loop-b
decreases-loop-b l = length l.left
