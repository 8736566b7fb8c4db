use Rattle.std.proofs.Common.{◌≡◌, length}
use Rattle.query_meaning.specs.Outcome.{with_front, each}
use Rattle.query_meaning.specs.inside.Views.{values_of}
use Rattle.clause_stages.specs.Drivers.{line_item}
use Rattle.clause_stages.specs.InputLines.{line_read}
use Rattle.piece_run.proofs.reading.read_items.Given as goal

abbrev pub invariant-reading : goal.invariant-reading
invariant-reading l =
    with_front (values_of l.items) (each (line_item (line_read l.place)) l.left)
    ≡ each (line_item (line_read l.place)) l.fn.lines

abbrev pub decreases-reading : goal.decreases-reading
decreases-reading l = length l.left
