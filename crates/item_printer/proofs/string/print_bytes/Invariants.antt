use Rattle.std.proofs.Common.{length}
use Rattle.item_printer.specs.StringBytes.{bytes_text}
use Rattle.item_printer.proofs.Cuts.{Partway}
use Rattle.item_printer.proofs.string.print_bytes.Given as goal

abbrev pub invariant-loop-at : goal.invariant-loop-at
invariant-loop-at l = Partway (bytes_text l.bytes) (bytes_text l.rest) l.fn.out.items l.out.items

abbrev pub decreases-loop-at : goal.decreases-loop-at
decreases-loop-at l = length l.rest
