use Rattle.std.specs.Prelude.{option_copied}
use Rattle.rumble_run.specs.inside.Cuts.{left_length, left_read}
use Rattle.rumble_run.proofs.ItemLists.{IsPrinted}
use Rattle.rumble_run.proofs.items.print_lines.Given as goal

abbrev pub invariant-printing : goal.invariant-printing
invariant-printing l = IsPrinted l.fn.input l.printed.items l.printed.out.items (left_read (option_copied l.lines.left))

abbrev pub decreases-printing : goal.decreases-printing
decreases-printing l = left_length (option_copied l.lines.left)
