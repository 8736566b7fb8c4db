use Rattle.std.proofs.Common.{◌≡◌, ◌++◌, take}
use Rattle.fn_sequences.proofs.copies.append.Given as goal

abbrev pub invariant-loop-x : goal.invariant-loop-x
invariant-loop-x l = l.out.items ≡ l.initial.out.items ++ take l.x-index l.items
