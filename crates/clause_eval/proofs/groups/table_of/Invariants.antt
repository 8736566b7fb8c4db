use Rattle.std.proofs.Common.{◌≡◌, ◌+◌, drop, take, length}
use Rattle.std.specs.Vec.Iter.{into_iter_items, into_iter_len}
use Rattle.clause_eval.specs.Grouping.{AllHaveKeys, IsTable}
use Rattle.clause_eval.proofs.groups.table_of.Given as goal

abbrev pub invariant-loop-entry : goal.invariant-loop-entry
invariant-loop-entry l =
    (into_iter_items l.entry-iterator ≡ drop l.position l.fn.entries.items)
    × IsTable l.count (take l.position l.fn.entries.items) l.table
    × AllHaveKeys l.count (into_iter_items l.entry-iterator)
    × (into_iter_len l.entry-iterator ≡ length (into_iter_items l.entry-iterator))
    × (l.position + into_iter_len l.entry-iterator ≡ l.total)
