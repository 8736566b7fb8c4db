use Rattle.std.proofs.Common.{take}
use Rattle.tuple_rows.specs.Keys.{key_data}
use Rattle.eq_join.specs.inside.Noted.{AreClashes}
use Rattle.eq_join.proofs.clashes.clashes_of.Given as goal

abbrev pub invariant-loop-at : goal.invariant-loop-at
invariant-loop-at l = AreClashes l.clashes (key_data (take l.at l.keys))
