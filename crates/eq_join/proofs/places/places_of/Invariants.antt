use Rattle.std.proofs.Common.{take}
use Rattle.tuple_rows.specs.Keys.{key_data}
use Rattle.eq_join.specs.inside.Places.{ArePlaces}
use Rattle.eq_join.proofs.places.places_of.Given as goal

abbrev pub invariant-loop-at : goal.invariant-loop-at
invariant-loop-at l = ArePlaces l.places (key_data (take l.at l.keys))
