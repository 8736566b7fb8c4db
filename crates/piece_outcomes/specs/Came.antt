-- What comes out behind the last step of a stage: tuples, tuples with their keys, or items.
use Rattle.std.specs.Prelude.{List, [], ◌++◌}
use Rattle.item_tree.specs.Datum.{Datum}
use Rattle.item_tree.specs.declared.fault.Fault.{Fault}
use Rattle.tuple_rows.specs.Tuples.{Row}
use Rattle.tuple_rows.specs.Keys.{Keyed}
use Rattle.stage_laws.specs.Pieces.{Follow}
use Rattle.stage_laws.specs.Ends.{merged}

-- two of the lists are empty
pub record Came : Type 0 where
  pub tuples : List Row
  pub keyed : List Keyed
  pub items : List Datum

abbrev pub nothing_came : Came
nothing_came = record { tuples = []; keyed = []; items = [] }

-- what comes of one piece, and after it what comes of the next
abbrev pub came_behind : Came → Came → Came
came_behind a b = record {
  tuples = a.tuples ++ b.tuples;
  keyed = a.keyed ++ b.keyed;
  items = a.items ++ b.items;
}

-- no step but an order sees keys
abbrev pub Seen : Type 0
Seen = Unit {0}

abbrev pub follow : Follow Came Seen Fault
follow = merged came_behind

-- tuples with their keys, and nothing else
abbrev pub keyed_came : List Keyed → Came
keyed_came ks = record { tuples = []; keyed = ks; items = [] }
