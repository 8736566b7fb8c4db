-- How `order by` goes from tuple to tuple.
use Rattle.std.specs.Prelude.{◌≡◌, ℕ, List, [], ◌∷◌, length, Option, Some, None, Ok}
use Rattle.item_tree.specs.Datum.{Datum}
use Rattle.seq_types.specs.declared.types.SeqType.{SeqType}
use Rattle.tuple_rows.specs.Keys.{KeyList, Keyed}
use Rattle.order_runs.specs.Orders.{key_lists}
use Rattle.order_runs.specs.Seen.{SeenStandsFor}
use Rattle.query_tree.specs.declared.bound.Slot.{Slot}
use Rattle.query_tree.specs.declared.bound.Target.{Target}
use Rattle.query_tree.specs.Plain as p
use Rattle.query_tree.specs.Plain.{PlainOrderKey, PlainOrderKeys}
use Rattle.query_meaning.specs.Outcome.{OrFault, ◌>>=◌, at_tuple}
use Rattle.query_meaning.specs.Environment.{Tuple, Environment, Inner, in_tuple, place_of}
use Rattle.query_meaning.specs.Keys.{key_of}
use Rattle.query_meaning.specs.Orders.{compared_keys}
use Rattle.clause_eval.specs.declared.order.Sorting.{Sorting}
use Rattle.clause_eval.specs.Frames.{keyed_list}

-- one key of a tuple
abbrev pub order_key : Inner → PlainOrderKey Slot Target SeqType → Environment
    → OrFault (Option Datum)
order_key inner (p.order_key_node e descending empty_greatest) env = do
  value ← inner e env
  key_of (place_of e) value

-- a tuple with its keys, where those of the tuples before it are known
unfoldable pub keyed_at : Inner → ℕ → PlainOrderKeys Slot Target SeqType → Environment
    → List KeyList → ℕ → Tuple → OrFault (List Keyed)
keyed_at inner number keys env before n tuple = do
  found ← at_tuple number n (compared_keys inner keys before (in_tuple env tuple))
  Ok ((found, tuple) ∷ [])

-- the column of a clash
abbrev pub clashing_column : Option (ℕ × ℕ) → Option ℕ
clashing_column None = None
clashing_column (Some p) = Some p.1

-- the classes of the keys of all these tuples were seen
pub record IsSorting (columns : ℕ) (s : Sorting) : Type 0 where
  pub seen : SeenStandsFor s.seen (key_lists (keyed_list s.entries.items))
  pub count : length s.seen.columns ≡ columns
