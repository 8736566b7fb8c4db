-- How `group by` goes from key to key.
use Rattle.std.specs.Prelude.{◌≡◌, ℕ, suc, List, [], ◌∷◌, ◌++◌, length, Ok}
use Rattle.seq_types.specs.declared.types.SeqType.{SeqType}
use Rattle.tuple_rows.specs.Keys.{KeyList, Keyed, AllKeys, key_list}
use Rattle.group_table.specs.Grouping.{Grouping, StandsFor, AllKeyed}
use Rattle.order_runs.specs.Orders.{key_lists, rows}
use Rattle.order_runs.specs.Seen.{AllCount}
use Rattle.query_tree.specs.declared.bound.Slot.{Slot}
use Rattle.query_tree.specs.declared.bound.Target.{Target}
use Rattle.query_tree.specs.Plain as p
use Rattle.query_tree.specs.Plain.{PlainGroupVar, PlainGroupVars}
use Rattle.query_meaning.specs.Outcome.{OrFault, ◌>>=◌}
use Rattle.query_meaning.specs.Environment.{Tuple, Environment, Inner, with_value, in_tuple}
use Rattle.query_meaning.specs.Keys.{key_of}
use Rattle.query_meaning.specs.Groups.{group_key, group_key_value}
use Rattle.clause_eval.specs.Frames.{Entry, keyed_list, tuples_of}
use Rattle.clause_eval.specs.Positions.{numbers_from, numbered}
use Rattle.clause_eval.specs.declared.groups.Table.{Table}

-- a tuple with its keys
abbrev pub has_keys : KeyList → Tuple → OrFault Keyed
has_keys ks tuple = Ok (ks, tuple)

-- one more key of a tuple, behind those that it has
unfoldable pub one_more_key : Inner → PlainGroupVar Slot Target SeqType → Environment → Keyed
    → OrFault Keyed
one_more_key inner k env keyed = do
  value ← group_key_value inner k (in_tuple env keyed.1)
  key ← key_of (group_key k).place value
  has_keys (keyed.0 ++ key ∷ []) (with_value keyed.1 (group_key k).name value)

-- all of these
abbrev pub more_keys : Inner → PlainGroupVars Slot Target SeqType → Environment → Keyed
    → OrFault Keyed
more_keys inner p.no_group_vars env keyed = Ok keyed
more_keys inner (p.more_group_vars k ks) env keyed = do
  next ← one_more_key inner k env keyed
  more_keys inner ks env next

-- so many keys, each absent or one atomic
abbrev pub HasKeys : ℕ → Entry → Type 0
HasKeys count e = AllKeys (key_list e.0) × (length e.0.items ≡ count)

abbrev pub AllHaveKeys : ℕ → List Entry → Type 0
AllHaveKeys count es = AllKeyed (keyed_list es) × AllCount count (key_lists (keyed_list es))

-- a table of positions, with so many keys
abbrev pub IsShaped : ℕ → Grouping → Type 0
IsShaped count t = t ≡ record {
  width = suc count;
  keys = numbers_from 1 count;
  joined = 0 ∷ [];
  seed = t.seed;
  groups = t.groups;
}

-- the table of these tuples
pub record IsTable (count : ℕ) (es : List Entry) (t : Table) : Type 0 where
  pub shape : IsShaped count t.groups
  pub stands : StandsFor t.groups (numbered count 0 (keyed_list es))
  pub frames : tuples_of t.frames ≡ rows (keyed_list es)
