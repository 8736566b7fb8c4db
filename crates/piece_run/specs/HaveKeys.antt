-- The tuples that come to `group by` have as many keys as it names, each absent or one atomic.
use Rattle.std.specs.Prelude.{◌≡◌, ℕ, zero, suc, List, Ok}
use Rattle.seq_types.specs.declared.types.SeqType.{SeqType}
use Rattle.tuple_rows.specs.Keys.{Keyed}
use Rattle.group_table.specs.Grouping.{AllKeyed}
use Rattle.order_runs.specs.Orders.{key_lists}
use Rattle.order_runs.specs.Seen.{AllCount}
use Rattle.query_tree.specs.declared.bound.Slot.{Slot}
use Rattle.query_tree.specs.declared.bound.Target.{Target}
use Rattle.query_tree.specs.Plain as p
use Rattle.query_tree.specs.Plain.{PlainClauses, PlainGroupVars}
use Rattle.query_meaning.specs.Environment.{Tuple, Environment, Inner}
use Rattle.clause_stages.specs.Steps.{clauses_stage}
use Rattle.piece_outcomes.specs.Came.{Came}
use Rattle.piece_run.specs.Ends.{groups, end_step}

abbrev pub how_many_keys : PlainGroupVars Slot Target SeqType → ℕ
how_many_keys p.no_group_vars = zero
how_many_keys (p.more_group_vars k ks) = suc (how_many_keys ks)

-- each has so many keys
abbrev pub AllHave : ℕ → List Keyed → Type 0
AllHave count keyed = AllKeyed keyed × AllCount count (key_lists keyed)

-- all that comes out of a stage that ends in `group by` has its keys
abbrev pub GroupsHaveKeys : Type 0
GroupsHaveKeys = (inner : Inner) (number : ℕ) (clauses : PlainClauses Slot Target SeqType)
    (keys : PlainGroupVars Slot Target SeqType) (env : Environment) (tuples : List Tuple)
    (came : Came)
    → (clauses_stage inner number clauses env (end_step inner env (groups keys))).run tuples
    ≡ Ok came
    → AllHave (how_many_keys keys) came.keyed
