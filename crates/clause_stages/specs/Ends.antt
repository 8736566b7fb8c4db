-- The ends of stages of a FLWOR: `return`, `count`, `group by` and `order by`, each as a step, and
-- what is finished of all that comes out of it.
use Rattle.std.specs.Prelude.{ℕ, List, [], ◌∷◌, get_or, length, Option, Some, None, Ok}
use Rattle.item_tree.specs.Datum.{Datum}
use Rattle.item_tree.specs.Faults.{fault_at}
use Rattle.item_tree.specs.declared.code.Code.TheVariants.{XPTY0004}
use Rattle.item_tree.specs.declared.fault.Fault.{Fault}
use Rattle.seq_types.specs.declared.types.SeqType.{SeqType}
use Rattle.tuple_rows.specs.Keys.{KeyList, Keyed}
use Rattle.group_table.specs.Groups.{group_rows}
use Rattle.order_runs.specs.Clashes.{clash_column}
use Rattle.order_runs.specs.Orders.{sorted, rows}
use Rattle.query_tree.specs.declared.bound.Slot.{Slot}
use Rattle.query_tree.specs.declared.bound.Target.{Target}
use Rattle.query_tree.specs.declared.names.Placed.{Placed}
use Rattle.query_tree.specs.Bindings.{numbers_of}
use Rattle.query_tree.specs.Bound.{BoundTree}
use Rattle.query_tree.specs.Plain.{PlainGroupVars, PlainOrderKeys}
use Rattle.query_meaning.specs.Outcome.{OrFault, ◌>>=◌}
use Rattle.query_meaning.specs.Environment.{Tuple, Environment, Inner, with_value, in_tuple}
use Rattle.query_meaning.specs.Clauses.{of_number}
use Rattle.query_meaning.specs.Groups.{slots_of, group_keys}
use Rattle.query_meaning.specs.Orders.{order_keys, columns_of, column_places}
use Rattle.stage_laws.specs.Stages.{ended, narrow, ordered}
use Rattle.stage_laws.specs.Ends.{numbered_from}
use Rattle.clause_stages.specs.Steps.{TupleStage}

-- tuples are kept: no step is left
abbrev pub tuples_step : {K : Type 0} → ℕ → TupleStage (List Tuple) K
tuples_step number = ended

-- `return`: the items that its expression gives for each tuple
abbrev pub returned : Inner → BoundTree → Environment → Tuple → OrFault (List Datum)
returned inner body env tuple = inner body (in_tuple env tuple)

abbrev pub items_step : {K : Type 0} → Inner → BoundTree → Environment → ℕ
    → TupleStage (List Datum) K
items_step inner body env number = narrow number (returned inner body env) ended

-- `count`: its step lets each tuple through, and all that came through are numbered at the end
abbrev pub let_through : Tuple → OrFault (List Tuple)
let_through tuple = Ok (tuple ∷ [])

abbrev pub numbers_step : {K : Type 0} → ℕ → TupleStage (List Tuple) K
numbers_step number = narrow number let_through ended

-- the tuple of this number, where `count` binds the variable
abbrev pub with_number : Placed Slot → ℕ → Tuple → Tuple
with_number variable n tuple = with_value tuple variable.name (of_number n)

abbrev pub numbered : Placed Slot → List Tuple → List Tuple
numbered variable tuples = numbered_from (with_number variable) 1 tuples

-- `group by`: its step finds the keys of each tuple, and the groups are made of all of them
abbrev pub group_keyed : Inner → PlainGroupVars Slot Target SeqType → Environment → Tuple
    → OrFault (List Keyed)
group_keyed inner keys env tuple = group_keys inner keys env tuple >>= λ keyed. Ok (keyed ∷ [])

abbrev pub groups_step : {K : Type 0} → Inner → PlainGroupVars Slot Target SeqType → Environment
    → ℕ → TupleStage (List Keyed) K
groups_step inner keys env number = narrow number (group_keyed inner keys env) ended

-- the groups of tuples with their keys, where the stream binds these slots
abbrev pub grouped : PlainGroupVars Slot Target SeqType → Environment → List Slot → List Keyed
    → List Tuple
grouped keys env stream keyed =
    group_rows (length env.frame) (numbers_of (slots_of keys)) (numbers_of stream) keyed

-- `order by`: its step finds the keys of each tuple and compares their classes with those before
-- them, and all of them are sorted at the end
abbrev pub tuple_keys : Inner → PlainOrderKeys Slot Target SeqType → Environment → Tuple
    → OrFault KeyList
tuple_keys inner keys env tuple = order_keys inner keys (in_tuple env tuple)

abbrev pub column_fault : List ℕ → Option ℕ → Option Fault
column_fault places None = None
column_fault places (Some column) = Some (fault_at XPTY0004 (get_or places column 0))

-- the fault of keys that clash in class with keys before them, at the place of the first such
-- column
abbrev pub order_clash : PlainOrderKeys Slot Target SeqType → List KeyList → KeyList → Option Fault
order_clash keys before found = column_fault (column_places keys) (clash_column before found)

abbrev pub orders_step : Inner → PlainOrderKeys Slot Target SeqType → Environment → ℕ
    → TupleStage (List Keyed) KeyList
orders_step inner keys env number = ordered number (tuple_keys inner keys env) (order_clash keys)

abbrev pub in_key_order : PlainOrderKeys Slot Target SeqType → List Keyed → List Tuple
in_key_order keys keyed = rows (sorted (columns_of keys) keyed)
