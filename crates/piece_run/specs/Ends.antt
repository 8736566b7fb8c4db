-- What the stages of a FLWOR end in, beside `order by`.
use Rattle.std.specs.Prelude.{ℕ, List, []}
use Rattle.item_tree.specs.Datum.{Datum}
use Rattle.seq_types.specs.declared.types.SeqType.{SeqType}
use Rattle.query_tree.specs.declared.bound.Slot.{Slot}
use Rattle.query_tree.specs.declared.bound.Target.{Target}
use Rattle.query_tree.specs.Bound.{BoundTree}
use Rattle.query_tree.specs.Plain.{PlainGroupVars}
use Rattle.query_meaning.specs.Environment.{Tuple, Environment, Inner}
use Rattle.stage_laws.specs.Stages.{kept_as}
use Rattle.clause_stages.specs.Steps.{TupleStage}
use Rattle.clause_stages.specs.Ends.{items_step, numbers_step, groups_step}
use Rattle.piece_outcomes.specs.Came.{Came, Seen, keyed_came}

-- `return` with its expression, `count`, or `group by` with its keys
pub data StageEnd : Type 0 where
  items : BoundTree → StageEnd
  numbers : StageEnd
  groups : PlainGroupVars Slot Target SeqType → StageEnd

-- items, and nothing else
abbrev pub items_came : List Datum → Came
items_came ds = record { tuples = []; keyed = []; items = ds }

-- tuples, and nothing else
abbrev pub tuples_came : List Tuple → Came
tuples_came ts = record { tuples = ts; keyed = []; items = [] }

-- each end as the last step, by its number
abbrev pub items_end : Inner → BoundTree → Environment → ℕ → TupleStage Came Seen
items_end inner body env number = kept_as items_came (items_step inner body env number)

abbrev pub numbers_end : ℕ → TupleStage Came Seen
numbers_end number = kept_as tuples_came (numbers_step number)

abbrev pub groups_end : Inner → PlainGroupVars Slot Target SeqType → Environment → ℕ
    → TupleStage Came Seen
groups_end inner keys env number = kept_as keyed_came (groups_step inner keys env number)

abbrev pub end_step : Inner → Environment → StageEnd → ℕ → TupleStage Came Seen
end_step inner env (items body) number = items_end inner body env number
end_step inner env numbers number = numbers_end number
end_step inner env (groups keys) number = groups_end inner keys env number
