-- Clauses see no frame but those of their tuples.
use Rattle.std.proofs.Common.{◌≡◌, ℕ, ◌+◌, List, [], ◌∷◌, ◌++◌, length, Ok, refl, ap, ◌∙◌}
use mathlib.Core.Path.{fun_ext}
use Rattle.seq_types.specs.declared.types.SeqType.{SeqType}
use Rattle.tuple_rows.specs.Keys.{KeyList, Keyed}
use Rattle.group_table.specs.Groups.{group_rows}
use Rattle.order_runs.specs.Orders.{sorted, rows}
use Rattle.query_tree.specs.declared.bound.Slot.{Slot}
use Rattle.query_tree.specs.declared.bound.Target.{Target}
use Rattle.query_tree.specs.Bindings.{numbers_of}
use Rattle.query_tree.specs.Bound.{BoundTree}
use Rattle.query_tree.specs.Plain as p
use Rattle.query_tree.specs.Plain.{PlainClause, PlainClauses, PlainGroupVars, PlainOrderKeys}
use Rattle.query_meaning.specs.Outcome as m
use Rattle.query_meaning.specs.Outcome.{OrFault, Outcome}
use Rattle.query_meaning.specs.Environment.{Tuple, Environment, Inner, in_tuple, with_value}
use Rattle.query_meaning.specs.Clauses.{for_tuples, let_tuples, where_tuples, clause_value}
use Rattle.query_meaning.specs.Groups.{slots_of, group_key, group_key_value, group_keys, keyed_tuple, group_tuples, with_key}
use Rattle.query_meaning.specs.Keys.{key_of}
use Rattle.query_meaning.specs.Orders.{columns_of, compared_keys, keyed_from, order_tuples}
use Rattle.query_meaning.specs.Flwors.{with_slots, return_value, flwor_from}
use Rattle.piece_run.specs.Meanings.{FramesAreTuples}

module _ (inner : Inner) (env : Environment) (frame : Tuple) (same : length frame ≡ length env.frame) where
  abbrev other : Environment
  other = in_tuple env frame

  group_keys_same : (keys : PlainGroupVars Slot Target SeqType) (tuple : Tuple) → group_keys inner keys other tuple ≡ group_keys inner keys env tuple
  group_keys_same p.no_group_vars tuple = refl
  group_keys_same (p.more_group_vars k ks) tuple =
      let whole : (Tuple → OrFault Keyed) → OrFault Keyed = λ rest.
      m.◌>>=◌ (group_key_value inner k (in_tuple env tuple)) (λ value.
      m.◌>>=◌ (key_of (group_key k).place value) (λ key.
      m.◌>>=◌ (rest (with_value tuple (group_key k).name value)) (λ keyed. Ok (with_key key keyed)))) in
      ap whole (fun_ext (λ t. group_keys_same ks t))

  groups_same : (number : ℕ) (stream : List Slot) (keys : PlainGroupVars Slot Target SeqType) (tuples : List Tuple) → group_tuples inner number stream keys other tuples ≡ group_tuples inner number stream keys env tuples
  unfolding group_tuples keyed_tuple
  groups_same number stream keys tuples =
      let whole : (Tuple → OrFault Keyed) → ℕ → OrFault (List Tuple) = λ keyed_of width.
      m.◌>>=◌ (m.each_from (λ n tuple. m.◌>>=◌ (m.at_tuple number n (keyed_of tuple)) (λ keyed. Ok (keyed ∷ []))) 1 tuples)
      (λ keyed. Ok (group_rows width (numbers_of (slots_of keys)) (numbers_of stream) keyed)) in
      ap (λ (f : Tuple → OrFault Keyed). whole f (length frame)) (fun_ext (group_keys_same keys)) ∙ ap (whole (group_keys inner keys env)) same

  keyed_same : (number : ℕ) (keys : PlainOrderKeys Slot Target SeqType) (before : List KeyList) (n : ℕ) (tuples : List Tuple)
      → keyed_from inner number keys other before n tuples ≡ keyed_from inner number keys env before n tuples
  keyed_same number keys before n [] = refl
  keyed_same number keys before n (tuple ∷ tuples) =
      let whole : (KeyList → OrFault (List Keyed)) → OrFault (List Keyed) = λ rest.
      m.◌>>=◌ (m.at_tuple number n (compared_keys inner keys before (in_tuple env tuple))) (λ found.
      m.◌>>=◌ (rest found) (λ keyed. Ok ((found, tuple) ∷ keyed))) in
      ap whole (fun_ext (λ found. keyed_same number keys (before ++ found ∷ []) (n + 1) tuples))

  orders_same : (number : ℕ) (keys : PlainOrderKeys Slot Target SeqType) (tuples : List Tuple) → order_tuples inner number keys other tuples ≡ order_tuples inner number keys env tuples
  unfolding order_tuples
  orders_same number keys tuples =
      ap (λ (q : OrFault (List Keyed)). m.◌>>=◌ q (λ keyed. Ok (rows (sorted (columns_of keys) keyed)))) (keyed_same number keys [] 1 tuples)

  clause_same : (number : ℕ) (stream : List Slot) (c : PlainClause Slot Target SeqType) (tuples : List Tuple) → clause_value inner number stream c other tuples ≡ clause_value inner number stream c env tuples
  unfolding for_tuples let_tuples where_tuples
  clause_same number stream (p.for_clause variable t allowing_empty at source) tuples = refl
  clause_same number stream (p.let_clause variable t e) tuples = refl
  clause_same number stream (p.where_clause place test) tuples = refl
  clause_same number stream (p.count_clause place variable) tuples = refl
  clause_same number stream (p.group_clause place keys) tuples = groups_same number stream keys tuples
  clause_same number stream (p.order_clause place stable keys) tuples = orders_same number keys tuples

  flwor_same : (number : ℕ) (stream : List Slot) (clauses : PlainClauses Slot Target SeqType) (body : BoundTree) (tuples : List Tuple)
      → flwor_from inner number stream clauses body other tuples ≡ flwor_from inner number stream clauses body env tuples
  unfolding return_value
  flwor_same number stream p.no_clauses body tuples = refl
  flwor_same number stream (p.more_clauses c cs) body tuples =
      let next = flwor_from inner (number + 1) (with_slots stream c) cs body in
      ap (λ (q : OrFault (List Tuple)). m.◌>>=◌ q (next other)) (clause_same number stream c tuples)
      ∙ ap (λ (f : List Tuple → Outcome). m.◌>>=◌ (clause_value inner number stream c env tuples) f) (fun_ext (λ ts. flwor_same (number + 1) (with_slots stream c) cs body ts))

pub frames_are_tuples : FramesAreTuples
frames_are_tuples inner number stream clauses body env frame tuples same =
    flwor_same inner env frame same number stream clauses body tuples
