-- What is gathered of the first stage of a FLWOR, and what comes after that, is what is meant.
use Rattle.std.proofs.Common.{map, ◌≡◌, ℕ, ◌+◌, ◌≤◌, true, List, [], ◌∷◌, length, take, drop, Option, Some, Result, Ok, Err, IfOk, sym, ap, ◌∙◌, subst}
use Rattle.item_tree.specs.Datum.{Datum}
use Rattle.item_tree.specs.declared.fault.Fault.{Fault}
use Rattle.seq_types.specs.declared.types.SeqType.{SeqType}
use Rattle.tuple_rows.specs.Keys.{KeyList, Keyed}
use Rattle.query_tree.specs.BoundViews.{bound_tree, bound_clause, bound_clauses, bound_group_vars, bound_order_keys}
use Rattle.query_tree.specs.Bound.{BoundTree}
use Rattle.query_tree.specs.declared.bound.Slot.{Slot}
use Rattle.query_tree.specs.declared.bound.Target.{Target}
use Rattle.query_tree.specs.declared.clause.Clause.{Clause}
use Rattle.query_tree.specs.Plain as p
use Rattle.query_tree.specs.Plain.{PlainClause}
use Rattle.query_tree.specs.Scoped.{clause_slots}
use Rattle.query_meaning.specs.Outcome.{OrFault, Outcome, ◌>>=◌, each}
use Rattle.query_meaning.specs.Environment.{Tuple, Inner, in_tuple}
use Rattle.query_meaning.specs.Pieces.{are_narrow}
use Rattle.query_meaning.specs.inside.Views.{tuple_of}
use Rattle.line_pieces.specs.Pieces.{lines_of}
use Rattle.stage_laws.specs.Runs.{Met}
use Rattle.stage_laws.specs.Ends.{ended_by}
use Rattle.clause_eval.specs.declared.bindings.Binding.{Binding}
use Rattle.clause_stages.specs.Drivers.{driver_marked, line_item}
use Rattle.clause_stages.specs.Ends.{numbered, grouped, orders_step, in_key_order}
use Rattle.clause_stages.specs.InputLines.{line_read}
use Rattle.piece_outcomes.specs.Came.{Came, Seen}
use Rattle.piece_outcomes.specs.Outcomes.{ResultIs}
use Rattle.piece_outcomes.specs.Orders as order
use Rattle.piece_outcomes.specs.declared.outcome.Gathered.{Gathered}
use Rattle.piece_run.specs.Ends.{StageEnd, items, numbers, groups, end_step}
use Rattle.piece_run.specs.Flwors.{flwor_inner, flwor_environment, ForOver, for_over, GoesOn, after_for, leading_slots, flwor_lines, flwor_meant, AreNumbered, MeansLines, GatheredLines, GatheredOrder, rest_meant, EndIs}
use Rattle.piece_run.specs.Kept.{KeptIs}
use Rattle.piece_run.specs.Meanings.{LinesFor, GivesLines, lines_run, clauses_to}
use Rattle.piece_run.specs.Outcomes.{CameIs}
use Rattle.piece_run.specs.declared.came.CameOut.{CameOut}
use Rattle.piece_run.specs.declared.driven_flwor.DrivenFlwor.{DrivenFlwor}
use Rattle.piece_run.specs.declared.first_end.FirstEnd.TheVariants as first
use Rattle.piece_run.specs.declared.leaf_fault.LeafFault.{LeafFault}
use Rattle.piece_run.proofs.FlworParts.{Clauses, same_over, meant_whole, meant_to, slots_before}
use Rattle.piece_run.proofs.LinesMeant.{driven_stages_give_values}

-- ---- the first end

if_ok : {X E : Type 0} (r : Result X E) (P Q : X → Type 0) → ((x : X) → P x → Q x) → IfOk r P → IfOk r Q
if_ok (Ok x) P Q f h = f x h
if_ok (Err e) P Q f h = tt

module _ {F K : Type 0} (stands : K → List Datum → Type 0) (f : DrivenFlwor F) (told : List (Option (List ℕ))) (b : Binding) (source : BoundTree) (count : ℕ)
    (goes : GoesOn f (for_over b source (bound_clauses (after_for f)))) (within : f.lets + 1 + count ≤ length f.clauses.now) (narrow : are_narrow (bound_clauses (take count (after_for f))) ≡ true) where
  abbrev over : ForOver
  over = for_over b source (bound_clauses (after_for f))

  abbrev lines_for_it : LinesFor
  lines_for_it = flwor_lines f over count

  abbrev here : ℕ
  here = f.lets + 1

  abbrev after_end : List Tuple → Outcome
  after_end = rest_meant f (here + count + 1)

  -- the `for` is the one that was found
  of_over : (answer : Result K LeafFault)
      → ((files : List (List ℕ)) (outer : Inner) → told ≡ map Some files → AreNumbered b.at.now f.cut.now.size f.before.now files → GivesLines outer lines_for_it (lines_of files)
      → KeptIs stands answer (flwor_meant f over outer))
      → MeansLines stands f told answer
  of_over answer h = λ w files outer other told_is numbers gives.
      let same : over ≡ w = same_over f over w goes other in
      subst (λ (v : ForOver). AreNumbered v.at f.cut.now.size f.before.now files
      → outer v.source (in_tuple (flwor_environment f) (tuple_of f.leading.now)) ≡ each (line_item (line_read f.place)) (lines_of files)
      → KeptIs stands answer (flwor_meant f v outer)) same (λ n g. h files outer told_is n g) numbers gives

  module _ {E : Type 0} (ran : Result (Gathered (CameOut K)) E) (answer : Result K LeafFault) where
    -- of what was gathered of the lines
    came : (end : StageEnd) (files : List (List ℕ)) → IfOk ran (GatheredLines stands f b count end told) → told ≡ map Some files → AreNumbered b.at.now f.cut.now.size f.before.now files
        → IfOk ran (λ g. ResultIs (CameIs stands) g (lines_run lines_for_it (end_step (flwor_inner f) (flwor_environment f) end) (lines_of files)))
    came end files lines told_is n =
        if_ok ran (GatheredLines stands f b count end told) (λ g. ResultIs (CameIs stands) g (lines_run lines_for_it (end_step (flwor_inner f) (flwor_environment f) end) (lines_of files)))
        (λ g h. h source files told_is n) lines

    pub means_items : IfOk ran (GatheredLines stands f b count (items (bound_tree f.body.now)) told) → drop count (after_for f) ≡ []
        → ((r : Result Came (Met Seen Fault)) → IfOk ran (λ g. ResultIs (CameIs stands) g r) → KeptIs stands answer (ended_by (driver_marked here) (λ w. Ok w.items) r))
        → MeansLines stands f told answer
    means_items lines none value = of_over answer (λ files outer told_is n gives.
        subst (KeptIs stands answer)
        (sym (meant_whole f over goes count within outer none ∙ driven_stages_give_values.items outer lines_for_it (leading_slots f) (lines_of files) (bound_tree f.body.now) gives narrow))
        (value _ (came (items (bound_tree f.body.now)) files lines told_is n)))

    module _ (c : Clause Slot Target SeqType) (cs : Clauses) (left : drop count (after_for f) ≡ c ∷ cs) where
      -- the clause that ends the stage, and what comes after it
      goes_on : (outer : Inner) (plain : PlainClause Slot Target SeqType) (o : OrFault (List Tuple)) → bound_clause c ≡ plain → clauses_to outer lines_for_it (leading_slots f) plain ≡ o
          → KeptIs stands answer (o >>= after_end) → KeptIs stands answer (flwor_meant f over outer)
      goes_on outer plain o is h k =
          subst (KeptIs stands answer)
          (sym (meant_to f over goes count within outer c cs left
          ∙ ap (λ (q : OrFault (List Tuple)). q >>= after_end) (ap (λ (x : PlainClause Slot Target SeqType). clauses_to outer lines_for_it (leading_slots f) x) is ∙ h))) k

      pub means_numbers : (variable : _) → EndIs (first.Count variable) (bound_clause c) → IfOk ran (GatheredLines stands f b count numbers told)
          → ((r : Result Came (Met Seen Fault)) → IfOk ran (λ g. ResultIs (CameIs stands) g r)
          → KeptIs stands answer (ended_by (driver_marked here) (λ w. Ok (numbered variable.now w.tuples)) r >>= after_end))
          → MeansLines stands f told answer
      means_numbers variable end lines value = of_over answer (λ files outer told_is n gives.
          goes_on outer (p.count_clause end.0 variable.now) _ end.1
          (driven_stages_give_values.numbers outer lines_for_it (leading_slots f) (lines_of files) end.0 variable.now gives narrow)
          (value _ (came numbers files lines told_is n)))

      pub means_groups : (keys : _) → EndIs (first.Group keys) (bound_clause c) → IfOk ran (GatheredLines stands f b count (groups (bound_group_vars keys.now)) told)
          → ((r : Result Came (Met Seen Fault)) → IfOk ran (λ g. ResultIs (CameIs stands) g r)
          → KeptIs stands answer (ended_by (driver_marked here)
          (λ w. Ok (grouped (bound_group_vars keys.now) (flwor_environment f) (clause_slots (bound_clauses (take (here + count) f.clauses.now))) w.keyed)) r >>= after_end))
          → MeansLines stands f told answer
      means_groups keys end lines value = of_over answer (λ files outer told_is n gives.
          let r = lines_run lines_for_it (end_step (flwor_inner f) (flwor_environment f) (groups (bound_group_vars keys.now))) (lines_of files) in
          goes_on outer (p.group_clause end.0 (bound_group_vars keys.now)) _ end.1
          (driven_stages_give_values.groups outer lines_for_it (leading_slots f) (lines_of files) end.0 (bound_group_vars keys.now) gives narrow)
          (subst (λ (vs : List Slot). KeptIs stands answer (ended_by (driver_marked here) (λ w. Ok (grouped (bound_group_vars keys.now) (flwor_environment f) vs w.keyed)) r >>= after_end))
          (slots_before f over goes count within) (value r (came (groups (bound_group_vars keys.now)) files lines told_is n))))

      pub means_orders : (keys : _) → EndIs (first.Order keys) (bound_clause c) → IfOk ran (GatheredOrder stands f b count (bound_order_keys keys.now) told)
          → ((r : Result (List Keyed) (Met KeyList Fault)) → IfOk ran (λ g. order.ResultIs (CameIs stands) g r)
          → KeptIs stands answer (ended_by (driver_marked here) (λ ks. Ok (in_key_order (bound_order_keys keys.now) ks)) r >>= after_end))
          → MeansLines stands f told answer
      means_orders keys end lines value = of_over answer (λ files outer told_is n gives.
          let r = lines_run lines_for_it (orders_step (flwor_inner f) (bound_order_keys keys.now) (flwor_environment f)) (lines_of files) in
          goes_on outer (p.order_clause end.0 end.1 (bound_order_keys keys.now)) _ end.2
          (driven_stages_give_values.orders outer lines_for_it (leading_slots f) (lines_of files) end.0 end.1 (bound_order_keys keys.now) gives narrow)
          (value r (if_ok ran (GatheredOrder stands f b count (bound_order_keys keys.now) told) (λ g. order.ResultIs (CameIs stands) g r) (λ g h. h source files told_is n) lines)))
