-- What a FLWOR with a driver means, by its parts: the `let`s and all that is after the `for` are
-- evaluated in the run's own program, and the `for` goes over the driver's input.
use Rattle.std.proofs.Common.{◌≡◌, ℕ, ◌+◌, false, List, [], ◌∷◌, ◌++◌, length, map, take, drop, Some, Ok, Err, refl, sym, ap, ◌∙◌, arith}
use Rattle.std.proofs.Math.Seq.{take-append_seam, drop-append_seam}
use Rattle.std.proofs.lemmas.List.{take-map, drop-map}
use Rattle.item_tree.specs.declared.fault.Fault.{Fault}
use Rattle.seq_types.specs.declared.types.SeqType.{SeqType}
use Rattle.query_tree.specs.declared.bound.Slot.{Slot}
use Rattle.query_tree.specs.declared.bound.Target.{Target}
use Rattle.query_tree.specs.declared.bound.Target.TheVariants.{Lines}
use Rattle.query_tree.specs.declared.clause.Clause.{Clause}
use Rattle.query_tree.specs.Bound.{BoundTree}
use Rattle.query_tree.specs.BoundViews.{bound_clause, bound_clauses}
use Rattle.query_tree.specs.Scoped.{clause_slots}
use Rattle.query_tree.specs.Plain as p
use Rattle.query_tree.specs.Plain.{PlainClause, PlainClauses, Trees}
use Rattle.mode_planner.specs.Drivers.{DriverPlan}
use Rattle.mode_planner.specs.Laws.{HasDriver}
use Rattle.query_meaning.specs.Outcome.{OrFault, Outcome, ◌>>=◌}
use Rattle.query_meaning.specs.Environment.{Tuple, Environment, in_tuple}
use Rattle.query_meaning.specs.Calls.{Program}
use Rattle.query_meaning.specs.Clauses.{clause_value}
use Rattle.query_meaning.specs.Flwors.{with_slots, flwor_from, flwor_value}
use Rattle.query_meaning.specs.Meaning.{eval}
use Rattle.meaning_laws.specs.Laws.{FlworsFindCalls}
use Rattle.clause_eval.specs.NarrowRuns.{clauses_value}
use Rattle.piece_run.specs.Leaf.{SameBeside}
use Rattle.piece_run.proofs.Frames.{frames_are_tuples}
use Rattle.piece_run.proofs.LeadingLets.{clauses_same, clauses_parted, for_faults}

-- ---- the clauses of the code

plain_list : (xs : List (PlainClause Slot Target SeqType)) → p.listed_clauses Slot Target SeqType (p.clauses_of Slot Target SeqType xs) ≡ xs
plain_list [] = refl
plain_list (x ∷ xs) = ap (λ (ys : List (PlainClause Slot Target SeqType)). x ∷ ys) (plain_list xs)

one_list : (xs ys : List (PlainClause Slot Target SeqType)) → p.clauses_of Slot Target SeqType xs ≡ p.clauses_of Slot Target SeqType ys → xs ≡ ys
one_list xs ys e = sym (plain_list xs) ∙ ap (p.listed_clauses Slot Target SeqType) e ∙ plain_list ys

-- the `for` over the driver
abbrev pub driver_call : {clauses : PlainClauses Slot Target SeqType} {d : DriverPlan} → HasDriver clauses d → BoundTree
driver_call {d = d} has = p.tree_node d.place (p.call_form (Lines d.names) has.arguments)

abbrev pub driver_for : {clauses : PlainClauses Slot Target SeqType} {d : DriverPlan} → HasDriver clauses d → PlainClause Slot Target SeqType
driver_for has = p.for_clause has.variable has.type false has.at (driver_call has)

module _ (cs : List (Clause Slot Target SeqType)) (d : DriverPlan) (has : HasDriver (bound_clauses cs) d) where
  pub all_parts : map bound_clause cs ≡ has.before ++ driver_for has ∷ has.after
  all_parts = one_list (map bound_clause cs) (has.before ++ driver_for has ∷ has.after) has.parted

  pub before_listed : map bound_clause (take d.lets cs) ≡ has.before
  before_listed =
      sym (take-map bound_clause d.lets cs) ∙ ap (take d.lets) all_parts
      ∙ ap (λ (n : ℕ). take n (has.before ++ driver_for has ∷ has.after)) has.counted ∙ take-append_seam has.before (driver_for has ∷ has.after)

  pub before_are : bound_clauses (take d.lets cs) ≡ p.clauses_of Slot Target SeqType has.before
  before_are = ap (p.clauses_of Slot Target SeqType) before_listed

  pub rest_are : bound_clauses (drop d.lets cs) ≡ p.more_clauses (driver_for has) (p.clauses_of Slot Target SeqType has.after)
  rest_are =
      ap (p.clauses_of Slot Target SeqType) (sym (drop-map bound_clause d.lets cs) ∙ ap (drop d.lets) all_parts
      ∙ ap (λ (n : ℕ). drop n (has.before ++ driver_for has ∷ has.after)) has.counted ∙ drop-append_seam has.before (driver_for has ∷ has.after))

-- ---- what is meant

then_same : (r : OrFault (List Tuple)) (f g : List Tuple → Outcome) → ((ts : List Tuple) → f ts ≡ g ts) → (r >>= f) ≡ (r >>= g)
then_same (Ok ts) f g h = h ts
then_same (Err fault) f g h = refl

module _ (law : FlworsFindCalls) (full own : Program) (depth : ℕ) (clauses : PlainClauses Slot Target SeqType) (body : BoundTree) (d : DriverPlan) (has : HasDriver clauses d) (same : SameBeside full own clauses body d) (env : Environment) where
  abbrev before : PlainClauses Slot Target SeqType
  before = p.clauses_of Slot Target SeqType has.before

  abbrev after : PlainClauses Slot Target SeqType
  after = p.clauses_of Slot Target SeqType has.after

  abbrev lets_value : OrFault (List Tuple)
  lets_value = clauses_value (eval own depth) 1 [] before env (env.frame ∷ [])

  -- the `let`s, and then the others
  parted : flwor_value (eval full depth) clauses body env
      ≡ (lets_value >>= flwor_from (eval full depth) (1 + length has.before) (clause_slots before) (p.more_clauses (driver_for has) after) body env)
  unfolding flwor_value
  parted =
      ap (λ (cs : PlainClauses Slot Target SeqType). flwor_from (eval full depth) 1 [] cs body env (env.frame ∷ [])) has.parted
      ∙ clauses_parted (eval full depth) 1 [] has.before (driver_for has ∷ has.after) body env (env.frame ∷ [])
      ∙ ap (λ (r : OrFault (List Tuple)). r >>= flwor_from (eval full depth) (1 + length has.before) (clause_slots before) (p.more_clauses (driver_for has) after) body env)
      (clauses_same law full own depth same.place same.at [] before body env (env.frame ∷ []) (same.parts has).0)

  pub lets_fault : (fault : Fault) → lets_value ≡ Err fault → flwor_value (eval full depth) clauses body env ≡ Err fault
  lets_fault fault h =
      parted ∙ ap (λ (r : OrFault (List Tuple)). r >>= flwor_from (eval full depth) (1 + length has.before) (clause_slots before) (p.more_clauses (driver_for has) after) body env) h

  module _ (tuple : Tuple) (is : lets_value ≡ Ok (tuple ∷ [])) (width : length tuple ≡ length env.frame) where
    from_tuple : flwor_value (eval full depth) clauses body env
        ≡ flwor_from (eval full depth) (d.lets + 1) (clause_slots before) (p.more_clauses (driver_for has) after) body (in_tuple env tuple) (tuple ∷ [])
    from_tuple =
        let number : 1 + length has.before ≡ d.lets + 1 = omega (arith, has.counted) in
        parted
        ∙ ap (λ (r : OrFault (List Tuple)). r >>= flwor_from (eval full depth) (1 + length has.before) (clause_slots before) (p.more_clauses (driver_for has) after) body env) is
        ∙ sym (frames_are_tuples (eval full depth) (1 + length has.before) (clause_slots before) (p.more_clauses (driver_for has) after) body env tuple (tuple ∷ []) width)
        ∙ ap (λ (n : ℕ). flwor_from (eval full depth) n (clause_slots before) (p.more_clauses (driver_for has) after) body (in_tuple env tuple) (tuple ∷ [])) number

    abbrev for_value : OrFault (List Tuple)
    for_value = clause_value (eval full depth) (d.lets + 1) (clause_slots before) (driver_for has) (in_tuple env tuple) (tuple ∷ [])

    -- the clauses after the `for` in the run's own program
    pub flwor_is : flwor_value (eval full depth) clauses body env
        ≡ (for_value >>= flwor_from (eval own depth) (d.lets + 2) (with_slots (clause_slots before) (driver_for has)) after body (in_tuple env tuple))
    flwor_is =
        let number : d.lets + 1 + 1 ≡ d.lets + 2 = omega arith in
        let bound = with_slots (clause_slots before) (driver_for has) in
        from_tuple
        ∙ then_same for_value (flwor_from (eval full depth) (d.lets + 1 + 1) bound after body (in_tuple env tuple)) (flwor_from (eval own depth) (d.lets + 2) bound after body (in_tuple env tuple))
        (λ ts. ap (λ (n : ℕ). flwor_from (eval full depth) n bound after body (in_tuple env tuple) ts) number
        ∙ law.items full own depth (d.lets + 2) same.place same.at bound after body (in_tuple env tuple) ts (same.parts has).1)

    -- the input is not there
    pub source_faults : (fault : Fault) → eval full depth (driver_call has) (in_tuple env tuple) ≡ Err fault
        → flwor_value (eval full depth) clauses body env ≡ Err (record fault { spot = Some (record { clause = d.lets + 1; tuple = 1 }) })
    source_faults fault h =
        flwor_is
        ∙ ap (λ (r : OrFault (List Tuple)). r >>= flwor_from (eval own depth) (d.lets + 2) (with_slots (clause_slots before) (driver_for has)) after body (in_tuple env tuple))
        (for_faults (eval full depth) (d.lets + 1) (clause_slots before) has.variable has.type has.at (driver_call has) (in_tuple env tuple) tuple fault h)
