-- What the clauses of a FLWOR give where the sources that they find are the same.
use Rattle.std.proofs.Common.{◌≡◌, ℕ, ◌+◌, Bool, true, false, if◌then◌else◌, List, [], ◌∷◌, ◌++◌, length, Option, Some, None, Ok, Err, refl, ap, subst}
use Rattle.std.specs.List.{AllByRecursion, AllZip}
use Rattle.item_tree.specs.Datum.{Datum}
use Rattle.seq_types.specs.declared.types.SeqType.{SeqType}
use Rattle.tuple_rows.specs.Keys.{KeyList}
use Rattle.group_table.specs.Groups.{group_rows}
use Rattle.order_runs.specs.Orders.{sorted, rows}
use Rattle.order_runs.specs.Clashes.{clash_column}
use Rattle.query_tree.specs.declared.bound.Slot.{Slot}
use Rattle.query_tree.specs.declared.bound.Target.{Target}
use Rattle.query_tree.specs.declared.names.Placed.{Placed}
use Rattle.query_tree.specs.Bindings.{numbers_of}
use Rattle.query_tree.specs.Bound.{BoundTree}
use Rattle.query_tree.specs.Plain as p
use Rattle.query_tree.specs.Plain.{PlainClause, PlainClauses, PlainGroupVar, PlainGroupVars, PlainOrderKeys}
use Rattle.query_tree.specs.Subtrees.{subtrees, clause_subtrees, clauses_subtrees, group_var_subtrees, group_vars_subtrees, order_keys_subtrees}
use Rattle.query_meaning.specs.Outcome.{OrFault, Outcome, ◌>>=◌, each_from, at_tuple}
use Rattle.query_meaning.specs.Environment.{Tuple, Environment, Inner, with_value, in_tuple}
use Rattle.query_meaning.specs.Checks.{truth_of, typed}
use Rattle.query_meaning.specs.Keys.{key_of}
use Rattle.query_meaning.specs.Groups.{with_key, group_key, group_key_value, slots_of, group_keys, keyed_tuple, group_tuples}
use Rattle.query_meaning.specs.Orders.{order_keys, columns_of, column_places, unclashing, compared_keys, keyed_from, order_tuples}
use Rattle.query_meaning.specs.Clauses.{of_number, with_position, bound_tuple, bound_tuples, for_tuples, let_tuples, where_tuples, count_tuples, each_tuple, clause_value}
use Rattle.query_meaning.specs.Flwors.{with_slots, return_value, flwor_from, flwor_value}
use Rattle.query_meaning.specs.Sources.{Source, keys_sources, clause_sources, clauses_sources}
use Rattle.query_meaning.proofs.Alike.{both_parts, halves, AlikeTuples, Alike, Within, Looks, with_value-alike, in_tuple-alike, value-same}
use Rattle.query_meaning.proofs.AlikeParts.{truth-same}
use Rattle.query_meaning.proofs.AlikeRows.{Match, then_match, one_match, tuple_match, each_match, each_same, Rows, KeyedAlike, group-alike, order-alike}

themselves : (xs : List Datum) → AllZip (λ x y. x ≡ y) xs xs
themselves [] = tt
themselves (x ∷ xs) = (refl, themselves xs)

-- ---- the tuples that are made of one tuple

module _ (R : Source → Type 0) where
  position-alike : (t u : Tuple) (at : Option (Placed Slot)) (n : ℕ) → AlikeTuples R t u → AlikeTuples R (with_position t at n) (with_position u at n)
  position-alike t u None n a = a
  position-alike t u (Some at) n a = with_value-alike R t u at.name (of_number n) a

  bound-match : (variable : Placed Slot) (type : Option (Placed SeqType)) (at : Option (Placed Slot)) (t u : Tuple) (n : ℕ) (value : List Datum) → AlikeTuples R t u → Match (Rows R) (bound_tuple variable type at t n value) (bound_tuple variable type at u n value)
  unfolding bound_tuple
  bound-match variable type at t u n value a =
      one_match (Rows R) (λ checked. Ok (with_position (with_value t variable.name checked) at n ∷ [])) (λ checked. Ok (with_position (with_value u variable.name checked) at n ∷ [])) (typed variable.place type value) (typed variable.place type value) refl
      (λ checked. (position-alike (with_value t variable.name checked) (with_value u variable.name checked) at n (with_value-alike R t u variable.name checked a), tt))

  all_bound : (variable : Placed Slot) (type : Option (Placed SeqType)) (at : Option (Placed Slot)) (t u : Tuple) (n : ℕ) (items : List Datum) → AlikeTuples R t u → Match (Rows R) (each_from (λ m x. bound_tuple variable type at t m (x ∷ [])) n items) (each_from (λ m x. bound_tuple variable type at u m (x ∷ [])) n items)
  all_bound variable type at t u n items a =
      each_match (AlikeTuples R) (λ x y. x ≡ y) (λ m x. bound_tuple variable type at t m (x ∷ [])) (λ m x. bound_tuple variable type at u m (x ∷ []))
      (λ m x y e. subst (λ z. Match (Rows R) (bound_tuple variable type at t m (x ∷ [])) (bound_tuple variable type at u m (z ∷ []))) e (bound-match variable type at t u m (x ∷ []) a))
      n items items (themselves items)

  bounds-match : (variable : Placed Slot) (type : Option (Placed SeqType)) (allowing_empty : Bool) (at : Option (Placed Slot)) (t u : Tuple) (items : List Datum) → AlikeTuples R t u → Match (Rows R) (bound_tuples variable type allowing_empty at t items) (bound_tuples variable type allowing_empty at u items)
  bounds-match variable type true at t u [] a = bound-match variable type at t u 0 [] a
  bounds-match variable type true at t u (x ∷ xs) a = all_bound variable type at t u 1 (x ∷ xs) a
  bounds-match variable type false at t u items a = all_bound variable type at t u 1 items a

  where-alike : (holds : Bool) (t u : Tuple) → AlikeTuples R t u → Rows R (if holds then t ∷ [] else []) (if holds then u ∷ [] else [])
  where-alike true t u a = (a, tt)
  where-alike false t u a = tt

-- ---- clauses

module _ (R : Source → Type 0) (inner : Inner) (looks : Looks R inner) (env other : Environment) (alike : Alike R env other) where
  -- an expression at a tuple
  at-tuple : (e : BoundTree) → Within R (subtrees e) → (t u : Tuple) → AlikeTuples R t u → inner e (in_tuple env t) ≡ inner e (in_tuple other u)
  at-tuple e w t u a = looks e w (in_tuple env t) (in_tuple other u) (in_tuple-alike R env other t u alike a)

  for-match : (variable : Placed Slot) (type : Option (Placed SeqType)) (allowing_empty : Bool) (at : Option (Placed Slot)) (source : BoundTree) → Within R (subtrees source) → (t u : Tuple) → AlikeTuples R t u → Match (Rows R) (for_tuples inner variable type allowing_empty at source env t) (for_tuples inner variable type allowing_empty at source other u)
  unfolding for_tuples
  for-match variable type allowing_empty at source w t u a =
      one_match (Rows R) (bound_tuples variable type allowing_empty at t) (bound_tuples variable type allowing_empty at u) (inner source (in_tuple env t)) (inner source (in_tuple other u)) (at-tuple source w t u a) (λ items. bounds-match R variable type allowing_empty at t u items a)

  let-match : (variable : Placed Slot) (type : Option (Placed SeqType)) (e : BoundTree) → Within R (subtrees e) → (t u : Tuple) → AlikeTuples R t u → Match (Rows R) (let_tuples inner variable type e env t) (let_tuples inner variable type e other u)
  unfolding let_tuples
  let-match variable type e w t u a =
      one_match (Rows R)
      (λ value. typed variable.place type value >>= λ checked. Ok (with_value t variable.name checked ∷ []))
      (λ value. typed variable.place type value >>= λ checked. Ok (with_value u variable.name checked ∷ []))
      (inner e (in_tuple env t)) (inner e (in_tuple other u)) (at-tuple e w t u a)
      (λ value. one_match (Rows R) (λ checked. Ok (with_value t variable.name checked ∷ [])) (λ checked. Ok (with_value u variable.name checked ∷ [])) (typed variable.place type value) (typed variable.place type value) refl
      (λ checked. (with_value-alike R t u variable.name checked a, tt)))

  where-match : (test : BoundTree) → Within R (subtrees test) → (t u : Tuple) → AlikeTuples R t u → Match (Rows R) (where_tuples inner test env t) (where_tuples inner test other u)
  unfolding where_tuples
  where-match test w t u a =
      one_match (Rows R) (λ holds. Ok (if holds then t ∷ [] else [])) (λ holds. Ok (if holds then u ∷ [] else [])) (truth_of inner test (in_tuple env t)) (truth_of inner test (in_tuple other u))
      (truth-same R inner looks (in_tuple env t) (in_tuple other u) (in_tuple-alike R env other t u alike a) test w)
      (λ holds. where-alike R holds t u a)

  count-match : (variable : Placed Slot) (n : ℕ) (t u : Tuple) → AlikeTuples R t u → Match (Rows R) (count_tuples variable n t) (count_tuples variable n u)
  unfolding count_tuples
  count-match variable n t u a = (with_value-alike R t u variable.name (of_number n) a, tt)

  each_tuple-match : (number : ℕ) (f g : ℕ → Tuple → OrFault (List Tuple)) → ((n : ℕ) (t u : Tuple) → AlikeTuples R t u → Match (Rows R) (f n t) (g n u)) → (ts us : List Tuple) → Rows R ts us → Match (Rows R) (each_tuple number f ts) (each_tuple number g us)
  unfolding each_tuple
  each_tuple-match number f g each ts us h =
      each_match (AlikeTuples R) (AlikeTuples R) (λ n t. at_tuple number n (f n t)) (λ n u. at_tuple number n (g n u)) (λ n t u a. tuple_match (Rows R) number n (f n t) (g n u) (each n t u a)) 1 ts us h

  -- ---- groups

  key-same : (k : PlainGroupVar Slot Target SeqType) (ks : PlainGroupVars Slot Target SeqType) → AllByRecursion R (keys_sources (p.more_group_vars k ks)) → Within R (group_var_subtrees k) → (t u : Tuple) → AlikeTuples R t u → group_key_value inner k (in_tuple env t) ≡ group_key_value inner k (in_tuple other u)
  unfolding group_key_value
  key-same (p.stream_group_var variable) ks s w t u a = ap Ok (value-same R (in_tuple env t) (in_tuple other u) variable.name (in_tuple-alike R env other t u alike a) s.0)
  key-same (p.computed_group_var variable e) ks s w t u a = at-tuple e w t u a

  later_keys : (k : PlainGroupVar Slot Target SeqType) (ks : PlainGroupVars Slot Target SeqType) → AllByRecursion R (keys_sources (p.more_group_vars k ks)) → AllByRecursion R (keys_sources ks)
  later_keys (p.stream_group_var variable) ks s = s.1
  later_keys (p.computed_group_var variable e) ks s = s

  keys-match : (ks : PlainGroupVars Slot Target SeqType) → AllByRecursion R (keys_sources ks) → Within R (group_vars_subtrees ks) → (t u : Tuple) → AlikeTuples R t u → Match (KeyedAlike R) (group_keys inner ks env t) (group_keys inner ks other u)
  keys-match p.no_group_vars s w t u a = (refl, a)
  keys-match (p.more_group_vars k ks) s w t u a =
      let ws = halves R (group_var_subtrees k) (group_vars_subtrees ks) w in
      one_match (KeyedAlike R)
      (λ value. key_of (group_key k).place value >>= λ key. group_keys inner ks env (with_value t (group_key k).name value) >>= λ keyed. Ok (with_key key keyed))
      (λ value. key_of (group_key k).place value >>= λ key. group_keys inner ks other (with_value u (group_key k).name value) >>= λ keyed. Ok (with_key key keyed))
      (group_key_value inner k (in_tuple env t)) (group_key_value inner k (in_tuple other u)) (key-same k ks s ws.0 t u a)
      (λ value. one_match (KeyedAlike R)
      (λ key. group_keys inner ks env (with_value t (group_key k).name value) >>= λ keyed. Ok (with_key key keyed))
      (λ key. group_keys inner ks other (with_value u (group_key k).name value) >>= λ keyed. Ok (with_key key keyed))
      (key_of (group_key k).place value) (key_of (group_key k).place value) refl
      (λ key. then_match (KeyedAlike R) (KeyedAlike R) (λ keyed. Ok (with_key key keyed)) (λ keyed. Ok (with_key key keyed))
      (group_keys inner ks env (with_value t (group_key k).name value)) (group_keys inner ks other (with_value u (group_key k).name value))
      (keys-match ks (later_keys k ks s) ws.1 (with_value t (group_key k).name value) (with_value u (group_key k).name value) (with_value-alike R t u (group_key k).name value a))
      (λ x y h. (ap (λ l. key ∷ l) h.0, h.1))))

  keyed-match : (number : ℕ) (ks : PlainGroupVars Slot Target SeqType) → AllByRecursion R (keys_sources ks) → Within R (group_vars_subtrees ks) → (n : ℕ) (t u : Tuple) → AlikeTuples R t u → Match (AllZip (KeyedAlike R)) (keyed_tuple inner number ks env n t) (keyed_tuple inner number ks other n u)
  unfolding keyed_tuple
  keyed-match number ks s w n t u a =
      then_match (KeyedAlike R) (AllZip (KeyedAlike R)) (λ keyed. Ok (keyed ∷ [])) (λ keyed. Ok (keyed ∷ []))
      (at_tuple number n (group_keys inner ks env t)) (at_tuple number n (group_keys inner ks other u))
      (tuple_match (KeyedAlike R) number n (group_keys inner ks env t) (group_keys inner ks other u) (keys-match ks s w t u a))
      (λ x y h. (h, tt))

  group-match : (number : ℕ) (stream : List Slot) (ks : PlainGroupVars Slot Target SeqType) → AllByRecursion R (keys_sources ks) → Within R (group_vars_subtrees ks) → (ts us : List Tuple) → Rows R ts us → Match (Rows R) (group_tuples inner number stream ks env ts) (group_tuples inner number stream ks other us)
  unfolding group_tuples
  group-match number stream ks s w ts us h =
      then_match (AllZip (KeyedAlike R)) (Rows R)
      (λ keyed. Ok (group_rows (length env.frame) (numbers_of (slots_of ks)) (numbers_of stream) keyed))
      (λ keyed. Ok (group_rows (length other.frame) (numbers_of (slots_of ks)) (numbers_of stream) keyed))
      (each_from (keyed_tuple inner number ks env) 1 ts) (each_from (keyed_tuple inner number ks other) 1 us)
      (each_match (KeyedAlike R) (AlikeTuples R) (keyed_tuple inner number ks env) (keyed_tuple inner number ks other) (keyed-match number ks s w) 1 ts us h)
      (λ X Y k. subst (λ width. Rows R (group_rows (length env.frame) (numbers_of (slots_of ks)) (numbers_of stream) X) (group_rows width (numbers_of (slots_of ks)) (numbers_of stream) Y)) alike.tuples.width
      (group-alike R (length env.frame) (numbers_of (slots_of ks)) (numbers_of stream) X Y k))

  -- ---- orders

  order_keys-same : (ks : PlainOrderKeys Slot Target SeqType) → Within R (order_keys_subtrees ks) → (t u : Tuple) → AlikeTuples R t u → order_keys inner ks (in_tuple env t) ≡ order_keys inner ks (in_tuple other u)
  order_keys-same p.no_order_keys w t u a = refl
  order_keys-same (p.more_order_keys (p.order_key_node e descending empty_greatest) ks) w t u a =
      let ws = halves R (subtrees e) (order_keys_subtrees ks) w in
      simp (at-tuple e ws.0 t u a, order_keys-same ks ws.1 t u a)

  compared-same : (ks : PlainOrderKeys Slot Target SeqType) → Within R (order_keys_subtrees ks) → (before : List KeyList) (t u : Tuple) → AlikeTuples R t u → compared_keys inner ks before (in_tuple env t) ≡ compared_keys inner ks before (in_tuple other u)
  unfolding compared_keys
  compared-same ks w before t u a = ap (λ r. r >>= λ found. unclashing (column_places ks) (clash_column before found) found) (order_keys-same ks w t u a)

  from-match : (number : ℕ) (ks : PlainOrderKeys Slot Target SeqType) → Within R (order_keys_subtrees ks) → (before : List KeyList) (n : ℕ) (ts us : List Tuple) → Rows R ts us → Match (AllZip (KeyedAlike R)) (keyed_from inner number ks env before n ts) (keyed_from inner number ks other before n us)
  from-match number ks w before n [] [] h = tt
  from-match number ks w before n [] (u ∷ us) h = absurd h
  from-match number ks w before n (t ∷ ts) [] h = absurd h
  from-match number ks w before n (t ∷ ts) (u ∷ us) h =
      one_match (AllZip (KeyedAlike R))
      (λ found. keyed_from inner number ks env (before ++ found ∷ []) (n + 1) ts >>= λ keyed. Ok ((found, t) ∷ keyed))
      (λ found. keyed_from inner number ks other (before ++ found ∷ []) (n + 1) us >>= λ keyed. Ok ((found, u) ∷ keyed))
      (at_tuple number n (compared_keys inner ks before (in_tuple env t))) (at_tuple number n (compared_keys inner ks before (in_tuple other u)))
      (ap (at_tuple number n) (compared-same ks w before t u h.0))
      (λ found. then_match (AllZip (KeyedAlike R)) (AllZip (KeyedAlike R)) (λ keyed. Ok ((found, t) ∷ keyed)) (λ keyed. Ok ((found, u) ∷ keyed))
      (keyed_from inner number ks env (before ++ found ∷ []) (n + 1) ts) (keyed_from inner number ks other (before ++ found ∷ []) (n + 1) us)
      (from-match number ks w (before ++ found ∷ []) (n + 1) ts us h.1)
      (λ X Y k. ((refl, h.0), k)))

  order-match : (number : ℕ) (ks : PlainOrderKeys Slot Target SeqType) → Within R (order_keys_subtrees ks) → (ts us : List Tuple) → Rows R ts us → Match (Rows R) (order_tuples inner number ks env ts) (order_tuples inner number ks other us)
  unfolding order_tuples
  order-match number ks w ts us h =
      then_match (AllZip (KeyedAlike R)) (Rows R) (λ keyed. Ok (rows (sorted (columns_of ks) keyed))) (λ keyed. Ok (rows (sorted (columns_of ks) keyed)))
      (keyed_from inner number ks env [] 1 ts) (keyed_from inner number ks other [] 1 us)
      (from-match number ks w [] 1 ts us h)
      (λ X Y k. order-alike R (columns_of ks) X Y k)

  -- ---- all clauses

  clause-match : (number : ℕ) (stream : List Slot) (c : PlainClause Slot Target SeqType) → AllByRecursion R (clause_sources c) → Within R (clause_subtrees c) → (ts us : List Tuple) → Rows R ts us → Match (Rows R) (clause_value inner number stream c env ts) (clause_value inner number stream c other us)
  clause-match number stream (p.for_clause variable type allowing_empty at source) s w ts us h =
      each_tuple-match number (λ n. for_tuples inner variable type allowing_empty at source env) (λ n. for_tuples inner variable type allowing_empty at source other) (λ n t u a. for-match variable type allowing_empty at source w t u a) ts us h
  clause-match number stream (p.let_clause variable type e) s w ts us h =
      each_tuple-match number (λ n. let_tuples inner variable type e env) (λ n. let_tuples inner variable type e other) (λ n t u a. let-match variable type e w t u a) ts us h
  clause-match number stream (p.where_clause place test) s w ts us h =
      each_tuple-match number (λ n. where_tuples inner test env) (λ n. where_tuples inner test other) (λ n t u a. where-match test w t u a) ts us h
  clause-match number stream (p.count_clause place variable) s w ts us h =
      each_tuple-match number (count_tuples variable) (count_tuples variable) (count-match variable) ts us h
  clause-match number stream (p.group_clause place keys) s w ts us h = group-match number stream keys s w ts us h
  clause-match number stream (p.order_clause place stable keys) s w ts us h = order-match number keys w ts us h

  return-same : (number : ℕ) (result : BoundTree) → Within R (subtrees result) → (ts us : List Tuple) → Rows R ts us → return_value inner number result env ts ≡ return_value inner number result other us
  unfolding return_value
  return-same number result w ts us h =
      each_same (AlikeTuples R) (λ n t. at_tuple number n (inner result (in_tuple env t))) (λ n u. at_tuple number n (inner result (in_tuple other u))) (λ n t u a. ap (at_tuple number n) (at-tuple result w t u a)) 1 ts us h

  -- what is behind a clause
  behind-same : (r s : OrFault (List Tuple)) (f g : List Tuple → Outcome) → Match (Rows R) r s → ((ts us : List Tuple) → Rows R ts us → f ts ≡ g us) → (r >>= f) ≡ (s >>= g)
  behind-same (Ok ts) (Ok us) f g h k = k ts us h
  behind-same (Ok ts) (Err fault) f g h k = absurd h
  behind-same (Err fault) (Ok us) f g h k = absurd h
  behind-same (Err fault) (Err other') f g h k = ap Err h

  from-same : (number : ℕ) (stream : List Slot) (cs : PlainClauses Slot Target SeqType) (result : BoundTree) → AllByRecursion R (clauses_sources cs) → Within R (clauses_subtrees cs) → Within R (subtrees result) → (ts us : List Tuple) → Rows R ts us → flwor_from inner number stream cs result env ts ≡ flwor_from inner number stream cs result other us
  from-same number stream p.no_clauses result s w v ts us h = return-same number result v ts us h
  from-same number stream (p.more_clauses c cs) result s w v ts us h =
      let ss = both_parts R (clause_sources c) (clauses_sources cs) s in
      let ws = halves R (clause_subtrees c) (clauses_subtrees cs) w in
      behind-same (clause_value inner number stream c env ts) (clause_value inner number stream c other us)
      (flwor_from inner (number + 1) (with_slots stream c) cs result env) (flwor_from inner (number + 1) (with_slots stream c) cs result other)
      (clause-match number stream c ss.0 ws.0 ts us h)
      (from-same (number + 1) (with_slots stream c) cs result ss.1 ws.1 v)

  pub flwor-same : (cs : PlainClauses Slot Target SeqType) (result : BoundTree) → AllByRecursion R (clauses_sources cs) → Within R (clauses_subtrees cs ++ subtrees result) → flwor_value inner cs result env ≡ flwor_value inner cs result other
  unfolding flwor_value
  flwor-same cs result s w =
      let ws = halves R (clauses_subtrees cs) (subtrees result) w in
      from-same 1 [] cs result s ws.0 ws.1 (env.frame ∷ []) (other.frame ∷ []) (alike.tuples, tt)
