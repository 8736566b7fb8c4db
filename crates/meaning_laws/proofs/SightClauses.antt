-- What the clauses of a FLWOR give where all that may be used in their scopes is the same.
use Rattle.std.proofs.Common.{◌≡◌, ℕ, ◌&&◌, map, set, length-set, sym, ◌∙◌, ◌+◌, Bool, true, false, if◌then◌else◌, List, [], ◌∷◌, ◌++◌, length, Option, Some, None, Ok, Err, refl, ap, subst}
use Rattle.std.specs.List.{AllByRecursion, AllZip}
use Rattle.std.proofs.lemmas.Bool.{and_parts, false≢true}
use Rattle.std.proofs.lemmas.List.FromFn.{length-map-range_with_len}
use Rattle.item_tree.specs.Datum.{Datum}
use Rattle.seq_types.specs.declared.types.SeqType.{SeqType}
use Rattle.tuple_rows.specs.Keys.{KeyList, Keyed}
use Rattle.group_table.specs.Groups.{same_lists, firsts, having, joined_row, joined_slot, key_value, with_keys, group_row, group_rows}
use Rattle.order_runs.specs.Orders.{sorted, rows}
use Rattle.order_runs.specs.Clashes.{clash_column}
use Rattle.query_tree.specs.declared.bound.Slot.{Slot}
use Rattle.query_tree.specs.declared.bound.Target.{Target}
use Rattle.query_tree.specs.declared.names.Placed.{Placed}
use Rattle.query_tree.specs.Bindings.{numbers_of}
use Rattle.query_tree.specs.Bound.{BoundTree, after_key, after_keys, after_clause, after_clauses, is_bound, clause_bound, clauses_bound, group_var_bound, group_vars_bound, order_keys_bound}
use Rattle.query_tree.specs.Plain as p
use Rattle.query_tree.specs.Plain.{PlainClause, PlainClauses, PlainGroupVar, PlainGroupVars, PlainOrderKeys}
use Rattle.query_tree.specs.Scoped.{key_slot}
use Rattle.query_tree.specs.Scopes.{Scope, may_bind, may_bind_any, with_slot, with_any}
use Rattle.query_meaning.specs.Outcome.{OrFault, Outcome, ◌>>=◌, each_from, at_tuple}
use Rattle.query_meaning.specs.Environment.{Tuple, Environment, Inner, with_value, in_tuple}
use Rattle.query_meaning.specs.Checks.{truth_of, typed}
use Rattle.query_meaning.specs.Keys.{key_of}
use Rattle.query_meaning.specs.Groups.{with_key, group_key, group_key_value, slots_of, group_keys, keyed_tuple, group_tuples}
use Rattle.query_meaning.specs.Orders.{order_keys, columns_of, column_places, unclashing, compared_keys, keyed_from, order_tuples}
use Rattle.query_meaning.specs.Clauses.{of_number, with_position, bound_tuple, bound_tuples, for_tuples, let_tuples, where_tuples, count_tuples, each_tuple, clause_value}
use Rattle.query_meaning.specs.Flwors.{with_slots, return_value, flwor_from, flwor_value}
use Rattle.meaning_laws.proofs.AlikeRows.{Match, then_match, one_match, tuple_match, each_match, each_same, KeyedAlike, KeyedBy, group-alike, order-rows}
use Rattle.meaning_laws.proofs.AlikeClauses.{themselves}
use Rattle.meaning_laws.proofs.Alike.{AlikeTuples}
use Rattle.meaning_laws.proofs.Sight.{AlikeIn, Seen, of_one_width, as_tuples, with_value-in, Outside, Sees, Looks, clause-outside, in_tuple-sees, slot-outside}
use Rattle.meaning_laws.proofs.SightParts.{truth-same}

abbrev pub RowsIn : Scope → List Tuple → List Tuple → Type 0
RowsIn s ts us = AllZip (AlikeIn s) ts us

-- ---- rows of groups

keys_length : (is : List ℕ) (ks : KeyList) (t : Tuple) → length (with_keys is ks t) ≡ length t
keys_length [] ks t = refl
keys_length (i ∷ is) [] t = refl
keys_length (i ∷ is) (k ∷ ks) t = keys_length is ks (set t i (key_value k)) ∙ length-set t i (key_value k)

rows_length : (width : ℕ) (keys slots : List ℕ) (X : List Keyed) (ks : List KeyList) → AllByRecursion (λ t. length t ≡ width) (map (group_row width keys slots) (map (λ k. (k, having same_lists k X)) ks))
rows_length width keys slots X [] = tt
rows_length width keys slots X (k ∷ ks) =
    (keys_length keys k (joined_row width slots (having same_lists k X)) ∙ length-map-range_with_len (joined_slot slots (having same_lists k X)) 0 width, rows_length width keys slots X ks)

of_widths : (s : Scope) (width : ℕ) (ts us : List Tuple) → AllByRecursion (λ t. length t ≡ width) ts → AllByRecursion (λ t. length t ≡ width) us → AllZip (AlikeTuples (Seen s)) ts us → RowsIn s ts us
of_widths s width [] [] a b h = tt
of_widths s width [] (u ∷ us) a b h = absurd h
of_widths s width (t ∷ ts) [] a b h = absurd h
of_widths s width (t ∷ ts) (u ∷ us) a b h = (record { width = a.0 ∙ sym b.0; values = h.0.values }, of_widths s width ts us a.1 b.1 h.1)

as_keyed : (s : Scope) (X Y : List Keyed) → AllZip (KeyedBy (AlikeIn s)) X Y → AllZip (KeyedAlike (Seen s)) X Y
as_keyed s [] [] h = tt
as_keyed s [] (y ∷ Y) h = absurd h
as_keyed s (x ∷ X) [] h = absurd h
as_keyed s (x ∷ X) (y ∷ Y) h = ((h.0.0, as_tuples s x.1 y.1 h.0.1), as_keyed s X Y h.1)

group-rows : (s : Scope) (width : ℕ) (keys slots : List ℕ) (X Y : List Keyed) → AllZip (KeyedBy (AlikeIn s)) X Y → RowsIn s (group_rows width keys slots X) (group_rows width keys slots Y)
group-rows s width keys slots X Y h =
    of_widths s width (group_rows width keys slots X) (group_rows width keys slots Y)
    (rows_length width keys slots X (firsts same_lists (map (λ p. p.0) X))) (rows_length width keys slots Y (firsts same_lists (map (λ p. p.0) Y)))
    (group-alike (Seen s) width width (λ m r. of_one_width width width m refl) keys slots X Y (as_keyed s X Y h))

-- ---- the tuples that are made of one tuple

position-in : (s : Scope) (t u : Tuple) (at : Option (Placed Slot)) (n : ℕ) → AlikeIn s t u → AlikeIn (with_any s at) (with_position t at n) (with_position u at n)
position-in s t u None n a = a
position-in s t u (Some at) n a = with_value-in s t u at.name (of_number n) a

where-in : (s : Scope) (holds : Bool) (t u : Tuple) → AlikeIn s t u → RowsIn s (if holds then t ∷ [] else []) (if holds then u ∷ [] else [])
where-in s true t u a = (a, tt)
where-in s false t u a = tt

module _ (s : Scope) (variable : Placed Slot) (type : Option (Placed SeqType)) (at : Option (Placed Slot)) where
  abbrev after : Scope
  after = with_any (with_slot s variable.name) at

  bound-match : (t u : Tuple) (n : ℕ) (value : List Datum) → AlikeIn s t u → Match (RowsIn after) (bound_tuple variable type at t n value) (bound_tuple variable type at u n value)
  unfolding bound_tuple
  bound-match t u n value a =
      one_match (RowsIn after) (λ checked. Ok (with_position (with_value t variable.name checked) at n ∷ [])) (λ checked. Ok (with_position (with_value u variable.name checked) at n ∷ [])) (typed variable.place type value) (typed variable.place type value) refl
      (λ checked. (position-in (with_slot s variable.name) (with_value t variable.name checked) (with_value u variable.name checked) at n (with_value-in s t u variable.name checked a), tt))

  all_bound : (t u : Tuple) (n : ℕ) (items : List Datum) → AlikeIn s t u → Match (RowsIn after) (each_from (λ m x. bound_tuple variable type at t m (x ∷ [])) n items) (each_from (λ m x. bound_tuple variable type at u m (x ∷ [])) n items)
  all_bound t u n items a =
      each_match (AlikeIn after) (λ x y. x ≡ y) (λ m x. bound_tuple variable type at t m (x ∷ [])) (λ m x. bound_tuple variable type at u m (x ∷ []))
      (λ m x y e. subst (λ z. Match (RowsIn after) (bound_tuple variable type at t m (x ∷ [])) (bound_tuple variable type at u m (z ∷ []))) e (bound-match t u m (x ∷ []) a))
      n items items (themselves items)

  bounds-match : (allowing_empty : Bool) (t u : Tuple) (items : List Datum) → AlikeIn s t u → Match (RowsIn after) (bound_tuples variable type allowing_empty at t items) (bound_tuples variable type allowing_empty at u items)
  bounds-match true t u [] a = bound-match t u 0 [] a
  bounds-match true t u (x ∷ xs) a = all_bound t u 1 (x ∷ xs) a
  bounds-match false t u items a = all_bound t u 1 items a

-- ---- clauses

module _ (globals : ℕ) (functions : List ℕ) (inner inner' : Inner) (looks : Looks globals functions inner inner') where
  abbrev Out : Scope → Environment → Environment → Type 0
  Out s env other = Outside globals functions s env other

  -- an expression at a tuple
  at-tuple : (s : Scope) (env other : Environment) → Out s env other → (e : BoundTree) → is_bound s e ≡ true → (t u : Tuple) → AlikeIn s t u → inner e (in_tuple env t) ≡ inner' e (in_tuple other u)
  at-tuple s env other out e w t u a = looks s e w (in_tuple env t) (in_tuple other u) (in_tuple-sees globals functions s env other t u out a)

  module _ (s : Scope) (env other : Environment) (out : Out s env other) where
    for-match : (variable : Placed Slot) (type : Option (Placed SeqType)) (allowing_empty : Bool) (at : Option (Placed Slot)) (source : BoundTree) → is_bound s source ≡ true → (t u : Tuple) → AlikeIn s t u → Match (RowsIn (with_any (with_slot s variable.name) at)) (for_tuples inner variable type allowing_empty at source env t) (for_tuples inner' variable type allowing_empty at source other u)
    unfolding for_tuples
    for-match variable type allowing_empty at source w t u a =
        one_match (RowsIn (with_any (with_slot s variable.name) at)) (bound_tuples variable type allowing_empty at t) (bound_tuples variable type allowing_empty at u) (inner source (in_tuple env t)) (inner' source (in_tuple other u)) (at-tuple s env other out source w t u a) (λ items. bounds-match s variable type at allowing_empty t u items a)

    let-match : (variable : Placed Slot) (type : Option (Placed SeqType)) (e : BoundTree) → is_bound s e ≡ true → (t u : Tuple) → AlikeIn s t u → Match (RowsIn (with_slot s variable.name)) (let_tuples inner variable type e env t) (let_tuples inner' variable type e other u)
    unfolding let_tuples
    let-match variable type e w t u a =
        one_match (RowsIn (with_slot s variable.name))
        (λ value. typed variable.place type value >>= λ checked. Ok (with_value t variable.name checked ∷ []))
        (λ value. typed variable.place type value >>= λ checked. Ok (with_value u variable.name checked ∷ []))
        (inner e (in_tuple env t)) (inner' e (in_tuple other u)) (at-tuple s env other out e w t u a)
        (λ value. one_match (RowsIn (with_slot s variable.name)) (λ checked. Ok (with_value t variable.name checked ∷ [])) (λ checked. Ok (with_value u variable.name checked ∷ [])) (typed variable.place type value) (typed variable.place type value) refl
        (λ checked. (with_value-in s t u variable.name checked a, tt)))

    where-match : (test : BoundTree) → is_bound s test ≡ true → (t u : Tuple) → AlikeIn s t u → Match (RowsIn s) (where_tuples inner test env t) (where_tuples inner' test other u)
    unfolding where_tuples
    where-match test w t u a =
        one_match (RowsIn s) (λ holds. Ok (if holds then t ∷ [] else [])) (λ holds. Ok (if holds then u ∷ [] else [])) (truth_of inner test (in_tuple env t)) (truth_of inner' test (in_tuple other u))
        (truth-same globals functions inner inner' looks s (in_tuple env t) (in_tuple other u) (in_tuple-sees globals functions s env other t u out a) test w)
        (λ holds. where-in s holds t u a)

    count-match : (variable : Placed Slot) (n : ℕ) (t u : Tuple) → AlikeIn s t u → Match (RowsIn (with_slot s variable.name)) (count_tuples variable n t) (count_tuples variable n u)
    unfolding count_tuples
    count-match variable n t u a = (with_value-in s t u variable.name (of_number n) a, tt)

    each_tuple-match : (after : Scope) (number : ℕ) (f g : ℕ → Tuple → OrFault (List Tuple)) → ((n : ℕ) (t u : Tuple) → AlikeIn s t u → Match (RowsIn after) (f n t) (g n u)) → (ts us : List Tuple) → RowsIn s ts us → Match (RowsIn after) (each_tuple number f ts) (each_tuple number g us)
    unfolding each_tuple
    each_tuple-match after number f g each ts us h =
        each_match (AlikeIn after) (AlikeIn s) (λ n t. at_tuple number n (f n t)) (λ n u. at_tuple number n (g n u)) (λ n t u a. tuple_match (RowsIn after) number n (f n t) (g n u) (each n t u a)) 1 ts us h

  -- ---- groups

  key-same : (s : Scope) (env other : Environment) → Out s env other → (k : PlainGroupVar Slot Target SeqType) → group_var_bound s k ≡ true → (t u : Tuple) → AlikeIn s t u → group_key_value inner k (in_tuple env t) ≡ group_key_value inner' k (in_tuple other u)
  unfolding group_key_value
  key-same s env other out (p.stream_group_var variable) w t u a = absurd (false≢true w)
  key-same s env other out (p.computed_group_var variable e) w t u a = at-tuple s env other out e (and_parts (may_bind s variable.name) (is_bound s e) w).1 t u a

  key_named : (k : PlainGroupVar Slot Target SeqType) → (group_key k).name ≡ key_slot k
  key_named (p.stream_group_var variable) = refl
  key_named (p.computed_group_var variable e) = refl

  keys-match : (s : Scope) (env other : Environment) → Out s env other → (ks : PlainGroupVars Slot Target SeqType) → group_vars_bound s ks ≡ true → (t u : Tuple) → AlikeIn s t u → Match (KeyedBy (AlikeIn (after_keys s ks))) (group_keys inner ks env t) (group_keys inner' ks other u)
  keys-match s env other out p.no_group_vars w t u a = (refl, a)
  keys-match s env other out (p.more_group_vars k ks) w t u a =
      let ws = and_parts (group_var_bound s k) (group_vars_bound (after_key s k) ks) w in
      let last = after_keys (after_key s k) ks in
      one_match (KeyedBy (AlikeIn last))
      (λ value. key_of (group_key k).place value >>= λ key. group_keys inner ks env (with_value t (group_key k).name value) >>= λ keyed. Ok (with_key key keyed))
      (λ value. key_of (group_key k).place value >>= λ key. group_keys inner' ks other (with_value u (group_key k).name value) >>= λ keyed. Ok (with_key key keyed))
      (group_key_value inner k (in_tuple env t)) (group_key_value inner' k (in_tuple other u)) (key-same s env other out k ws.0 t u a)
      (λ value. one_match (KeyedBy (AlikeIn last))
      (λ key. group_keys inner ks env (with_value t (group_key k).name value) >>= λ keyed. Ok (with_key key keyed))
      (λ key. group_keys inner' ks other (with_value u (group_key k).name value) >>= λ keyed. Ok (with_key key keyed))
      (key_of (group_key k).place value) (key_of (group_key k).place value) refl
      (λ key. then_match (KeyedBy (AlikeIn last)) (KeyedBy (AlikeIn last)) (λ keyed. Ok (with_key key keyed)) (λ keyed. Ok (with_key key keyed))
      (group_keys inner ks env (with_value t (group_key k).name value)) (group_keys inner' ks other (with_value u (group_key k).name value))
      (keys-match (after_key s k) env other (slot-outside globals functions s (key_slot k) env other out) ks ws.1 (with_value t (group_key k).name value) (with_value u (group_key k).name value)
      (subst (λ v. AlikeIn (with_slot s v) (with_value t (group_key k).name value) (with_value u (group_key k).name value)) (key_named k) (with_value-in s t u (group_key k).name value a)))
      (λ x y h. (ap (λ l. key ∷ l) h.0, h.1))))

  keyed-match : (s : Scope) (env other : Environment) → Out s env other → (number : ℕ) (ks : PlainGroupVars Slot Target SeqType) → group_vars_bound s ks ≡ true → (n : ℕ) (t u : Tuple) → AlikeIn s t u → Match (AllZip (KeyedBy (AlikeIn (after_keys s ks)))) (keyed_tuple inner number ks env n t) (keyed_tuple inner' number ks other n u)
  unfolding keyed_tuple
  keyed-match s env other out number ks w n t u a =
      let last = after_keys s ks in
      then_match (KeyedBy (AlikeIn last)) (AllZip (KeyedBy (AlikeIn last))) (λ keyed. Ok (keyed ∷ [])) (λ keyed. Ok (keyed ∷ []))
      (at_tuple number n (group_keys inner ks env t)) (at_tuple number n (group_keys inner' ks other u))
      (tuple_match (KeyedBy (AlikeIn last)) number n (group_keys inner ks env t) (group_keys inner' ks other u) (keys-match s env other out ks w t u a))
      (λ x y h. (h, tt))

  group-match : (s : Scope) (env other : Environment) → Out s env other → length env.frame ≡ length other.frame → (number : ℕ) (stream : List Slot) (ks : PlainGroupVars Slot Target SeqType) → group_vars_bound s ks ≡ true → (ts us : List Tuple) → RowsIn s ts us → Match (RowsIn (after_keys s ks)) (group_tuples inner number stream ks env ts) (group_tuples inner' number stream ks other us)
  unfolding group_tuples
  group-match s env other out wide number stream ks w ts us h =
      let last = after_keys s ks in
      then_match (AllZip (KeyedBy (AlikeIn last))) (RowsIn last)
      (λ keyed. Ok (group_rows (length env.frame) (numbers_of (slots_of ks)) (numbers_of stream) keyed))
      (λ keyed. Ok (group_rows (length other.frame) (numbers_of (slots_of ks)) (numbers_of stream) keyed))
      (each_from (keyed_tuple inner number ks env) 1 ts) (each_from (keyed_tuple inner' number ks other) 1 us)
      (each_match (KeyedBy (AlikeIn last)) (AlikeIn s) (keyed_tuple inner number ks env) (keyed_tuple inner' number ks other) (keyed-match s env other out number ks w) 1 ts us h)
      (λ X Y k. subst (λ width. RowsIn last (group_rows (length env.frame) (numbers_of (slots_of ks)) (numbers_of stream) X) (group_rows width (numbers_of (slots_of ks)) (numbers_of stream) Y)) wide
      (group-rows last (length env.frame) (numbers_of (slots_of ks)) (numbers_of stream) X Y k))

  -- ---- orders

  module _ (s : Scope) (env other : Environment) (out : Out s env other) where
    order_keys-same : (ks : PlainOrderKeys Slot Target SeqType) → order_keys_bound s ks ≡ true → (t u : Tuple) → AlikeIn s t u → order_keys inner ks (in_tuple env t) ≡ order_keys inner' ks (in_tuple other u)
    order_keys-same p.no_order_keys w t u a = refl
    order_keys-same (p.more_order_keys (p.order_key_node e descending empty_greatest) ks) w t u a =
        let ws = and_parts (is_bound s e) (order_keys_bound s ks) w in
        simp (at-tuple s env other out e ws.0 t u a, order_keys-same ks ws.1 t u a)

    compared-same : (ks : PlainOrderKeys Slot Target SeqType) → order_keys_bound s ks ≡ true → (before : List KeyList) (t u : Tuple) → AlikeIn s t u → compared_keys inner ks before (in_tuple env t) ≡ compared_keys inner' ks before (in_tuple other u)
    unfolding compared_keys
    compared-same ks w before t u a = ap (λ r. r >>= λ found. unclashing (column_places ks) (clash_column before found) found) (order_keys-same ks w t u a)

    from-match : (number : ℕ) (ks : PlainOrderKeys Slot Target SeqType) → order_keys_bound s ks ≡ true → (before : List KeyList) (n : ℕ) (ts us : List Tuple) → RowsIn s ts us → Match (AllZip (KeyedBy (AlikeIn s))) (keyed_from inner number ks env before n ts) (keyed_from inner' number ks other before n us)
    from-match number ks w before n [] [] h = tt
    from-match number ks w before n [] (u ∷ us) h = absurd h
    from-match number ks w before n (t ∷ ts) [] h = absurd h
    from-match number ks w before n (t ∷ ts) (u ∷ us) h =
        one_match (AllZip (KeyedBy (AlikeIn s)))
        (λ found. keyed_from inner number ks env (before ++ found ∷ []) (n + 1) ts >>= λ keyed. Ok ((found, t) ∷ keyed))
        (λ found. keyed_from inner' number ks other (before ++ found ∷ []) (n + 1) us >>= λ keyed. Ok ((found, u) ∷ keyed))
        (at_tuple number n (compared_keys inner ks before (in_tuple env t))) (at_tuple number n (compared_keys inner' ks before (in_tuple other u)))
        (ap (at_tuple number n) (compared-same ks w before t u h.0))
        (λ found. then_match (AllZip (KeyedBy (AlikeIn s))) (AllZip (KeyedBy (AlikeIn s))) (λ keyed. Ok ((found, t) ∷ keyed)) (λ keyed. Ok ((found, u) ∷ keyed))
        (keyed_from inner number ks env (before ++ found ∷ []) (n + 1) ts) (keyed_from inner' number ks other (before ++ found ∷ []) (n + 1) us)
        (from-match number ks w (before ++ found ∷ []) (n + 1) ts us h.1)
        (λ X Y k. ((refl, h.0), k)))

    order-match : (number : ℕ) (ks : PlainOrderKeys Slot Target SeqType) → order_keys_bound s ks ≡ true → (ts us : List Tuple) → RowsIn s ts us → Match (RowsIn s) (order_tuples inner number ks env ts) (order_tuples inner' number ks other us)
    unfolding order_tuples
    order-match number ks w ts us h =
        then_match (AllZip (KeyedBy (AlikeIn s))) (RowsIn s) (λ keyed. Ok (rows (sorted (columns_of ks) keyed))) (λ keyed. Ok (rows (sorted (columns_of ks) keyed)))
        (keyed_from inner number ks env [] 1 ts) (keyed_from inner' number ks other [] 1 us)
        (from-match number ks w [] 1 ts us h)
        (λ X Y k. order-rows (AlikeIn s) (columns_of ks) X Y k)

  -- ---- all clauses

  clause-match : (s : Scope) (env other : Environment) → Out s env other → length env.frame ≡ length other.frame → (number : ℕ) (stream : List Slot) (c : PlainClause Slot Target SeqType) → clause_bound s c ≡ true → (ts us : List Tuple) → RowsIn s ts us → Match (RowsIn (after_clause s c)) (clause_value inner number stream c env ts) (clause_value inner' number stream c other us)
  clause-match s env other out wide number stream (p.for_clause variable type allowing_empty at source) w ts us h =
      let ws = and_parts (may_bind s variable.name && may_bind_any s at) (is_bound s source) w in
      each_tuple-match s env other out (with_any (with_slot s variable.name) at) number (λ n. for_tuples inner variable type allowing_empty at source env) (λ n. for_tuples inner' variable type allowing_empty at source other) (λ n t u a. for-match s env other out variable type allowing_empty at source ws.1 t u a) ts us h
  clause-match s env other out wide number stream (p.let_clause variable type e) w ts us h =
      let ws = and_parts (may_bind s variable.name) (is_bound s e) w in
      each_tuple-match s env other out (with_slot s variable.name) number (λ n. let_tuples inner variable type e env) (λ n. let_tuples inner' variable type e other) (λ n t u a. let-match s env other out variable type e ws.1 t u a) ts us h
  clause-match s env other out wide number stream (p.where_clause place test) w ts us h =
      each_tuple-match s env other out s number (λ n. where_tuples inner test env) (λ n. where_tuples inner' test other) (λ n t u a. where-match s env other out test w t u a) ts us h
  clause-match s env other out wide number stream (p.count_clause place variable) w ts us h =
      each_tuple-match s env other out (with_slot s variable.name) number (count_tuples variable) (count_tuples variable) (count-match s env other out variable) ts us h
  clause-match s env other out wide number stream (p.group_clause place keys) w ts us h = group-match s env other out wide number stream keys w ts us h
  clause-match s env other out wide number stream (p.order_clause place stable keys) w ts us h = order-match s env other out number keys w ts us h

  return-same : (s : Scope) (env other : Environment) → Out s env other → (number : ℕ) (result : BoundTree) → is_bound s result ≡ true → (ts us : List Tuple) → RowsIn s ts us → return_value inner number result env ts ≡ return_value inner' number result other us
  unfolding return_value
  return-same s env other out number result w ts us h =
      each_same (AlikeIn s) (λ n t. at_tuple number n (inner result (in_tuple env t))) (λ n u. at_tuple number n (inner' result (in_tuple other u))) (λ n t u a. ap (at_tuple number n) (at-tuple s env other out result w t u a)) 1 ts us h

  -- what is behind a clause
  behind-same : (s : Scope) (r q : OrFault (List Tuple)) (f g : List Tuple → Outcome) → Match (RowsIn s) r q → ((ts us : List Tuple) → RowsIn s ts us → f ts ≡ g us) → (r >>= f) ≡ (q >>= g)
  behind-same s (Ok ts) (Ok us) f g h k = k ts us h
  behind-same s (Ok ts) (Err fault) f g h k = absurd h
  behind-same s (Err fault) (Ok us) f g h k = absurd h
  behind-same s (Err fault) (Err other') f g h k = ap Err h

  from-same : (s : Scope) (env other : Environment) → Out s env other → length env.frame ≡ length other.frame → (number : ℕ) (stream : List Slot) (cs : PlainClauses Slot Target SeqType) (result : BoundTree) → clauses_bound s cs ≡ true → is_bound (after_clauses s cs) result ≡ true → (ts us : List Tuple) → RowsIn s ts us → flwor_from inner number stream cs result env ts ≡ flwor_from inner' number stream cs result other us
  from-same s env other out wide number stream p.no_clauses result w v ts us h = return-same s env other out number result v ts us h
  from-same s env other out wide number stream (p.more_clauses c cs) result w v ts us h =
      let ws = and_parts (clause_bound s c) (clauses_bound (after_clause s c) cs) w in
      behind-same (after_clause s c) (clause_value inner number stream c env ts) (clause_value inner' number stream c other us)
      (flwor_from inner (number + 1) (with_slots stream c) cs result env) (flwor_from inner' (number + 1) (with_slots stream c) cs result other)
      (clause-match s env other out wide number stream c ws.0 ts us h)
      (from-same (after_clause s c) env other (clause-outside globals functions s c env other out) wide (number + 1) (with_slots stream c) cs result ws.1 v)

  pub flwor-same : (s : Scope) (env other : Environment) → Sees globals functions s env other → (cs : PlainClauses Slot Target SeqType) (result : BoundTree) → clauses_bound s cs ≡ true → is_bound (after_clauses s cs) result ≡ true → flwor_value inner cs result env ≡ flwor_value inner' cs result other
  unfolding flwor_value
  flwor-same s env other sees cs result w v =
      from-same s env other sees.outside sees.tuples.width 1 [] cs result w v (env.frame ∷ []) (other.frame ∷ []) (sees.tuples, tt)
