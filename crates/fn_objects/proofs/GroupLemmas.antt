-- The values of each key, one pair further, and the object of all.
use Rattle.std.proofs.Common.{◌≡◌, ℕ, ◌+◌, ◌<◌, ◌≤◌, zero, suc, Bool, true, false, cond, not, List, [], ◌∷◌, ◌++◌, length, map, get_or, take, Option, Some, None, option_map, unwrap_or, Ok, Err, refl, sym, ap, subst, ◌∙◌, arith, inl, inr}
use Rattle.std.proofs.lemmas.Bool.{or_parts, both_ways, lt-ltb, le-ltb}
use Rattle.std.proofs.lemmas.List.{append-nil, map-append, map_more}
use Rattle.std.proofs.lemmas.Map.Text.{is_eq-slice_cmp}
use Rattle.std.proofs.lemmas.Slice.Eq.{bytes_eq-Decides}
use Rattle.std.specs.BTreeMap.{BTreeMap, get, is_at}
use Rattle.std.specs.Cmp.Lexicographic.{slice_cmp}
use Rattle.std.specs.List.{filter}
use Rattle.std.specs.Ordering.{nat_cmp}
use Rattle.std.specs.Str.{bytes_eq}
use Rattle.item_tree.specs.declared.code.Code.TheVariants.{PJDY0002}
use Rattle.item_tree.specs.declared.fault.OpFault.{OpFault}
use Rattle.item_tree.specs.declared.fault.OpFault.TheVariants.{Raised, NoMemory}
use Rattle.item_tree.specs.declared.item.Item.{Item}
use Rattle.item_tree.specs.Datum.{Datum, depth, array_of_list, object_of_pairs, NoneHas, KeysDiffer}
use Rattle.item_tree.specs.Item.{datum, datums, pair_datums}
use Rattle.item_tree.specs.Made.{HasDeep}
use Rattle.item_tree.proofs.PairLists.{Pair, pushed_datums}
use Rattle.value_rules.specs.Sequences.{firsts}
use Rattle.value_rules.specs.Objects.{is_among, different_keys, values_at, gathered, gathered_pairs, if_not_deep}
use Rattle.value_rules.proofs.FirstLemmas.{further, firsts-push}
use Rattle.fn_objects.specs.declared.gathering.Groups.{Groups}
use Rattle.fn_objects.specs.inside.Groups.{group_of, IsGrouped, values_in, group_pairs, IsTooDeep}
use Rattle.fn_objects.specs.Faults.{MayFailWith}
use Rattle.fn_objects.proofs.KeyLemmas.{among-push}
use Rattle.fn_objects.proofs.ChoiceLemmas.{filter_push}
use Rattle.fn_objects.proofs.ListLemmas.{key, worth}

-- a key that is not there has no values
values_none : (k : List ℕ) (ps : List (List ℕ × Datum)) → is_among (map key ps) k ≡ false → values_at k ps ≡ []
values_none k [] e = refl
values_none k (p ∷ ps) e =
    let f = or_parts (bytes_eq p.0 k) (is_among (map key ps) k) e in
    ap (λ b. map worth (cond b (p ∷ filter (λ q. bytes_eq q.0 k) ps) (filter (λ q. bytes_eq q.0 k) ps))) f.0 ∙ values_none k ps f.1

values_push : (q : List ℕ) (ps : List (List ℕ × Datum)) (k : List ℕ) (v : Datum) → values_at q (ps ++ (k, v) ∷ []) ≡ values_at q ps ++ cond (bytes_eq k q) (v ∷ []) []
values_push q ps k v =
    ap (map worth) (filter_push (λ p. bytes_eq p.0 q) ps (k, v)) ∙ map-append worth (filter (λ p. bytes_eq p.0 q) ps) (cond (bytes_eq k q) ((k, v) ∷ []) []) ∙ ap (λ vs. values_at q ps ++ vs) (by (bytes_eq k q))
  where
    by : (b : Bool) → map worth (cond b ((k, v) ∷ []) []) ≡ cond b (v ∷ []) []
    by true = refl
    by false = refl

different-push : (ps : List (List ℕ × Datum)) (k : List ℕ) (v : Datum) → different_keys (ps ++ (k, v) ∷ []) ≡ different_keys ps ++ further bytes_eq (map key ps) k
different-push ps k v = ap (firsts bytes_eq) (map-append key ps ((k, v) ∷ [])) ∙ firsts-push bytes_eq (map key ps) k

pub order_kept : (keys : List (List ℕ)) (ps : List (List ℕ × Datum)) (k : List ℕ) (v : Datum) → keys ≡ different_keys ps → is_among (map key ps) k ≡ true → keys ≡ different_keys (ps ++ (k, v) ∷ [])
order_kept keys ps k v h t = h ∙ sym (append-nil (different_keys ps)) ∙ ap (λ b. different_keys ps ++ cond b [] (k ∷ [])) (sym t) ∙ sym (different-push ps k v)

pub order_more : (keys new : List (List ℕ)) (ps : List (List ℕ × Datum)) (k : List ℕ) (v : Datum) → keys ≡ different_keys ps → is_among (map key ps) k ≡ false → new ≡ keys ++ k ∷ [] → new ≡ different_keys (ps ++ (k, v) ∷ [])
order_more keys new ps k v h f n = n ∙ ap (λ js. js ++ k ∷ []) h ∙ ap (λ b. different_keys ps ++ cond b [] (k ∷ [])) (sym f) ∙ sym (different-push ps k v)

-- the group of a key that was found, and of one that was not
pub some_group : (ps : List (List ℕ × Datum)) (k : List ℕ) (vs : List Datum) → Some vs ≡ group_of ps k → (is_among (map key ps) k ≡ true) × (vs ≡ values_at k ps)
some_group ps k vs e = by (is_among (map key ps) k) refl e
  where
    by : (b : Bool) → is_among (map key ps) k ≡ b → Some vs ≡ cond b (Some (values_at k ps)) None → (is_among (map key ps) k ≡ true) × (vs ≡ values_at k ps)
    by true t h = (t, cc)
    by false t h = absurd cc

pub no_group : (ps : List (List ℕ × Datum)) (k : List ℕ) → None ≡ group_of ps k → (is_among (map key ps) k ≡ false) × ([] ≡ values_at k ps)
no_group ps k e = by (is_among (map key ps) k) refl e
  where
    by : (b : Bool) → is_among (map key ps) k ≡ b → None ≡ cond b (Some (values_at k ps)) None → (is_among (map key ps) k ≡ false) × ([] ≡ values_at k ps)
    by true t h = absurd cc
    by false t h = (t, sym (values_none k ps t))

group_push : (ps : List (List ℕ × Datum)) (k : List ℕ) (v : Datum) (q : List ℕ) → group_of (ps ++ (k, v) ∷ []) q ≡ cond (bytes_eq k q) (Some (values_at k ps ++ v ∷ [])) (group_of ps q)
group_push ps k v q =
    (λ i. cond (among i) (Some (values_push q ps k v i)) None) ∙ by (bytes_eq k q) refl
  where
    among : is_among (map key (ps ++ (k, v) ∷ [])) q ≡ cond (bytes_eq k q) true (is_among (map key ps) q)
    among = ap (λ ks. is_among ks q) (map-append key ps ((k, v) ∷ [])) ∙ among-push (map key ps) k q

    by : (b : Bool) → bytes_eq k q ≡ b → cond (cond b true (is_among (map key ps) q)) (Some (values_at q ps ++ cond b (v ∷ []) [])) None ≡ cond b (Some (values_at k ps ++ v ∷ [])) (group_of ps q)
    by true e = ap (λ j. Some (values_at j ps ++ v ∷ [])) (sym ((bytes_eq-Decides k q).0 e))
    by false e = ap (λ vs. cond (is_among (map key ps) q) (Some vs) None) (append-nil (values_at q ps))

-- what a map has at a key after a key was taken out, and after one was put in
pub look_taken : {V : Type 0} (f : V → List Datum) (old new : BTreeMap (List ℕ) V) (k q : List ℕ) (g : Option (List Datum)) → get (λ a b. slice_cmp nat_cmp a b) new q ≡ cond (is_at (slice_cmp nat_cmp k) q) None (get (λ a b. slice_cmp nat_cmp a b) old q)
    → option_map f (get (λ a b. slice_cmp nat_cmp a b) old q) ≡ g → option_map f (get (λ a b. slice_cmp nat_cmp a b) new q) ≡ cond (bytes_eq k q) None g
look_taken f old new k q g u h =
    ap (option_map f) (u ∙ ap (λ b. cond b None (get (λ a b. slice_cmp nat_cmp a b) old q)) (is_eq-slice_cmp k q)) ∙ by (bytes_eq k q)
  where
    by : (b : Bool) → option_map f (cond b None (get (λ a b. slice_cmp nat_cmp a b) old q)) ≡ cond b None g
    by true = refl
    by false = h

pub look_put : {V : Type 0} (f : V → List Datum) (old new : BTreeMap (List ℕ) V) (ps : List (List ℕ × Datum)) (k : List ℕ) (v : Datum) (w : V) (q : List ℕ)
    → get (λ a b. slice_cmp nat_cmp a b) new q ≡ cond (is_at (slice_cmp nat_cmp k) q) (Some w) (get (λ a b. slice_cmp nat_cmp a b) old q) → option_map f (get (λ a b. slice_cmp nat_cmp a b) old q) ≡ cond (bytes_eq k q) None (group_of ps q)
    → f w ≡ values_at k ps ++ v ∷ [] → option_map f (get (λ a b. slice_cmp nat_cmp a b) new q) ≡ group_of (ps ++ (k, v) ∷ []) q
look_put f old new ps k v w q u h e =
    ap (option_map f) (u ∙ ap (λ b. cond b (Some w) (get (λ a b. slice_cmp nat_cmp a b) old q)) (is_eq-slice_cmp k q)) ∙ by (bytes_eq k q) h ∙ sym (group_push ps k v q)
  where
    by : (b : Bool) → option_map f (get (λ a b. slice_cmp nat_cmp a b) old q) ≡ cond b None (group_of ps q) → option_map f (cond b (Some w) (get (λ a b. slice_cmp nat_cmp a b) old q)) ≡ cond b (Some (values_at k ps ++ v ∷ [])) (group_of ps q)
    by true g = ap Some e
    by false g = g

-- the pairs of the groups are those of the definition
values_found : (ps : List (List ℕ × Datum)) (k : List ℕ) → unwrap_or (group_of ps k) [] ≡ values_at k ps
values_found ps k = by (is_among (map key ps) k) refl
  where
    by : (b : Bool) → is_among (map key ps) k ≡ b → unwrap_or (cond b (Some (values_at k ps)) None) [] ≡ values_at k ps
    by true e = refl
    by false e = sym (values_none k ps e)

map_same : {X Y : Type 0} (f g : X → Y) → ((x : X) → f x ≡ g x) → (xs : List X) → map f xs ≡ map g xs
map_same f g h [] = refl
map_same f g h (x ∷ xs) = λ i. h x i ∷ map_same f g h xs i

pub grouped_is : (groups : Groups) (ps : List (List ℕ × Datum)) → IsGrouped groups ps → group_pairs groups ≡ gathered_pairs ps
grouped_is groups ps h =
    ap (map (λ k. (k, gathered (values_in groups k)))) h.ordered
    ∙ map_same (λ k. (k, gathered (values_in groups k))) (λ k. (k, gathered (values_at k ps))) (λ k. ap (λ vs. (k, gathered vs)) (ap (λ o. unwrap_or o []) (h.found k) ∙ values_found ps k)) (different_keys ps)

-- the different keys differ
none_equal : (worth_of : List ℕ → Datum) (k : List ℕ) (js : List (List ℕ)) → NoneHas k (map (λ j. (j, worth_of j)) (filter (λ j. not (bytes_eq k j)) js))
none_equal worth_of k [] = tt
none_equal worth_of k (j ∷ js) = by (bytes_eq k j) refl (none_equal worth_of k js)
  where
    by : (b : Bool) → bytes_eq k j ≡ b → NoneHas k (map (λ i. (i, worth_of i)) (filter (λ i. not (bytes_eq k i)) js))
        → NoneHas k (map (λ i. (i, worth_of i)) (cond (not b) (j ∷ filter (λ i. not (bytes_eq k i)) js) (filter (λ i. not (bytes_eq k i)) js)))
    by true e h = h
    by false e h = ((λ s. both_ways _ e ((bytes_eq-Decides k j).1 s)), h)

none_fewer : (worth_of : List ℕ → Datum) (test : List ℕ → Bool) (k : List ℕ) (js : List (List ℕ)) → NoneHas k (map (λ j. (j, worth_of j)) js) → NoneHas k (map (λ j. (j, worth_of j)) (filter test js))
none_fewer worth_of test k [] n = tt
none_fewer worth_of test k (j ∷ js) n = by (test j) (none_fewer worth_of test k js n.1)
  where
    by : (b : Bool) → NoneHas k (map (λ i. (i, worth_of i)) (filter test js)) → NoneHas k (map (λ i. (i, worth_of i)) (cond b (j ∷ filter test js) (filter test js)))
    by true h = (n.0, h)
    by false h = h

differ_fewer : (worth_of : List ℕ → Datum) (test : List ℕ → Bool) (js : List (List ℕ)) → KeysDiffer (map (λ j. (j, worth_of j)) js) → KeysDiffer (map (λ j. (j, worth_of j)) (filter test js))
differ_fewer worth_of test [] d = tt
differ_fewer worth_of test (j ∷ js) d = by (test j) (none_fewer worth_of test j js d.0) (differ_fewer worth_of test js d.1)
  where
    by : (b : Bool) → NoneHas j (map (λ i. (i, worth_of i)) (filter test js)) → KeysDiffer (map (λ i. (i, worth_of i)) (filter test js)) → KeysDiffer (map (λ i. (i, worth_of i)) (cond b (j ∷ filter test js) (filter test js)))
    by true n h = (n, h)
    by false n h = h

pub firsts_differ : (worth_of : List ℕ → Datum) (ks : List (List ℕ)) → KeysDiffer (map (λ k. (k, worth_of k)) (firsts bytes_eq ks))
firsts_differ worth_of [] = tt
firsts_differ worth_of (k ∷ ks) = (none_equal worth_of k (firsts bytes_eq ks), differ_fewer worth_of (λ j. not (bytes_eq k j)) (firsts bytes_eq ks) (firsts_differ worth_of ks))

-- depths
pub deep_array : (vs : List Datum) → HasDeep vs → 128 < depth (array_of_list vs)
deep_array [] h = absurd h
deep_array (v ∷ vs) h = elim h [ inl e ↦ omega arith | inr g ↦ (let r = deep_array vs g in omega arith) ]

deep_at : (worth_of : List ℕ → Datum) (ks : List (List ℕ)) (i : ℕ) (k : List ℕ) → i < length ks → k ≡ get_or ks i k → 128 < depth (worth_of k) → 128 < depth (object_of_pairs (map (λ j. (j, worth_of j)) ks))
deep_at worth_of [] i k lt e h = absurd (omega arith)
deep_at worth_of (j ∷ js) zero k lt e h = let g : 128 < depth (worth_of j) = subst (λ n. 128 < depth (worth_of n)) e h in omega arith
deep_at worth_of (j ∷ js) (suc i) k lt e h = let r = deep_at worth_of js i k (omega arith) e h in omega arith

pub deep_further : (groups : Groups) (i : ℕ) (k : List ℕ) (e : OpFault) → i < length groups.keys.items → k ≡ get_or groups.keys.items i k → IsTooDeep (gathered (values_in groups k)) e → IsTooDeep (object_of_pairs (group_pairs groups)) e
deep_further groups i k (Raised c) lt s h = (h.0, deep_at (λ j. gathered (values_in groups j)) groups.keys.items i k lt s h.1)
deep_further groups i k NoMemory lt s h = tt

pub made_of : (v : Datum) (x : Item) (out : List Item) → datum x ≡ v → depth v ≤ 128 → out ≡ x ∷ [] → if_not_deep v ≡ Ok (datums out)
made_of v x out e h n = ap (λ b. cond b (Err PJDY0002) (Ok (v ∷ []))) (le-ltb 128 (depth v) h) ∙ ap (λ w. Ok (w ∷ [])) (sym e) ∙ ap (λ xs. Ok (datums xs)) (sym n)

pub failed : (v : Datum) (e : OpFault) → IsTooDeep v e → MayFailWith (if_not_deep v) e
failed v (Raised c) h = ap (λ b. cond b (Err PJDY0002) (Ok (v ∷ []))) (lt-ltb 128 (depth v) h.1) ∙ ap Err (sym h.0)
failed v NoMemory h = tt

-- one more pair
pub pairs_more : (f : List ℕ → Datum) (ks : List (List ℕ)) (i : ℕ) (k j : List ℕ) (x : Item) (out new : List Pair) → i < length ks → k ≡ get_or ks i k → pair_datums out ≡ map (λ j. (j, f j)) (take i ks) → new ≡ out ++ (j, x) ∷ [] → j ≡ k → datum x ≡ f k
    → pair_datums new ≡ map (λ j. (j, f j)) (take (i + 1) ks)
pairs_more f ks i k j x out new lt e h n s g =
    ap pair_datums n ∙ pushed_datums out (j, x) ∙ (λ m. h m ++ (s m, g m) ∷ []) ∙ ap (λ l. map (λ j. (j, f j)) (take i ks) ++ (l, f l) ∷ []) e ∙ sym (map_more (λ j. (j, f j)) ks i k lt)
