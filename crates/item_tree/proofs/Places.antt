-- Where a key stands in a list of pairs.
use Rattle.std.proofs.Common.{◌≡◌, ℕ, zero, suc, ◌+◌, ◌<◌, Bool, true, false, cond, List, [], ◌∷◌, ◌++◌, length, get_or, take, refl, sym, ap, ◌∙◌, arith, inl, inr, ◌⊎◌, Option, Some, None, option_map}
use Rattle.std.specs.Str.{bytes_eq}
use Rattle.std.specs.Option.{is_some}
use Rattle.std.proofs.lemmas.Slice.Eq.{bytes_eq-Decides}
use Rattle.std.proofs.lemmas.List.{length-take-le}
use Rattle.std.proofs.lemmas.Map.Text.{is_eq-slice_cmp}
use Rattle.std.specs.BTreeMap.{get, is_at}
use Rattle.std.specs.Cmp.Lexicographic.{slice_cmp}
use Rattle.std.specs.Ordering.{nat_cmp}
use Rattle.std.specs.Prelude.{slice_get}
use Rattle.item_tree.specs.declared.item.Item.{Item}
use Rattle.item_tree.specs.Datum.{Datum, NoneHas}
use Rattle.item_tree.specs.Item.{datum, pair_datums}
use Rattle.item_tree.specs.Lookup.{place_of, lookup, Index, ArePlaces}
use Rattle.item_tree.specs.Made.{HasKey}
use Rattle.item_tree.proofs.PairLists.{Pair, length_is, step_datums}

-- the first place, else the second
abbrev pub or_place : Option ℕ → Option ℕ → Option ℕ
or_place None o = o
or_place (Some i) o = Some i

place-push : (k : List ℕ) (ps : List (List ℕ × Datum)) (p : List ℕ × Datum) → place_of k (ps ++ p ∷ []) ≡ or_place (place_of k ps) (cond (bytes_eq k p.0) (Some (length ps)) None)
place-push k [] p = by (bytes_eq k p.0)
  where
    by : (b : Bool) → cond b (Some 0) (option_map suc None) ≡ cond b (Some 0) None
    by true = refl
    by false = refl
place-push k (y ∷ ys) p = ap (λ o. cond (bytes_eq k y.0) (Some 0) (option_map suc o)) (place-push k ys p) ∙ by (bytes_eq k y.0) (place_of k ys) (bytes_eq k p.0)
  where
    by : (a : Bool) (o : Option ℕ) (b : Bool) → cond a (Some 0) (option_map suc (or_place o (cond b (Some (length ys)) None))) ≡ or_place (cond a (Some 0) (option_map suc o)) (cond b (Some (suc (length ys))) None)
    by true o b = refl
    by false (Some i) b = refl
    by false None true = refl
    by false None false = refl

-- how many pairs are before this position
pub taken : (xs : List Pair) (i : ℕ) → i < length xs → length (pair_datums (take i xs)) ≡ i
taken xs i lt = length_is (take i xs) ∙ length-take-le i xs (omega arith)

pub place_more : (k : List ℕ) (xs : List Pair) (i : ℕ) (p : Pair) → i < length xs → p ≡ get_or xs i p
    → place_of k (pair_datums (take (i + 1) xs)) ≡ or_place (place_of k (pair_datums (take i xs))) (cond (bytes_eq k p.0) (Some i) None)
place_more k xs i p lt e =
    ap (place_of k) (step_datums xs i p lt e) ∙ place-push k (pair_datums (take i xs)) (p.0, datum p.1) ∙ ap (λ n. or_place (place_of k (pair_datums (take i xs))) (cond (bytes_eq k p.0) (Some n) None)) (taken xs i lt)

kept : (o : Option ℕ) → o ≡ or_place o None
kept (Some i) = refl
kept None = refl

unequal : (b : Bool) → (b ≡ true → ⊥) → b ≡ false
unequal true n = absurd (n refl)
unequal false n = refl

-- a key that has no place yet gets the next
pub place_added : (q k : List ℕ) (v : Datum) (ps : List (List ℕ × Datum)) → place_of k ps ≡ None → cond (bytes_eq k q) (Some (length ps)) (place_of q ps) ≡ place_of q (ps ++ (k, v) ∷ [])
place_added q k v ps n = by (bytes_eq k q) refl ∙ sym (place-push q ps (k, v))
  where
    by : (b : Bool) → bytes_eq k q ≡ b → cond b (Some (length ps)) (place_of q ps) ≡ or_place (place_of q ps) (cond (bytes_eq q k) (Some (length ps)) None)
    by true f =
        let s : q ≡ k = sym ((bytes_eq-Decides k q).0 f) in
        let t : bytes_eq q k ≡ true = (bytes_eq-Decides q k).1 s in
        let m : place_of q ps ≡ None = ap (λ j. place_of j ps) s ∙ n in
        λ j. or_place (sym m j) (cond (sym t j) (Some (length ps)) None)
    by false f =
        let t : bytes_eq q k ≡ false = unequal (bytes_eq q k) (λ h. let r = (bytes_eq-Decides k q).1 (sym ((bytes_eq-Decides q k).0 h)) in absurd (cc)) in
        kept (place_of q ps) ∙ (λ j. or_place (place_of q ps) (cond (sym t j) (Some (length ps)) None))

-- an index into which this key and the next position were put
pub index_added : (m n : Index) (k : List ℕ) (v : Datum) (ps : List (List ℕ × Datum)) (i : ℕ) → ArePlaces m ps → place_of k ps ≡ None → length ps ≡ i
    → ((q : List ℕ) → get (λ a b. slice_cmp nat_cmp a b) n q ≡ cond (is_at (slice_cmp nat_cmp k) q) (Some i) (get (λ a b. slice_cmp nat_cmp a b) m q)) → ArePlaces n (ps ++ (k, v) ∷ [])
index_added m n k v ps i h none l u q =
    u q ∙ ap (λ b. cond b (Some i) (get (λ a b. slice_cmp nat_cmp a b) m q)) (is_eq-slice_cmp k q) ∙ ap (λ o. cond (bytes_eq k q) (Some i) o) (h q) ∙ ap (λ j. cond (bytes_eq k q) (Some j) (place_of q ps)) (sym l) ∙ place_added q k v ps none

-- no place for the key of the first pair, and none behind it
behind : (b : Bool) (o : Option ℕ) → cond b (Some 0) (option_map suc o) ≡ None → (b ≡ false) × (o ≡ None)
behind true o e = absurd (cc)
behind false (Some i) e = absurd (cc)
behind false None e = (refl, refl)

-- by cases on the test of the first key
none_of_either : (b : Bool) (o : Option ℕ) → is_some (cond b (Some 0) (option_map suc o)) ≡ false → (b ≡ false) × (is_some o ≡ false)
none_of_either true o e = absurd (cc)
none_of_either false (Some i) e = absurd (cc)
none_of_either false None e = (refl, refl)

some_of_either : (b : Bool) (o : Option ℕ) → is_some (cond b (Some 0) (option_map suc o)) ≡ true → (b ≡ true) ⊎ (is_some o ≡ true)
some_of_either true o e = inl refl
some_of_either false (Some i) e = inr refl
some_of_either false None e = absurd (cc)

pub none_from : (k : List ℕ) (ps : List (List ℕ × Datum)) → is_some (place_of k ps) ≡ false → NoneHas k ps
none_from k [] e = tt
none_from k (p ∷ ps) e =
    let n = none_of_either (bytes_eq k p.0) (place_of k ps) e in
    ((λ s. let t = (bytes_eq-Decides k p.0).1 s in absurd (let f = n.0 in cc)), none_from k ps n.1)

pub has_from : (k : List ℕ) (ps : List (List ℕ × Datum)) → is_some (place_of k ps) ≡ true → HasKey k ps
has_from k [] e = absurd (cc)
has_from k (p ∷ ps) e =
    elim (some_of_either (bytes_eq k p.0) (place_of k ps) e) [ inl h ↦ inl ((bytes_eq-Decides k p.0).0 h) | inr h ↦ inr (has_from k ps h) ]

pub no_place : (o : Option ℕ) → is_some o ≡ false → o ≡ None
no_place (Some i) e = absurd (cc)
no_place None e = refl

-- the first pair with the key
pub place_first : (k : List ℕ) (xs : List Pair) (i : ℕ) (p : Pair) → i < length xs → p ≡ get_or xs i p → place_of k (pair_datums (take i xs)) ≡ None → bytes_eq k p.0 ≡ true → place_of k (pair_datums xs) ≡ Some i
place_first k [] i p lt e n t = absurd (omega arith)
place_first k (y ∷ ys) zero p lt e n t = rw (ap (λ q. bytes_eq k q.0) (sym e), t) refl
place_first k (y ∷ ys) (suc i) p lt e n t =
    let b = behind (bytes_eq k y.0) (place_of k (pair_datums (take i ys))) n in
    let f = b.0 in
    rw (f, place_first k ys i p (omega arith) e b.1 t) refl

pub place_inside : (k : List ℕ) (ps : List (List ℕ × Datum)) (i : ℕ) → place_of k ps ≡ Some i → i < length ps
place_inside k [] i e = absurd (cc)
place_inside k (p ∷ ps) i e = by (bytes_eq k p.0) (place_of k ps) (place_inside k ps) e
  where
    by : (b : Bool) (o : Option ℕ) → ((j : ℕ) → o ≡ Some j → j < length ps) → cond b (Some 0) (option_map suc o) ≡ Some i → i < suc (length ps)
    by true o r h = let z : 0 ≡ i = cc in omega arith
    by false (Some j) r h = let z : suc j ≡ i = cc in let l = r j refl in omega arith
    by false None r h = absurd (cc)

pub lookup_none : (k : List ℕ) (ps : List (List ℕ × Datum)) → place_of k ps ≡ None → lookup k ps ≡ None
lookup_none k [] e = refl
lookup_none k (p ∷ ps) e =
    let n = behind (bytes_eq k p.0) (place_of k ps) e in
    rw n.0 (lookup_none k ps n.1)

pub place_inside_pairs : (k : List ℕ) (xs : List Pair) (i : ℕ) → place_of k (pair_datums xs) ≡ Some i → i < length xs
place_inside_pairs k xs i e = let l = place_inside k (pair_datums xs) i e in omega (arith, length_is xs)

pub lookup_at : (k : List ℕ) (xs : List Pair) (i : ℕ) (v : Item) → place_of k (pair_datums xs) ≡ Some i → option_map (λ p. p.1) (slice_get xs i) ≡ Some v → lookup k (pair_datums xs) ≡ Some (datum v)
lookup_at k [] i v e s = absurd (cc)
lookup_at k (y ∷ ys) i v e s = by (bytes_eq k y.0) (place_of k (pair_datums ys)) i (λ j. lookup_at k ys j v) e s
  where
    by : (b : Bool) (o : Option ℕ) (i : ℕ) → ((j : ℕ) → o ≡ Some j → option_map (λ p. p.1) (slice_get ys j) ≡ Some v → lookup k (pair_datums ys) ≡ Some (datum v))
        → cond b (Some 0) (option_map suc o) ≡ Some i → option_map (λ p. p.1) (slice_get (y ∷ ys) i) ≡ Some v → cond b (Some (datum y.1)) (lookup k (pair_datums ys)) ≡ Some (datum v)
    by true o zero r h s = ap (λ o. option_map datum o) s
    by true o (suc i) r h s = absurd (let z : 0 ≡ suc i = cc in omega arith)
    by false (Some j) zero r h s = absurd (let z : suc j ≡ 0 = cc in omega arith)
    by false (Some j) (suc i) r h s = let z : suc j ≡ suc i = cc in let w : j ≡ i = omega arith in r i (ap (λ n. Some n) w) s
    by false None i r h s = absurd (cc)
