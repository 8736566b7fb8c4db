-- The items at some positions, as parts of a list.
use Rattle.std.proofs.Common.{◌≡◌, ℕ, zero, suc, ◌+◌, ◌-◌, Bool, true, false, cond, not, ◌&&◌, ℤ, pos, negsuc, ◌+ℤ◌, ◌≤ℤ◌, List, [], ◌∷◌, ◌++◌, map, take, drop, reverse, Ok, to_z, of_z, refl, sym, ap, ◌∙◌, arith, ltb, leb}
use Rattle.std.proofs.lemmas.Bool.{ltb-true, ltb-false, leb-true, leb-false}
use Rattle.std.proofs.lemmas.Int.{ints}
use Rattle.std.proofs.lemmas.List.{drop-map, take-map, map-append, reverse-append}
use Rattle.std.specs.Int.{w128}
use Rattle.std.specs.List.{filter, enumerate_from}
use Rattle.std.specs.Ordering.{int_eq, is_eq}
use Rattle.std.specs.declared.cmp.Ordering.TheVariants.{Less, Equal, Greater}
use Rattle.std.specs.Prelude.{int_lt, int_le}
use Rattle.item_tree.specs.declared.item.Item.{Item}
use Rattle.item_tree.specs.Datum.{Datum, IsWhole}
use Rattle.item_tree.specs.Item.{datum, datums}
use Rattle.value_rules.specs.Operands.{one_integer}
use Rattle.value_rules.specs.Sequences as sequences
use Rattle.value_rules.specs.Sequences.{items_at}
use Rattle.fn_sequences.specs.inside.Places.{places_before}

-- the values whose positions pass, where the first has position b
abbrev picked : {X : Type 0} → (ℕ → Bool) → ℕ → List X → List X
picked test b [] = []
picked test b (x ∷ xs) = cond (test b) (x ∷ picked test (b + 1) xs) (picked test (b + 1) xs)

picked_is : {X : Type 0} (test : ℕ → Bool) (b : ℕ) (xs : List X) → map (λ p. p.1) (filter (λ p. test p.0) (enumerate_from b xs)) ≡ picked test b xs
picked_is test b [] = refl
picked_is {X} test b (x ∷ xs) = by (test b) (filter (λ p. test p.0) (enumerate_from (b + 1) xs)) (picked_is test (b + 1) xs)
  where
    by : (t : Bool) (ps : List (ℕ × X)) → map (λ p. p.1) ps ≡ picked test (b + 1) xs → map (λ p. p.1) (cond t ((b, x) ∷ ps) ps) ≡ cond t (x ∷ picked test (b + 1) xs) (picked test (b + 1) xs)
    by true ps h = ap (λ ys. x ∷ ys) h
    by false ps h = h

-- tests that agree pick the same
picked_same : {X : Type 0} (f g : ℕ → Bool) → ((q : ℕ) → f q ≡ g q) → (b : ℕ) (xs : List X) → picked f b xs ≡ picked g b xs
picked_same f g h b [] = refl
picked_same f g h b (x ∷ xs) = λ i. cond (h b i) (x ∷ picked_same f g h (b + 1) xs i) (picked_same f g h (b + 1) xs i)

drop_none : {X : Type 0} (n : ℕ) → let none : List X = [] in drop n none ≡ none
drop_none zero = refl
drop_none (suc n) = refl

take_none : {X : Type 0} (n : ℕ) → let none : List X = [] in take n none ≡ none
take_none zero = refl
take_none (suc n) = refl

picked_from : {X : Type 0} (m b : ℕ) (xs : List X) → picked (λ q. leb m q) b xs ≡ drop (m - b) xs
picked_from m b [] = sym (drop_none (m - b))
picked_from m b (x ∷ xs) = by (leb m b) refl (picked_from m (b + 1) xs)
  where
    by : (t : Bool) → leb m b ≡ t → picked (λ q. leb m q) (b + 1) xs ≡ drop (m - (b + 1)) xs → cond t (x ∷ picked (λ q. leb m q) (b + 1) xs) (picked (λ q. leb m q) (b + 1) xs) ≡ drop (m - b) (x ∷ xs)
    by true t h =
        let le = leb-true m b t in
        let e : m - (b + 1) ≡ 0 = omega arith in
        let z : m - b ≡ 0 = omega arith in
        ap (λ ys. x ∷ ys) (h ∙ ap (λ n. drop n xs) e) ∙ ap (λ n. drop n (x ∷ xs)) (sym z)
    by false t h =
        let gt = leb-false m b t in
        let s : suc (m - (b + 1)) ≡ m - b = omega arith in
        h ∙ ap (λ n. drop n (x ∷ xs)) s

picked_before : {X : Type 0} (m b : ℕ) (xs : List X) → picked (λ q. ltb q m) b xs ≡ take (m - b) xs
picked_before m b [] = sym (take_none (m - b))
picked_before m b (x ∷ xs) = by (ltb b m) refl (picked_before m (b + 1) xs)
  where
    by : (t : Bool) → ltb b m ≡ t → picked (λ q. ltb q m) (b + 1) xs ≡ take (m - (b + 1)) xs → cond t (x ∷ picked (λ q. ltb q m) (b + 1) xs) (picked (λ q. ltb q m) (b + 1) xs) ≡ take (m - b) (x ∷ xs)
    by true t h =
        let lt = ltb-true b m t in
        let s : suc (m - (b + 1)) ≡ m - b = omega arith in
        ap (λ ys. x ∷ ys) h ∙ ap (λ n. take n (x ∷ xs)) s
    by false t h =
        let ge = ltb-false b m t in
        let e : m - (b + 1) ≡ 0 = omega arith in
        let z : m - b ≡ 0 = omega arith in
        h ∙ ap (λ n. take n xs) e ∙ ap (λ n. take n (x ∷ xs)) (sym z)

picked_between : {X : Type 0} (m k b : ℕ) (xs : List X) → picked (λ q. leb m q && ltb q k) b xs ≡ drop (m - b) (take (k - b) xs)
picked_between m k b [] = sym (ap (λ ys. drop (m - b) ys) (take_none (k - b)) ∙ drop_none (m - b))
picked_between {X} m k b (x ∷ xs) = by (leb m b) (ltb b k) (picked (λ q. leb m q && ltb q k) (b + 1) xs) refl refl (picked_between m k (b + 1) xs)
  where
    past : (ys : List X) → ltb b k ≡ false → ys ≡ drop (m - (b + 1)) (take (k - (b + 1)) xs) → ys ≡ drop (m - b) (take (k - b) (x ∷ xs))
    past ys u h =
        let ge = ltb-false b k u in
        let e : k - (b + 1) ≡ 0 = omega arith in
        let z : k - b ≡ 0 = omega arith in
        h ∙ ap (λ n. drop (m - (b + 1)) (take n xs)) e ∙ drop_none (m - (b + 1)) ∙ sym (drop_none (m - b)) ∙ ap (λ n. drop (m - b) (take n (x ∷ xs))) (sym z)

    by : (t u : Bool) (ys : List X) → leb m b ≡ t → ltb b k ≡ u → ys ≡ drop (m - (b + 1)) (take (k - (b + 1)) xs) → cond (t && u) (x ∷ ys) ys ≡ drop (m - b) (take (k - b) (x ∷ xs))
    by true true ys t u h =
        let le = leb-true m b t in
        let lt = ltb-true b k u in
        let e : m - (b + 1) ≡ 0 = omega arith in
        let z : 0 ≡ m - b = omega arith in
        let s : suc (k - (b + 1)) ≡ k - b = omega arith in
        ap (λ zs. x ∷ zs) (h ∙ ap (λ n. drop n (take (k - (b + 1)) xs)) e) ∙ (λ i. drop (z i) (take (s i) (x ∷ xs)))
    by false true ys t u h =
        let gt = leb-false m b t in
        let lt = ltb-true b k u in
        let e : suc (m - (b + 1)) ≡ m - b = omega arith in
        let s : suc (k - (b + 1)) ≡ k - b = omega arith in
        h ∙ (λ i. drop (e i) (take (s i) (x ∷ xs)))
    by true false ys t u h = past ys u h
    by false false ys t u h = past ys u h

-- whether a position is not m
abbrev is_other : ℕ → ℕ → Bool
is_other m q = not (int_eq (pos m) (pos q))

picked_others : {X : Type 0} (m b : ℕ) (xs : List X) → picked (is_other m) b xs ≡ take (m - b) xs ++ drop (m + 1 - b) xs
picked_others m b [] = sym (λ i. take_none (m - b) i ++ drop_none (m + 1 - b) i)
picked_others {X} m b (x ∷ xs) = by (ltb m b) (ltb b m) (picked (is_other m) (b + 1) xs) refl refl (picked_others m (b + 1) xs)
  where
    by : (t u : Bool) (ys : List X) → ltb m b ≡ t → ltb b m ≡ u → ys ≡ take (m - (b + 1)) xs ++ drop (m + 1 - (b + 1)) xs
        → cond (not (is_eq (cond t Less (cond u Greater Equal)))) (x ∷ ys) ys ≡ take (m - b) (x ∷ xs) ++ drop (m + 1 - b) (x ∷ xs)
    by true u ys t v h =
        let lt = ltb-true m b t in
        let c : m - (b + 1) ≡ 0 = omega arith in
        let d : m + 1 - (b + 1) ≡ 0 = omega arith in
        let e : 0 ≡ m - b = omega arith in
        let z : 0 ≡ m + 1 - b = omega arith in
        ap (λ zs. x ∷ zs) (h ∙ (λ i. take (c i) xs ++ drop (d i) xs)) ∙ (λ i. take (e i) (x ∷ xs) ++ drop (z i) (x ∷ xs))
    by false true ys t v h =
        let gt = ltb-true b m v in
        let c : suc (m - (b + 1)) ≡ m - b = omega arith in
        let d : suc (m + 1 - (b + 1)) ≡ m + 1 - b = omega arith in
        ap (λ zs. x ∷ zs) h ∙ (λ i. take (c i) (x ∷ xs) ++ drop (d i) (x ∷ xs))
    by false false ys t v h =
        let ge = ltb-false m b t in
        let le = ltb-false b m v in
        let c : m - (b + 1) ≡ 0 = omega arith in
        let d : m + 1 - (b + 1) ≡ 0 = omega arith in
        let e : 0 ≡ m - b = omega arith in
        let z : suc 0 ≡ m + 1 - b = omega arith in
        h ∙ (λ i. take (c i) xs ++ drop (d i) xs) ∙ (λ i. take (e i) (x ∷ xs) ++ drop (z i) (x ∷ xs))

picked_all : {X : Type 0} (b : ℕ) (xs : List X) → picked (λ q. true) b xs ≡ xs
picked_all b [] = refl
picked_all b (x ∷ xs) = ap (λ ys. x ∷ ys) (picked_all (b + 1) xs)

picked_no : {X : Type 0} (b : ℕ) (xs : List X) → picked (λ q. false) b xs ≡ []
picked_no b [] = refl
picked_no b (x ∷ xs) = picked_no (b + 1) xs

not_both : (b : Bool) → (b && false) ≡ false
not_both true = refl
not_both false = refl

-- before the position after one below 0 there is nothing either
pub before_next : (n : ℕ) → places_before (negsuc n +ℤ pos 1) ≡ 0
before_next n = by (negsuc n +ℤ pos 1) (omega (arith, ints))
  where
    by : (z : ℤ) → z ≤ℤ pos 0 → places_before z ≡ 0
    by (pos m) h = omega (arith, ints)
    by (negsuc m) h = refl

-- the values from a position on, before one, between two, and at every other one
pub from_position : {X : Type 0} (i : ℤ) (xs : List X) → items_at (λ p. int_le i p) xs ≡ drop (places_before i) xs
from_position (pos n) xs = picked_is (λ q. leb n q) 1 xs ∙ picked_from n 1 xs
from_position (negsuc n) xs = picked_is (λ q. true) 1 xs ∙ picked_all 1 xs

pub before_position : {X : Type 0} (i : ℤ) (xs : List X) → items_at (λ p. int_lt p i) xs ≡ take (places_before i) xs
before_position (pos n) xs = picked_is (λ q. ltb q n) 1 xs ∙ picked_before n 1 xs
before_position (negsuc n) xs = picked_is (λ q. false) 1 xs ∙ picked_no 1 xs

pub between_positions : {X : Type 0} (i j : ℤ) (xs : List X) → items_at (λ p. int_le i p && int_lt p j) xs ≡ drop (places_before i) (take (places_before j) xs)
between_positions (pos m) (pos n) xs = picked_is (λ q. leb m q && ltb q n) 1 xs ∙ picked_between m n 1 xs
between_positions (pos m) (negsuc n) xs =
    picked_is (λ q. leb m q && false) 1 xs ∙ picked_same (λ q. leb m q && false) (λ q. false) (λ q. not_both (leb m q)) 1 xs ∙ picked_no 1 xs ∙ sym (drop_none (m - 1))
between_positions (negsuc m) j xs = before_position j xs

pub other_positions : {X : Type 0} (i : ℤ) (xs : List X) → items_at (λ p. not (int_eq i p)) xs ≡ take (places_before i) xs ++ drop (places_before (i +ℤ pos 1)) xs
other_positions (pos n) xs = picked_is (is_other n) 1 xs ∙ picked_others n 1 xs
other_positions (negsuc n) xs = picked_is (λ q. true) 1 xs ∙ picked_all 1 xs ∙ ap (λ m. drop m xs) (sym (before_next n))

-- whole numbers as the code holds them
pub held : (i : ℤ) → IsWhole i → to_z w128 (of_z w128 i) ≡ i
held i h = omega (arith, ints)

pub held_sum : (i j : ℤ) → IsWhole i → IsWhole j → to_z w128 (of_z w128 (to_z w128 (of_z w128 i) +ℤ to_z w128 (of_z w128 j))) ≡ i +ℤ j
held_sum i j h g = omega (arith, ints)

pub held_next : (i : ℤ) → IsWhole i → to_z w128 (of_z w128 (to_z w128 (of_z w128 i) +ℤ pos 1)) ≡ i +ℤ pos 1
held_next i h = omega (arith, ints)

map-reverse : {X Y : Type 0} (f : X → Y) (xs : List X) → map f (reverse xs) ≡ reverse (map f xs)
map-reverse f [] = refl
map-reverse f (x ∷ xs) =
    ap (map f) (reverse-append (x ∷ []) xs) ∙ map-append f (reverse xs) (x ∷ []) ∙ ap (λ ys. ys ++ f x ∷ []) (map-reverse f xs) ∙ sym (reverse-append (f x ∷ []) (map f xs))

-- what the functions give, for the parts that the code takes
pub reversed : (s xs ys : List Item) → xs ≡ s → ys ≡ reverse xs → sequences.reverse (datums s) ≡ Ok (datums ys)
reversed s xs ys e h = ap Ok (sym (map-reverse datum s) ∙ ap (λ zs. datums (reverse zs)) (sym e) ∙ ap datums (sym h))

pub subsequence_is : (is : List Datum) (i : ℤ) (s xs : List Item) → one_integer is ≡ Ok i → xs ≡ drop (places_before i) s → sequences.subsequence (datums s) is ≡ Ok (datums xs)
subsequence_is is i s xs e h = rw e (ap Ok (from_position i (datums s) ∙ drop-map datum (places_before i) s ∙ ap datums (sym h)))

pub subsequence_3_is : (is ls : List Datum) (i n : ℤ) (s front xs : List Item) → one_integer is ≡ Ok i → one_integer ls ≡ Ok n → front ≡ take (places_before (i +ℤ n)) s → xs ≡ drop (places_before i) front
    → sequences.subsequence_3 (datums s) is ls ≡ Ok (datums xs)
subsequence_3_is is ls i n s front xs e f g h =
    rw (e, f) (ap Ok (between_positions i (i +ℤ n) (datums s) ∙ ap (drop (places_before i)) (take-map datum (places_before (i +ℤ n)) s) ∙ drop-map datum (places_before i) (take (places_before (i +ℤ n)) s) ∙ ap datums (ap (drop (places_before i)) (sym g) ∙ sym h)))

pub inserted_is : (is : List Datum) (i : ℤ) (s front others back xs : List Item) → one_integer is ≡ Ok i → front ≡ take (places_before i) s → back ≡ drop (places_before i) s → xs ≡ front ++ others ++ back
    → sequences.insert_before (datums s) is (datums others) ≡ Ok (datums xs)
inserted_is is i s front others back xs e f g h =
    rw e (ap Ok ((λ j. before j ++ datums others ++ behind j) ∙ ap (λ ys. ys ++ datums back) (sym (map-append datum front others)) ∙ sym (map-append datum (front ++ others) back) ∙ ap datums (sym h)))
  where
    before : items_at (λ p. int_lt p i) (datums s) ≡ datums front
    before = before_position i (datums s) ∙ take-map datum (places_before i) s ∙ ap datums (sym f)

    behind : items_at (λ p. int_le i p) (datums s) ≡ datums back
    behind = from_position i (datums s) ∙ drop-map datum (places_before i) s ∙ ap datums (sym g)

pub removed_is : (is : List Datum) (i : ℤ) (s front back xs : List Item) → one_integer is ≡ Ok i → front ≡ take (places_before i) s → back ≡ drop (places_before (i +ℤ pos 1)) s → xs ≡ front ++ back
    → sequences.remove (datums s) is ≡ Ok (datums xs)
removed_is is i s front back xs e f g h =
    rw e (ap Ok (other_positions i (datums s) ∙ (λ j. before j ++ behind j) ∙ sym (map-append datum front back) ∙ ap datums (sym h)))
  where
    before : take (places_before i) (datums s) ≡ datums front
    before = take-map datum (places_before i) s ∙ ap datums (sym f)

    behind : drop (places_before (i +ℤ pos 1)) (datums s) ≡ datums back
    behind = drop-map datum (places_before (i +ℤ pos 1)) s ∙ ap datums (sym g)
