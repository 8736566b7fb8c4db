-- The groups of tuples are those of their positions.
use Rattle.std.proofs.Common.{◌≡◌, ℕ, zero, suc, ◌+◌, pos, Bool, true, false, not, cond, if◌then◌else◌, List, [], ◌∷◌, ◌++◌, length, map, drop, refl, sym, ap, ◌∙◌, subst, arith, append_assoc}
use Rattle.std.proofs.lemmas.List.{length-append}
use Rattle.std.specs.List.{filter, flat_map, range_with_len, slice_index_or, slice_set}
use Rattle.item_tree.specs.Datum.{Datum, integer}
use Rattle.tuple_rows.specs.Tuples.{Row}
use Rattle.tuple_rows.specs.Keys.{KeyList, Keyed}
use Rattle.group_table.specs.Groups.{same_lists, firsts, having, groups, slot, first_slot, has_slot, joined_slot, joined_row, key_value, with_keys, group_row, group_rows}
use Rattle.order_runs.specs.Orders.{key_lists, rows}
use Rattle.order_runs.specs.Seen.{AllCount}
use Rattle.clause_eval.specs.Positions.{position, numbers_from, blanks, position_row, numbered, tuple_at, with_values, slot_of_all, slots_from, read_group}

-- ---- groups of what a function gives

module _ {K S T : Type 0} (same : K → K → Bool) (f : S → T) where
  abbrev pub second : K × S → K × T
  second q = (q.0, f q.1)

  having_case : (b : Bool) (s : S) (ss : List S) (ts : List T) → ts ≡ map f ss → (if b then f s ∷ ts else ts) ≡ map f (if b then s ∷ ss else ss)
  having_case true s ss ts h = ap (λ xs. f s ∷ xs) h
  having_case false s ss ts h = h

  having_second : (k : K) (P : List (K × S)) → having same k (map second P) ≡ map f (having same k P)
  having_second k [] = refl
  having_second k (p ∷ P) = having_case (same k p.0) p.1 (having same k P) (having same k (map second P)) (having_second k P)

  keys_second : (P : List (K × S)) → map (λ p. p.0) (map second P) ≡ map (λ p. p.0) P
  keys_second [] = refl
  keys_second (p ∷ P) = ap (λ ks. p.0 ∷ ks) (keys_second P)

  abbrev pub group_second : K × List S → K × List T
  group_second g = (g.0, map f g.1)

  each_second : (ks : List K) (P : List (K × S)) → map (λ k. (k, having same k (map second P))) ks ≡ map group_second (map (λ k. (k, having same k P)) ks)
  each_second [] P = refl
  each_second (k ∷ ks) P = (λ i. (k, having_second k P i) ∷ each_second ks P i)

  groups_second : (P : List (K × S)) → groups same (map second P) ≡ map group_second (groups same P)
  groups_second P = ap (λ ks. map (λ k. (k, having same k (map second P))) (firsts same ks)) (keys_second P) ∙ each_second (firsts same (map (λ p. p.0) P)) P

-- ---- positions

placed_keys : ℕ → List Keyed → List (KeyList × ℕ)
placed_keys n [] = []
placed_keys n (p ∷ X) = (p.0, n) ∷ placed_keys (n + 1) X

numbered_is : (count n : ℕ) (X : List Keyed) → numbered count n X ≡ map (second same_lists (position_row count)) (placed_keys n X)
unfolding placed_keys
numbered_is count n [] = refl
numbered_is count n (p ∷ X) = ap (λ Y. (p.0, position_row count n) ∷ Y) (numbered_is count (n + 1) X)

at_drop : (T : List Row) (n : ℕ) (t : Row) (ts : List Row) → drop n T ≡ t ∷ ts → tuple_at T n ≡ t
at_drop [] zero t ts h = absurd cc
at_drop [] (suc n) t ts h = absurd cc
at_drop (u ∷ T) zero t ts h = cc
at_drop (u ∷ T) (suc n) t ts h = at_drop T n t ts h

drop_next : (T : List Row) (n : ℕ) (t : Row) (ts : List Row) → drop n T ≡ t ∷ ts → drop (suc n) T ≡ ts
drop_next [] zero t ts h = absurd cc
drop_next [] (suc n) t ts h = absurd cc
drop_next (u ∷ T) zero t ts h = cc
drop_next (u ∷ T) (suc n) t ts h = drop_next T n t ts h

plus_one : (n : ℕ) → n + 1 ≡ suc n
plus_one n = omega arith

tuples_are : (T : List Row) (n : ℕ) (X : List Keyed) → drop n T ≡ rows X → X ≡ map (second same_lists (tuple_at T)) (placed_keys n X)
unfolding placed_keys
tuples_are T n [] h = refl
tuples_are T n (p ∷ X) h =
    (λ i. (p.0, sym (at_drop T n p.1 (rows X) h) i) ∷ tuples_are T (n + 1) X (ap (λ k. drop k T) (plus_one n) ∙ drop_next T n p.1 (rows X) h) i)

-- ---- all key lists of groups are as long as those of the tuples

count_case : (b : Bool) (w : ℕ) (k : KeyList) (ks : List KeyList) → length k ≡ w → AllCount w ks → AllCount w (cond b (k ∷ ks) ks)
count_case true w k ks h a = (h, a)
count_case false w k ks h a = a

count_filter : (test : KeyList → Bool) (w : ℕ) (ks : List KeyList) → AllCount w ks → AllCount w (filter test ks)
count_filter test w [] a = tt
count_filter test w (k ∷ ks) (h, a) = count_case (test k) w k (filter test ks) h (count_filter test w ks a)

count_firsts : (w : ℕ) (ks : List KeyList) → AllCount w ks → AllCount w (firsts same_lists ks)
count_firsts w [] a = tt
count_firsts w (k ∷ ks) (h, a) = (h, count_filter (λ l. not (same_lists k l)) w (firsts same_lists ks) (count_firsts w ks a))

keys_of_groups : (ks : List KeyList) (P : List (KeyList × ℕ)) → map (λ (g : KeyList × List ℕ). g.0) (map (λ k. (k, having same_lists k P)) ks) ≡ ks
keys_of_groups [] P = refl
keys_of_groups (k ∷ ks) P = ap (λ ls. k ∷ ls) (keys_of_groups ks P)

-- ---- a row that the table makes

blank_slot : (count i : ℕ) → slice_index_or (blanks count) i [] ≡ []
blank_slot zero i = refl
blank_slot (suc count) zero = refl
blank_slot (suc count) (suc i) = blank_slot count i

first_blank : (count i : ℕ) (ns : List ℕ) → first_slot (suc i) (map (position_row count) ns) ≡ []
first_blank count i [] = refl
first_blank count i (n ∷ ns) = blank_slot count i

not_first : (i : ℕ) → has_slot (0 ∷ []) (suc i) ≡ false
not_first i = grind arith

later_slot : (count i : ℕ) (ns : List ℕ) → joined_slot (0 ∷ []) (map (position_row count) ns) (suc i) ≡ []
later_slot count i ns =
    ap (λ b. slot_of_all b (suc i) (map (position_row count) ns)) (not_first i) ∙ first_blank count i ns

blank_row : (count m i : ℕ) (ns : List ℕ) → map (joined_slot (0 ∷ []) (map (position_row count) ns)) (range_with_len (suc i) m) ≡ blanks m
blank_row count zero i ns = refl
blank_row count (suc m) i ns =
    (λ j. later_slot count i ns j ∷ (ap (λ k. map (joined_slot (0 ∷ []) (map (position_row count) ns)) (range_with_len k m)) (plus_one (suc i)) ∙ blank_row count m (suc i) ns) j)

abbrev pub number : ℕ → Datum
number n = integer (pos n)

joined_numbers : (count : ℕ) (ns : List ℕ) → flat_map (slot 0) (map (position_row count) ns) ≡ map number ns
joined_numbers count [] = refl
joined_numbers count (n ∷ ns) = ap (λ xs. number n ∷ xs) (joined_numbers count ns)

row_is : (count : ℕ) (ns : List ℕ) → joined_row (suc count) (0 ∷ []) (map (position_row count) ns) ≡ map number ns ∷ blanks count
row_is count ns = (λ j. joined_numbers count ns j ∷ blank_row count count 0 ns j)

set_at : (front : Row) (n : ℕ) (v w : List Datum) (rest : Row) → n ≡ length front → slice_set (front ++ w ∷ rest) n v ≡ (front ++ v ∷ []) ++ rest
set_at [] zero v w rest h = refl
set_at [] (suc n) v w rest h = absurd cc
set_at (f ∷ front) zero v w rest h = absurd cc
set_at (f ∷ front) (suc n) v w rest h = ap (λ xs. f ∷ xs) (set_at front n v w rest (omega (h, arith)))

filled : (front : Row) (n count : ℕ) (ks : KeyList) → length ks ≡ count → n ≡ length front → with_keys (numbers_from n count) ks (front ++ blanks count) ≡ front ++ map key_value ks
filled front n zero [] h e = refl
filled front n zero (k ∷ ks) h e = absurd cc
filled front n (suc count) [] h e = absurd cc
filled front n (suc count) (k ∷ ks) h e =
    ap (λ row. with_keys (numbers_from (n + 1) count) ks row) (set_at front n (key_value k) [] (blanks count) e)
    ∙ filled (front ++ key_value k ∷ []) (n + 1) count ks (omega (h, arith)) (omega (e, length-append front (key_value k ∷ []), arith))
    ∙ append_assoc front (key_value k ∷ []) (map key_value ks)

keys_are_values : (keys : List ℕ) (ks : KeyList) (row : Row) → with_keys keys ks row ≡ with_values keys (map key_value ks) row
keys_are_values [] ks row = refl
keys_are_values (i ∷ keys) [] row = refl
keys_are_values (i ∷ keys) (k ∷ ks) row = keys_are_values keys ks (slice_set row i (key_value k))

slots_are : (joined : List ℕ) (ts : List Row) (i w : ℕ) → slots_from i (map (has_slot joined) (range_with_len i w)) ts ≡ map (joined_slot joined ts) (range_with_len i w)
slots_are joined ts i zero = refl
slots_are joined ts i (suc w) = ap (λ row. joined_slot joined ts i ∷ row) (slots_are joined ts (i + 1) w)

places_are : (T : List Row) (ns : List ℕ) → map (λ x. tuple_at T (position x)) (map number ns) ≡ map (tuple_at T) ns
places_are T [] = refl
places_are T (n ∷ ns) = ap (λ ts. tuple_at T n ∷ ts) (places_are T ns)

-- ---- groups as the table tells of them

module _ (width : ℕ) (keys joined : List ℕ) (T : List Row) (count : ℕ) where
  abbrev pub flags : List Bool
  flags = map (has_slot joined) (range_with_len 0 width)

  told : KeyList → List ℕ → Row
  told k ns = group_row (suc count) (numbers_from 1 count) (0 ∷ []) (k, map (position_row count) ns)

  told_is : (k : KeyList) (ns : List ℕ) → length k ≡ count → told k ns ≡ map number ns ∷ map key_value k
  unfolding told
  told_is k ns h = ap (λ row. with_keys (numbers_from 1 count) k row) (row_is count ns) ∙ filled (map number ns ∷ []) 1 count k h refl

  read_one : (k : KeyList) (ns : List ℕ) → length k ≡ count → read_group flags keys T (told k ns) ≡ group_row width keys joined (k, map (tuple_at T) ns)
  read_one k ns h =
      ap (λ row. read_group flags keys T row) (told_is k ns h)
      ∙ ap (λ ts. with_values keys (map key_value k) (slots_from 0 flags ts)) (places_are T ns)
      ∙ ap (λ row. with_values keys (map key_value k) row) (slots_are joined (map (tuple_at T) ns) 0 width)
      ∙ sym (keys_are_values keys k (joined_row width joined (map (tuple_at T) ns)))

  read_each : (G : List (KeyList × List ℕ)) → AllCount count (map (λ g. g.0) G)
      → map (λ row. read_group flags keys T row) (map (λ g. group_row (suc count) (numbers_from 1 count) (0 ∷ []) g) (map (group_second same_lists (position_row count)) G))
      ≡ map (λ g. group_row width keys joined g) (map (group_second same_lists (tuple_at T)) G)
  unfolding told
  read_each [] a = refl
  read_each (g ∷ G) (h, a) = (λ i. read_one g.0 g.1 h i ∷ read_each G a i)

keys_placed : (n : ℕ) (X : List Keyed) → map (λ p. p.0) (placed_keys n X) ≡ key_lists X
unfolding placed_keys
keys_placed n [] = refl
keys_placed n (p ∷ X) = ap (λ ks. p.0 ∷ ks) (keys_placed (n + 1) X)

count_groups : (count : ℕ) (X : List Keyed) → AllCount count (key_lists X) → AllCount count (map (λ g. g.0) (groups same_lists (placed_keys 0 X)))
count_groups count X a =
    subst (λ ks. AllCount count ks) (sym (keys_of_groups (firsts same_lists (map (λ p. p.0) (placed_keys 0 X))) (placed_keys 0 X)))
    (count_firsts count (map (λ p. p.0) (placed_keys 0 X)) (subst (λ ks. AllCount count ks) (sym (keys_placed 0 X)) a))

pub groups_read : (width : ℕ) (keys joined : List ℕ) (count : ℕ) (X : List Keyed) → AllCount count (key_lists X)
    → map (λ row. read_group (map (has_slot joined) (range_with_len 0 width)) keys (rows X) row) (group_rows (suc count) (numbers_from 1 count) (0 ∷ []) (numbered count 0 X))
    ≡ group_rows width keys joined X
groups_read width keys joined count X a =
    ap (λ Y. map (λ row. read_group (map (has_slot joined) (range_with_len 0 width)) keys (rows X) row) (map (group_row (suc count) (numbers_from 1 count) (0 ∷ [])) Y))
    (ap (groups same_lists) (numbered_is count 0 X) ∙ groups_second same_lists (position_row count) (placed_keys 0 X))
    ∙ read_each width keys joined (rows X) count (groups same_lists (placed_keys 0 X)) (count_groups count X a)
    ∙ ap (map (group_row width keys joined)) (sym (groups_second same_lists (tuple_at (rows X)) (placed_keys 0 X)) ∙ ap (groups same_lists) (sym (tuples_are (rows X) 0 X refl)))

-- the same for what stands for these lists
pub read_whole : (width count : ℕ) (keys joined : List ℕ) (X : List Keyed) (flags : List Bool) (tuples found : List Row) → AllCount count (key_lists X)
    → flags ≡ map (has_slot joined) (range_with_len 0 width) → tuples ≡ rows X
    → found ≡ group_rows (suc count) (numbers_from 1 count) (0 ∷ []) (numbered count 0 X)
    → map (read_group flags keys tuples) found ≡ group_rows width keys joined X
read_whole width count keys joined X flags tuples found a fs ts gs =
    (λ i. map (read_group (fs i) keys (ts i)) (gs i)) ∙ groups_read width keys joined count X a
