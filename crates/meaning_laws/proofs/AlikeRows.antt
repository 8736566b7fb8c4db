-- Lists of tuples in which the same sources are the same: groups and orders of them.
use Rattle.std.proofs.Common.{◌≡◌, ℕ, ◌+◌, ◌<◌, ◌≤◌, Bool, true, false, if◌then◌else◌, List, [], ◌∷◌, ◌++◌, length, map, get_or, set, Some, Ok, Err, refl, sym, ap, ap₂, ◌∙◌, subst, ⊎_elim, arith}
use Rattle.std.specs.List.{AllZip, flat_map}
use Rattle.std.specs.Ordering.{is_lt}
use Rattle.std.proofs.lemmas.Bool.{cases_lt}
use Rattle.std.proofs.lemmas.List.{get_or_past}
use Rattle.std.proofs.lemmas.List.FromFn.{length-map-range_with_len, get_or-map-range_with_len}
use Rattle.item_tree.specs.declared.fault.Fault.{Fault}
use Rattle.tuple_rows.specs.Keys.{KeyList, Keyed}
use Rattle.group_table.specs.Groups.{same_lists, firsts, having, slot, first_slot, has_slot, joined_slot, joined_row, key_value, with_keys, group_row, group_rows}
use Rattle.order_runs.specs.Orders.{keys_order, below, placed, sorted, rows}
use Rattle.order_runs.specs.declared.column.Column.{Column}
use Rattle.query_tree.specs.declared.bound.Slot.TheVariants.{Local}
use Rattle.query_meaning.specs.Outcome.{OrFault, ◌>>=◌, with_front, joined, each_from, at_tuple}
use Rattle.query_meaning.specs.Environment.{Tuple}
use Rattle.query_meaning.specs.Sources.{Source, of_variable}
use Rattle.meaning_laws.specs.Agreement.{IsOfBoth}
use Rattle.meaning_laws.proofs.Alike.{AlikeTuples, both_past, of_lengths, value_read, set-alike}

-- ---- results

-- both are there and go together, or both are one fault
abbrev pub Match : {A : Type 0} → (A → A → Type 0) → OrFault A → OrFault A → Type 0
Match Q (Ok x) (Ok y) = Q x y
Match Q (Ok x) (Err fault) = ⊥
Match Q (Err fault) (Ok y) = ⊥
Match Q (Err fault) (Err other) = fault ≡ other

pub then_match : {A B : Type 0} (Q : A → A → Type 0) (P : B → B → Type 0) (f g : A → OrFault B) (r s : OrFault A) → Match Q r s → ((x y : A) → Q x y → Match P (f x) (g y)) → Match P (r >>= f) (s >>= g)
then_match Q P f g (Ok x) (Ok y) h k = k x y h
then_match Q P f g (Ok x) (Err fault) h k = absurd h
then_match Q P f g (Err fault) (Ok y) h k = absurd h
then_match Q P f g (Err fault) (Err other) h k = h

alone_match : {A B : Type 0} (P : B → B → Type 0) (f g : A → OrFault B) (r : OrFault A) → ((x : A) → Match P (f x) (g x)) → Match P (r >>= f) (r >>= g)
alone_match P f g (Ok x) k = k x
alone_match P f g (Err fault) k = refl

-- where the values are one
pub one_match : {A B : Type 0} (P : B → B → Type 0) (f g : A → OrFault B) (r s : OrFault A) → r ≡ s → ((x : A) → Match P (f x) (g x)) → Match P (r >>= f) (s >>= g)
one_match P f g r s e k = subst (λ q. Match P (r >>= f) (q >>= g)) e (alone_match P f g r k)

pub tuple_match : {A : Type 0} (Q : A → A → Type 0) (number n : ℕ) (r s : OrFault A) → Match Q r s → Match Q (at_tuple number n r) (at_tuple number n s)
tuple_match Q number n (Ok x) (Ok y) h = h
tuple_match Q number n (Ok x) (Err fault) h = absurd h
tuple_match Q number n (Err fault) (Ok y) h = absurd h
tuple_match Q number n (Err fault) (Err other) h = ap (λ (f : Fault). record f { spot = Some (record { clause = number; tuple = n }) }) h

module _ {B : Type 0} (P : B → B → Type 0) where
  pub appended : (xs ys us vs : List B) → AllZip P xs us → AllZip P ys vs → AllZip P (xs ++ ys) (us ++ vs)
  appended [] ys [] vs h k = k
  appended [] ys (u ∷ us) vs h k = absurd h
  appended (x ∷ xs) ys [] vs h k = absurd h
  appended (x ∷ xs) ys (u ∷ us) vs h k = (h.0, appended xs ys us vs h.1 k)

  front_match : (xs us : List B) (r s : OrFault (List B)) → AllZip P xs us → Match (AllZip P) r s → Match (AllZip P) (with_front xs r) (with_front us s)
  front_match xs us (Ok ys) (Ok vs) h k = appended xs ys us vs h k
  front_match xs us (Ok ys) (Err fault) h k = absurd k
  front_match xs us (Err fault) (Ok vs) h k = absurd k
  front_match xs us (Err fault) (Err other) h k = k

  joined_match : (q r s t : OrFault (List B)) → Match (AllZip P) q r → Match (AllZip P) s t → Match (AllZip P) (joined q s) (joined r t)
  joined_match (Ok xs) (Ok us) s t h k = front_match xs us s t h k
  joined_match (Ok xs) (Err fault) s t h k = absurd h
  joined_match (Err fault) (Ok us) s t h k = absurd h
  joined_match (Err fault) (Err other) s t h k = h

  pub each_match : {A : Type 0} (Q : A → A → Type 0) (f g : ℕ → A → OrFault (List B)) → ((n : ℕ) (x y : A) → Q x y → Match (AllZip P) (f n x) (g n y)) → (n : ℕ) (xs ys : List A) → AllZip Q xs ys → Match (AllZip P) (each_from f n xs) (each_from g n ys)
  each_match Q f g each n [] [] h = tt
  each_match Q f g each n [] (y ∷ ys) h = absurd h
  each_match Q f g each n (x ∷ xs) [] h = absurd h
  each_match Q f g each n (x ∷ xs) (y ∷ ys) h = joined_match (f n x) (g n y) (each_from f (n + 1) xs) (each_from g (n + 1) ys) (each n x y h.0) (each_match Q f g each (n + 1) xs ys h.1)

pub each_same : {A B : Type 0} (Q : A → A → Type 0) (f g : ℕ → A → OrFault (List B)) → ((n : ℕ) (x y : A) → Q x y → f n x ≡ g n y) → (n : ℕ) (xs ys : List A) → AllZip Q xs ys → each_from f n xs ≡ each_from g n ys
each_same Q f g each n [] [] h = refl
each_same Q f g each n [] (y ∷ ys) h = absurd h
each_same Q f g each n (x ∷ xs) [] h = absurd h
each_same Q f g each n (x ∷ xs) (y ∷ ys) h = ap₂ joined (each n x y h.0) (each_same Q f g each (n + 1) xs ys h.1)

-- ---- orders

-- the same keys, and tuples that go together
module _ (Q : Tuple → Tuple → Type 0) where
  abbrev pub KeyedBy : Keyed → Keyed → Type 0
  KeyedBy p q = (p.0 ≡ q.0) × Q p.1 q.1

  below-same : (columns : List Column) (x y p q : Keyed) → x.0 ≡ y.0 → p.0 ≡ q.0 → below columns x p ≡ below columns y q
  below-same columns x y p q d e = ap₂ (λ k l. is_lt (keys_order columns k l)) d e

  pick : (b : Bool) (p q x y : Keyed) (X Y PX PY : List Keyed) → KeyedBy p q → KeyedBy x y → AllZip KeyedBy X Y → AllZip KeyedBy PX PY → AllZip KeyedBy (if b then x ∷ PX else (p ∷ x ∷ X)) (if b then y ∷ PY else (q ∷ y ∷ Y))
  pick true p q x y X Y PX PY a b h k = (b, k)
  pick false p q x y X Y PX PY a b h k = (a, (b, h))

  placed-alike : (columns : List Column) (p q : Keyed) (X Y : List Keyed) → KeyedBy p q → AllZip KeyedBy X Y → AllZip KeyedBy (placed (below columns) p X) (placed (below columns) q Y)
  placed-alike columns p q [] [] a h = (a, tt)
  placed-alike columns p q [] (y ∷ Y) a h = absurd h
  placed-alike columns p q (x ∷ X) [] a h = absurd h
  placed-alike columns p q (x ∷ X) (y ∷ Y) a h =
      subst (λ b. AllZip KeyedBy (placed (below columns) p (x ∷ X)) (if b then y ∷ placed (below columns) q Y else (q ∷ y ∷ Y)))
      (below-same columns x y p q h.0.0 a.0)
      (pick (below columns x p) p q x y X Y (placed (below columns) p X) (placed (below columns) q Y) a h.0 h.1 (placed-alike columns p q X Y a h.1))

  sorted-alike : (columns : List Column) (X Y : List Keyed) → AllZip KeyedBy X Y → AllZip KeyedBy (sorted columns X) (sorted columns Y)
  sorted-alike columns [] [] h = tt
  sorted-alike columns [] (y ∷ Y) h = absurd h
  sorted-alike columns (x ∷ X) [] h = absurd h
  sorted-alike columns (x ∷ X) (y ∷ Y) h = placed-alike columns x y (sorted columns X) (sorted columns Y) h.0 (sorted-alike columns X Y h.1)

  rows-alike : (X Y : List Keyed) → AllZip KeyedBy X Y → AllZip Q (rows X) (rows Y)
  rows-alike [] [] h = tt
  rows-alike [] (y ∷ Y) h = absurd h
  rows-alike (x ∷ X) [] h = absurd h
  rows-alike (x ∷ X) (y ∷ Y) h = (h.0.1, rows-alike X Y h.1)

  pub order-rows : (columns : List Column) (X Y : List Keyed) → AllZip KeyedBy X Y → AllZip Q (rows (sorted columns X)) (rows (sorted columns Y))
  order-rows columns X Y h = rows-alike (sorted columns X) (sorted columns Y) (sorted-alike columns X Y h)

-- ---- groups

module _ (R : Source → Type 0) where
  abbrev pub Rows : List Tuple → List Tuple → Type 0
  Rows ts us = AllZip (AlikeTuples R) ts us

  -- the same keys, and tuples that are alike
  abbrev pub KeyedAlike : Keyed → Keyed → Type 0
  KeyedAlike p q = (p.0 ≡ q.0) × AlikeTuples R p.1 q.1

  slot_same : (m : ℕ) → R (of_variable (Local m)) → (t u : Tuple) → AlikeTuples R t u → slot m t ≡ slot m u
  slot_same m r t u a = sym (value_read t m) ∙ a.values m r ∙ value_read u m

  first_same : (m : ℕ) → R (of_variable (Local m)) → (ts us : List Tuple) → Rows ts us → first_slot m ts ≡ first_slot m us
  first_same m r [] [] h = refl
  first_same m r [] (u ∷ us) h = absurd h
  first_same m r (t ∷ ts) [] h = absurd h
  first_same m r (t ∷ ts) (u ∷ us) h = slot_same m r t u h.0

  all_same : (m : ℕ) → R (of_variable (Local m)) → (ts us : List Tuple) → Rows ts us → flat_map (slot m) ts ≡ flat_map (slot m) us
  all_same m r [] [] h = refl
  all_same m r [] (u ∷ us) h = absurd h
  all_same m r (t ∷ ts) [] h = absurd h
  all_same m r (t ∷ ts) (u ∷ us) h = ap₂ (λ x y. x ++ y) (slot_same m r t u h.0) (all_same m r ts us h.1)

  joined_same : (slots : List ℕ) (m : ℕ) → R (of_variable (Local m)) → (ts us : List Tuple) → Rows ts us → joined_slot slots ts m ≡ joined_slot slots us m
  joined_same slots m r ts us h = ap₂ (λ x y. if has_slot slots m then x else y) (all_same m r ts us h) (first_same m r ts us h)

  row_value : (width width' : ℕ) (slots : List ℕ) (m : ℕ) → IsOfBoth width width' m → R (of_variable (Local m)) → (ts us : List Tuple) → Rows ts us → get_or (joined_row width slots ts) m [] ≡ get_or (joined_row width' slots us) m []
  row_value width width' slots m s r ts us h = ⊎_elim
      (λ (l : m < width).
      let k : m < width' = s.0 l in
      get_or-map-range_with_len (joined_slot slots ts) 0 width m m [] l (omega arith) ∙ joined_same slots m r ts us h ∙ sym (get_or-map-range_with_len (joined_slot slots us) 0 width' m m [] k (omega arith)))
      (λ (l : width ≤ m).
      let k : width' ≤ m = both_past width width' m s l in
      let a : length (joined_row width slots ts) ≤ m = omega (arith, length-map-range_with_len (joined_slot slots ts) 0 width) in
      let b : length (joined_row width' slots us) ≤ m = omega (arith, length-map-range_with_len (joined_slot slots us) 0 width') in
      get_or_past (joined_row width slots ts) m [] a ∙ sym (get_or_past (joined_row width' slots us) m [] b))
      (cases_lt m width)

  -- the slots that count are in rows of both widths, or of neither
  abbrev Widths : ℕ → ℕ → Type 0
  Widths width width' = (m : ℕ) → R (of_variable (Local m)) → IsOfBoth width width' m

  row-alike : (width width' : ℕ) → Widths width width' → (slots : List ℕ) (ts us : List Tuple) → Rows ts us → AlikeTuples R (joined_row width slots ts) (joined_row width' slots us)
  row-alike width width' s slots ts us h = record {
    there = λ m r. of_lengths width width' (length (joined_row width slots ts)) (length (joined_row width' slots us)) m (length-map-range_with_len (joined_slot slots ts) 0 width) (length-map-range_with_len (joined_slot slots us) 0 width') (s m r);
    values = λ m r. value_read (joined_row width slots ts) m ∙ row_value width width' slots m (s m r) r ts us h ∙ sym (value_read (joined_row width' slots us) m);
  }

  keys-alike : (is : List ℕ) (ks : KeyList) (t u : Tuple) → AlikeTuples R t u → AlikeTuples R (with_keys is ks t) (with_keys is ks u)
  keys-alike [] ks t u a = a
  keys-alike (i ∷ is) [] t u a = a
  keys-alike (i ∷ is) (k ∷ ks) t u a = keys-alike is ks (set t i (key_value k)) (set u i (key_value k)) (set-alike R t u i (key_value k) a)

  -- what stands in front of what has some keys
  in_front : (b : Bool) (t u : Tuple) (ts us : List Tuple) → AlikeTuples R t u → Rows ts us → Rows (if b then t ∷ ts else ts) (if b then u ∷ us else us)
  in_front true t u ts us a h = (a, h)
  in_front false t u ts us a h = h

  having-alike : (k : KeyList) (X Y : List Keyed) → AllZip KeyedAlike X Y → Rows (having same_lists k X) (having same_lists k Y)
  having-alike k [] [] h = tt
  having-alike k [] (q ∷ Y) h = absurd h
  having-alike k (p ∷ X) [] h = absurd h
  having-alike k (p ∷ X) (q ∷ Y) h =
      subst (λ l. Rows (having same_lists k (p ∷ X)) (if same_lists k l then q.1 ∷ having same_lists k Y else having same_lists k Y)) h.0.0
      (in_front (same_lists k p.0) p.1 q.1 (having same_lists k X) (having same_lists k Y) h.0.1 (having-alike k X Y h.1))

  keys_same : (X Y : List Keyed) → AllZip KeyedAlike X Y → map (λ p. p.0) X ≡ map (λ p. p.0) Y
  keys_same [] [] h = refl
  keys_same [] (q ∷ Y) h = absurd h
  keys_same (p ∷ X) [] h = absurd h
  keys_same (p ∷ X) (q ∷ Y) h = ap₂ (λ k ks. k ∷ ks) h.0.0 (keys_same X Y h.1)

  -- the rows of these keys
  abbrev rows_of : ℕ → List ℕ → List ℕ → List Keyed → List KeyList → List Tuple
  rows_of width keys slots X ks = map (group_row width keys slots) (map (λ k. (k, having same_lists k X)) ks)

  rows_of-alike : (width width' : ℕ) → Widths width width' → (keys slots : List ℕ) (X Y : List Keyed) → AllZip KeyedAlike X Y → (ks : List KeyList) → Rows (rows_of width keys slots X ks) (rows_of width' keys slots Y ks)
  rows_of-alike width width' s keys slots X Y h [] = tt
  rows_of-alike width width' s keys slots X Y h (k ∷ ks) =
      (keys-alike keys k (joined_row width slots (having same_lists k X)) (joined_row width' slots (having same_lists k Y)) (row-alike width width' s slots (having same_lists k X) (having same_lists k Y) (having-alike k X Y h)), rows_of-alike width width' s keys slots X Y h ks)

  pub group-alike : (width width' : ℕ) → Widths width width' → (keys slots : List ℕ) (X Y : List Keyed) → AllZip KeyedAlike X Y → Rows (group_rows width keys slots X) (group_rows width' keys slots Y)
  group-alike width width' s keys slots X Y h =
      subst (λ l. Rows (group_rows width keys slots X) (rows_of width' keys slots Y (firsts same_lists l))) (keys_same X Y h) (rows_of-alike width width' s keys slots X Y h (firsts same_lists (map (λ p. p.0) X)))

  pub order-alike : (columns : List Column) (X Y : List Keyed) → AllZip KeyedAlike X Y → Rows (rows (sorted columns X)) (rows (sorted columns Y))
  order-alike columns X Y h = order-rows (AlikeTuples R) columns X Y h
