-- The places of keys, and one key more.
use Rattle.std.proofs.Common.{◌≡◌, ℕ, suc, ◌+◌, Bool, true, false, not, cond, if◌then◌else◌, ◌||◌, List, [], ◌∷◌, ◌++◌, length, Option, Some, None, refl, sym, ap, ◌∙◌, arith, append-nil}
use Rattle.std.specs.List.{list_any, position_or_len}
use Rattle.std.specs.declared.cmp.Ordering.{Ordering}
use Rattle.std.specs.declared.cmp.Ordering.TheVariants.{Less, Equal, Greater}
use Rattle.std.proofs.lemmas.List.{length-map}
use Rattle.indexmap.specs.IndexSet.{insert_key}
use Rattle.item_tree.specs.declared.key.Key.{Key}
use Rattle.item_tree.specs.Datum.{Datum, null, boolean, decimal, text, date, date_time}
use Rattle.item_tree.specs.Compare.{Atom, nothing, truth, number, string, day, moment, atom, order_if, compare_atoms, is_equal}
use Rattle.item_tree.specs.Keys.{atom_of, KeysAgree}
use Rattle.item_tree.proofs.AtomOrder.{atomics_ordered}
use Rattle.tuple_rows.specs.Keys.{KeyList}
use Rattle.eq_join.specs.declared.places.Places.{Places}
use Rattle.eq_join.specs.inside.Places.{is_of, matches, found, with_position, put_position, position_lists, ArePlaces}
use Rattle.eq_join.proofs.PairLists.{matches_more}

-- an atomic with this content
for_atom : Atom → Datum
for_atom nothing = null
for_atom (truth b) = boolean b
for_atom (number m) = decimal m
for_atom (string t) = text t
for_atom (day d) = date d
for_atom (moment t) = date_time t

atom_for : (a : Atom) → atom (for_atom a) ≡ Some a
unfolding for_atom
atom_for nothing = refl
atom_for (truth b) = refl
atom_for (number m) = refl
atom_for (string t) = refl
atom_for (day d) = refl
atom_for (moment t) = refl

equal_is : (o : Option Ordering) → is_equal o ≡ true → o ≡ Some Equal
equal_is None h = absurd cc
equal_is (Some Less) h = absurd cc
equal_is (Some Equal) h = refl
equal_is (Some Greater) h = absurd cc

-- the key stands for what the value is
exact : (v : Datum) (k : Key) → is_of v k ≡ true → atom v ≡ Some (atom_of k)
exact v k h =
    atomics_ordered.exact v (for_atom (atom_of k))
    (equal_is (compare_atoms v (for_atom (atom_of k))) (ap (λ (a : Option Atom). is_equal (order_if (atom v) a)) (atom_for (atom_of k)) ∙ h))
    ∙ atom_for (atom_of k)

-- what keys of the code are the same
pub same_test : (eq : Key → Key → Bool) (cmp : Key → Key → Ordering) → KeysAgree eq cmp → (v : Datum) (k : Key)
    → atom v ≡ Some (atom_of k) → eq k ≡ is_of v
same_test eq cmp agree v k h = λ i j.
    (agree.same v (for_atom (atom_of j)) k j h (atom_for (atom_of j))
    ∙ ap (λ (a : Option Atom). is_equal (order_if (atom v) a)) (atom_for (atom_of j))) i

-- what a key gains that is the same
abbrev gain : Datum → Key → ℕ → List ℕ
gain u k at = if is_of u k then at ∷ [] else []

module _ (u v : Datum) (k : Key) (at : ℕ) (is : atom v ≡ Some (atom_of k)) where
  like : (j : Key) → is_of v j ≡ true → is_of u j ≡ is_of u k
  like j h = ap (λ (a : Option Atom). is_equal (order_if (atom u) a)) (sym (exact v j h) ∙ is)

  -- a value of the key j is none of k, where v is none of j
  apart_case : (b : Bool) (j : Key) → is_of u k ≡ b → is_of v j ≡ false → is_of u j ≡ true → gain u k at ≡ []
  apart_case true j e far near =
      let both : is_of v j ≡ is_of u j =
      ap (λ (a : Option Atom). is_equal (order_if a (Some (atom_of j)))) (is ∙ sym (exact u k e)) in
      absurd cc
  apart_case false j e far near = ap (λ (b : Bool). if b then at ∷ [] else []) e

  joined_case : (b : Bool) (j : Key) (js rest : List ℕ) → is_of u j ≡ b → is_of v j ≡ true
      → (if b then js ++ at ∷ [] else rest) ≡ (if b then js else rest) ++ gain u k at
  joined_case true j js rest e h = ap (λ (b : Bool). js ++ (if b then at ∷ [] else [])) (sym e ∙ like j h)
  joined_case false j js rest e h =
      sym (append-nil rest) ∙ ap (λ (b : Bool). rest ++ (if b then at ∷ [] else [])) (sym e ∙ like j h)

  passed_case : (b : Bool) (j : Key) (js new old : List ℕ) → is_of u j ≡ b → is_of v j ≡ false → new ≡ old ++ gain u k at
      → (if b then js else new) ≡ (if b then js else old) ++ gain u k at
  passed_case true j js new old e far rest =
      sym (append-nil js) ∙ ap (λ (is : List ℕ). js ++ is) (sym (apart_case (is_of u k) j refl far e))
  passed_case false j js new old e far rest = rest

  there_case : (b : Bool) (j : Key) (keys : List Key) (js : List ℕ) (lists : List (List ℕ)) → is_of v j ≡ b
      → (b || list_any (is_of v) keys) ≡ true
      → (list_any (is_of v) keys ≡ true → found (is_of u) keys (with_position (is_of v) at keys lists) ≡ found (is_of u) keys lists ++ gain u k at)
      → found (is_of u) (j ∷ keys) (if b then (js ++ at ∷ []) ∷ lists else js ∷ with_position (is_of v) at keys lists)
      ≡ (if is_of u j then js else found (is_of u) keys lists) ++ gain u k at
  there_case true j keys js lists e h rest = joined_case (is_of u j) j js (found (is_of u) keys lists) refl e
  there_case false j keys js lists e h rest =
      passed_case (is_of u j) j js (found (is_of u) keys (with_position (is_of v) at keys lists)) (found (is_of u) keys lists) refl e (rest h)

  found_there : (keys : List Key) (lists : List (List ℕ)) → length lists ≡ length keys → list_any (is_of v) keys ≡ true
      → found (is_of u) keys (with_position (is_of v) at keys lists) ≡ found (is_of u) keys lists ++ gain u k at
  found_there [] lists l h = absurd cc
  found_there (j ∷ keys) [] l h = absurd (omega arith)
  found_there (j ∷ keys) (js ∷ lists) l h =
      let same : length lists ≡ length keys = omega arith in
      there_case (is_of v j) j keys js lists refl h (λ m. found_there keys lists same m)

  new_case : (b : Bool) (j : Key) (keys : List Key) (js : List ℕ) (lists : List (List ℕ)) → is_of v j ≡ b
      → (b || list_any (is_of v) keys) ≡ false
      → (list_any (is_of v) keys ≡ false
      → found (is_of u) (keys ++ k ∷ []) (with_position (is_of v) at keys lists) ≡ found (is_of u) keys lists ++ gain u k at)
      → found (is_of u) (j ∷ (keys ++ k ∷ [])) (if b then (js ++ at ∷ []) ∷ lists else js ∷ with_position (is_of v) at keys lists)
      ≡ (if is_of u j then js else found (is_of u) keys lists) ++ gain u k at
  new_case true j keys js lists e h rest = absurd cc
  new_case false j keys js lists e h rest =
      passed_case (is_of u j) j js (found (is_of u) (keys ++ k ∷ []) (with_position (is_of v) at keys lists)) (found (is_of u) keys lists) refl e (rest h)

  found_new : (keys : List Key) (lists : List (List ℕ)) → length lists ≡ length keys → list_any (is_of v) keys ≡ false
      → found (is_of u) (keys ++ k ∷ []) (with_position (is_of v) at keys lists) ≡ found (is_of u) keys lists ++ gain u k at
  found_new [] [] l h = refl
  found_new [] (js ∷ lists) l h = absurd (omega arith)
  found_new (j ∷ keys) [] l h = absurd (omega arith)
  found_new (j ∷ keys) (js ∷ lists) l h =
      let same : length lists ≡ length keys = omega arith in
      new_case (is_of v j) j keys js lists refl h (λ m. found_new keys lists same m)

  found_case : (b : Bool) (keys : List Key) (lists : List (List ℕ)) → length lists ≡ length keys → list_any (is_of v) keys ≡ b
      → found (is_of u) (if b then keys else keys ++ k ∷ []) (with_position (is_of v) at keys lists) ≡ found (is_of u) keys lists ++ gain u k at
  found_case true keys lists l h = found_there keys lists l h
  found_case false keys lists l h = found_new keys lists l h

module _ (test : Key → Bool) (k : Key) (at : ℕ) where
  length_case : (b : Bool) (js : List ℕ) (keys : List Key) (lists new : List (List ℕ)) → length lists ≡ length keys
      → length new ≡ length (if list_any test keys then keys else keys ++ k ∷ [])
      → length (if b then (js ++ at ∷ []) ∷ lists else js ∷ new)
      ≡ suc (length (if b || list_any test keys then keys else keys ++ k ∷ []))
  length_case true js keys lists new l h = ap suc l
  length_case false js keys lists new l h = ap suc h

  turn_case : (b : Bool) (j : Key) (keys : List Key) → length (if b then j ∷ keys else j ∷ (keys ++ k ∷ [])) ≡ suc (length (if b then keys else keys ++ k ∷ []))
  turn_case true j keys = refl
  turn_case false j keys = refl

  pub paired_more : (keys : List Key) (lists : List (List ℕ)) → length lists ≡ length keys
      → length (with_position test at keys lists) ≡ length (if list_any test keys then keys else keys ++ k ∷ [])
  paired_more [] [] l = refl
  paired_more [] (js ∷ lists) l = absurd (omega arith)
  paired_more (j ∷ keys) [] l = absurd (omega arith)
  paired_more (j ∷ keys) (js ∷ lists) l =
      let same : length lists ≡ length keys = omega arith in
      length_case (test j) js keys lists (with_position test at keys lists) same (paired_more keys lists same)
      ∙ sym (turn_case (test j || list_any test keys) j keys)

  put_case : (b : Bool) (n : ℕ) (js : List ℕ) (lists new : List (List ℕ)) → put_position n at lists ≡ new
      → put_position (cond (not b) (1 + n) 0) at (js ∷ lists) ≡ (if b then (js ++ at ∷ []) ∷ lists else js ∷ new)
  put_case true n js lists new h = refl
  put_case false n js lists new h =
      let next : 1 + n ≡ suc n = omega arith in
      ap (λ (m : ℕ). put_position m at (js ∷ lists)) next ∙ ap (λ (us : List (List ℕ)). js ∷ us) h

  pub put_is : (keys : List Key) (lists : List (List ℕ)) → length lists ≡ length keys
      → put_position (position_or_len test keys) at lists ≡ with_position test at keys lists
  put_is [] [] l = refl
  put_is [] (js ∷ lists) l = absurd (omega arith)
  put_is (j ∷ keys) [] l = absurd (omega arith)
  put_is (j ∷ keys) (js ∷ lists) l =
      let same : length lists ≡ length keys = omega arith in
      put_case (test j) (position_or_len test keys) js lists (with_position test at keys lists) (put_is keys lists same)

-- an atomic more
pub places_item : (eq : Key → Key → Bool) (cmp : Key → Key → Ordering) → KeysAgree eq cmp → (v : Datum) (k : Key) → atom v ≡ Some (atom_of k)
    → (at place : ℕ) (old new : Places) (ls : KeyList) → length ls ≡ at
    → place ≡ position_or_len (eq k) old.keys.keys → new.keys.keys ≡ insert_key eq old.keys.keys k
    → position_lists new.positions.items ≡ put_position place at (position_lists old.positions.items)
    → ArePlaces old ls → ArePlaces new (ls ++ Some v ∷ [])
places_item eq cmp agree v k is at place old new ls h e f g a =
    let test : eq k ≡ is_of v = same_test eq cmp agree v k is in
    let keys : List Key = old.keys.keys in
    let lists : List (List ℕ) = position_lists old.positions.items in
    let long : length lists ≡ length keys = length-map old.positions.items (λ x. x.items) ∙ a.paired in
    let keys_are : new.keys.keys ≡ (if list_any (is_of v) keys then keys else keys ++ k ∷ []) =
    f ∙ ap (λ (t : Key → Bool). if list_any t keys then keys else keys ++ k ∷ []) test in
    let lists_are : position_lists new.positions.items ≡ with_position (is_of v) at keys lists =
    g ∙ ap (λ (n : ℕ). put_position n at lists) (e ∙ ap (λ (t : Key → Bool). position_or_len t keys) test)
    ∙ put_is (is_of v) k at keys lists long in
    let reach : 0 + length ls ≡ at = omega arith in
    record {
      paired = sym (length-map new.positions.items (λ x. x.items)) ∙ ap length lists_are ∙ paired_more (is_of v) k at keys lists long ∙ sym (ap length keys_are);
      found = λ u.
          (λ i. found (is_of u) (keys_are i) (lists_are i))
          ∙ found_case u v k at is (list_any (is_of v) keys) keys lists long refl
          ∙ (λ i. a.found u i ++ (if is_equal (order_if (atom u) (sym is i)) then at ∷ [] else []))
          ∙ sym (matches_more u 0 at ls (Some v) reach);
    }

-- an empty key more, or an array or object
pub places_empty : (s : Places) (ls : KeyList) → ArePlaces s ls → ArePlaces s (ls ++ None ∷ [])
places_empty s ls a =
    let reach : 0 + length ls ≡ length ls = omega arith in
    record { paired = a.paired; found = λ u. a.found u ∙ sym (matches_more u 0 (length ls) ls None reach ∙ append-nil (matches u 0 ls)) }

uncompared : (o : Option Atom) → order_if o None ≡ None
uncompared None = refl
uncompared (Some a) = refl

pub places_other : (s : Places) (ls : KeyList) (w : Datum) → atom w ≡ None → ArePlaces s ls → ArePlaces s (ls ++ Some w ∷ [])
places_other s ls w h a =
    let reach : 0 + length ls ≡ length ls = omega arith in
    record {
      paired = a.paired;
      found = λ u.
          let off : is_equal (compare_atoms u w) ≡ false =
          ap (λ (o : Option Atom). is_equal (order_if (atom u) o)) h ∙ ap is_equal (uncompared (atom u)) in
          a.found u
          ∙ sym (matches_more u 0 (length ls) ls (Some w) reach
          ∙ ap (λ (b : Bool). matches u 0 ls ++ (if b then length ls ∷ [] else [])) off
          ∙ append-nil (matches u 0 ls));
    }
