-- Groups of the code, and where they stand.
use Rattle.std.proofs.Common.{◌≡◌, ℕ, zero, suc, ◌+◌, ◌<◌, ◌≤◌, ◌&&◌, ◌||◌, Bool, true, false, not, if◌then◌else◌, cond, List, [], ◌∷◌, ◌++◌, length, slice_get, Option, Some, None, Result, Ok, Err, refl, sym, ap, ◌∙◌, subst, arith}
use Rattle.std.specs.List.{slice_set, list_any, position_or_len}
use Rattle.std.specs.Result.{OnOk}
use Rattle.indexmap.specs.IndexSet.{insert_key}
use Rattle.std.specs.Option.{option_eq}
use Rattle.std.specs.declared.cmp.Ordering.{Ordering}
use Rattle.std.proofs.lemmas.List.{length-map}
use lib.Pointwise.{pointwise}
use Rattle.item_tree.specs.declared.key.Key.{Key}
use Rattle.item_tree.specs.Compare.{same_keys}
use Rattle.item_tree.specs.Keys.{KeysAgree}
use Rattle.tuple_rows.specs.Tuples.{Row, sequence, sequences}
use Rattle.tuple_rows.specs.Keys.{KeyList, Keyed, AllKeys, key_list}
use Rattle.group_table.specs.declared.group.Group.{Group}
use Rattle.group_table.specs.declared.group_key.GroupKey.{GroupKey}
use Rattle.group_table.specs.contracts.group_key.GroupKeyPartialEq.TheImpl as key_eq
use Rattle.item_tree.specs.contracts.key.KeyPartialEq.TheImpl as part_eq
use Rattle.group_table.specs.Groups.{same_lists}
use Rattle.group_table.specs.inside.Joins.{join_rows, put, IsGroup, AllGroups, IsKept}
use Rattle.group_table.specs.inside.KeyParts.{IsPartFor, AreParts, IsKeyFor}
use Rattle.group_table.specs.inside.Places.{place_among, ArePlaces}
use Rattle.group_table.specs.inside.Views.{entry_of, keyed_list, shapes, joined_at, RowsAreWide}

pub on_ok : {T E : Type 0} {P Q : Type 0} (r : Result T E) → (P → Q) → OnOk r P → OnOk r Q
on_ok (Ok x) f h = f h
on_ok (Err e) f h = h

-- a group that was read
pub group_width : (width : ℕ) (gs : List Group) (i : ℕ) (g : Group) → RowsAreWide width (keyed_list gs) → slice_get gs i ≡ Some g
    → length g.row.slots.items ≡ width
group_width width [] i g a h = absurd cc
group_width width (f ∷ gs) zero g a h =
    let same : f ≡ g = cc in
    sym (length-map g.row.slots.items sequence) ∙ ap (λ (k : Group). length (sequences k.row)) (sym same) ∙ a.0
group_width width (f ∷ gs) (suc i) g a h = group_width width gs i g (a.1) h

pub group_joined : (joined : List ℕ) (t : Row) (gs : List Group) (i : ℕ) (g new : Group) → slice_get gs i ≡ Some g
    → key_list new.keys ≡ key_list g.keys → sequences new.row ≡ join_rows joined (sequences g.row) t
    → keyed_list (slice_set gs i new) ≡ joined_at joined i t (keyed_list gs)
group_joined joined t [] i g new h k e = absurd cc
group_joined joined t (f ∷ gs) zero g new h k e =
    let same : f ≡ g = cc in
    ap (λ (p : Keyed). p ∷ keyed_list gs)
    ((λ j. (k j, e j)) ∙ ap (λ (d : Group). (key_list d.keys, join_rows joined (sequences d.row) t)) (sym same))
group_joined joined t (f ∷ gs) (suc i) g new h k e = ap (λ (ps : List Keyed). entry_of f ∷ ps) (group_joined joined t gs i g new h k e)

pub group_shaped : (gs : List Group) (i : ℕ) (g new : Group) → slice_get gs i ≡ Some g → key_list new.keys ≡ key_list g.keys
    → length new.row.slots.items ≡ length g.row.slots.items → shapes (keyed_list (slice_set gs i new)) ≡ shapes (keyed_list gs)
group_shaped [] i g new h k e = absurd cc
group_shaped (f ∷ gs) zero g new h k e =
    let same : f ≡ g = cc in
    let l : length (sequences new.row) ≡ length (sequences g.row) = length-map new.row.slots.items sequence ∙ e ∙ sym (length-map g.row.slots.items sequence) in
    ap (λ (p : KeyList × ℕ). p ∷ shapes (keyed_list gs))
    ((λ j. (k j, l j)) ∙ ap (λ (d : Group). (key_list d.keys, length (sequences d.row))) (sym same))
group_shaped (f ∷ gs) (suc i) g new h k e = ap (λ (ps : List (KeyList × ℕ)). (key_list f.keys, length (sequences f.row)) ∷ ps) (group_shaped gs i g new h k e)

-- what depends on shapes alone
pub places_shaped : (ps : List GroupKey) (gs hs : List Keyed) → shapes hs ≡ shapes gs → ArePlaces ps gs → ArePlaces ps hs
places_shaped [] [] [] e a = tt
places_shaped (p ∷ ps) [] [] e a = absurd a
places_shaped ps [] (h ∷ hs) e a = absurd cc
places_shaped ps (g ∷ gs) [] e a = absurd cc
places_shaped [] (g ∷ gs) (h ∷ hs) e a = absurd a
places_shaped (p ∷ ps) (g ∷ gs) (h ∷ hs) e a =
    let pair : (h.0, length h.1) ≡ (g.0, length g.1) = cc in
    let front : h.0 ≡ g.0 = ap (λ (q : KeyList × ℕ). q.0) pair in
    let back : shapes hs ≡ shapes gs = cc in
    (subst (IsKeyFor p) (sym front) (a.0), places_shaped ps gs hs back (a.1))

pub groups_shaped : (width count : ℕ) (gs hs : List Keyed) → shapes hs ≡ shapes gs → AllGroups width count gs → AllGroups width count hs
groups_shaped width count [] [] e a = tt
groups_shaped width count [] (h ∷ hs) e a = absurd cc
groups_shaped width count (g ∷ gs) [] e a = absurd cc
groups_shaped width count (g ∷ gs) (h ∷ hs) e a =
    let pair : (h.0, length h.1) ≡ (g.0, length g.1) = cc in
    let front : h.0 ≡ g.0 = ap (λ (q : KeyList × ℕ). q.0) pair in
    let wide : length h.1 ≡ length g.1 = ap (λ (q : KeyList × ℕ). q.1) pair in
    let back : shapes hs ≡ shapes gs = cc in
    ((ap length front ∙ a.0.0, subst AllKeys (sym front) (a.0.1), wide ∙ a.0.2), groups_shaped width count gs hs back (a.1))

pub rows_wide : (width count : ℕ) (gs : List Keyed) → AllGroups width count gs → RowsAreWide width gs
rows_wide width count [] a = tt
rows_wide width count (g ∷ gs) a = (a.0.2, rows_wide width count gs (a.1))

pub groups_pushed : (width count : ℕ) (gs : List Keyed) (g : Keyed) → AllGroups width count gs → IsGroup width count g
    → AllGroups width count (gs ++ g ∷ [])
groups_pushed width count [] g a is = (is, tt)
groups_pushed width count (h ∷ gs) g a is = (a.0, groups_pushed width count gs g (a.1) is)

-- places
put_case : (b : Bool) (joined : List ℕ) (p g : Keyed) (gs : List Keyed) → (if b then 0 else suc (place_among p.0 gs)) < suc (length gs)
    → (place_among p.0 gs < length gs → put joined gs p ≡ joined_at joined (place_among p.0 gs) p.1 gs)
    → (if b then (g.0, join_rows joined g.1 p.1) ∷ gs else g ∷ put joined gs p)
    ≡ joined_at joined (if b then 0 else suc (place_among p.0 gs)) p.1 (g ∷ gs)
put_case true joined p g gs lt rest = refl
put_case false joined p g gs lt rest = ap (λ (us : List Keyed). g ∷ us) (rest (omega arith))

pub put_at : (joined : List ℕ) (gs : List Keyed) (p : Keyed) → place_among p.0 gs < length gs
    → put joined gs p ≡ joined_at joined (place_among p.0 gs) p.1 gs
put_at joined [] p lt = absurd (omega arith)
put_at joined (g ∷ gs) p lt = put_case (same_lists p.0 g.0) joined p g gs lt (put_at joined gs p)

new_case : (b : Bool) (joined : List ℕ) (p g : Keyed) (gs : List Keyed) → suc (length gs) ≤ (if b then 0 else suc (place_among p.0 gs))
    → (length gs ≤ place_among p.0 gs → put joined gs p ≡ gs ++ p ∷ [])
    → (if b then (g.0, join_rows joined g.1 p.1) ∷ gs else g ∷ put joined gs p) ≡ g ∷ (gs ++ p ∷ [])
new_case true joined p g gs le rest = absurd (omega arith)
new_case false joined p g gs le rest = ap (λ (us : List Keyed). g ∷ us) (rest (omega arith))

pub put_new : (joined : List ℕ) (gs : List Keyed) (p : Keyed) → length gs ≤ place_among p.0 gs → put joined gs p ≡ gs ++ p ∷ []
put_new joined [] p le = refl
put_new joined (g ∷ gs) p le = new_case (same_lists p.0 g.0) joined p g gs le (put_new joined gs p)

-- sameness of what key lists are compared by
abbrev eq_of_keys : Key → Key → Bool
eq_of_keys = (part_eq.ghosts).eq

abbrev pub eq_of : GroupKey → GroupKey → Bool
eq_of = (key_eq.ghosts).eq

turned : (b : Bool) (n : ℕ) → cond (not b) (1 + n) 0 ≡ (if b then 0 else suc n)
turned true n = refl
turned false n = omega arith

found_case : (b x : Bool) (n m : ℕ) → (if b then 0 else suc n) < suc m → (n < m → x ≡ true) → (b || x) ≡ true
found_case true x n m lt rest = refl
found_case false x n m lt rest = rest (omega arith)

absent_case : (b x : Bool) (n m : ℕ) → suc m ≤ (if b then 0 else suc n) → (m ≤ n → x ≡ false) → (b || x) ≡ false
absent_case true x n m le rest = absurd (omega arith)
absent_case false x n m le rest = rest (omega arith)

places_more : (k : GroupKey) (ps : List GroupKey) (gs : List Keyed) (p : Keyed) → IsKeyFor k p.0 → ArePlaces ps gs
    → ArePlaces (ps ++ k ∷ []) (gs ++ p ∷ [])
places_more k [] [] p is a = (is, tt)
places_more k [] (g ∷ gs) p is a = absurd a
places_more k (q ∷ ps) [] p is a = absurd a
places_more k (q ∷ ps) (g ∷ gs) p is a = (a.0, places_more k ps gs p is (a.1))

module _ (cmp : Key → Key → Ordering) (agree : KeysAgree eq_of_keys cmp) where
  part_same : (p q : Option Key) (k l : Option _) → IsPartFor p k → IsPartFor q l → option_eq eq_of_keys p q ≡ same_keys k l
  part_same None None None None a b = refl
  part_same None (Some q) None (Some w) a b = refl
  part_same (Some p) None (Some v) None a b = refl
  part_same (Some p) (Some q) (Some v) (Some w) a b = agree.same v w p q a b
  part_same None q (Some v) l a b = absurd a
  part_same (Some p) q None l a b = absurd a
  part_same p None k (Some w) a b = absurd b
  part_same p (Some q) k None a b = absurd b

  parts_same : (ps qs : List (Option Key)) (ks ls : KeyList) → AreParts ps ks → AreParts qs ls
      → pointwise (option_eq eq_of_keys) ps qs ≡ same_lists ks ls
  parts_same [] [] [] [] a b = refl
  parts_same [] (q ∷ qs) [] (l ∷ ls) a b = refl
  parts_same (p ∷ ps) [] (k ∷ ks) [] a b = refl
  parts_same (p ∷ ps) (q ∷ qs) (k ∷ ks) (l ∷ ls) a b =
      λ i. part_same p q k l (a.0) (b.0) i && parts_same ps qs ks ls (a.1) (b.1) i
  parts_same [] qs (k ∷ ks) ls a b = absurd a
  parts_same (p ∷ ps) qs [] ls a b = absurd a
  parts_same ps [] ks (l ∷ ls) a b = absurd b
  parts_same ps (q ∷ qs) ks [] a b = absurd b

  key_eq_same : (k l : GroupKey) (ks ls : KeyList) → IsKeyFor k ks → IsKeyFor l ls → length ks ≡ length ls
      → (option_eq eq_of_keys k.first l.first && pointwise (option_eq eq_of_keys) k.others.items l.others.items) ≡ same_lists ks ls
  key_eq_same k l [] [] a b e =
      λ i. option_eq eq_of_keys (a.0 i) (b.0 i) && pointwise (option_eq eq_of_keys) (a.1 i) (b.1 i)
  key_eq_same k l [] (d ∷ ls) a b e = absurd (omega arith)
  key_eq_same k l (c ∷ ks) [] a b e = absurd (omega arith)
  key_eq_same k l (c ∷ ks) (d ∷ ls) a b e =
      λ i. part_same k.first l.first c d (a.0) (b.0) i && parts_same k.others.items l.others.items ks ls (a.1) (b.1) i

  key_same : (k l : GroupKey) (ks ls : KeyList) → IsKeyFor k ks → IsKeyFor l ls → length ks ≡ length ls
      → eq_of k l ≡ same_lists ks ls
  key_same k l ks ls a b e = key_eq_same k l ks ls a b e

  -- the key of a group is found at its place, and a new key behind the last
  pub place_is : (k : GroupKey) (ks : KeyList) (width count : ℕ) (ps : List GroupKey) (gs : List Keyed) → IsKeyFor k ks → length ks ≡ count
      → AllGroups width count gs → ArePlaces ps gs → position_or_len (eq_of k) ps ≡ place_among ks gs
  place_is k ks width count [] [] is l a b = refl
  place_is k ks width count [] (g ∷ gs) is l a b = absurd b
  place_is k ks width count (p ∷ ps) [] is l a b = absurd b
  place_is k ks width count (p ∷ ps) (g ∷ gs) is l a b =
      (λ i. cond (not (key_same k p ks g.0 is (b.0) (l ∙ sym (a.0.0)) i)) (1 + place_is k ks width count ps gs is l (a.1) (b.1) i) 0)
      ∙ turned (same_lists ks g.0) (place_among ks gs)

  found : (k : GroupKey) (ks : KeyList) (width count : ℕ) (ps : List GroupKey) (gs : List Keyed) → IsKeyFor k ks → length ks ≡ count
      → AllGroups width count gs → ArePlaces ps gs → place_among ks gs < length gs → list_any (eq_of k) ps ≡ true
  found k ks width count [] [] is l a b lt = absurd (omega arith)
  found k ks width count [] (g ∷ gs) is l a b lt = absurd b
  found k ks width count (p ∷ ps) [] is l a b lt = absurd b
  found k ks width count (p ∷ ps) (g ∷ gs) is l a b lt =
      ap (λ (x : Bool). x || list_any (eq_of k) ps) (key_same k p ks g.0 is (b.0) (l ∙ sym (a.0.0)))
      ∙ found_case (same_lists ks g.0) (list_any (eq_of k) ps) (place_among ks gs) (length gs) lt (found k ks width count ps gs is l (a.1) (b.1))

  absent : (k : GroupKey) (ks : KeyList) (width count : ℕ) (ps : List GroupKey) (gs : List Keyed) → IsKeyFor k ks → length ks ≡ count
      → AllGroups width count gs → ArePlaces ps gs → length gs ≤ place_among ks gs → list_any (eq_of k) ps ≡ false
  absent k ks width count [] [] is l a b le = refl
  absent k ks width count [] (g ∷ gs) is l a b le = absurd b
  absent k ks width count (p ∷ ps) [] is l a b le = absurd b
  absent k ks width count (p ∷ ps) (g ∷ gs) is l a b le =
      ap (λ (x : Bool). x || list_any (eq_of k) ps) (key_same k p ks g.0 is (b.0) (l ∙ sym (a.0.0)))
      ∙ absent_case (same_lists ks g.0) (list_any (eq_of k) ps) (place_among ks gs) (length gs) le (absent k ks width count ps gs is l (a.1) (b.1))

  -- the places after one more row of a group that is there
  pub places_joined : (k : GroupKey) (ks : KeyList) (width count : ℕ) (ps new : List GroupKey) (gs hs : List Keyed) → IsKeyFor k ks
      → length ks ≡ count → AllGroups width count gs → ArePlaces ps gs → place_among ks gs < length gs → new ≡ insert_key eq_of ps k
      → shapes hs ≡ shapes gs → ArePlaces new hs
  places_joined k ks width count ps new gs hs is l a b lt e shaped =
      subst (λ (qs : List GroupKey). ArePlaces qs hs)
      (sym (e ∙ ap (λ (x : Bool). if x then ps else ps ++ k ∷ []) (found k ks width count ps gs is l a b lt)))
      (places_shaped ps gs hs shaped b)

  -- and after a new group
  pub places_pushed : (k : GroupKey) (width count : ℕ) (ps new : List GroupKey) (gs : List Keyed) (p : Keyed) → IsKeyFor k p.0
      → length p.0 ≡ count → AllGroups width count gs → ArePlaces ps gs → length gs ≤ place_among p.0 gs → new ≡ insert_key eq_of ps k
      → ArePlaces new (gs ++ p ∷ [])
  places_pushed k width count ps new gs p is l a b le e =
      subst (λ (qs : List GroupKey). ArePlaces qs (gs ++ p ∷ []))
      (sym (e ∙ ap (λ (x : Bool). if x then ps else ps ++ k ∷ []) (absent k p.0 width count ps gs is l a b le)))
      (places_more k ps gs p is b)

pub place_below : (ks : KeyList) (gs rs : List Group) (at n : ℕ) → rs ≡ gs → at ≡ place_among ks (keyed_list gs) → n ≡ length rs → at < n
    → place_among ks (keyed_list gs) < length (keyed_list gs)
place_below ks gs rs at n same e l lt =
    let long : length (keyed_list gs) ≡ length gs = length-map gs entry_of in
    let alike : length rs ≡ length gs = ap length same in
    omega arith

pub place_behind : (ks : KeyList) (gs rs : List Group) (at n : ℕ) → rs ≡ gs → at ≡ place_among ks (keyed_list gs) → n ≡ length rs → n ≤ at
    → length (keyed_list gs) ≤ place_among ks (keyed_list gs)
place_behind ks gs rs at n same e l le =
    let long : length (keyed_list gs) ≡ length gs = length-map gs entry_of in
    let alike : length rs ≡ length gs = ap length same in
    omega arith

pub keyed_pushed : (gs : List Group) (g : Group) → keyed_list (gs ++ g ∷ []) ≡ keyed_list gs ++ entry_of g ∷ []
keyed_pushed [] g = refl
keyed_pushed (f ∷ gs) g = ap (λ (ps : List Keyed). entry_of f ∷ ps) (keyed_pushed gs g)

-- the table after one more row
pub kept_shaped : (width : ℕ) (keys joined : List ℕ) (gs hs : List Keyed) → shapes hs ≡ shapes gs → IsKept width keys joined gs
    → IsKept width keys joined hs
kept_shaped width keys joined gs hs e a =
    record { keys_below = a.keys_below; joined_below = a.joined_below; groups_fit = groups_shaped width (length keys) gs hs e (a.groups_fit) }

pub kept_pushed : (width : ℕ) (keys joined : List ℕ) (gs : List Keyed) (g : Keyed) → IsGroup width (length keys) g → IsKept width keys joined gs
    → IsKept width keys joined (gs ++ g ∷ [])
kept_pushed width keys joined gs g fits a = record {
  keys_below = a.keys_below;
  joined_below = a.joined_below;
  groups_fit = groups_pushed width (length keys) gs g (a.groups_fit) fits;
}
