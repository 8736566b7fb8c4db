-- Sameness of keys is an equivalence. For other crates too.
use Rattle.std.proofs.Common.{◌≡◌, Bool, true, false, ◌&&◌, Option, Some, None, option_map, [], ◌∷◌, refl, sym, ap, ◌∙◌}
use Rattle.std.specs.Ordering.{ordering_reverse}
use Rattle.std.specs.declared.cmp.Ordering.{Ordering}
use Rattle.std.specs.declared.cmp.Ordering.TheVariants.{Less, Equal, Greater}
use Rattle.item_tree.specs.Datum.{Datum}
use Rattle.item_tree.specs.Compare.{atom, order_if, compare_atoms, is_equal, same_keys}
use Rattle.item_tree.proofs.AtomOrder.{keys_equivalent, atomics_ordered}
use Rattle.tuple_rows.specs.Keys.{KeyList, AllKeys}
use Rattle.group_table.specs.Groups.{same_lists}

equal_back : (o : Option Ordering) → is_equal (option_map ordering_reverse o) ≡ is_equal o
equal_back None = refl
equal_back (Some Less) = refl
equal_back (Some Equal) = refl
equal_back (Some Greater) = refl

equal_is : (o : Option Ordering) → is_equal o ≡ true → o ≡ Some Equal
equal_is None h = absurd cc
equal_is (Some Less) h = absurd cc
equal_is (Some Equal) h = refl
equal_is (Some Greater) h = absurd cc

key_symm : (k l : Option Datum) → same_keys k l ≡ same_keys l k
key_symm None None = refl
key_symm None (Some w) = refl
key_symm (Some v) None = refl
key_symm (Some v) (Some w) = sym (ap is_equal (atomics_ordered.reversed v w) ∙ equal_back (compare_atoms v w))

key_congr : (k l m : Option Datum) → same_keys k l ≡ true → same_keys k m ≡ same_keys l m
key_congr None None m h = refl
key_congr None (Some w) m h = absurd cc
key_congr (Some v) None m h = absurd cc
key_congr (Some v) (Some w) None h = refl
key_congr (Some v) (Some w) (Some u) h =
    ap (λ a. is_equal (order_if a (atom u))) (atomics_ordered.exact v w (equal_is (compare_atoms v w) h))

both_left : (a b : Bool) → (a && b) ≡ true → a ≡ true
both_left true b h = refl
both_left false b h = h

both_right : (a b : Bool) → (a && b) ≡ true → b ≡ true
both_right true b h = h
both_right false b h = absurd cc

pub lists_symm : (ks ls : KeyList) → same_lists ks ls ≡ same_lists ls ks
lists_symm [] [] = refl
lists_symm [] (l ∷ ls) = refl
lists_symm (k ∷ ks) [] = refl
lists_symm (k ∷ ks) (l ∷ ls) = λ i. key_symm k l i && lists_symm ks ls i

pub lists_congr : (ks ls ms : KeyList) → same_lists ks ls ≡ true → same_lists ks ms ≡ same_lists ls ms
lists_congr [] [] ms h = refl
lists_congr [] (l ∷ ls) ms h = absurd cc
lists_congr (k ∷ ks) [] ms h = absurd cc
lists_congr (k ∷ ks) (l ∷ ls) [] h = refl
lists_congr (k ∷ ks) (l ∷ ls) (m ∷ ms) h =
    λ i. key_congr k l m (both_left (same_keys k l) (same_lists ks ls) h) i
    && lists_congr ks ls ms (both_right (same_keys k l) (same_lists ks ls) h) i

pub lists_self : (ks : KeyList) → AllKeys ks → same_lists ks ks ≡ true
lists_self [] a = refl
lists_self (k ∷ ks) a = λ i. keys_equivalent.reflexive k (a.0) i && lists_self ks (a.1) i
