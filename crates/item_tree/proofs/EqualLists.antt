-- Equality of lists, one element at a time. For other crates too.
use Rattle.std.proofs.Common.{◌≡◌, ◌≢◌, ℕ, zero, suc, ◌+◌, ◌<◌, ◌≤◌, Bool, true, false, ◌&&◌, ◌==◌, List, [], ◌∷◌, length, get_or, drop, refl, sym, ap, ◌∙◌, arith}
use Rattle.std.proofs.lemmas.List.{drop_more, drop_all}
use Rattle.std.proofs.lemmas.Bool.Decides.{nat_tests}
use Rattle.item_tree.specs.declared.item.Item.{Item}
use Rattle.item_tree.specs.Datum.{Datum, depth, array_of_list, object_of_pairs, members, pairs, pairs_members}
use Rattle.item_tree.specs.Item.{datum, datums, pair_datums}
use Rattle.item_tree.specs.Lookup.{lookup}
use Rattle.item_tree.specs.Compare.{equal, equal_lists, equal_in, passes}
use Rattle.item_tree.proofs.PairLists.{Pair, length_is}

drop_at : {X : Type 0} (xs : List X) (i : ℕ) (x : X) → i < length xs → x ≡ get_or xs i x → drop i xs ≡ x ∷ drop (i + 1) xs
drop_at xs i x lt e = drop_more xs i x lt ∙ ap (λ y. y ∷ drop (i + 1) xs) (sym e)

pub equal_more : (xs ys : List Item) (i : ℕ) (x y : Item) → i < length xs → i < length ys → x ≡ get_or xs i x → y ≡ get_or ys i y
    → equal_lists (datums (drop i xs)) (datums (drop i ys)) ≡ (equal (datum x) (datum y) && equal_lists (datums (drop (i + 1) xs)) (datums (drop (i + 1) ys)))
equal_more xs ys i x y l m e f = λ j. equal_lists (datums (drop_at xs i x l e j)) (datums (drop_at ys i y m f j))

no_more : (b : Bool) → (b && false) ≡ false
no_more true = refl
no_more false = refl

pub unequal_lengths : (xs ys : List Item) → (length xs ≢ length ys) → equal_lists (datums xs) (datums ys) ≡ false
unequal_lengths [] [] n = absurd (n refl)
unequal_lengths [] (y ∷ ys) n = refl
unequal_lengths (x ∷ xs) [] n = refl
unequal_lengths (x ∷ xs) (y ∷ ys) n =
    let e : equal_lists (datums xs) (datums ys) ≡ false = unequal_lengths xs ys (λ e. n (ap suc e)) in
    ap (λ b. equal (datum x) (datum y) && b) e ∙ no_more (equal (datum x) (datum y))

pub all_equal : (xs ys : List Item) (i : ℕ) → length xs ≤ i → length ys ≤ i → equal_lists (datums (drop i xs)) (datums (drop i ys)) ≡ true
all_equal xs ys i l m = rw (drop_all i xs l, drop_all i ys m) refl

members_length : (ps : List (List ℕ × Datum)) → length (pairs (members ps)) ≡ length ps
members_length ps = ap length (pairs_members ps)

-- objects of as many pairs are equal where the pairs of the first are in the second
equal_objects : (ps : List Pair) (qs : List (List ℕ × Datum)) → length ps ≡ length qs → equal (object_of_pairs (pair_datums ps)) (object_of_pairs qs) ≡ equal_in (members (pair_datums ps)) qs
equal_objects ps qs e = rw (members_length (pair_datums ps), members_length qs, length_is ps, e, pairs_members qs) (let t : (length qs == length qs) ≡ true = grind (arith, nat_tests) in ap (λ b. b && equal_in (members (pair_datums ps)) qs) t)

pub unequal_objects : (ps : List Pair) (qs : List (List ℕ × Datum)) → (length ps ≢ length qs) → equal (object_of_pairs (pair_datums ps)) (object_of_pairs qs) ≡ false
unequal_objects ps qs n = rw (members_length (pair_datums ps), members_length qs, length_is ps) (let t : (length ps == length qs) ≡ false = grind (arith, nat_tests) in ap (λ b. b && equal_in (members (pair_datums ps)) (pairs (members qs))) t)

equal_in_more : (ps : List Pair) (qs : List (List ℕ × Datum)) (i : ℕ) (p : Pair) → i < length ps → p ≡ get_or ps i p
    → equal_in (members (pair_datums (drop i ps))) qs ≡ (passes (λ w. equal (datum p.1) w) (lookup p.0 qs) && equal_in (members (pair_datums (drop (i + 1) ps))) qs)
equal_in_more ps qs i p l e = ap (λ zs. equal_in (members (pair_datums zs)) qs) (drop_at ps i p l e)

-- a pair whose key or value is not in the other object, one that is there, and the end
pub differs_there : (ps : List Pair) (qs : List (List ℕ × Datum)) (i : ℕ) (p : Pair) → length ps ≡ length qs → i < length ps → p ≡ get_or ps i p
    → equal_in (members (pair_datums (drop i ps))) qs ≡ equal_in (members (pair_datums ps)) qs
    → passes (λ w. equal (datum p.1) w) (lookup p.0 qs) ≡ false → equal (object_of_pairs (pair_datums ps)) (object_of_pairs qs) ≡ false
differs_there ps qs i p n l e v f =
    equal_objects ps qs n ∙ sym v ∙ equal_in_more ps qs i p l e ∙ ap (λ b. b && equal_in (members (pair_datums (drop (i + 1) ps))) qs) f

pub equal_there : (ps : List Pair) (qs : List (List ℕ × Datum)) (i : ℕ) (p : Pair) → i < length ps → p ≡ get_or ps i p
    → equal_in (members (pair_datums (drop i ps))) qs ≡ equal_in (members (pair_datums ps)) qs
    → passes (λ w. equal (datum p.1) w) (lookup p.0 qs) ≡ true
    → equal_in (members (pair_datums (drop (i + 1) ps))) qs ≡ equal_in (members (pair_datums ps)) qs
equal_there ps qs i p l e v t =
    sym (equal_in_more ps qs i p l e ∙ ap (λ b. b && equal_in (members (pair_datums (drop (i + 1) ps))) qs) t) ∙ v

pub all_there : (ps : List Pair) (qs : List (List ℕ × Datum)) (i : ℕ) → length ps ≡ length qs → length ps ≤ i
    → equal_in (members (pair_datums (drop i ps))) qs ≡ equal_in (members (pair_datums ps)) qs
    → equal (object_of_pairs (pair_datums ps)) (object_of_pairs qs) ≡ true
all_there ps qs i n l v = equal_objects ps qs n ∙ sym v ∙ rw (drop_all i ps l) refl

pub depth_at : (xs : List Item) (i : ℕ) (x : Item) → i < length xs → x ≡ get_or xs i x → depth (datum x) < depth (array_of_list (datums xs))
depth_at [] i x l e = absurd (omega arith)
depth_at (y ∷ ys) zero x l e = rw e (omega arith)
depth_at (y ∷ ys) (suc i) x l e = let h = depth_at ys i x (omega arith) e in omega arith

pub pair_depth_at : (ps : List Pair) (i : ℕ) (p : Pair) → i < length ps → p ≡ get_or ps i p → depth (datum p.1) < depth (object_of_pairs (pair_datums ps))
pair_depth_at [] i p l e = absurd (omega arith)
pair_depth_at (q ∷ qs) zero p l e = rw e (omega arith)
pair_depth_at (q ∷ qs) (suc i) p l e = let h = pair_depth_at qs i p (omega arith) e in omega arith

pub length_lent : (qs : List Pair) (ds : List (List ℕ × Datum)) → pair_datums qs ≡ ds → length qs ≡ length ds
length_lent qs ds e = sym (length_is qs) ∙ ap length e
