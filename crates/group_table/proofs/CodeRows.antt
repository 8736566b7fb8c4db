-- Rows of the code, slot by slot.
use Rattle.std.proofs.Common.{◌≡◌, ℕ, zero, suc, ◌+◌, ◌<◌, List, [], ◌∷◌, ◌++◌, length, map, drop, take, get_or, slice_get, Option, Some, Vec, refl, sym, ap, ◌∙◌, subst, arith}
use Rattle.std.specs.List.{slice_set}
use Rattle.std.specs.declared.alloc.Global.{Global}
use Rattle.std.proofs.lemmas.List.{map-set, map-append, drop_more, take_more, length-set}
use Rattle.item_tree.specs.declared.item.Item.{Item}
use Rattle.item_tree.specs.declared.key.Key.{Key}
use Rattle.item_tree.specs.Datum.{Datum}
use Rattle.item_tree.specs.Item.{datum}
use Rattle.item_tree.specs.Laws.{IsKey}
use Rattle.tuple_rows.specs.Tuples.{Row, AllOfWidth, sequence}
use Rattle.tuple_rows.specs.Keys.{KeyList, Keyed, AllKeys, key_datum, key_data}
use Rattle.group_table.specs.Groups.{slot, with_keys, key_value}
use Rattle.group_table.specs.Grouping.{AllBelow}
use Rattle.group_table.specs.inside.Joins.{join_rows, AllGroups}
use Rattle.group_table.specs.inside.KeyParts.{IsPartFor, AreParts}
use Rattle.group_table.specs.inside.Views.{finished_row}

abbrev Items : Type 0
Items = Vec Item Global

slot_of_items : (xs : List Items) (i : ℕ) (v : Items) → slice_get xs i ≡ Some v → slot i (map sequence xs) ≡ sequence v
slot_of_items [] i v h = absurd cc
slot_of_items (x ∷ xs) zero v h = let same : x ≡ v = cc in ap sequence same
slot_of_items (x ∷ xs) (suc i) v h = slot_of_items xs i v h

-- one slot is joined
pub slot_joined : (xs ys : List Items) (i : ℕ) (v w new : Items) → slice_get xs i ≡ Some v → slice_get ys i ≡ Some w
    → new.items ≡ v.items ++ w.items
    → map sequence (slice_set xs i new) ≡ slice_set (map sequence xs) i (slot i (map sequence xs) ++ slot i (map sequence ys))
slot_joined xs ys i v w new h k e =
    map-set sequence xs i new
    ∙ ap (λ (us : List Datum). slice_set (map sequence xs) i us)
    (ap (map datum) e ∙ map-append datum v.items w.items
    ∙ ap (λ (us : List Datum). us ++ sequence w) (sym (slot_of_items xs i v h))
    ∙ ap (λ (us : List Datum). slot i (map sequence xs) ++ us) (sym (slot_of_items ys i w k)))

pub slot_emptied : (ys : List Items) (i : ℕ) (new : Items) → new.items ≡ []
    → map sequence (slice_set ys i new) ≡ slice_set (map sequence ys) i []
slot_emptied ys i new e = map-set sequence ys i new ∙ ap (λ (us : List Datum). slice_set (map sequence ys) i us) (ap (map datum) e)

-- a loop over the slots
pub join_step : (js : List ℕ) (i s : ℕ) (xs ys xs' ys' whole : Row) → i < length js → s ≡ get_or js i 0
    → xs' ≡ slice_set xs s (slot s xs ++ slot s ys) → ys' ≡ slice_set ys s []
    → join_rows (drop i js) xs ys ≡ whole → join_rows (drop (i + 1) js) xs' ys' ≡ whole
join_step js i s xs ys xs' ys' whole lt e f g h =
    ap (λ (us : Row). join_rows (drop (i + 1) js) us ys') f
    ∙ ap (λ (us : Row). join_rows (drop (i + 1) js) (slice_set xs s (slot s xs ++ slot s ys)) us) g
    ∙ ap (λ (j : ℕ). join_rows (j ∷ drop (i + 1) js) xs ys) e
    ∙ ap (λ (ks : List ℕ). join_rows ks xs ys) (sym (drop_more js i 0 lt))
    ∙ h

pub below_at : (width : ℕ) (js : List ℕ) (i : ℕ) → AllBelow width js → i < length js → get_or js i 0 < width
below_at width [] i a lt = absurd (omega arith)
below_at width (j ∷ js) zero a lt = a.0
below_at width (j ∷ js) (suc i) a lt = below_at width js i (a.1) (omega arith)

-- keys and their parts
pub keys_at : (ks : List (Option Item)) (i : ℕ) (d : Option Item) → AllKeys (key_data ks) → i < length ks → IsKey (key_datum (get_or ks i d))
keys_at [] i d a lt = absurd (omega arith)
keys_at (k ∷ ks) zero d a lt = a.0
keys_at (k ∷ ks) (suc i) d a lt = keys_at ks i d (a.1) (omega arith)

pub parts_more : (ps : List (Option Key)) (ks : KeyList) (p : Option Key) (k : Option Datum) → AreParts ps ks → IsPartFor p k
    → AreParts (ps ++ p ∷ []) (ks ++ k ∷ [])
parts_more [] [] p k a b = (b, tt)
parts_more [] (l ∷ ks) p k a b = absurd a
parts_more (q ∷ ps) [] p k a b = absurd a
parts_more (q ∷ ps) (l ∷ ks) p k a b = (a.0, parts_more ps ks p k (a.1) b)

-- an element that was read stands in its place
pub read_at : {X : Type 0} (xs : List X) (i : ℕ) (v : X) → i < length xs → v ≡ get_or xs i v → slice_get xs i ≡ Some v
read_at [] i v lt e = absurd (omega arith)
read_at (x ∷ xs) zero v lt e = ap (λ y. Some y) (sym e)
read_at (x ∷ xs) (suc i) v lt e = read_at xs i v (omega arith) e

-- the keys are put into their slots
pub keyed_step : (js : List ℕ) (i s : ℕ) (left rest : List (Option Item)) (k : Option Item) (xs xs' whole : Row) → i < length js
    → s ≡ get_or js i 0 → xs' ≡ slice_set xs s (key_value (key_datum k)) → left ≡ k ∷ rest
    → with_keys (drop i js) (key_data left) xs ≡ whole → with_keys (drop (i + 1) js) (key_data rest) xs' ≡ whole
keyed_step js i s left rest k xs xs' whole lt e f l h =
    ap (λ (us : Row). with_keys (drop (i + 1) js) (key_data rest) us) f
    ∙ ap (λ (j : ℕ). with_keys (j ∷ drop (i + 1) js) (key_data (k ∷ rest)) xs) e
    ∙ ap (λ (ks : List ℕ). with_keys ks (key_data (k ∷ rest)) xs) (sym (drop_more js i 0 lt))
    ∙ ap (λ (us : List (Option Item)). with_keys (drop i js) (key_data us) xs) (sym l)
    ∙ h

pub keyed_end : (js : List ℕ) (left : List (Option Item)) (xs whole : Row) → left ≡ []
    → with_keys js (key_data left) xs ≡ whole → xs ≡ whole
keyed_end [] left xs whole l h = h
keyed_end (j ∷ js) left xs whole l h =
    ap (λ (us : List (Option Item)). with_keys (j ∷ js) (key_data us) xs) (sym l) ∙ h

pub parts_step : (keys : List (Option Item)) (i : ℕ) (k : Option Item) (ps qs : List (Option Key)) (p : Option Key) → i < length keys
    → k ≡ get_or keys i k → qs ≡ ps ++ p ∷ [] → IsPartFor p (key_datum k) → AreParts ps (key_data (take i keys))
    → AreParts qs (key_data (take (i + 1) keys))
parts_step keys i k ps qs p lt e f is a =
    subst (λ (us : List (Option Key)). AreParts us (key_data (take (i + 1) keys))) (sym f)
    (subst (λ (ks : KeyList). AreParts (ps ++ p ∷ []) ks)
    (sym (ap key_data (take_more keys i k lt ∙ ap (λ (j : Option Item). take i keys ++ j ∷ []) (sym e)) ∙ map-append key_datum (take i keys) (k ∷ [])))
    (parts_more ps (key_data (take i keys)) p (key_datum k) a is))

-- rows with their keys are as wide as before
length-with_keys : (js : List ℕ) (ks : KeyList) (xs : Row) → length (with_keys js ks xs) ≡ length xs
length-with_keys [] ks xs = refl
length-with_keys (j ∷ js) [] xs = refl
length-with_keys (j ∷ js) (k ∷ ks) xs = length-with_keys js ks (slice_set xs j (key_value k)) ∙ length-set xs j (key_value k)

pub finished_wide : (width count : ℕ) (js : List ℕ) (gs : List Keyed) → AllGroups width count gs
    → AllOfWidth width (map (finished_row js) gs)
finished_wide width count js [] a = tt
finished_wide width count js (g ∷ gs) a = (length-with_keys js g.0 g.1 ∙ a.0.2, finished_wide width count js gs (a.1))
