-- The row of a group, one tuple or one row more.
use Rattle.std.proofs.Common.{◌≡◌, ◌≢◌, ℕ, zero, suc, ◌<◌, ◌==◌, ◌||◌, Bool, true, false, if◌then◌else◌, List, [], ◌∷◌, ◌++◌, length, refl, sym, ap, ◌∙◌, subst, append-nil, arith}
use Rattle.std.specs.List.{flat_map, slice_set}
use Rattle.std.proofs.lemmas.Bool.Decides.{nat_tests}
use Rattle.std.proofs.lemmas.List.{get_or-set_same, get_or-set_other, length-set}
use Rattle.std.proofs.lemmas.List.Concat.{flat_map-append}
use Rattle.std.proofs.lemmas.List.FromFn.{fill_by_all, get_or-map-range_with_len, length-map-range_with_len}
use Rattle.item_tree.specs.Datum.{Datum}
use Rattle.tuple_rows.specs.Tuples.{Row}
use Rattle.group_table.specs.Groups.{slot, first_slot, has_slot, joined_slot, joined_row}
use Rattle.group_table.specs.inside.Joins.{join_rows}

pub length-join : (joined : List ℕ) (xs ys : Row) → length (join_rows joined xs ys) ≡ length xs
length-join [] xs ys = refl
length-join (i ∷ joined) xs ys =
    length-join joined (slice_set xs i (slot i xs ++ slot i ys)) (slice_set ys i [])
    ∙ length-set xs i (slot i xs ++ slot i ys)

blank_slot : (ys : Row) (i : ℕ) → slot i (slice_set ys i []) ≡ []
blank_slot [] zero = refl
blank_slot [] (suc i) = refl
blank_slot (y ∷ ys) zero = refl
blank_slot (y ∷ ys) (suc i) = blank_slot ys i

either_blank : (b : Bool) (xs : List Datum) → (if b then xs ++ [] else xs) ≡ xs
either_blank true xs = append-nil xs
either_blank false xs = refl

-- a slot of joined rows
abbrev slot_of : Bool → List Datum → List Datum → List Datum
slot_of b xs ys = if b then xs ++ ys else xs

slot_case : (b : Bool) (i k : ℕ) (joined : List ℕ) (xs ys : Row) → (i == k) ≡ b → k < length xs
    → slot_of (has_slot joined k) (slot k (slice_set xs i (slot i xs ++ slot i ys))) (slot k (slice_set ys i []))
    ≡ slot_of (b || has_slot joined k) (slot k xs) (slot k ys)
slot_case true i k joined xs ys e lt =
    let same : i ≡ k = grind (arith, nat_tests) in
    ap (λ j. slot_of (has_slot joined k) (slot k (slice_set xs j (slot j xs ++ slot j ys))) (slot k (slice_set ys j []))) same
    ∙ ap (λ us. slot_of (has_slot joined k) us (slot k (slice_set ys k []))) (get_or-set_same xs k (slot k xs ++ slot k ys) [] lt)
    ∙ ap (λ us. slot_of (has_slot joined k) (slot k xs ++ slot k ys) us) (blank_slot ys k)
    ∙ either_blank (has_slot joined k) (slot k xs ++ slot k ys)
slot_case false i k joined xs ys e lt =
    let other : k ≢ i = λ h. grind (arith, nat_tests) in
    ap (λ us. slot_of (has_slot joined k) us (slot k (slice_set ys i []))) (get_or-set_other xs i k (slot i xs ++ slot i ys) [] other)
    ∙ ap (λ us. slot_of (has_slot joined k) (slot k xs) us) (get_or-set_other ys i k [] [] other)

slot-join : (joined : List ℕ) (xs ys : Row) (k : ℕ) → k < length xs
    → slot k (join_rows joined xs ys) ≡ slot_of (has_slot joined k) (slot k xs) (slot k ys)
slot-join [] xs ys k lt = refl
slot-join (i ∷ joined) xs ys k lt =
    slot-join joined (slice_set xs i (slot i xs ++ slot i ys)) (slice_set ys i []) k
    (subst (λ n. k < n) (sym (length-set xs i (slot i xs ++ slot i ys))) lt)
    ∙ slot_case (i == k) i k joined xs ys refl lt

one_case : (b : Bool) (k : ℕ) (t : Row) → slot k t ≡ (if b then flat_map (slot k) (t ∷ []) else first_slot k (t ∷ []))
one_case true k t = sym (append-nil (slot k t))
one_case false k t = refl

-- the row of one tuple is the tuple
pub row_of_one : (width : ℕ) (joined : List ℕ) (t : Row) → length t ≡ width → joined_row width joined (t ∷ []) ≡ t
row_of_one width joined t e =
    sym (fill_by_all (joined_slot joined (t ∷ [])) t width [] e (λ k lt. one_case (has_slot joined k) k t))

both_case : (b : Bool) (k : ℕ) (t : Row) (ts us : List Row)
    → slot_of b (if b then flat_map (slot k) (t ∷ ts) else first_slot k (t ∷ ts)) (if b then flat_map (slot k) us else first_slot k us)
    ≡ (if b then flat_map (slot k) (t ∷ ts ++ us) else first_slot k (t ∷ ts ++ us))
both_case true k t ts us = sym (flat_map-append (slot k) (t ∷ ts) us)
both_case false k t ts us = refl

row_slot : (width : ℕ) (joined : List ℕ) (ts : List Row) (k : ℕ) → k < width
    → slot k (joined_row width joined ts) ≡ joined_slot joined ts k
row_slot width joined ts k lt = get_or-map-range_with_len (joined_slot joined ts) 0 width k k [] lt (omega arith)

length-row : (width : ℕ) (joined : List ℕ) (ts : List Row) → length (joined_row width joined ts) ≡ width
length-row width joined ts = length-map-range_with_len (joined_slot joined ts) 0 width

-- the rows of two lists of tuples, joined, are the row of both
pub row-append : (width : ℕ) (joined : List ℕ) (t : Row) (ts us : List Row)
    → joined_row width joined (t ∷ ts ++ us)
    ≡ join_rows joined (joined_row width joined (t ∷ ts)) (joined_row width joined us)
row-append width joined t ts us =
    let xs : Row = joined_row width joined (t ∷ ts) in
    let ys : Row = joined_row width joined us in
    sym (fill_by_all (joined_slot joined (t ∷ ts ++ us)) (join_rows joined xs ys) width []
    (length-join joined xs ys ∙ length-row width joined (t ∷ ts))
    (λ k lt.
    slot-join joined xs ys k (subst (λ n. k < n) (sym (length-row width joined (t ∷ ts))) lt)
    ∙ ap (λ vs. slot_of (has_slot joined k) vs (slot k ys)) (row_slot width joined (t ∷ ts) k lt)
    ∙ ap (λ vs. slot_of (has_slot joined k) (joined_slot joined (t ∷ ts) k) vs) (row_slot width joined us k lt)
    ∙ both_case (has_slot joined k) k t ts us))
