-- The table of groups, tuple by tuple.
use Rattle.std.proofs.Common.{◌≡◌, ℕ, zero, suc, ◌+◌, List, [], ◌∷◌, ◌++◌, take, drop, length, refl, sym, ap, ◌∙◌, subst, arith}
use Rattle.std.proofs.lemmas.List.{map-append}
use Rattle.tuple_rows.specs.Keys.{Keyed, key_list}
use Rattle.group_table.specs.Grouping.{StandsFor}
use Rattle.order_runs.specs.Orders.{rows}
use Rattle.clause_eval.specs.Frames.{Entry, frame_tuple, tuples_of, keyed_of, keyed_list}
use Rattle.clause_eval.specs.Grouping.{IsShaped, IsTable}
use Rattle.clause_eval.specs.Positions.{position_row, numbered}
use Rattle.clause_eval.specs.declared.groups.Table.{Table}
use Rattle.clause_eval.proofs.Ranges.{take_next}

plus_nothing : (a : ℕ) → a ≡ a + 0
plus_nothing a = omega arith

plus_more : (a n : ℕ) → (a + 1) + n ≡ a + suc n
plus_more a n = omega arith

numbered_behind : (count m : ℕ) (X : List Keyed) (p : Keyed) → numbered count m (X ++ p ∷ []) ≡ numbered count m X ++ (p.0, position_row count (m + length X)) ∷ []
numbered_behind count m [] p = λ i. (p.0, position_row count (plus_nothing m i)) ∷ []
numbered_behind count m (q ∷ X) p =
    ap (λ Y. (q.0, position_row count m) ∷ Y) (numbered_behind count (m + 1) X p ∙ (λ i. numbered count (m + 1) X ++ (p.0, position_row count (plus_more m (length X) i)) ∷ []))

length_before : (es : List Entry) (n : ℕ) (e : Entry) (rest : List Entry) → drop n es ≡ e ∷ rest → length (keyed_list (take n es)) ≡ n
length_before [] zero e rest h = absurd cc
length_before [] (suc n) e rest h = absurd cc
length_before (d ∷ es) zero e rest h = refl
length_before (d ∷ es) (suc n) e rest h = ap suc (length_before es n e rest h)

list_next : (es : List Entry) (n : ℕ) (e : Entry) (rest : List Entry) → drop n es ≡ e ∷ rest → keyed_list (take (n + 1) es) ≡ keyed_list (take n es) ++ keyed_of e ∷ []
list_next es n e rest h = ap keyed_list (take_next es n e rest h) ∙ map-append keyed_of (take n es) (e ∷ [])

numbered_next : (count : ℕ) (es : List Entry) (n : ℕ) (e : Entry) (rest : List Entry) → drop n es ≡ e ∷ rest
    → numbered count 0 (keyed_list (take (n + 1) es)) ≡ numbered count 0 (keyed_list (take n es)) ++ (key_list e.0, position_row count n) ∷ []
numbered_next count es n e rest h =
    let before : 0 + length (keyed_list (take n es)) ≡ n = omega (length_before es n e rest h, arith) in
    ap (numbered count 0) (list_next es n e rest h) ∙ numbered_behind count 0 (keyed_list (take n es)) (keyed_of e)
    ∙ (λ i. numbered count 0 (keyed_list (take n es)) ++ (key_list e.0, position_row count (before i)) ∷ [])

rows_behind : (X : List Keyed) (p : Keyed) → rows (X ++ p ∷ []) ≡ rows X ++ p.1 ∷ []
rows_behind [] p = refl
rows_behind (q ∷ X) p = ap (λ ts. q.1 ∷ ts) (rows_behind X p)

-- one more tuple
pub table_next : (count : ℕ) (es : List Entry) (n : ℕ) (e : Entry) (rest : List Entry) (old new : Table) → drop n es ≡ e ∷ rest → IsTable count (take n es) old
    → IsShaped count new.groups → ((X : List Keyed) → StandsFor old.groups X → StandsFor new.groups (X ++ (key_list e.0, position_row count n) ∷ []))
    → tuples_of new.frames ≡ tuples_of old.frames ++ frame_tuple e.1 ∷ [] → IsTable count (take (n + 1) es) new
table_next count es n e rest old new h was shape more frames = record {
  shape = shape;
  stands = subst (λ X. StandsFor new.groups X) (sym (numbered_next count es n e rest h)) (more (numbered count 0 (keyed_list (take n es))) was.stands);
  frames = frames ∙ ap (λ ts. ts ++ frame_tuple e.1 ∷ []) was.frames ∙ sym (rows_behind (keyed_list (take n es)) (keyed_of e)) ∙ ap rows (sym (list_next es n e rest h));
}
