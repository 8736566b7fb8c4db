-- The values of keys in their slots, and what the table tells of a group.
use Rattle.std.proofs.Common.{◌≡◌, ℕ, Bool, List, [], ◌∷◌, map, Ok, refl, sym, ap, ◌∙◌}
use Rattle.item_tree.specs.Datum.{Datum}
use Rattle.tuple_rows.specs.Tuples.{Row}
use Rattle.query_meaning.specs.Outcome.{OrFault, ◌>>=◌}
use Rattle.clause_eval.specs.Positions.{position, tuple_at, with_values, first_written, values_written, slots_from, read_group}

no_slots : (vs : List (List Datum)) (row : Row) → values_written [] vs row ≡ row
no_slots [] row = refl
no_slots (v ∷ vs) row = no_slots vs row

pub all_written : (slots : List ℕ) (vs : List (List Datum)) (row : Row) → with_values slots vs row ≡ values_written slots vs row
all_written [] vs row = sym (no_slots vs row)
all_written (i ∷ slots) [] row = refl
all_written (i ∷ slots) (v ∷ vs) row = all_written slots vs (first_written (i ∷ slots) v row)

at_places : (tuples : List Row) (places : List Datum) → map (λ x. tuple_at tuples (position x)) places ≡ map (tuple_at tuples) (map position places)
at_places tuples [] = refl
at_places tuples (x ∷ places) = ap (λ ts. tuple_at tuples (position x) ∷ ts) (at_places tuples places)

-- a group from the positions of its tuples, its slots and the values of its keys
pub group_read : (flags : List Bool) (keys : List ℕ) (tuples : List Row) (row : Row) (places : List Datum) (values : Row) (ns : List ℕ) (slots out : Row)
    → row ≡ places ∷ values
    → ◌≡◌ {A = OrFault (List ℕ)} (Ok (map position places)) (Ok ns)
    → ◌≡◌ {A = OrFault Row} (Ok (slots_from 0 flags (map (tuple_at tuples) ns))) (Ok slots)
    → ◌≡◌ {A = OrFault Row} (Ok (with_values keys values slots)) (Ok out)
    → ◌≡◌ {A = OrFault Row} (Ok (read_group flags keys tuples row)) (Ok out)
group_read flags keys tuples row places values ns slots out told found made filled =
    let whole : Row → OrFault Row = λ r. Ok (read_group flags keys tuples r) in
    let joined : List Row → OrFault Row = λ ts. Ok (with_values keys values (slots_from 0 flags ts)) in
    let placed : OrFault (List ℕ) → OrFault Row = λ o. o >>= λ ks. Ok (with_values keys values (slots_from 0 flags (map (tuple_at tuples) ks))) in
    let valued : OrFault Row → OrFault Row = λ o. o >>= λ s. Ok (with_values keys values s) in
    ap whole told ∙ ap joined (at_places tuples places) ∙ ap placed found ∙ ap valued made ∙ filled
