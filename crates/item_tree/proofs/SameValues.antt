-- Lists of different lengths are not the same.
use Rattle.std.proofs.Common.{◌≡◌, ◌≢◌, suc, ◌&&◌, Bool, true, false, List, [], ◌∷◌, length, refl, ap, ◌∙◌}
use Rattle.std.specs.Str.{bytes_eq}
use Rattle.item_tree.specs.declared.item.Item.{Item}
use Rattle.item_tree.specs.Datum.{values, members}
use Rattle.item_tree.specs.Item.{datum, datums, pair_datums}
use Rattle.item_tree.specs.Sameness.{same, same_data, same_members}
use Rattle.item_tree.proofs.PairLists.{Pair}

false_right : (b : Bool) → (b && false) ≡ false
false_right true = refl
false_right false = refl

pub items_differ : (xs ys : List Item) → length xs ≢ length ys → same_data (values (datums xs)) (values (datums ys)) ≡ false
items_differ [] [] n = absurd (n refl)
items_differ [] (y ∷ ys) n = refl
items_differ (x ∷ xs) [] n = refl
items_differ (x ∷ xs) (y ∷ ys) n = ap (λ b. same (datum x) (datum y) && b) (items_differ xs ys (λ e. n (ap suc e))) ∙ false_right (same (datum x) (datum y))

pub pairs_differ : (ps qs : List Pair) → length ps ≢ length qs → same_members (members (pair_datums ps)) (members (pair_datums qs)) ≡ false
pairs_differ [] [] n = absurd (n refl)
pairs_differ [] (q ∷ qs) n = refl
pairs_differ (p ∷ ps) [] n = refl
pairs_differ (p ∷ ps) (q ∷ qs) n =
    ap (λ b. bytes_eq p.0 q.0 && (same (datum p.1) (datum q.1) && b)) (pairs_differ ps qs (λ e. n (ap suc e)))
    ∙ ap (λ b. bytes_eq p.0 q.0 && b) (false_right (same (datum p.1) (datum q.1)))
    ∙ false_right (bytes_eq p.0 q.0)
