-- The text of what a loop has yet to print.
use Rattle.std.proofs.Common.{◌≡◌, ℕ, ◌+◌, ◌<◌, ◌≤◌, List, [], ◌∷◌, ◌++◌, length, get_or, drop, sym, ap, subst, ◌∙◌}
use Rattle.std.proofs.lemmas.List.{drop_more, drop_all}
use Rattle.item_tree.specs.declared.item.Item.{Item}
use Rattle.item_tree.specs.Datum.{values, members}
use Rattle.item_tree.specs.Item.{datum, datums, pair_datums}
use Rattle.item_tree.specs.ItemText.{item_text, more_values_text, more_members_text}
use Rattle.item_tree.proofs.PairLists.{Pair}
use Rattle.item_printer.specs.PairText.{pair_text}
use Rattle.item_printer.proofs.Cuts.{Partway}

drop_at : {X : Type 0} (xs : List X) (i : ℕ) (x : X) → i < length xs → x ≡ get_or xs i x → drop i xs ≡ x ∷ drop (i + 1) xs
drop_at xs i x l e = drop_more xs i x l ∙ ap (λ y. y ∷ drop (i + 1) xs) (sym e)

pub next_value : (t : List ℕ) (xs : List Item) (i : ℕ) (x : Item) (old out : List ℕ) → i < length xs → x ≡ get_or xs i x
    → Partway t (more_values_text (values (datums (drop i xs)))) old out
    → Partway t (44 ∷ (item_text (datum x) ++ more_values_text (values (datums (drop (i + 1) xs))))) old out
next_value t xs i x old out l e p = subst (λ ys. Partway t (more_values_text (values (datums ys))) old out) (drop_at xs i x l e) p

pub no_value : (t : List ℕ) (xs : List Item) (i : ℕ) (old out : List ℕ) → length xs ≤ i
    → Partway t (more_values_text (values (datums (drop i xs)))) old out → Partway t (93 ∷ []) old out
no_value t xs i old out l p = subst (λ ys. Partway t (more_values_text (values (datums ys))) old out) (drop_all i xs l) p

pub next_pair : (t : List ℕ) (ps : List Pair) (i : ℕ) (p : Pair) (old out : List ℕ) → i < length ps → p ≡ get_or ps i p
    → Partway t (more_members_text (members (pair_datums (drop i ps)))) old out
    → Partway t (44 ∷ (pair_text p.0 (datum p.1) ++ more_members_text (members (pair_datums (drop (i + 1) ps))))) old out
next_pair t ps i p old out l e w = subst (λ qs. Partway t (more_members_text (members (pair_datums qs))) old out) (drop_at ps i p l e) w

pub no_pair : (t : List ℕ) (ps : List Pair) (i : ℕ) (old out : List ℕ) → length ps ≤ i
    → Partway t (more_members_text (members (pair_datums (drop i ps)))) old out → Partway t (125 ∷ []) old out
no_pair t ps i old out l w = subst (λ qs. Partway t (more_members_text (members (pair_datums qs))) old out) (drop_all i ps l) w
