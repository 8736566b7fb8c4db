-- What a list's last element gives.
use Rattle.std.proofs.Common.{◌≡◌, ℕ, ◌+◌, Bool, true, false, Option, List, [], ◌∷◌, ◌++◌, length, Ok, Err, refl, sym, ap, ◌∙◌, arith}
use Rattle.std.proofs.lemmas.List.{append_assoc, map-append}
use Rattle.item_tree.specs.declared.item.Item.{Item}
use Rattle.item_tree.specs.Datum.{Datum}
use Rattle.item_tree.specs.Item.{datum, datums}
use Rattle.seq_types.specs.declared.types.SeqType.{SeqType}
use Rattle.query_tree.specs.declared.bound.Slot.{Slot}
use Rattle.query_tree.specs.declared.names.Placed.{Placed}
use Rattle.query_meaning.specs.Clauses.{bound_tuples}
use Rattle.query_meaning.specs.Environment.{Tuple}
use Rattle.clause_eval.specs.OneByOne.{bound_item}
use Rattle.query_meaning.specs.Outcome.{OrFault, ◌>>=◌, joined, with_front, each_from}

append_nothing : {A : Type 0} (xs : List A) → xs ++ [] ≡ xs
append_nothing [] = refl
append_nothing (x ∷ xs) = ap (λ ys. x ∷ ys) (append_nothing xs)

front_nothing : {A : Type 0} (o : OrFault (List A)) → with_front [] o ≡ o
front_nothing (Ok xs) = refl
front_nothing (Err e) = refl

pub nothing_behind : {A : Type 0} (xs : List A) → with_front xs (Ok []) ≡ Ok xs
nothing_behind xs = ap (λ ys. Ok ys) (append_nothing xs)

joined_nothing : {A : Type 0} (o : OrFault (List A)) → joined o (Ok []) ≡ o
joined_nothing (Ok xs) = ap (λ ys. Ok ys) (append_nothing xs)
joined_nothing (Err e) = refl

joined_assoc : {A : Type 0} (a b c : OrFault (List A)) → joined a (joined b c) ≡ joined (joined a b) c
joined_assoc (Ok xs) (Ok ys) (Ok zs) = ap (λ ws. Ok ws) (sym (append_assoc xs ys zs))
joined_assoc (Ok xs) (Ok ys) (Err e) = refl
joined_assoc (Ok xs) (Err e) c = refl
joined_assoc (Err e) b c = refl

each_snoc : {A B : Type 0} (f : ℕ → A → OrFault (List B)) (n : ℕ) (xs : List A) (x : A) → each_from f n (xs ++ x ∷ []) ≡ joined (each_from f n xs) (f (n + length xs) x)
each_snoc f n [] x = joined_nothing (f n x) ∙ sym (front_nothing (f n x)) ∙ ap (λ k. with_front [] (f k x)) (omega arith)
each_snoc f n (y ∷ xs) x =
    ap (λ o. joined (f n y) o) (each_snoc f (n + 1) xs x ∙ ap (λ k. joined (each_from f (n + 1) xs) (f k x)) (omega arith)) ∙ joined_assoc (f n y) (each_from f (n + 1) xs) (f (n + length (y ∷ xs)) x)

front_then : {B : Type 0} (front : List B) (o p : OrFault (List B)) → with_front front (joined o p) ≡ (with_front front o >>= λ ys. with_front ys p)
front_then front (Ok xs) (Ok ys) = ap (λ zs. Ok zs) (sym (append_assoc front xs ys))
front_then front (Ok xs) (Err e) = refl
front_then front (Err e) p = refl

pub each_last : {A B : Type 0} (f : ℕ → A → OrFault (List B)) (n : ℕ) (xs : List A) (x : A) (front : List B) → with_front front (each_from f n (xs ++ x ∷ [])) ≡ (with_front front (each_from f n xs) >>= λ ys. with_front ys (f (n + length xs) x))
each_last f n xs x front = ap (with_front front) (each_snoc f n xs x) ∙ front_then front (each_from f n xs) (f (n + length xs) x)

counted : (xs : List Item) → 1 + length (datums xs) ≡ length xs + 1
counted [] = refl
counted (x ∷ xs) = omega (arith, counted xs)

-- the same of items, of which so many stand before the last
pub items_last : {B : Type 0} (f : ℕ → Datum → OrFault (List B)) (others : List Item) (x : Datum) (front : List B)
    → with_front front (each_from f 1 (datums others ++ x ∷ [])) ≡ (with_front front (each_from f 1 (datums others)) >>= λ ys. with_front ys (f (length others + 1) x))
items_last f others x front =
    each_last f 1 (datums others) x front
    ∙ ap (λ k. with_front front (each_from f 1 (datums others)) >>= λ ys. with_front ys (f k x)) (counted others)

-- the tuples of items that are there
pub bound_some : (variable : Placed Slot) (t : Option (Placed SeqType)) (allowing_empty : Bool) (at : Option (Placed Slot)) (tuple : Tuple) (xs : List Datum) (x : Datum)
    → bound_tuples variable t allowing_empty at tuple (xs ++ x ∷ []) ≡ each_from (bound_item variable t at tuple) 1 (xs ++ x ∷ [])
unfolding bound_item
bound_some variable t false at tuple xs x = refl
bound_some variable t true at tuple [] x = refl
bound_some variable t true at tuple (y ∷ xs) x = refl

-- the same of items of which one is the last
pub items_bound : (variable : Placed Slot) (t : Option (Placed SeqType)) (allowing_empty : Bool) (at : Option (Placed Slot)) (tuple : Tuple) (items others : List Item) (last : Item)
    → items ≡ others ++ last ∷ []
    → bound_tuples variable t allowing_empty at tuple (datums items) ≡ each_from (bound_item variable t at tuple) 1 (datums others ++ datum last ∷ [])
items_bound variable t allowing_empty at tuple items others last whole =
    ap (bound_tuples variable t allowing_empty at tuple) (ap datums whole ∙ map-append datum others (last ∷ []))
    ∙ bound_some variable t allowing_empty at tuple (datums others) (datum last)
