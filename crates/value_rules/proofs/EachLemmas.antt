-- What becomes of each item, one item longer. For other crates too.
use Rattle.std.proofs.Common.{◌≡◌, ℕ, ◌+◌, ◌<◌, List, [], ◌∷◌, ◌++◌, length, get_or, take, drop, Result, Ok, Err, refl, sym, ap, ◌∙◌}
use Rattle.std.proofs.lemmas.List.{take-append-drop, drop_more, take_more, map-append}
use Rattle.item_tree.specs.declared.code.Code.{Code}
use Rattle.item_tree.specs.declared.item.Item.{Item}
use Rattle.item_tree.specs.Datum.{Datum, null, boolean, integer, decimal, text, date, date_time, array, object}
use Rattle.item_tree.specs.Item.{datum, datums}
use Rattle.value_rules.specs.Operands.{and_then, atomic}
use Rattle.value_rules.specs.Sequences.{each}

-- a list, where one of its items stands
pub apart : {X : Type 0} (xs : List X) (i : ℕ) (x : X) → i < length xs → x ≡ get_or xs i x → xs ≡ take i xs ++ x ∷ drop (i + 1) xs
apart xs i x lt e = sym (take-append-drop i xs) ∙ ap (λ ys. take i xs ++ ys) (drop_more xs i x lt ∙ ap (λ y. y ∷ drop (i + 1) xs) (sym e))

-- one more item that has a value
pub each-push : {X Y : Type 0} (f : X → Result Y Code) (xs : List X) (ys : List Y) (x : X) (y : Y) → each f xs ≡ Ok ys → f x ≡ Ok y → each f (xs ++ x ∷ []) ≡ Ok (ys ++ y ∷ [])
each-push f [] ys x y h e = rw e (let n : [] ≡ ys = cc in ap (λ zs. Ok (zs ++ y ∷ [])) n)
each-push {X} {Y} f (w ∷ ws) ys x y h e = by (f w) (each f ws) (λ zs g. each-push f ws zs x y g e) h
  where
    by : (a : Result Y Code) (r : Result (List Y) Code) → ((zs : List Y) → r ≡ Ok zs → each f (ws ++ x ∷ []) ≡ Ok (zs ++ y ∷ [])) → and_then a (λ v. and_then r (λ vs. Ok (v ∷ vs))) ≡ Ok ys
        → and_then a (λ v. and_then (each f (ws ++ x ∷ [])) (λ vs. Ok (v ∷ vs))) ≡ Ok (ys ++ y ∷ [])
    by (Err c) r g k = absurd cc
    by (Ok v) (Err c) g k = absurd cc
    by (Ok v) (Ok zs) g k = rw (g zs refl) (let n : v ∷ zs ≡ ys = cc in ap (λ us. Ok (us ++ y ∷ [])) n)

-- the first item that has an error
pub each-stop : {X Y : Type 0} (f : X → Result Y Code) (xs : List X) (ys : List Y) (x : X) (zs : List X) (c : Code) → each f xs ≡ Ok ys → f x ≡ Err c → each f (xs ++ x ∷ zs) ≡ Err c
each-stop f [] ys x zs c h e = rw e refl
each-stop {X} {Y} f (w ∷ ws) ys x zs c h e = by (f w) (each f ws) (λ us g. each-stop f ws us x zs c g e) h
  where
    by : (a : Result Y Code) (r : Result (List Y) Code) → ((us : List Y) → r ≡ Ok us → each f (ws ++ x ∷ zs) ≡ Err c) → and_then a (λ v. and_then r (λ vs. Ok (v ∷ vs))) ≡ Ok ys
        → and_then a (λ v. and_then (each f (ws ++ x ∷ zs)) (λ vs. Ok (v ∷ vs))) ≡ Err c
    by (Err d) r g k = absurd cc
    by (Ok v) (Err d) g k = absurd cc
    by (Ok v) (Ok us) g k = rw (g us refl) refl

-- the values of the first items, one item longer
pub datums_more : (xs : List Item) (i : ℕ) (x : Item) → i < length xs → x ≡ get_or xs i x → datums (take (i + 1) xs) ≡ datums (take i xs) ++ datum x ∷ []
datums_more xs i x lt e = ap datums (take_more xs i x lt ∙ ap (λ y. take i xs ++ y ∷ []) (sym e)) ∙ map-append datum (take i xs) (x ∷ [])

-- the values of all items, where one of them stands
pub datums_apart : (xs : List Item) (i : ℕ) (x : Item) → i < length xs → x ≡ get_or xs i x → datums xs ≡ datums (take i xs) ++ datum x ∷ datums (drop (i + 1) xs)
datums_apart xs i x lt e = ap datums (apart xs i x lt e) ∙ map-append datum (take i xs) (x ∷ drop (i + 1) xs)

-- an atomic is itself
pub atomic_is : (v w : Datum) → atomic v ≡ Ok w → v ≡ w
atomic_is null w e = cc
atomic_is (boolean b) w e = cc
atomic_is (integer n) w e = cc
atomic_is (decimal m) w e = cc
atomic_is (text t) w e = cc
atomic_is (date d) w e = cc
atomic_is (date_time t) w e = cc
atomic_is (array vs) w e = absurd cc
atomic_is (object ms) w e = absurd cc

-- one more atomic behind the first ones
pub atomics_more : (xs : List Item) (i : ℕ) (x : Item) (w : Datum) → i < length xs → x ≡ get_or xs i x → each atomic (datums (take i xs)) ≡ Ok (datums (take i xs)) → atomic (datum x) ≡ Ok w
    → each atomic (datums (take (i + 1) xs)) ≡ Ok (datums (take (i + 1) xs))
atomics_more xs i x w lt e h a =
    ap (each atomic) (datums_more xs i x lt e) ∙ each-push atomic (datums (take i xs)) (datums (take i xs)) (datum x) w h a ∙ ap (λ v. Ok (datums (take i xs) ++ v ∷ [])) (sym (atomic_is (datum x) w a)) ∙ ap Ok (sym (datums_more xs i x lt e))

-- the first item that is none
pub atomics_stop : (xs : List Item) (i : ℕ) (x : Item) (c : Code) → i < length xs → x ≡ get_or xs i x → each atomic (datums (take i xs)) ≡ Ok (datums (take i xs)) → atomic (datum x) ≡ Err c → each atomic (datums xs) ≡ Err c
atomics_stop xs i x c lt e h a =
    ap (each atomic) (datums_apart xs i x lt e) ∙ each-stop atomic (datums (take i xs)) (datums (take i xs)) (datum x) (datums (drop (i + 1) xs)) c h a
