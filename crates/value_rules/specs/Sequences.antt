-- The functions on sequences, each under its name in the language: what it gives for its arguments,
-- or the error with which it refuses them. Arguments are checked from left to right, and positions
-- count from 1. `boolean_of` is the function `boolean`.
use Rattle.std.specs.Prelude.{ℕ, ℤ, pos, ◌+ℤ◌, int_lt, int_le, Bool, true, false, not, ◌&&◌, List, [], ◌∷◌, ◌++◌, length, map, reverse as reversed, Some, Result, Ok, Err}
use Rattle.std.specs.List.{filter, enumerate_from}
use Rattle.std.specs.Ordering.{int_eq}
use Rattle.item_tree.specs.declared.code.Code.{Code}
use Rattle.item_tree.specs.declared.code.Code.TheVariants.{FORG0003, FORG0004, FORG0005}
use Rattle.item_tree.specs.Compare.{same_keys, equal_lists}
use Rattle.item_tree.specs.Datum.{Datum, boolean, integer}
use Rattle.item_tree.specs.Truth.{boolean_value}
use Rattle.value_rules.specs.Operands.{and_then, atomic, one_atomic, one_integer}

-- each item with its position
abbrev pub numbered : {X : Type 0} → List X → List (ℕ × X)
numbered xs = enumerate_from 1 xs

-- the items whose positions pass the test
abbrev pub items_at : {X : Type 0} → (ℤ → Bool) → List X → List X
items_at test xs = map (λ p. p.1) (filter (λ p. test (pos p.0)) (numbered xs))

-- the positions of the items that pass the test
abbrev pub positions : {X : Type 0} → (X → Bool) → List X → List ℕ
positions test xs = map (λ p. p.0) (filter (λ p. test p.1) (numbered xs))

-- the items that are not the same as one before them
abbrev pub firsts : {X : Type 0} → (X → X → Bool) → List X → List X
firsts same [] = []
firsts same (x ∷ xs) = x ∷ filter (λ y. not (same x y)) (firsts same xs)

-- what becomes of each item, or the first error
abbrev pub each : {X Y : Type 0} → (X → Result Y Code) → List X → Result (List Y) Code
each f [] = Ok []
each f (x ∷ xs) = and_then (f x) (λ y. and_then (each f xs) (λ ys. Ok (y ∷ ys)))

-- whether two atomics are the same, as keys of a grouping
abbrev pub same_atomics : Datum → Datum → Bool
same_atomics v w = same_keys (Some v) (Some w)

abbrev pub count : List Datum → Result (List Datum) Code
count vs = Ok (integer (pos (length vs)) ∷ [])

abbrev pub empty : List Datum → Result (List Datum) Code
empty [] = Ok (boolean true ∷ [])
empty (v ∷ vs) = Ok (boolean false ∷ [])

abbrev pub exists : List Datum → Result (List Datum) Code
exists [] = Ok (boolean false ∷ [])
exists (v ∷ vs) = Ok (boolean true ∷ [])

abbrev pub head : List Datum → Result (List Datum) Code
head [] = Ok []
head (v ∷ vs) = Ok (v ∷ [])

abbrev pub tail : List Datum → Result (List Datum) Code
tail [] = Ok []
tail (v ∷ vs) = Ok vs

abbrev pub reverse : List Datum → Result (List Datum) Code
reverse vs = Ok (reversed vs)

-- from the start on
abbrev pub subsequence : List Datum → List Datum → Result (List Datum) Code
subsequence vs is =
    and_then (one_integer is) (λ start. Ok (items_at (λ p. int_le start p) vs))

-- from the start on, before the position that lies so far behind it
abbrev pub subsequence_3 : List Datum → List Datum → List Datum → Result (List Datum) Code
subsequence_3 vs is ls =
    and_then (one_integer is) (λ start.
    and_then (one_integer ls) (λ size.
    Ok (items_at (λ p. int_le start p && int_lt p (start +ℤ size)) vs)))

-- the others between the items before the position and those from it on
abbrev pub insert_before : List Datum → List Datum → List Datum → Result (List Datum) Code
insert_before vs is ws =
    and_then (one_integer is) (λ i.
    Ok (items_at (λ p. int_lt p i) vs ++ ws ++ items_at (λ p. int_le i p) vs))

abbrev pub remove : List Datum → List Datum → Result (List Datum) Code
remove vs is = and_then (one_integer is) (λ i. Ok (items_at (λ p. not (int_eq i p)) vs))

abbrev pub distinct_values : List Datum → Result (List Datum) Code
distinct_values vs = and_then (each atomic vs) (λ xs. Ok (firsts same_atomics xs))

abbrev pub index_of : List Datum → List Datum → Result (List Datum) Code
index_of vs ws =
    and_then (each atomic vs) (λ xs.
    and_then (one_atomic ws) (λ a.
    Ok (map (λ p. integer (pos p)) (positions (λ x. same_atomics x a) xs))))

abbrev pub deep_equal : List Datum → List Datum → Result (List Datum) Code
deep_equal vs ws = Ok (boolean (equal_lists vs ws) ∷ [])

abbrev pub boolean_of : List Datum → Result (List Datum) Code
boolean_of vs = and_then (boolean_value vs) (λ b. Ok (boolean b ∷ []))

abbrev pub zero_or_one : List Datum → Result (List Datum) Code
zero_or_one [] = Ok []
zero_or_one (v ∷ []) = Ok (v ∷ [])
zero_or_one (v ∷ w ∷ vs) = Err FORG0003

abbrev pub one_or_more : List Datum → Result (List Datum) Code
one_or_more [] = Err FORG0004
one_or_more (v ∷ vs) = Ok (v ∷ vs)

abbrev pub exactly_one : List Datum → Result (List Datum) Code
exactly_one [] = Err FORG0005
exactly_one (v ∷ []) = Ok (v ∷ [])
exactly_one (v ∷ w ∷ vs) = Err FORG0005
