-- Positions, and the first of each, one item further.
use Rattle.std.proofs.Common.{◌≡◌, ℕ, ◌+◌, ◌<◌, Bool, true, false, cond, not, pos, List, [], ◌∷◌, ◌++◌, length, map, get_or, take, refl, sym, ap, ◌∙◌, arith}
use Rattle.std.specs.List.{filter, enumerate_from, list_any}
use Rattle.std.proofs.lemmas.List.{append-nil, map-append, length-map, length-take-le}
use Rattle.item_tree.specs.declared.item.Item.{Item}
use Rattle.item_tree.specs.Datum.{Datum, integer}
use Rattle.item_tree.specs.Item.{datum, datums}
use Rattle.value_rules.specs.Sequences.{positions, firsts, same_atomics}
use Rattle.value_rules.proofs.EachLemmas.{datums_more}
use Rattle.value_rules.proofs.FirstLemmas.{filter-append, firsts-push}
use Rattle.fn_sequences.specs.inside.Places.{position_values}

enumerate-push : {X : Type 0} (b : ℕ) (xs : List X) (x : X) → enumerate_from b (xs ++ x ∷ []) ≡ enumerate_from b xs ++ (b + length xs, x) ∷ []
enumerate-push b [] x = let e : b ≡ b + 0 = omega arith in ap (λ n. (n, x) ∷ []) e
enumerate-push b (y ∷ ys) x =
    let e : b + 1 + length ys ≡ b + length (y ∷ ys) = omega arith in
    ap (λ ps. (b, y) ∷ ps) (enumerate-push (b + 1) ys x ∙ ap (λ n. enumerate_from (b + 1) ys ++ (n, x) ∷ []) e)

abbrev number : {X : Type 0} → ℕ × X → ℕ
number p = p.0

abbrev told : ℕ → Datum
told n = integer (pos n)

positions-push : {X : Type 0} (test : X → Bool) (xs : List X) (x : X) → positions test (xs ++ x ∷ []) ≡ positions test xs ++ cond (test x) ((length xs + 1) ∷ []) []
positions-push {X} test xs x =
    ap (λ ps. map number (filter (λ p. test p.1) ps)) (enumerate-push 1 xs x)
    ∙ ap (map number) (filter-append (λ p. test p.1) (enumerate_from 1 xs) ((1 + length xs, x) ∷ []))
    ∙ map-append number (filter (λ p. test p.1) (enumerate_from 1 xs)) (filter (λ p. test p.1) ((1 + length xs, x) ∷ []))
    ∙ ap (λ ns. positions test xs ++ ns) (by (test x))
  where
    by : (b : Bool) → map number (cond b ((1 + length xs, x) ∷ []) []) ≡ cond b ((length xs + 1) ∷ []) []
    by true = let e : 1 + length xs ≡ length xs + 1 = omega arith in ap (λ n. n ∷ []) e
    by false = refl

-- the items that are the same as v, one item further
pub found_more : (v : Datum) (s found new : List Item) (i : ℕ) (x : Item) (b : Bool) → i < length s → x ≡ get_or s i x → b ≡ same_atomics (datum x) v → datums found ≡ position_values v (datums (take i s))
    → datums new ≡ datums found ++ cond b (integer (pos (i + 1)) ∷ []) [] → datums new ≡ position_values v (datums (take (i + 1) s))
found_more v s found new i x b lt e t h n =
    n ∙ (λ j. h j ++ cond (t j) (integer (pos (i + 1)) ∷ []) []) ∙ ap (λ ns. position_values v (datums (take i s)) ++ ns) (by (same_atomics (datum x) v))
    ∙ sym (map-append told (positions (λ w. same_atomics w v) (datums (take i s))) (cond (same_atomics (datum x) v) ((length (datums (take i s)) + 1) ∷ []) []))
    ∙ ap (map told) (sym (positions-push (λ w. same_atomics w v) (datums (take i s)) (datum x))) ∙ ap (position_values v) (sym (datums_more s i x lt e))
  where
    count : i + 1 ≡ length (datums (take i s)) + 1
    count = let l : length (datums (take i s)) ≡ i = length-map (take i s) datum ∙ length-take-le i s (omega arith) in omega arith

    by : (c : Bool) → cond c (integer (pos (i + 1)) ∷ []) [] ≡ map told (cond c ((length (datums (take i s)) + 1) ∷ []) [])
    by true = ap (λ n. integer (pos n) ∷ []) count
    by false = refl

-- the first of each, one item further
pub kept_more : (s kept new : List Item) (i : ℕ) (x : Item) (seen added : Bool) → i < length s → x ≡ get_or s i x → seen ≡ list_any (λ w. same_atomics w (datum x)) (datums (take i s)) → added ≡ not seen
    → datums kept ≡ firsts same_atomics (datums (take i s)) → datums new ≡ datums kept ++ cond added (datum x ∷ []) [] → datums new ≡ firsts same_atomics (datums (take (i + 1) s))
kept_more s kept new i x seen added lt e t a h n =
    n ∙ (λ j. h j ++ cond (a j) (datum x ∷ []) []) ∙ ap (λ ys. firsts same_atomics (datums (take i s)) ++ ys) (by seen ∙ ap (λ b. cond b [] (datum x ∷ [])) t)
    ∙ sym (firsts-push same_atomics (datums (take i s)) (datum x)) ∙ ap (firsts same_atomics) (sym (datums_more s i x lt e))
  where
    by : (b : Bool) → cond (not b) (datum x ∷ []) [] ≡ cond b [] (datum x ∷ [])
    by true = refl
    by false = refl

-- one more item in a list, or none
pub one_pushed : (xs ys : List Item) (y : Item) (v : Datum) (b : Bool) → b ≡ true → ys ≡ xs ++ y ∷ [] → datum y ≡ v → datums ys ≡ datums xs ++ cond b (v ∷ []) []
one_pushed xs ys y v b t e h = ap datums e ∙ map-append datum xs (y ∷ []) ∙ (λ i. datums xs ++ cond (sym t i) (h i ∷ []) [])

pub none_pushed : (xs ys : List Item) (vs : List Datum) (b : Bool) → b ≡ false → ys ≡ xs → datums ys ≡ datums xs ++ cond b vs []
none_pushed xs ys vs b f e = ap datums e ∙ sym (append-nil (datums xs)) ∙ ap (λ c. datums xs ++ cond c vs []) (sym f)
