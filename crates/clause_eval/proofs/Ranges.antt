-- What is left of lists that are counted.
use Rattle.std.proofs.Common.{◌≡◌, ℕ, zero, suc, ◌+◌, List, [], ◌∷◌, ◌++◌, take, drop, length, get_or, ◌-◌, ◌<◌, refl, sym, ap, ◌∙◌, map, arith}
use Rattle.std.specs.List.{range_with_len}
use Rattle.std.specs.Prelude.{Vec}
use Rattle.std.specs.declared.alloc.Global.{Global}
use Rattle.std.proofs.Math.Seq.{take-length}
use Rattle.std.proofs.lemmas.List.{append_assoc, map-append}
use Rattle.item_tree.specs.declared.item.Item.{Item}
use Rattle.item_tree.specs.Item.{datums}
use Rattle.tuple_rows.specs.Tuples.{sequence}
use Rattle.clause_eval.specs.Positions.{numbers_from, blanks}

one_more : (n : ℕ) → n + 1 ≡ suc n
one_more n = omega arith

plus_nothing : (a : ℕ) → a ≡ a + 0
plus_nothing a = omega arith

nothing_plus : (n : ℕ) → 0 + n ≡ n
nothing_plus n = omega arith

one_plus : (n : ℕ) → 1 + n ≡ n + 1
one_plus n = omega arith

plus_more : (a n : ℕ) → (a + 1) + n ≡ a + suc n
plus_more a n = omega arith

range_behind : (a n : ℕ) → range_with_len a (suc n) ≡ range_with_len a n ++ (a + n) ∷ []
range_behind a zero = ap (λ k. k ∷ []) (plus_nothing a)
range_behind a (suc n) = ap (λ xs. a ∷ xs) (range_behind (a + 1) n ∙ ap (λ k. range_with_len (a + 1) n ++ k ∷ []) (plus_more a n))

pub range_next : (n : ℕ) → range_with_len 0 (n + 1) ≡ range_with_len 0 n ++ n ∷ []
range_next n = ap (λ k. range_with_len 0 k) (one_more n) ∙ range_behind 0 n ∙ ap (λ k. range_with_len 0 n ++ k ∷ []) (nothing_plus n)

numbers_behind : (a n : ℕ) → numbers_from a (suc n) ≡ numbers_from a n ++ (a + n) ∷ []
numbers_behind a zero = ap (λ k. k ∷ []) (plus_nothing a)
numbers_behind a (suc n) = ap (λ xs. a ∷ xs) (numbers_behind (a + 1) n ∙ ap (λ k. numbers_from (a + 1) n ++ k ∷ []) (plus_more a n))

pub numbers_next : (n : ℕ) → numbers_from 1 (n + 1) ≡ numbers_from 1 n ++ (n + 1) ∷ []
numbers_next n = ap (λ k. numbers_from 1 k) (one_more n) ∙ numbers_behind 1 n ∙ ap (λ k. numbers_from 1 n ++ k ∷ []) (one_plus n)

blanks_behind : (n : ℕ) → blanks (suc n) ≡ blanks n ++ [] ∷ []
blanks_behind zero = refl
blanks_behind (suc n) = ap (λ xs. [] ∷ xs) (blanks_behind n)

pub blanks_next : (n : ℕ) → blanks (n + 1) ≡ blanks n ++ [] ∷ []
blanks_next n = ap (λ k. blanks k) (one_more n) ∙ blanks_behind n

-- one more empty list behind others
pub blanks_pushed : (first before after : List (Vec Item Global)) (blank : Vec Item Global) (n : ℕ) → after ≡ before ++ blank ∷ [] → blank.items ≡ []
    → map sequence before ≡ map sequence first ++ blanks n → map sequence after ≡ map sequence first ++ blanks (n + 1)
blanks_pushed first before after blank n pushed empty so_far =
    ap (map sequence) pushed ∙ map-append sequence before (blank ∷ []) ∙ (λ i. so_far i ++ datums (empty i) ∷ [])
    ∙ append_assoc (map sequence first) (blanks n) ([] ∷ []) ∙ ap (λ bs. map sequence first ++ bs) (sym (blanks_next n))

taken : {A : Type 0} (xs : List A) (n : ℕ) (x : A) (rest : List A) → drop n xs ≡ x ∷ rest → take (suc n) xs ≡ take n xs ++ x ∷ []
taken [] zero x rest h = absurd cc
taken [] (suc n) x rest h = absurd cc
taken (y ∷ xs) zero x rest h = cc
taken (y ∷ xs) (suc n) x rest h = ap (λ ys. y ∷ ys) (taken xs n x rest h)

dropped : {A : Type 0} (xs : List A) (n : ℕ) (x : A) (rest : List A) → drop n xs ≡ x ∷ rest → drop (suc n) xs ≡ rest
dropped [] zero x rest h = absurd cc
dropped [] (suc n) x rest h = absurd cc
dropped (y ∷ xs) zero x rest h = cc
dropped (y ∷ xs) (suc n) x rest h = dropped xs n x rest h

pub take_next : {A : Type 0} (xs : List A) (n : ℕ) (x : A) (rest : List A) → drop n xs ≡ x ∷ rest → take (n + 1) xs ≡ take n xs ++ x ∷ []
take_next xs n x rest h = ap (λ k. take k xs) (one_more n) ∙ taken xs n x rest h

pub drop_next : {A : Type 0} (xs : List A) (n : ℕ) (x : A) (rest : List A) → drop n xs ≡ x ∷ rest → drop (n + 1) xs ≡ rest
drop_next xs n x rest h = ap (λ k. drop k xs) (one_more n) ∙ dropped xs n x rest h

pub numbers_length : (a n : ℕ) → length (numbers_from a n) ≡ n
numbers_length a zero = refl
numbers_length a (suc n) = ap suc (numbers_length (a + 1) n)

pub blanks_length : (n : ℕ) → length (blanks n) ≡ n
blanks_length zero = refl
blanks_length (suc n) = ap suc (blanks_length n)

-- the first of a list, and those behind it as the code takes them
pub first_is : {A : Type 0} (xs : List A) (x : A) → 0 < length xs → x ≡ get_or xs 0 x → xs ≡ x ∷ take (length xs - 1) (drop 1 xs)
first_is [] x h is = absurd (omega arith)
first_is (y ∷ ys) x h is =
    let n : length (y ∷ ys) - 1 ≡ length ys = omega arith in
    ap (λ z. z ∷ ys) (sym is) ∙ ap (λ t. x ∷ t) (sym (ap (λ k. take k ys) n ∙ take-length ys))
