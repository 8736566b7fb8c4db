-- Ranges, one integer longer.
use Rattle.std.proofs.Common.{◌≡◌, ℕ, zero, suc, ◌+◌, ℤ, pos, ◌+ℤ◌, List, [], ◌∷◌, ◌++◌, ap, sym, ◌∙◌, arith}
use Rattle.std.proofs.lemmas.Int.{ints}
use Rattle.std.proofs.lemmas.List.{map-append}
use Rattle.item_tree.specs.declared.item.Item.{Item}
use Rattle.item_tree.specs.declared.item.Item.TheVariants.{Int}
use Rattle.item_tree.specs.Datum.{integer}
use Rattle.item_tree.specs.Item.{datum, datums}
use Rattle.atom_ops.specs.Ranges.{counted}

pub counted_more : (n : ℤ) (k : ℕ) → counted n (k + 1) ≡ counted n k ++ (integer (n +ℤ pos k) ∷ [])
counted_more n zero = let e : n ≡ n +ℤ pos 0 = omega (arith, ints) in ap (λ m. integer m ∷ []) e
counted_more n (suc k) =
    let e : (n +ℤ pos 1) +ℤ pos k ≡ n +ℤ pos (suc k) = omega (arith, ints) in
    let s : suc k + 1 ≡ suc (k + 1) = omega arith in
    ap (counted n) s ∙ ap (λ vs. integer n ∷ vs) (counted_more (n +ℤ pos 1) k ∙ ap (λ m. counted (n +ℤ pos 1) k ++ (integer m ∷ [])) e)

pub one_more : (xs ys : List Item) (n m : ℤ) (k : ℕ) → ys ≡ xs ++ (Int m ∷ []) → datums xs ≡ counted n k → m ≡ n +ℤ pos k → datums ys ≡ counted n (k + 1)
one_more xs ys n m k e h s =
    ap datums e ∙ map-append datum xs (Int m ∷ []) ∙ ap (λ vs. vs ++ (integer m ∷ [])) h ∙ ap (λ z. counted n k ++ (integer z ∷ [])) s
    ∙ sym (counted_more n k)
