-- Outputs that change places are the same outputs.
use Rattle.std.proofs.Common.{◌≡◌, ◌∙◌, sym, ℕ, List, length}
use Rattle.std.specs.List.Sorted.{IsPermutation}
use Rattle.std.proofs.lemmas.List.Sorted.{IsPermutation-trans}

-- one turn more
pub moved_on : {X : Type 0} (n : ℕ) (xs ys zs : List X) → (n ≡ length ys) × IsPermutation xs ys → IsPermutation ys zs → length zs ≡ length ys
    → (n ≡ length zs) × IsPermutation xs zs
moved_on n xs ys zs h p e = (h.0 ∙ sym e, IsPermutation-trans xs ys zs h.1 p)
