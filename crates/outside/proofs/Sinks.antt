-- Bytes that are written piece by piece.
use Rattle.std.proofs.Common.{◌≡◌, ◌+◌, ◌-◌, ◌++◌, ℕ, List, Option, None, Some, length, take, drop, refl, ap, sym, ◌∙◌, arith, append_assoc}
use Rattle.std.proofs.lemmas.Grind.{common_steps}
use Rattle.std.proofs.Math.Seq.{take-add}
use Rattle.outside.specs.Counted.{appended}

appended-append : (w : Option (List ℕ)) (xs ys : List ℕ)
    → appended (appended w xs) ys ≡ appended w (xs ++ ys)
appended-append None xs ys = refl
appended-append (Some w) xs ys = ap (λ (l : List ℕ). Some l) (append_assoc w xs ys)

-- the first bytes, and then the first of the rest
take_of_rest : (bs : List ℕ) (d n : ℕ)
    → take d bs ++ take n (take (length bs - d) (drop d bs)) ≡ take (d + n) bs
take_of_rest bs d n =
    let rest : take (length bs - d) (drop d bs) ≡ drop d bs = grind (arith, common_steps) in
    ap (λ (l : List ℕ). take d bs ++ take n l) rest ∙ sym (take-add d n bs)

-- after the first bytes, the first of the rest are added
pub next_piece : (before : Option (List ℕ)) (bs : List ℕ) (d n : ℕ)
    → appended (appended before (take d bs)) (take n (take (length bs - d) (drop d bs)))
    ≡ appended before (take (d + n) bs)
next_piece before bs d n =
    appended-append before (take d bs) (take n (take (length bs - d) (drop d bs)))
    ∙ ap (appended before) (take_of_rest bs d n)
