-- Where texts start that stand one behind another.
use Rattle.std.proofs.Common.{◌≡◌, ℕ, zero, suc, ◌+◌, ◌<◌, ◌≤◌, List, [], ◌∷◌, length, get_or, refl, ap, ◌∙◌, arith}
use Rattle.module_names.specs.Places.{start_of}

start_behind : (x : ℕ) (ls : List ℕ) (i : ℕ) → start_of (x ∷ ls) (suc i) ≡ x + start_of ls i
start_behind x ls i = refl

pub start_none : (ls : List ℕ) → start_of ls 0 ≡ 0
start_none [] = refl
start_none (x ∷ ls) = refl

start_suc : (ls : List ℕ) (i : ℕ) → i < length ls → start_of ls (suc i) ≡ start_of ls i + get_or ls i 0
start_suc [] i lt = absurd (omega arith)
start_suc (x ∷ ls) zero lt = omega (arith, start_behind x ls 0, start_none ls)
start_suc (x ∷ ls) (suc i) lt =
    let more : start_of ls (suc i) ≡ start_of ls i + get_or ls i 0 = start_suc ls i (omega arith) in
    omega (arith, start_behind x ls (suc i), start_behind x ls i)

pub start_more : (ls : List ℕ) (i : ℕ) → i < length ls → start_of ls (i + 1) ≡ start_of ls i + get_or ls i 0
start_more ls i lt = let next : i + 1 ≡ suc i = omega arith in ap (start_of ls) next ∙ start_suc ls i lt

pub start_grows : (ls : List ℕ) (i j : ℕ) → i ≤ j → start_of ls i ≤ start_of ls j
start_grows [] i j le = omega arith
start_grows (x ∷ ls) zero j le = omega arith
start_grows (x ∷ ls) (suc i) zero le = absurd (omega arith)
start_grows (x ∷ ls) (suc i) (suc j) le = let more : start_of ls i ≤ start_of ls j = start_grows ls i j (omega arith) in omega (arith, start_behind x ls i, start_behind x ls j)
