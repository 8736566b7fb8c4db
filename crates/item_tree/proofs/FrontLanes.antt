-- The lanes of the front of a short text.
use Rattle.std.proofs.Common.{◌≡◌, ℕ, ◌<◌, ◌≤◌, Bool, false, cond, ltb, List, length, get_or, map, take, replicate, refl, sym, subst, ◌∙◌, arith, w8, length-take}
use Rattle.std.proofs.lemmas.List.{get_or-take, get_or-replicate}
use Rattle.std.specs.List.{range_with_len}
use Rattle.std.specs.Simd.Lanes.{zip2, sel_l, top}
use Rattle.std.proofs.lemmas.List.FromFn.{get_or-range_with_len}
use Rattle.std.proofs.lemmas.Simd.{tops_compared, length-sel_l, get_or-sel_l, get_or-zip2}
use Rattle.item_tree.specs.inside.StrBytes.{IsFront}

abbrev pub places : List ℕ
places = range_with_len 0 16

abbrev pub zeros : List ℕ
zeros = replicate 16 0

-- whether each lane stands before the end
abbrev kept : ℕ → List Bool
kept n = zip2 ltb places (replicate 16 n)

is_kept : (n i : ℕ) → i < 16 → get_or (kept n) i false ≡ ltb i n
is_kept n i p = get_or-zip2 ltb places (replicate 16 n) i 0 0 false p p
    ∙ (λ j. ltb (at j) (get_or-replicate 16 i n 0 p j))
  where
    at : get_or places i 0 ≡ i
    at = omega (arith, get_or-range_with_len 0 16 i 0 p)

selected : (n : ℕ) (bytes : List ℕ) → 16 ≤ length bytes → IsFront n bytes (sel_l (kept n) (take 16 bytes) zeros)
selected n bytes room i p = get_or-sel_l (kept n) (take 16 bytes) zeros i 0 inside within inside
    ∙ (λ j. cond (is_kept n i inside j) (get_or-take 16 bytes i 0 inside j) (get_or-replicate 16 i 0 0 inside j))
  where
    long : length (take 16 bytes) ≡ 16
    long = omega (arith, length-take 16 bytes, room)

    inside : i < 16
    inside = omega (arith, p, length-sel_l (kept n) (take 16 bytes) zeros (sym long) refl)

    within : i < length (take 16 bytes)
    within = omega (arith, inside, long)

-- so many of the bytes are chosen, and zeros behind them
pub front_selected : (n : ℕ) (bytes : List ℕ) → 16 ≤ length bytes
    → IsFront n bytes (sel_l (map (top 7) (zip2 (λ a b. cond (ltb a b) 255 0) places (replicate 16 n))) (take 16 bytes) zeros)
front_selected n bytes room = subst (λ m. IsFront n bytes (sel_l m (take 16 bytes) zeros))
    (sym (tops_compared w8 ltb places (replicate 16 n))) (selected n bytes room)
