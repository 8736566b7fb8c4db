-- From marks of lanes to the bytes of a load.
use Rattle.std.proofs.Common.{◌≡◌, ℕ, zero, suc, ◌&&◌, ◌+◌, ◌%◌, ◌^◌, ◌≤◌, Bool, true, not, cond, List, [], ◌∷◌, map, length, take, leb, Fits, w8, refl, sym, ap, ap₂, ◌*◌, ◌∙◌, arith, inl, inr}
use Rattle.std.proofs.lemmas.Bool.{agree_below, agree_below_at, cases_Bool, cases_lt, cond-true, cond-false, le-leb, lt-leb}
use Rattle.std.proofs.lemmas.List.{length-map}
use Rattle.std.proofs.lemmas.Simd.{map-map, mask_l-mod, first_set_mask_l}
use Rattle.std.proofs.lemmas.List.Sums.{prefix_len-le-length}
use Rattle.std.specs.List.{prefix_len, list_all}
use lib.Lanes.{Each1, mask_l, top}
use Rattle.byte_lanes.specs.inside.Marks.{before_mark, AreMarks}

-- tests that agree at all bytes stop at the same place
pub prefix_len-agree : (p q : ℕ → Bool) (v : List ℕ) → Each1 (Fits w8) v
    → agree_below p q 256 ≡ true → prefix_len p v ≡ prefix_len q v
prefix_len-agree p q [] fits agree = refl
prefix_len-agree p q (x ∷ xs) fits agree =
    ap (λ n. cond (p x) (1 + n) 0) (prefix_len-agree p q xs fits.1 agree)
    ∙ ap (λ t. cond t (1 + prefix_len q xs) 0) (agree_below_at p q 256 x agree fits.0.fits)

-- where no lane passes, no bit is set
no_marks : (p : ℕ → Bool) (v : List ℕ) → prefix_len (λ x. not (p x)) v ≡ length v
    → mask_l (map p v) ≡ 0
no_marks p [] all = refl
no_marks p (x ∷ xs) all = elim (cases_Bool (p x)) [
  | inl passes ↦
      let none = cond-false (not (p x)) (1 + prefix_len (λ y. not (p y)) xs) 0 (ap not passes) in
      absurd (omega (arith, none, all))
  | inr fails ↦
      let one = cond-true (not (p x)) (1 + prefix_len (λ y. not (p y)) xs) 0 (ap not fails) in
      ap₂ (λ t m. cond t 1 0 + 2 * m) fails (no_marks p xs (omega (arith, one, all)))
]

-- lanes that are computed one by one, and stop just where q fails
pub marked : (q : ℕ → Bool) (f : ℕ → ℕ) (v : List ℕ) (n : ℕ) {z : List ℕ} → length v ≡ n → n ≤ 64
    → Each1 (Fits w8) v → z ≡ map f v → agree_below (λ x. not (top 7 (f x))) q 256 ≡ true
    → AreMarks q v n (mask_l (map (top 7) z) % 2 ^ 64)
marked q f v n {z} long few fits lanes agree =
    let stops : ℕ → Bool = λ x. top 7 (f x) in
    let same = prefix_len-agree (λ x. not (stops x)) q v fits agree in
    let marks =
    ap (λ l. mask_l l % 2 ^ 64) (ap (map (top 7)) lanes ∙ map-map (top 7) f v)
    ∙ mask_l-mod (map stops v) 64 (omega (arith, length-map v stops, long)) in
    record {
      lowest = ap (λ m. before_mark m n) marks ∙ first_set_mask_l stops v n long few ∙ same;
      some = λ set. elim (cases_lt (prefix_len q v) n) [
        | inl less ↦ less
        | inr more ↦
            let bound = prefix_len-le-length q v in
            let none = no_marks stops v (omega (arith, same, bound, long)) in
            absurd (omega (arith, marks, none))
      ];
    }

-- one more on either side
leb-suc : (r n : ℕ) → leb r n ≡ leb (suc r) (1 + n)
leb-suc r n = elim (cases_lt n r) [
  | inl less ↦ lt-leb r n less ∙ sym (lt-leb (suc r) (1 + n) (omega arith))
  | inr more ↦ le-leb r n more ∙ sym (le-leb (suc r) (1 + n) (omega arith))
]

-- all of the first r pass just where no failure is among them
pub all_before : (p : ℕ → Bool) (xs : List ℕ) (r : ℕ) → r ≤ length xs
    → list_all p (take r xs) ≡ leb r (prefix_len p xs)
all_before p [] zero within = refl
all_before p [] (suc r) within = absurd (omega arith)
all_before p (x ∷ xs) zero within = sym (le-leb 0 (prefix_len p (x ∷ xs)) (omega arith))
all_before p (x ∷ xs) (suc r) within = elim (cases_Bool (p x)) [
  | inl passes ↦
      ap (λ t. t && list_all p (take r xs)) passes ∙ all_before p xs r (omega arith)
      ∙ leb-suc r (prefix_len p xs) ∙ ap (leb (suc r)) (sym (cond-true (p x) (1 + prefix_len p xs) 0 passes))
  | inr fails ↦
      ap (λ t. t && list_all p (take r xs)) fails ∙ sym (lt-leb (suc r) 0 (omega arith))
      ∙ ap (leb (suc r)) (sym (cond-false (p x) (1 + prefix_len p xs) 0 fails))
]
