-- Flags of slots, set one by one.
use Rattle.std.proofs.Common.{◌≡◌, ◌≢◌, ℕ, zero, suc, ◌+◌, ◌≤◌, ◌<◌, ◌==◌, Bool, true, false, ◌||◌, List, [], ◌∷◌, ◌++◌, map, set, refl, sym, ap, ◌∙◌, arith}
use Rattle.std.specs.List.{range_with_len}
use Rattle.group_table.specs.Groups.{has_slot}
use Rattle.std.proofs.lemmas.List.{map-append}
use Rattle.stage_laws.proofs.Basics.{eq_true, eq_false}
use Rattle.clause_eval.proofs.Ranges.{range_next}

-- flags that differ at one slot
module _ (f g : ℕ → Bool) (k : ℕ) (others : (j : ℕ) → j ≢ k → g j ≡ f j) where
  behind_same : (i w : ℕ) → k < i → map f (range_with_len i w) ≡ map g (range_with_len i w)
  behind_same i zero lt = refl
  behind_same i (suc w) lt =
      λ n. sym (others i (λ (e : i ≡ k). omega arith)) n ∷ behind_same (i + 1) w (omega arith) n

  pub none_set : (i w : ℕ) → i + w ≤ k → map f (range_with_len i w) ≡ map g (range_with_len i w)
  none_set i zero le = refl
  none_set i (suc w) le =
      λ n. sym (others i (λ (e : i ≡ k). omega arith)) n ∷ none_set (i + 1) w (omega arith) n

  pub one_set : g k ≡ true → (i w at : ℕ) → k ≡ i + at → set (map f (range_with_len i w)) at true ≡ map g (range_with_len i w)
  one_set h i zero at e = refl
  one_set h i (suc w) zero e =
      let here : k ≡ i = omega arith in
      λ n. sym (sym (ap g here) ∙ h) n ∷ behind_same (i + 1) w (omega arith) n
  one_set h i (suc w) (suc at) e =
      λ n. sym (others i (λ (o : i ≡ k). omega arith)) n ∷ one_set h (i + 1) w at (omega arith) n

any_behind : (xs : List ℕ) (k j : ℕ) → has_slot (xs ++ k ∷ []) j ≡ (has_slot xs j || (k == j))
any_behind [] k j = or_nothing (k == j)
  where
    or_nothing : (b : Bool) → (b || false) ≡ b
    or_nothing true = refl
    or_nothing false = refl
any_behind (x ∷ xs) k j = either (x == j) (any_behind xs k j)
  where
    either : (b : Bool) → has_slot (xs ++ k ∷ []) j ≡ (has_slot xs j || (k == j)) → (b || has_slot (xs ++ k ∷ []) j) ≡ ((b || has_slot xs j) || (k == j))
    either true h = refl
    either false h = h

or_true : (b c : Bool) → c ≡ true → (b || c) ≡ true
or_true true c h = refl
or_true false c h = h

or_false : (b c : Bool) → c ≡ false → (b || c) ≡ b
or_false true c h = refl
or_false false c h = h

own_slot : (xs : List ℕ) (k : ℕ) → has_slot (xs ++ k ∷ []) k ≡ true
own_slot xs k = any_behind xs k k ∙ or_true (has_slot xs k) (k == k) (eq_true k k refl)

other_slot : (xs : List ℕ) (k j : ℕ) → j ≢ k → has_slot (xs ++ k ∷ []) j ≡ has_slot xs j
other_slot xs k j ne = any_behind xs k j ∙ or_false (has_slot xs j) (k == j) (eq_false k j (λ (e : k ≡ j). ne (sym e)))

none_plus : (n : ℕ) → n ≡ 0 + n
none_plus n = omega arith

-- the flag of one more slot
pub flag_set : (xs : List ℕ) (k w : ℕ) → set (map (has_slot xs) (range_with_len 0 w)) k true ≡ map (has_slot (xs ++ k ∷ [])) (range_with_len 0 w)
flag_set xs k w = one_set (has_slot xs) (has_slot (xs ++ k ∷ [])) k (other_slot xs k) (own_slot xs k) 0 w k (none_plus k)

pub no_flags : (w : ℕ) → map (has_slot []) (range_with_len 0 (w + 1)) ≡ map (has_slot []) (range_with_len 0 w) ++ false ∷ []
no_flags w = ap (map (has_slot [])) (range_next w) ∙ map-append (has_slot []) (range_with_len 0 w) (w ∷ [])
