-- The first end of a line as a place of a list, and the count of ends so far.
use Rattle.std.proofs.Common.{◌≡◌, ℕ, ◌+◌, Bool, not, List, length, take, drop, Option, Some, None, sym, ap, ◌∙◌, arith}
use Rattle.std.proofs.Math.Seq.{take-add}
use Rattle.std.proofs.lemmas.Bool.{false_from_ne_true, not_from_true, not_from_false, cond-true, cond-false, lt-ltb, le-ltb}
use Rattle.std.proofs.lemmas.List.Sums.{prefix_len_is, sum_by-append}
use Rattle.std.specs.List.{position, position_or_len, count_by}
use Rattle.memchr.specs.Find.{IsFirstByte}

module _ (p : ℕ → Bool) (b : List ℕ) where
  pub IsFirstByte_position : (r : Option ℕ) → IsFirstByte p b r → r ≡ position p b
  IsFirstByte_position None nowhere =
      let none =
      prefix_len_is (λ x. not (p x)) b (length b) 0 (omega arith)
      (λ k below. not_from_false _ (false_from_ne_true _ (nowhere k (omega arith) below))) (λ inside. absurd (omega arith)) in
      sym (cond-false _ _ _ (le-ltb (position_or_len p b) (length b) (omega (arith, none))))
  IsFirstByte_position (Some k) first =
      let here =
      prefix_len_is (λ x. not (p x)) b k 0 (omega (arith, first.0.high))
      (λ j below. not_from_false _ (false_from_ne_true _ (first.0.before j (omega arith) below))) (λ inside. not_from_true _ first.1) in
      ap Some (sym here) ∙ sym (cond-true _ _ _ (lt-ltb (position_or_len p b) (length b) (omega (arith, here, first.0.high))))

  pub count_block : (at n : ℕ)
      → count_by p (take (at + n) b) ≡ count_by p (take at b) + count_by p (take n (drop at b))
  count_block at n = ap (count_by p) (take-add at n b) ∙ sum_by-append _ (take at b) (take n (drop at b))
