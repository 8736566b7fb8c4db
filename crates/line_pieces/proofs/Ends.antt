-- Where the first line feed stands.
use Rattle.std.proofs.Common.{◌≡◌, ◌≤◌, ◌<◌, ◌+◌, ◌++◌, ℕ, zero, suc, List, [], ◌∷◌, Bool, true, false, cond, not, None, Some, length, take, drop, position, refl, ap, ◌∙◌, arith, nat_lt, add-one, rules}
use Rattle.std.specs.List.{before_first, position_or_len}
use Rattle.std.proofs.lemmas.Bool.Decides.{nat_tests}
use Rattle.line_pieces.specs.inside.Contents.{is_end}
use Rattle.line_pieces.proofs.Placed.{NoEnd}
use Rattle.line_pieces.proofs.Windows.{before_step}

none_up_to : (xs : List ℕ) → length xs ≤ position_or_len is_end xs → NoEnd xs
none_up_to [] h = tt
none_up_to (x ∷ xs) h = by (is_end x) refl h (none_up_to xs)
  where
    by : (b : Bool) → is_end x ≡ b → length (x ∷ xs) ≤ cond (not b) (1 + position_or_len is_end xs) 0
        → (length xs ≤ position_or_len is_end xs → NoEnd xs) → NoEnd (x ∷ xs)
    by true e h ih = absurd (omega arith)
    by false e h ih = (e, ih (omega arith))

-- no byte is a line feed
pub none_ends : (xs : List ℕ) → position is_end xs ≡ None → NoEnd xs
none_ends xs e = by (nat_lt (position_or_len is_end xs) (length xs)) refl e
  where
    by : (b : Bool) → nat_lt (position_or_len is_end xs) (length xs) ≡ b
        → cond b (Some (position_or_len is_end xs)) None ≡ None → NoEnd xs
    by true t e = absurd (none_is_some (position_or_len is_end xs) e)
      where
        none_is_some : (n : ℕ) → Some n ≡ None → ⊥
        none_is_some n e = search rules
    by false t e = none_up_to xs (grind (arith, nat_tests))

-- what the first line feed parts
pub record IsParted (xs : List ℕ) (i : ℕ) : Type 0 where
  pub inside : i < length xs
  pub none : NoEnd (take i xs)
  pub parts : xs ≡ take i xs ++ 10 ∷ drop (i + 1) xs
  pub before : (z : List ℕ) → before_first is_end (xs ++ z) ≡ take i xs

further : (x i : ℕ) (xs : List ℕ)
    → x ∷ (take i xs ++ 10 ∷ drop (i + 1) xs) ≡ take (suc i) (x ∷ xs) ++ 10 ∷ drop (suc i + 1) (x ∷ xs)
further x i xs = rw (add-one, add-one) refl

parted_at : (xs : List ℕ) (i : ℕ) → position_or_len is_end xs ≡ i → i < length xs → IsParted xs i
parted_at [] i e h = absurd (omega arith)
parted_at (x ∷ xs) i e h = by (is_end x) refl i e h (parted_at xs)
  where
    by : (b : Bool) → is_end x ≡ b → (i : ℕ) → cond (not b) (1 + position_or_len is_end xs) 0 ≡ i → i < length (x ∷ xs)
        → ((i : ℕ) → position_or_len is_end xs ≡ i → i < length xs → IsParted xs i) → IsParted (x ∷ xs) i
    by true t zero e h ih = record {
      inside = h;
      none = tt;
      parts = let feed : x ≡ 10 = grind (arith, nat_tests) in ap (λ (b : ℕ). b ∷ xs) feed;
      before = λ z. rw t refl;
    }
    by true t (suc i) e h ih = absurd (omega arith)
    by false t zero e h ih = absurd (omega arith)
    by false t (suc i) e h ih =
        let rest = ih i (omega arith) (omega arith) in record {
          inside = h;
          none = (t, rest.none);
          parts = ap (λ (r : List ℕ). x ∷ r) rest.parts ∙ further x i xs;
          before = λ z. before_step x (xs ++ z) t ∙ ap (λ (r : List ℕ). x ∷ r) (rest.before z);
        }

pub parted : (xs : List ℕ) (i : ℕ) → position is_end xs ≡ Some i → IsParted xs i
parted xs i e = by (nat_lt (position_or_len is_end xs) (length xs)) refl e
  where
    by : (b : Bool) → nat_lt (position_or_len is_end xs) (length xs) ≡ b
        → cond b (Some (position_or_len is_end xs)) None ≡ Some i → IsParted xs i
    by true t e =
        let same : position_or_len is_end xs ≡ i = cc in
        parted_at xs i same (grind (arith, nat_tests))
    by false t e = absurd (none_is_some i e)
      where
        none_is_some : (n : ℕ) → None ≡ Some n → ⊥
        none_is_some n e = search rules

-- bytes without a line feed stand before the first one
pub before_past : (f z : List ℕ) → NoEnd f → before_first is_end (f ++ z) ≡ f ++ before_first is_end z
before_past [] z none = refl
before_past (x ∷ f) z none = before_step x (f ++ z) none.0 ∙ ap (λ (r : List ℕ). x ∷ r) (before_past f z none.1)
