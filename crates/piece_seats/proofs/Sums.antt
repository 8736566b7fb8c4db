-- The sum of counts rises where one of them does and none falls.
use Rattle.std.proofs.Common.{◌≡◌, ℕ, zero, suc, ◌<◌, ◌≤◌, inl, inr, List, [], ◌∷◌, length, map, sum_by, slice_index, refl, arith}
use Rattle.std.proofs.lemmas.List.Sums.{sum_by-cons}
use Rattle.outside.specs.Counted.{Rose}
use Rattle.line_pieces.specs.Faults.{NoneFalls}

module _ {A : Type 0} (f : A → ℕ) where
  none_falls_behind : (x y : A) (xs ys : List A) → NoneFalls (map f (x ∷ xs)) (map f (y ∷ ys)) → NoneFalls (map f xs) (map f ys)
  none_falls_behind x y xs ys h file = h (suc file)

  pub sum_rises : (xs ys : List A) → length xs ≡ length ys → NoneFalls (map f xs) (map f ys) → sum_by f xs ≤ sum_by f ys
  sum_rises [] ys e h = omega arith
  sum_rises (x ∷ xs) [] e h = absurd (omega arith)
  sum_rises (x ∷ xs) (y ∷ ys) e h =
      let first : f x ≤ f y = h 0 in
      let k : length xs ≡ length ys = omega arith in
      let rest : sum_by f xs ≤ sum_by f ys = sum_rises xs ys k (none_falls_behind x y xs ys h) in
      let a = sum_by-cons f x xs in let b = sum_by-cons f y ys in
      omega arith

  member : (ys : List A) (file : ℕ) → slice_index (map f ys) file ≤ sum_by f ys
  member [] file = omega arith
  member (y ∷ ys) zero = let b = sum_by-cons f y ys in let c : slice_index (map f (y ∷ ys)) 0 ≡ f y = refl in omega arith
  member (y ∷ ys) (suc file) =
      let k = member ys file in let b = sum_by-cons f y ys in
      let c : slice_index (map f (y ∷ ys)) (suc file) ≡ slice_index (map f ys) file = refl in omega arith

  sum_more : (xs ys : List A) (file : ℕ) → length xs ≡ length ys → NoneFalls (map f xs) (map f ys) → slice_index (map f xs) file < slice_index (map f ys) file → sum_by f xs < sum_by f ys
  sum_more [] [] file e h l = absurd (omega arith)
  sum_more [] (y ∷ ys) file e h l = absurd (omega arith)
  sum_more (x ∷ xs) [] file e h l = absurd (omega arith)
  sum_more (x ∷ xs) (y ∷ ys) zero e h l =
      let less : f x < f y = l in
      let k : length xs ≡ length ys = omega arith in
      let rest : sum_by f xs ≤ sum_by f ys = sum_rises xs ys k (none_falls_behind x y xs ys h) in
      let a = sum_by-cons f x xs in let b = sum_by-cons f y ys in
      omega arith
  sum_more (x ∷ xs) (y ∷ ys) (suc file) e h l =
      let first : f x ≤ f y = h 0 in
      let k : length xs ≡ length ys = omega arith in
      let rest : sum_by f xs < sum_by f ys = sum_more xs ys file k (none_falls_behind x y xs ys h) l in
      let a = sum_by-cons f x xs in let b = sum_by-cons f y ys in
      omega arith

  pub sum_rose : (xs ys : List A) (file : ℕ) → length xs ≡ length ys → NoneFalls (map f xs) (map f ys) → Rose (slice_index (map f xs) file) (slice_index (map f ys) file) → Rose (sum_by f xs) (sum_by f ys)
  sum_rose xs ys file e h (inl l) = inl (sum_more xs ys file e h l)
  sum_rose xs ys file e h (inr full) = let k = member ys file in inr (omega arith)

-- lists that tell the same are of one length
pub as_long : {A B : Type 0} (f : A → B) (xs ys : List A) → map f xs ≡ map f ys → length ys ≡ length xs
as_long f [] [] h = refl
as_long f [] (y ∷ ys) h = absurd cc
as_long f (x ∷ xs) [] h = absurd cc
as_long f (x ∷ xs) (y ∷ ys) h = let k = as_long f xs ys cc in omega arith

pub same_sum : {A : Type 0} (f : A → ℕ) (xs ys : List A) → map f xs ≡ map f ys → sum_by f xs ≡ sum_by f ys
same_sum f [] [] h = refl
same_sum f [] (y ∷ ys) h = absurd cc
same_sum f (x ∷ xs) [] h = absurd cc
same_sum f (x ∷ xs) (y ∷ ys) h =
    let first : f x ≡ f y = cc in
    let rest : sum_by f xs ≡ sum_by f ys = same_sum f xs ys cc in
    let a = sum_by-cons f x xs in let b = sum_by-cons f y ys in
    omega arith
