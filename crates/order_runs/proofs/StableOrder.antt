-- The one sorted permutation that keeps ties in place. For other crates too.
use Rattle.std.proofs.Common.{◌≡◌, ◌⊎◌, ℕ, zero, suc, ◌+◌, Bool, true, false, not, ◌&&◌, cond, if◌then◌else◌, List, [], ◌∷◌, ◌++◌, get_or, refl, sym, ap, ◌∙◌, subst, arith, inl, inr}
use Rattle.std.specs.Cmp.{IsStrictWeakOrder}
use Rattle.std.specs.List.{filter}
use Rattle.std.specs.List.Sorted.{IsSortedBy, IsStableBy, ties}
use Rattle.order_runs.specs.Orders.{IsOrdered, placed, ordered}
use Rattle.order_runs.specs.Runs.{concat}

-- each list of the second is that of the first, ordered
abbrev pub AllOrdered : {X : Type 0} → (X → X → Bool) → List (List X) → List (List X) → Type 0
AllOrdered lt [] [] = Unit {0}
AllOrdered lt [] (ys ∷ yss) = ⊥
AllOrdered lt (xs ∷ xss) [] = ⊥
AllOrdered lt (xs ∷ xss) (ys ∷ yss) = IsOrdered lt xs ys × AllOrdered lt xss yss

module _ {X : Type 0} (lt : X → X → Bool) (o : IsStrictWeakOrder lt) where
  -- nothing is below y
  abbrev pub Above : X → List X → Type 0
  Above y [] = Unit {0}
  Above y (z ∷ zs) = (lt z y ≡ false) × Above y zs

  abbrev pub Ascends : List X → Type 0
  Ascends [] = Unit {0}
  Ascends (y ∷ ys) = Above y ys × Ascends ys

  never_by : (x : X) (t : Bool) → lt x x ≡ t → lt x x ≡ false
  never_by x true h = o.one_way x x h
  never_by x false h = h

  never_itself : (x : X) → lt x x ≡ false
  never_itself x = never_by x (lt x x) refl

  tie_of : (x y : X) → lt x y ≡ false → lt y x ≡ false → ties lt x y ≡ true
  tie_of x y h k = ap (λ (b : Bool). not b && not (lt y x)) h ∙ ap not k

  tie_cases : (a b : Bool) → (not a && not b) ≡ true → (a ≡ false) × (b ≡ false)
  tie_cases false false h = (refl, refl)
  tie_cases false true h = absurd cc
  tie_cases true b h = absurd cc

  tie_means : (x y : X) → ties lt x y ≡ true → (lt x y ≡ false) × (lt y x ≡ false)
  tie_means x y h = tie_cases (lt x y) (lt y x) h

  -- from the form by neighbours
  tail_sorted : (y : X) (ys : List X) → IsSortedBy lt (y ∷ ys) → IsSortedBy lt ys
  tail_sorted y ys h k d le far = let e : suc k + 1 ≡ suc (k + 1) = omega arith in subst (λ (i : ℕ). lt (get_or (y ∷ ys) i d) (get_or ys k d) ≡ false) e (h (suc k) d (omega arith) (omega arith))

  above_chain : (x y : X) (zs : List X) → lt y x ≡ false → Above y zs → Above x zs
  above_chain x y [] h a = tt
  above_chain x y (z ∷ zs) h (k, a) = (o.chain z y x k h, above_chain x y zs h a)

  pub ascends_from : (ys : List X) → IsSortedBy lt ys → Ascends ys
  ascends_from [] h = tt
  ascends_from (y ∷ []) h = (tt, tt)
  ascends_from (y ∷ z ∷ zs) h =
      let rest = ascends_from (z ∷ zs) (tail_sorted y (z ∷ zs) h) in
      let first : lt z y ≡ false = h 0 y (omega arith) (omega arith) in
      ((first, above_chain y z zs first rest.0), rest)

  pub ascends_to : (ys : List X) → Ascends ys → IsSortedBy lt ys
  ascends_to [] a k d le far = absurd (omega arith)
  ascends_to (y ∷ []) a k d le far = absurd (omega arith)
  ascends_to (y ∷ z ∷ zs) ((h, a), r) zero d le far = h
  ascends_to (y ∷ z ∷ zs) (a, r) (suc k) d le far = let e : suc (k + 1) ≡ suc k + 1 = omega arith in subst (λ (i : ℕ). lt (get_or (y ∷ z ∷ zs) i d) (get_or (z ∷ zs) k d) ≡ false) e (ascends_to (z ∷ zs) r k d (omega arith) (omega arith))

  -- an element that ties with x stands in ys where x stands in front of zs
  abbrev In : X → List X → Type 0
  In x [] = ⊥
  In x (y ∷ ys) = (x ≡ y) ⊎ In x ys

  in_above : (x y : X) (ys : List X) → In x ys → Above y ys → lt x y ≡ false
  in_above x y [] i a = absurd i
  in_above x y (z ∷ zs) (inl e) (h, a) = subst (λ (w : X). lt w y ≡ false) (sym e) h
  in_above x y (z ∷ zs) (inr i) (h, a) = in_above x y zs i a

  in_step : (p : X → Bool) (x : X) (xs : List X) (y : X) (ys : List X) (b : Bool) → cond b (y ∷ filter p ys) (filter p ys) ≡ x ∷ xs → (filter p ys ≡ x ∷ xs → In x ys) → (x ≡ y) ⊎ In x ys
  in_step p x xs y ys true h rest = inl cc
  in_step p x xs y ys false h rest = inr (rest h)

  in_filter : (p : X → Bool) (x : X) (xs : List X) (ys : List X) → filter p ys ≡ x ∷ xs → In x ys
  in_filter p x xs [] h = absurd cc
  in_filter p x xs (y ∷ ys) h = in_step p x xs y ys (p y) h (in_filter p x xs ys)

  filter_head : (p : X → Bool) (y : X) (ys : List X) → p y ≡ true → filter p (y ∷ ys) ≡ y ∷ filter p ys
  filter_head p y ys h = ap (λ (b : Bool). cond b (y ∷ filter p ys) (filter p ys)) h

  tie_self : (x : X) → ties lt x x ≡ true
  tie_self x = tie_of x x (never_itself x) (never_itself x)

  -- the head of one list is not above the head of the other
  heads_in : (y : X) (ys : List X) (z : X) → Above y ys → In z (y ∷ ys) → lt z y ≡ false
  heads_in y ys z a (inl e) = subst (λ (w : X). lt w y ≡ false) (sym e) (never_itself y)
  heads_in y ys z a (inr i) = in_above z y ys i a

  heads : (y : X) (ys : List X) (z : X) (zs : List X) → Ascends (y ∷ ys) → filter (ties lt z) (y ∷ ys) ≡ filter (ties lt z) (z ∷ zs) → lt z y ≡ false
  heads y ys z zs (a, r) h = heads_in y ys z a (in_filter (ties lt z) z (filter (ties lt z) zs) (y ∷ ys) (h ∙ filter_head (ties lt z) z zs (tie_self z)))

  drop_case : (b : Bool) (y : X) (ys zs : List X) → cond b (y ∷ ys) ys ≡ cond b (y ∷ zs) zs → ys ≡ zs
  drop_case true y ys zs h = cc
  drop_case false y ys zs h = h

  drop_head : (p : X → Bool) (y : X) (ys zs : List X) → filter p (y ∷ ys) ≡ filter p (y ∷ zs) → filter p ys ≡ filter p zs
  drop_head p y ys zs h = drop_case (p y) y (filter p ys) (filter p zs) h

  only_step : (y z : X) (ys zs : List X) → y ≡ z → Ascends ys → Ascends zs → ((x : X) → filter (ties lt x) (y ∷ ys) ≡ filter (ties lt x) (z ∷ zs))
      → (Ascends ys → Ascends zs → ((x : X) → filter (ties lt x) ys ≡ filter (ties lt x) zs) → ys ≡ zs) → y ∷ ys ≡ z ∷ zs
  only_step y z ys zs same a b h rest =
      let tails : ys ≡ zs = rest a b (λ x. drop_head (ties lt x) y ys zs (h x ∙ ap (λ (w : X). filter (ties lt x) (w ∷ zs)) (sym same))) in cc

  pub only_one : (ys zs : List X) → Ascends ys → Ascends zs → ((x : X) → filter (ties lt x) ys ≡ filter (ties lt x) zs) → ys ≡ zs
  only_one [] [] a b h = refl
  only_one [] (z ∷ zs) a b h = let m = h z ∙ filter_head (ties lt z) z zs (tie_self z) in absurd cc
  only_one (y ∷ ys) [] a b h = let m = sym (h y) ∙ filter_head (ties lt y) y ys (tie_self y) in absurd cc
  only_one (y ∷ ys) (z ∷ zs) a b h =
      let up : lt z y ≡ false = heads y ys z zs a (h z) in
      let down : lt y z ≡ false = heads z zs y ys b (sym (h y)) in
      let front : y ∷ filter (ties lt y) ys ≡ z ∷ filter (ties lt y) zs = sym (filter_head (ties lt y) y ys (tie_self y)) ∙ h y ∙ filter_head (ties lt y) z zs (tie_of y z down up) in
      let same : y ≡ z = cc in
      only_step y z ys zs same a.1 b.1 h (only_one ys zs)

  -- two lists that are the ordered list are one
  pub unique : (xs ys zs : List X) → IsOrdered lt xs ys → IsOrdered lt xs zs → ys ≡ zs
  unique xs ys zs a b = only_one ys zs (ascends_from ys a.ascends) (ascends_from zs b.ascends) (λ x. a.stable x ∙ sym (b.stable x))

  -- the ordered list is the one that insertion gives
  above_case : (b : Bool) (y x z : X) (zs : List X) → lt x y ≡ false → lt z y ≡ false → Above y zs → Above y (placed lt x zs) → Above y (if b then z ∷ placed lt x zs else (x ∷ z ∷ zs))
  above_case true y x z zs h k a r = (k, r)
  above_case false y x z zs h k a r = (h, (k, a))

  above_placed : (y x : X) (ys : List X) → lt x y ≡ false → Above y ys → Above y (placed lt x ys)
  above_placed y x [] h a = (h, tt)
  above_placed y x (z ∷ zs) h (k, a) = above_case (lt z x) y x z zs h k a (above_placed y x zs h a)

  placed_case : (b : Bool) (x y : X) (ys : List X) → lt y x ≡ b → Above y ys → Ascends ys → Ascends (placed lt x ys) → Ascends (if b then y ∷ placed lt x ys else (x ∷ y ∷ ys))
  placed_case true x y ys e a r rest = (above_placed y x ys (o.one_way y x e) a, rest)
  placed_case false x y ys e a r rest = ((e, above_chain x y ys e a), (a, r))

  placed_ascends : (x : X) (ys : List X) → Ascends ys → Ascends (placed lt x ys)
  placed_ascends x [] a = (tt, tt)
  placed_ascends x (y ∷ ys) (a, r) = placed_case (lt y x) x y ys refl a r (placed_ascends x ys r)

  ordered_ascends : (xs : List X) → Ascends (ordered lt xs)
  ordered_ascends [] = tt
  ordered_ascends (x ∷ xs) = placed_ascends x (ordered lt xs) (ordered_ascends xs)

  -- a tie is one of two that differ
  apart : (w x y : X) → lt y x ≡ true → ties lt w x ≡ true → ties lt w y ≡ true → ⊥
  apart w x y h a b =
      let p = tie_means w x a in let q = tie_means w y b in
      let r : lt y x ≡ false = o.chain y w x q.1 p.0 in cc

  swap_case : (s t : Bool) (x y : X) (zs : List X) → (s ≡ true → t ≡ true → ⊥) → cond t (y ∷ cond s (x ∷ zs) zs) (cond s (x ∷ zs) zs) ≡ cond s (x ∷ cond t (y ∷ zs) zs) (cond t (y ∷ zs) zs)
  swap_case true true x y zs h = absurd (h refl refl)
  swap_case true false x y zs h = refl
  swap_case false true x y zs h = refl
  swap_case false false x y zs h = refl

  stable_case : (b : Bool) (w x y : X) (ys : List X) → lt y x ≡ b → filter (ties lt w) (placed lt x ys) ≡ filter (ties lt w) (x ∷ ys)
      → filter (ties lt w) (if b then y ∷ placed lt x ys else (x ∷ y ∷ ys)) ≡ filter (ties lt w) (x ∷ y ∷ ys)
  stable_case true w x y ys e h = ap (λ (zs : List X). cond (ties lt w y) (y ∷ zs) zs) h ∙ swap_case (ties lt w x) (ties lt w y) x y (filter (ties lt w) ys) (apart w x y e)
  stable_case false w x y ys e h = refl

  placed_stable : (w x : X) (ys : List X) → filter (ties lt w) (placed lt x ys) ≡ filter (ties lt w) (x ∷ ys)
  placed_stable w x [] = refl
  placed_stable w x (y ∷ ys) = stable_case (lt y x) w x y ys refl (placed_stable w x ys)

  ordered_stable : (xs : List X) → IsStableBy lt xs (ordered lt xs)
  ordered_stable [] w = refl
  ordered_stable (x ∷ xs) w = placed_stable w x (ordered lt xs) ∙ ap (λ (zs : List X). cond (ties lt w x) (x ∷ zs) zs) (ordered_stable xs w)

  pub ordered_is : (xs : List X) → IsOrdered lt xs (ordered lt xs)
  ordered_is xs = record { ascends = ascends_to (ordered lt xs) (ordered_ascends xs); stable = ordered_stable xs }

  pub is_ordered : (xs ys : List X) → IsOrdered lt xs ys → ys ≡ ordered lt xs
  is_ordered xs ys a = unique xs ys (ordered lt xs) a (ordered_is xs)

  -- runs of runs
  append_case : (b : Bool) (x : X) (xs ys zs : List X) → zs ≡ xs ++ ys → cond b (x ∷ zs) zs ≡ cond b (x ∷ xs) xs ++ ys
  append_case true x xs ys zs h = ap (λ (us : List X). x ∷ us) h
  append_case false x xs ys zs h = h

  filter-append : (p : X → Bool) (xs ys : List X) → filter p (xs ++ ys) ≡ filter p xs ++ filter p ys
  filter-append p [] ys = refl
  filter-append p (x ∷ xs) ys = append_case (p x) x (filter p xs) (filter p ys) (filter p (xs ++ ys)) (filter-append p xs ys)

  runs_stable : (xss yss : List (List X)) → AllOrdered lt xss yss → IsStableBy lt (concat xss) (concat yss)
  runs_stable [] [] a w = refl
  runs_stable [] (ys ∷ yss) a w = absurd a
  runs_stable (xs ∷ xss) [] a w = absurd a
  runs_stable (xs ∷ xss) (ys ∷ yss) (a, r) w =
      filter-append (ties lt w) ys (concat yss) ∙ ap (λ (zs : List X). zs ++ filter (ties lt w) (concat yss)) (a.stable w) ∙ ap (λ (zs : List X). filter (ties lt w) xs ++ zs) (runs_stable xss yss r w) ∙ sym (filter-append (ties lt w) xs (concat xss))

  -- the merge of the ordered runs is the order of all that they were made of
  pub merged : (xss yss : List (List X)) (zs : List X) → AllOrdered lt xss yss → IsOrdered lt (concat yss) zs → zs ≡ ordered lt (concat xss)
  merged xss yss zs a m = is_ordered (concat xss) zs (record { ascends = m.ascends; stable = λ w. m.stable w ∙ runs_stable xss yss a w })
