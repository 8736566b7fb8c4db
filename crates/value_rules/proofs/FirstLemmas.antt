-- The first of each, one item longer; and keys that differ. For other crates too.
use Rattle.std.proofs.Common.{◌≡◌, Bool, true, false, cond, not, ◌||◌, List, [], ◌∷◌, ◌++◌, refl, ap, ◌∙◌}
use Rattle.std.specs.List.{filter, list_any}
use Rattle.value_rules.specs.Sequences.{firsts}

pub filter-append : {X : Type 0} (test : X → Bool) (xs ys : List X) → filter test (xs ++ ys) ≡ filter test xs ++ filter test ys
filter-append test [] ys = refl
filter-append test (x ∷ xs) ys = by (test x) (filter-append test xs ys)
  where
    by : (b : Bool) → filter test (xs ++ ys) ≡ filter test xs ++ filter test ys → cond b (x ∷ filter test (xs ++ ys)) (filter test (xs ++ ys)) ≡ cond b (x ∷ filter test xs) (filter test xs) ++ filter test ys
    by true h = ap (λ zs. x ∷ zs) h
    by false h = h

-- a further item is the first of its kind where none before it is the same
abbrev pub further : {X : Type 0} → (X → X → Bool) → List X → X → List X
further same xs x = cond (list_any (λ w. same w x) xs) [] (x ∷ [])

pub firsts-push : {X : Type 0} (same : X → X → Bool) (xs : List X) (x : X) → firsts same (xs ++ x ∷ []) ≡ firsts same xs ++ further same xs x
firsts-push same [] x = refl
firsts-push {X} same (w ∷ xs) x =
    ap (λ ys. w ∷ filter (λ y. not (same w y)) ys) (firsts-push same xs x)
    ∙ ap (λ ys. w ∷ ys) (filter-append (λ y. not (same w y)) (firsts same xs) (further same xs x) ∙ ap (λ ys. filter (λ y. not (same w y)) (firsts same xs) ++ ys) (by (same w x) (list_any (λ v. same v x) xs) refl))
  where
    by : (a b : Bool) → same w x ≡ a → filter (λ y. not (same w y)) (cond b [] (x ∷ [])) ≡ cond (a || b) [] (x ∷ [])
    by true true e = refl
    by false true e = refl
    by true false e = ap (λ c. cond (not c) (x ∷ []) []) e
    by false false e = ap (λ c. cond (not c) (x ∷ []) []) e
