-- Tuples put into groups one after the other.
use Rattle.std.specs.Prelude.{Bool, List, [], ◌∷◌, ◌++◌, if◌then◌else◌, map}

abbrev pub keys_in : {K T : Type 0} → List (K × T) → List K
keys_in X = map (λ p. p.0) X

-- for each of the keys, what has them
abbrev pub parted : {K T : Type 0} → List K → (K → List T) → List (K × List T)
parted ks f = map (λ k. (k, f k)) ks

module _ {K T : Type 0} (same : K → K → Bool) where
  -- one tuple more
  abbrev pub added : List (K × List T) → K → T → List (K × List T)
  added [] k t = (k, t ∷ []) ∷ []
  added (e ∷ es) k t = if same k e.0 then (e.0, e.1 ++ t ∷ []) ∷ es else e ∷ added es k t

  -- one group more
  abbrev pub put_in : List (K × List T) → K → List T → List (K × List T)
  put_in [] k ts = (k, ts) ∷ []
  put_in (e ∷ es) k ts = if same k e.0 then (e.0, e.1 ++ ts) ∷ es else e ∷ put_in es k ts

  -- groups behind groups
  abbrev pub merged : List (K × List T) → List (K × List T) → List (K × List T)
  merged es [] = es
  merged es (g ∷ gs) = merged (put_in es g.0 g.1) gs
