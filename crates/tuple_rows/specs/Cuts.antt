-- Tables cut into smaller ones.
use Rattle.std.specs.Prelude.{◌≡◌, ◌≢◌, ℕ, ◌<◌, List, [], ◌∷◌, ◌++◌, take, drop}
use Rattle.tuple_rows.specs.Tuples.{Row, Table}

-- each table takes the first tuples of what is left, so many of them or all, until none are left
abbrev pub IsCut : (width size : ℕ) → List Row → List Table → Type 0
IsCut width size ts [] = ts ≡ []
IsCut width size ts (p ∷ ps) =
    (ts ≢ []) × (p ≡ record { width = width; tuples = take size ts })
    × IsCut width size (drop size ts) ps

-- what is left makes one more table, if it is anything
abbrev pub EndsCut : ℕ → List Row → List Table → List Table → Type 0
EndsCut width [] whole tables = tables ≡ whole
EndsCut width (t ∷ ts) whole tables =
    tables ≡ whole ++ record { width = width; tuples = t ∷ ts } ∷ []

abbrev pub all_tuples : List Table → List Row
all_tuples [] = []
all_tuples (p ∷ ps) = p.tuples ++ all_tuples ps

-- there is a cut and only one, and the tuples of its tables in order are those that were cut
pub record CutsAreWhole : Type 0 where
  pub exists : (width size : ℕ) (ts : List Row) → 0 < size
      → (ps : List Table) × IsCut width size ts ps
  pub only : (width size : ℕ) (ts : List Row) (ps qs : List Table) → IsCut width size ts ps
      → IsCut width size ts qs → ps ≡ qs
  pub whole : (width size : ℕ) (ts : List Row) (ps : List Table) → IsCut width size ts ps
      → all_tuples ps ≡ ts
