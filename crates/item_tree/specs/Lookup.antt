-- Where a key stands in a list of pairs, and the pairs with one more put among them.
use Rattle.std.specs.Prelude.{◌≡◌, ℕ, suc, Option, Some, None, option_map, List, [], ◌∷◌, ◌++◌, if◌then◌else◌}
use Rattle.std.specs.BTreeMap.{BTreeMap, get}
use Rattle.std.specs.Cmp.Lexicographic.{slice_cmp}
use Rattle.std.specs.Ordering.{nat_cmp}
use Rattle.std.specs.Option.{ForSome}
use Rattle.std.specs.Str.{bytes_eq}
use Rattle.item_tree.specs.Datum.{Datum, Sound, KeysDiffer, depth, object_of_pairs}

-- the position of the first pair with this key
abbrev pub place_of : List ℕ → List (List ℕ × Datum) → Option ℕ
place_of k [] = None
place_of k (p ∷ ps) = if bytes_eq k p.0 then Some 0 else option_map suc (place_of k ps)

-- the value of the first pair with this key
abbrev pub lookup : List ℕ → List (List ℕ × Datum) → Option Datum
lookup k [] = None
lookup k (p ∷ ps) = if bytes_eq k p.0 then Some p.1 else lookup k ps

-- a key that is there keeps its place and takes the value, and a new key goes last
abbrev pub put : List ℕ → Datum → List (List ℕ × Datum) → List (List ℕ × Datum)
put k v [] = (k, v) ∷ []
put k v (p ∷ ps) = if bytes_eq k p.0 then (p.0, v) ∷ ps else p ∷ put k v ps

-- what comes of another value at this position, where a key has it
abbrev pub PutsAt : ℕ → Datum → List (List ℕ × Datum) → List (List ℕ × Datum) → Type 0
PutsAt i v old new = (k : List ℕ) → Some i ≡ place_of k old → new ≡ put k v old

-- an index of keys in the order of strings, with the position of each
abbrev pub Index : Type 0
Index = BTreeMap (List ℕ) ℕ

abbrev pub ArePlaces : Index → List (List ℕ × Datum) → Type 0
ArePlaces m ps = (k : List ℕ) → get (λ a b. slice_cmp nat_cmp a b) m k ≡ place_of k ps

-- the index, where there is one, is that of the pairs
abbrev pub Indexes : Option Index → List (List ℕ × Datum) → Type 0
Indexes o ps = ForSome o (λ m. ArePlaces m ps)

-- and that of the pairs with one more that has this key
abbrev pub IndexesMore : Option Index → List ℕ → List (List ℕ × Datum) → Type 0
IndexesMore o k ps = (v : Datum) → Indexes o (ps ++ (k, v) ∷ [])

-- what holds of pairs with different keys and their index
abbrev pub IsIndexed : Option Index → List (List ℕ × Datum) → Type 0
IsIndexed o ps = KeysDiffer ps × Indexes o ps

-- what holds of an object's pairs, its depth and its index
abbrev pub IsObjectKept : ℕ → Option Index → List (List ℕ × Datum) → Type 0
IsObjectKept n o ps = (n ≡ depth (object_of_pairs ps)) × Sound (object_of_pairs ps) × Indexes o ps
