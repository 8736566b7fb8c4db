-- What the calls that make an array or an object give, and when they refuse it.
use Rattle.std.specs.Prelude.{◌≡◌, ℕ, ◌<◌, ◌⊎◌, List, [], ◌∷◌, length, take, get_or, Result, MatchResult, Option, MatchOption}
use Rattle.item_tree.specs.declared.fault.MakeFault.{MakeFault}
use Rattle.item_tree.specs.declared.fault.MakeFault.TheVariants.{KeyTwice, TooDeep, NoMemory}
use Rattle.item_tree.specs.declared.item.Item.{Item}
use Rattle.item_tree.specs.Datum.{Datum, null, depth, KeysDiffer, array_of_list, object_of_pairs}
use Rattle.item_tree.specs.Item.{datum}
use Rattle.item_tree.specs.Lookup.{Index, ArePlaces}

-- some value has depth 128
abbrev pub HasDeep : List Datum → Type 0
HasDeep [] = ⊥
HasDeep (v ∷ vs) = (depth v ≡ 128) ⊎ HasDeep vs

abbrev pub ArrayRefused : List Datum → MakeFault → Type 0
ArrayRefused vs (KeyTwice at) = ⊥
ArrayRefused vs TooDeep = HasDeep vs
ArrayRefused vs NoMemory = Unit {0}

-- some pair has this key
abbrev pub HasKey : List ℕ → List (List ℕ × Datum) → Type 0
HasKey k [] = ⊥
HasKey k (p ∷ ps) = (k ≡ p.0) ⊎ HasKey k ps

-- the keys before this position differ, and the key there is one of them
pub record IsFirstRepeat (ps : List (List ℕ × Datum)) (at : ℕ) : Type 0 where
  pub inside : at < length ps
  pub before : KeysDiffer (take at ps)
  pub again : HasKey (get_or ps at ([], null)).0 (take at ps)

-- a list of keys is refused for a repeat alone
abbrev pub RepeatRefused : List (List ℕ × Datum) → MakeFault → Type 0
RepeatRefused ps (KeyTwice at) = IsFirstRepeat ps at
RepeatRefused ps TooDeep = ⊥
RepeatRefused ps NoMemory = Unit {0}

-- some pair's value has depth 128
abbrev pub HasDeepPair : List (List ℕ × Datum) → Type 0
HasDeepPair [] = ⊥
HasDeepPair (p ∷ ps) = (depth p.1 ≡ 128) ⊎ HasDeepPair ps

-- of pairs whose keys differ
abbrev pub DistinctRefused : List (List ℕ × Datum) → MakeFault → Type 0
DistinctRefused ps (KeyTwice at) = ⊥
DistinctRefused ps TooDeep = HasDeepPair ps
DistinctRefused ps NoMemory = Unit {0}

abbrev pub ObjectRefused : List (List ℕ × Datum) → MakeFault → Type 0
ObjectRefused ps (KeyTwice at) = IsFirstRepeat ps at
ObjectRefused ps TooDeep = KeysDiffer ps × HasDeepPair ps
ObjectRefused ps NoMemory = Unit {0}

-- the array of these values, the object of these pairs, and the same where their keys differ
abbrev pub MakesArray : List Datum → Result Item MakeFault → Type 0
MakesArray vs r = MatchResult r (λ x. datum x ≡ array_of_list vs) (ArrayRefused vs)

abbrev pub MakesObject : List (List ℕ × Datum) → Result Item MakeFault → Type 0
MakesObject ps r = MatchResult r (λ x. datum x ≡ object_of_pairs ps) (ObjectRefused ps)

abbrev pub MakesDistinct : List (List ℕ × Datum) → Result Item MakeFault → Type 0
MakesDistinct ps r = MatchResult r (λ x. datum x ≡ object_of_pairs ps) (DistinctRefused ps)

-- the list of these pairs, whose keys differ
abbrev pub MakesList : List (List ℕ × Datum) → Result (List (List ℕ × Datum)) MakeFault → Type 0
MakesList ps r = MatchResult r (λ l. (l ≡ ps) × KeysDiffer ps) (RepeatRefused ps)

-- the index of these pairs, whose keys differ
abbrev pub MakesIndex : List (List ℕ × Datum) → Result Index MakeFault → Type 0
MakesIndex ps r = MatchResult r (λ m. KeysDiffer ps × ArePlaces m ps) (RepeatRefused ps)

-- the first pair whose key repeats an earlier one, or none
abbrev pub FindsRepeat : List (List ℕ × Datum) → Option ℕ → Type 0
FindsRepeat ps o = MatchOption o (KeysDiffer ps) (IsFirstRepeat ps)
