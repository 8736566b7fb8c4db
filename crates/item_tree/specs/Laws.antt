-- Laws of comparisons, of depth and of functions.
use Rattle.std.specs.Prelude.{◌≡◌, ◌≢◌, ℕ, pos, ◌+◌, ◌≤◌, max, Bool, true, false, Option, Some, None, option_map, List, [], ◌∷◌, map, IsSome, if◌then◌else◌}
use Rattle.std.specs.Ordering.{ordering_reverse, int_cmp}
use Rattle.std.specs.declared.cmp.Ordering.TheVariants.{Less, Equal}
use Rattle.item_tree.specs.Dates.{Date, IsDate, date_cmp, first_of_1970, day_number}
use Rattle.item_tree.specs.declared.functions.FnId.{FnId}
use Rattle.item_tree.specs.Functions.{name_of, takes_arity, function_named}
use Rattle.item_tree.specs.Datum.{Datum, null, values, array_of_list, object_of_pairs, depth, Sound, AllSound, IsAtomic, is_null}
use Rattle.item_tree.specs.declared.class.Class.{Class}
use Rattle.item_tree.specs.Classes.{class_of}
use Rattle.item_tree.specs.Compare.{atom, compare_atoms, is_equal, same_keys, equal, equal_lists}

-- on the values with this property the test is an equivalence
pub record IsEquivalenceOn {X : Type 0} (P : X → Type 0) (test : X → X → Bool) : Type 0 where
  pub reflexive : (x : X) → P x → test x x ≡ true
  pub symmetric : (x y : X) → P x → P y → test x y ≡ true → test y x ≡ true
  pub transitive : (x y z : X) → P x → P y → P z → test x y ≡ true → test y z ≡ true
      → test x z ≡ true

-- a key of a grouping is one atomic or absent
abbrev pub IsKey : Option Datum → Type 0
IsKey None = Unit {0}
IsKey (Some v) = IsAtomic v

abbrev pub KeysAreEquivalent : Type 0
KeysAreEquivalent = IsEquivalenceOn IsKey same_keys

abbrev pub ItemsAreEquivalent : Type 0
ItemsAreEquivalent = IsEquivalenceOn Sound equal

abbrev pub SequencesAreEquivalent : Type 0
SequencesAreEquivalent = IsEquivalenceOn (λ vs. AllSound (values vs)) equal_lists

-- deep equality of atomics is their comparison
abbrev pub AtomicsCompare : Type 0
AtomicsCompare = (v w : Datum) → IsAtomic v → equal v w ≡ is_equal (compare_atoms v w)

-- a total order within each class, with null below all else; two other classes do not compare
pub record AtomicsAreOrdered : Type 0 where
  pub reflexive : (v : Datum) → IsAtomic v → compare_atoms v v ≡ Some Equal
  pub reversed : (v w : Datum) → compare_atoms w v ≡ option_map ordering_reverse (compare_atoms v w)
  pub transitive : (v w x : Datum) → compare_atoms v w ≡ Some Less → compare_atoms w x ≡ Some Less
      → compare_atoms v x ≡ Some Less
  pub exact : (v w : Datum) → compare_atoms v w ≡ Some Equal → atom v ≡ atom w
  pub total : (v w : Datum) (k : Class) → class_of v ≡ Some k → class_of w ≡ Some k
      → IsSome (compare_atoms v w)
  pub apart : (v w : Datum) → is_null v ≡ false → is_null w ≡ false → class_of v ≢ class_of w
      → compare_atoms v w ≡ None
  pub atomic : (v w : Datum) → IsSome (compare_atoms v w) → IsAtomic v × IsAtomic w
  pub lowest : (v : Datum) → IsAtomic v
      → compare_atoms null v ≡ Some (if is_null v then Equal else Less)

-- the first of January 1970 has the day number 0, and dates compare as their day numbers do; so
-- no two dates have one day number
pub record DaysAreNumbered : Type 0 where
  pub first : day_number first_of_1970 ≡ pos 0
  pub ordered : (d e : Date) → IsDate d → IsDate e
      → date_cmp d e ≡ int_cmp (day_number d) (day_number e)

abbrev pub greatest : List ℕ → ℕ
greatest [] = 0
greatest (n ∷ ns) = max n (greatest ns)

-- an array or an object is one deeper than the deepest inside, and no item is deeper than 128
pub record DepthsAreKept : Type 0 where
  pub of_array : (vs : List Datum) → depth (array_of_list vs) ≡ greatest (map depth vs) + 1
  pub of_object : (ps : List (List ℕ × Datum))
      → depth (object_of_pairs ps) ≡ greatest (map (λ p. depth p.1) ps) + 1
  pub bounded : (v : Datum) → Sound v → depth v ≤ 128

-- what is found bears the name and takes so many arguments, each function is found so, and no two
-- are called alike
pub record FunctionsAreFound : Type 0 where
  pub named : (name : List ℕ) (count : ℕ) (id : FnId) → function_named name count ≡ Some id
      → (name_of id ≡ name) × (takes_arity id count ≡ true)
  pub found : (id : FnId) (count : ℕ) → takes_arity id count ≡ true
      → function_named (name_of id) count ≡ Some id
  pub apart : (id other : FnId) (count : ℕ) → name_of id ≡ name_of other
      → takes_arity id count ≡ true → takes_arity other count ≡ true → id ≡ other
