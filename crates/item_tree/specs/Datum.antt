-- Values.
-- The plain values that items stand for.
use Rattle.std.specs.Prelude.{◌≡◌, ◌≢◌, ℕ, ◌+◌, ◌^◌, ◌<◌, max, ℤ, pos, Bool, true, false, List, [], ◌∷◌, refl}
use Rattle.std.specs.Str.{all_scalars}
use Rattle.std.proofs.Common.{neg_ℤ, ◌<ℤ◌}
use Rattle.item_tree.specs.Dates.{Date, DateTime, IsDate, IsDateTime}

-- an object's members stand in order of insertion; a text is the list of its characters' codes
mutual
  pub data Datum : Type 0 where
    null : Datum
    boolean : Bool → Datum
    integer : ℤ → Datum
    decimal : ℤ → Datum
    text : List ℕ → Datum
    date : Date → Datum
    date_time : DateTime → Datum
    array : Data → Datum
    object : Members → Datum

  pub data Data : Type 0 where
    no_values : Data
    value : Datum → Data → Data

  pub data Members : Type 0 where
    no_members : Members
    member : List ℕ → Datum → Members → Members

-- the values and the members as plain lists, and back
abbrev pub listed : Data → List Datum
listed no_values = []
listed (value v vs) = v ∷ listed vs

abbrev pub values : List Datum → Data
values [] = no_values
values (v ∷ vs) = value v (values vs)

abbrev pub pairs : Members → List (List ℕ × Datum)
pairs no_members = []
pairs (member k v ms) = (k, v) ∷ pairs ms

abbrev pub members : List (List ℕ × Datum) → Members
members [] = no_members
members (p ∷ ps) = member p.0 p.1 (members ps)

-- the array of these values, and the object of these pairs
abbrev pub array_of_list : List Datum → Datum
array_of_list vs = array (values vs)

abbrev pub object_of_pairs : List (List ℕ × Datum) → Datum
object_of_pairs ps = object (members ps)

pub values_listed : (vs : Data) → values (listed vs) ≡ vs
values_listed no_values = refl
values_listed (value v vs) = λ i. value v (values_listed vs i)

pub listed_values : (vs : List Datum) → listed (values vs) ≡ vs
listed_values [] = refl
listed_values (v ∷ vs) = λ i. v ∷ listed_values vs i

pub members_pairs : (ms : Members) → members (pairs ms) ≡ ms
members_pairs no_members = refl
members_pairs (member k v ms) = λ i. member k v (members_pairs ms i)

pub pairs_members : (ps : List (List ℕ × Datum)) → pairs (members ps) ≡ ps
pairs_members [] = refl
pairs_members (p ∷ ps) = λ i. p ∷ pairs_members ps i

-- an atomic has depth 0, and an array or object one more than the greatest depth inside
abbrev mutual
  pub depth : Datum → ℕ
  depth null = 0
  depth (boolean b) = 0
  depth (integer n) = 0
  depth (decimal m) = 0
  depth (text t) = 0
  depth (date d) = 0
  depth (date_time t) = 0
  depth (array vs) = data_depth vs + 1
  depth (object ms) = members_depth ms + 1

  pub data_depth : Data → ℕ
  data_depth no_values = 0
  data_depth (value v vs) = max (depth v) (data_depth vs)

  pub members_depth : Members → ℕ
  members_depth no_members = 0
  members_depth (member k v ms) = max (depth v) (members_depth ms)

-- no pair has this key
abbrev pub NoneHas : List ℕ → List (List ℕ × Datum) → Type 0
NoneHas k [] = Unit {0}
NoneHas k (p ∷ ps) = (k ≢ p.0) × NoneHas k ps

-- the keys differ
abbrev pub KeysDiffer : List (List ℕ × Datum) → Type 0
KeysDiffer [] = Unit {0}
KeysDiffer (p ∷ ps) = NoneHas p.0 ps × KeysDiffer ps

abbrev pub IsWhole : ℤ → Type 0
IsWhole n = (neg_ℤ (pos (10 ^ 20)) <ℤ n) × (n <ℤ pos (10 ^ 20))

abbrev pub IsUnits : ℤ → Type 0
IsUnits m = (neg_ℤ (pos (10 ^ 26)) <ℤ m) × (m <ℤ pos (10 ^ 26))

-- at every level the numbers are within their bounds, the texts are of characters, the calendar has
-- the dates, an object's keys differ, and the depth is at most 128
abbrev mutual
  pub Sound : Datum → Type 0
  Sound null = Unit {0}
  Sound (boolean b) = Unit {0}
  Sound (integer n) = IsWhole n
  Sound (decimal m) = IsUnits m
  Sound (text t) = all_scalars t ≡ true
  Sound (date d) = IsDate d
  Sound (date_time t) = IsDateTime t
  Sound (array vs) = AllSound vs × (data_depth vs < 128)
  Sound (object ms) = MembersSound ms × KeysDiffer (pairs ms) × (members_depth ms < 128)

  pub AllSound : Data → Type 0
  AllSound no_values = Unit {0}
  AllSound (value v vs) = Sound v × AllSound vs

  pub MembersSound : Members → Type 0
  MembersSound no_members = Unit {0}
  MembersSound (member k v ms) = (all_scalars k ≡ true) × Sound v × MembersSound ms

abbrev pub is_null : Datum → Bool
is_null null = true
is_null _ = false

-- neither an array nor an object
abbrev pub IsAtomic : Datum → Type 0
IsAtomic (array vs) = ⊥
IsAtomic (object ms) = ⊥
IsAtomic _ = Unit {0}
