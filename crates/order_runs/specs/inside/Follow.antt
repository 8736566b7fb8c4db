-- What is kept of keys behind others.
use Rattle.std.specs.Prelude.{ℕ, ◌+◌, ◌<◌, List, [], ◌∷◌, Option, Some, None, if◌then◌else◌}
use Rattle.item_tree.specs.declared.class.Class.{Class}
use Rattle.order_runs.specs.declared.column_seen.First.{First}
use Rattle.order_runs.specs.declared.column_seen.ColumnSeen.{ColumnSeen}
use Rattle.item_tree.specs.Classes.{same_class}
use Rattle.order_runs.specs.Seen.{Sees, nothing, one, several}

abbrev pub sees_of : Option First → Option ℕ → Sees
sees_of None o = nothing
sees_of (Some f) None = one f.class
sees_of (Some f) (Some t) = several

abbrev pub sees : ColumnSeen → Sees
sees c = sees_of c.first c.other

abbrev pub place_of : Option First → Option ℕ
place_of None = None
place_of (Some f) = Some f.before

abbrev pub clash_of_one : Class → Option First → Option ℕ → Option ℕ
clash_of_one k None other = None
clash_of_one k (Some f) other = if same_class k f.class then other else Some f.before

-- the first clash among keys, behind others of which so much was seen
abbrev pub clash_of : Sees → ColumnSeen → Option ℕ
clash_of nothing c = c.other
clash_of (one k) c = clash_of_one k c.first c.other
clash_of several c = place_of c.first

abbrev pub shifted : ℕ → Option First → Option First
shifted n None = None
shifted n (Some f) = Some (record { class = f.class; before = n + f.before })

abbrev pub plus : ℕ → Option ℕ → Option ℕ
plus n None = None
plus n (Some t) = Some (n + t)

abbrev pub first_some : Option First → Option First → Option First
first_some None b = b
first_some (Some f) b = Some f

abbrev pub or_later : Option ℕ → Option ℕ → Option ℕ
or_later None b = b
or_later (Some t) b = Some t

abbrev pub followed : ℕ → ColumnSeen → ColumnSeen → ColumnSeen
followed n c d = record {
  first = first_some c.first (shifted n d.first);
  other = or_later c.other (plus n (clash_of (sees c) d));
}

abbrev pub IsPlaced : ℕ → Option ℕ → Type 0
IsPlaced n None = Unit {0}
IsPlaced n (Some t) = t < n

-- the keys that are told of are among so many
abbrev pub IsWithin : ℕ → ColumnSeen → Type 0
IsWithin n c = IsPlaced n (place_of c.first) × IsPlaced n c.other

abbrev pub AllWithin : ℕ → List ColumnSeen → Type 0
AllWithin n [] = Unit {0}
AllWithin n (c ∷ cs) = IsWithin n c × AllWithin n cs

-- column by column
abbrev pub followed_columns : ℕ → List ColumnSeen → List ColumnSeen → List ColumnSeen
followed_columns n [] ds = []
followed_columns n (c ∷ cs) [] = c ∷ cs
followed_columns n (c ∷ cs) (d ∷ ds) = followed n c d ∷ followed_columns n cs ds

abbrev pub clash_list : List ColumnSeen → List ColumnSeen → List (Option ℕ)
clash_list [] bs = []
clash_list (c ∷ cs) [] = []
clash_list (c ∷ cs) (b ∷ bs) = clash_of (sees b) c ∷ clash_list cs bs
