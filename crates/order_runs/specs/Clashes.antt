-- Keys whose classes clash.
use Rattle.std.specs.Prelude.{ℕ, suc, ◌+◌, ◌==◌, Bool, false, not, List, [], ◌∷◌, ◌++◌, map, Option, Some, None, if◌then◌else◌}
use Rattle.std.specs.List.{list_any}
use Rattle.item_tree.specs.declared.class.Class.{Class}
use Rattle.item_tree.specs.Datum.{Datum, null}
use Rattle.item_tree.specs.Classes.{class_of, same_class}
use Rattle.tuple_rows.specs.Keys.{KeyList}

-- the class of a key, where it has one that may clash: an absent key and null go with every class
abbrev pub key_class : Option Datum → Option Class
key_class None = None
key_class (Some null) = None
key_class (Some v) = class_of v

-- two different classes
abbrev pub differ : Option Class → Option Class → Bool
differ None r = false
differ (Some c) None = false
differ (Some c) (Some d) = not (same_class c d)

-- a key clashes with keys of its column before it, where one of them is of another class
abbrev pub clashes : List (Option Class) → Option Class → Bool
clashes earlier r = list_any (λ q. differ q r) earlier

-- the first column of a key list, and the others
abbrev pub first_key : KeyList → Option Datum
first_key [] = None
first_key (k ∷ ks) = k

abbrev pub other_keys : KeyList → KeyList
other_keys [] = []
other_keys (k ∷ ks) = ks

abbrev pub first_classes : List KeyList → List (Option Class)
first_classes K = map (λ ks. key_class (first_key ks)) K

abbrev pub other_columns : List KeyList → List KeyList
other_columns K = map other_keys K

abbrev pub next_column : Option ℕ → Option ℕ
next_column None = None
next_column (Some c) = Some (suc c)

-- the first column, from 0, in which the keys of a tuple clash with keys before them
abbrev pub clash_column : List KeyList → KeyList → Option ℕ
clash_column earlier [] = None
clash_column earlier (k ∷ ks) =
    if clashes (first_classes earlier) (key_class k) then Some 0
    else next_column (clash_column (other_columns earlier) ks)

-- the same tuple in a list with so many tuples more in front
abbrev pub later : ℕ → Option (ℕ × ℕ) → Option (ℕ × ℕ)
later n None = None
later n (Some p) = Some (n + p.0, p.1)

abbrev pub clash_or_later : Option ℕ → Option (ℕ × ℕ) → Option (ℕ × ℕ)
clash_or_later (Some column) rest = Some (1, column)
clash_or_later None rest = later 1 rest

-- the first tuple of a list, from 1, whose keys clash with keys before them, there or in an earlier
-- list, and the first such column
abbrev pub clash_after : List KeyList → List KeyList → Option (ℕ × ℕ)
clash_after earlier [] = None
clash_after earlier (k ∷ K) =
    clash_or_later (clash_column earlier k) (clash_after (earlier ++ k ∷ []) K)

abbrev pub first_clash : List KeyList → Option (ℕ × ℕ)
first_clash K = clash_after [] K
