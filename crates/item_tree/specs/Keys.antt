-- What atomics are compared by.
use Rattle.std.specs.Prelude.{◌≡◌, ℕ, Bool, Some, unwrap_or}
use Rattle.std.specs.Ordering.{nat_cmp}
use Rattle.std.specs.declared.cmp.Ordering.{Ordering}
use Rattle.item_tree.specs.declared.key.Key.{Key}
use Rattle.item_tree.specs.declared.key.Key.TheVariants.{Null, Boolean, Number, Text, Date, DateTime}
use Rattle.item_tree.specs.Compare.{Atom, nothing, truth, number, string, day, moment, atom, order, compare_atoms, same_keys}
use Rattle.item_tree.specs.Datum.{Datum}

-- the atomic that a key stands for
abbrev pub atom_of : Key → Atom
atom_of Null = nothing
atom_of (Boolean b) = truth b
atom_of (Number m) = number m
atom_of (Text t) = string t
atom_of (Date d) = day d
atom_of (DateTime t) = moment t

-- how the classes stand to each other
abbrev pub rank : Atom → ℕ
rank nothing = 0
rank (truth b) = 1
rank (number m) = 2
rank (string t) = 3
rank (day d) = 4
rank (moment t) = 5

-- atomics that do not compare stand in the order of their classes
abbrev pub total_order : Atom → Atom → Ordering
total_order a b = unwrap_or (order a b) (nat_cmp (rank a) (rank b))

-- keys that stand for one atomic are the same key; keys are equal exactly where their atomics
-- are, as keys of a grouping, and where atomics compare, their keys stand in that order
pub record KeysAgree (eq : Key → Key → Bool) (cmp : Key → Key → Ordering) : Type 0 where
  pub exact : (k l : Key) → atom_of k ≡ atom_of l → k ≡ l
  pub same : (v w : Datum) (k l : Key) → atom v ≡ Some (atom_of k) → atom w ≡ Some (atom_of l)
      → eq k l ≡ same_keys (Some v) (Some w)
  pub ordered : (v w : Datum) (k l : Key) (o : Ordering) → atom v ≡ Some (atom_of k)
      → atom w ≡ Some (atom_of l) → compare_atoms v w ≡ Some o → cmp k l ≡ o
  pub total : (k l : Key) → cmp k l ≡ total_order (atom_of k) (atom_of l)
