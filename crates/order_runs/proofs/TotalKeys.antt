-- Key lists are in a total order.
use Rattle.std.proofs.Common.{◌≡◌, Bool, true, false, List, [], ◌∷◌, Option, Some, None, if◌then◌else◌, refl, sym, ap, ◌∙◌}
use Rattle.std.specs.Cmp.{IsTotalOrder, IsStrictWeakOrder}
use Rattle.std.specs.Ordering.{ordering_reverse}
use Rattle.std.specs.declared.cmp.Ordering.TheVariants.{Less, Equal}
use Rattle.std.proofs.lemmas.Cmp.{then_total, on_total, back_total}
use Rattle.std.proofs.lemmas.List.Sorted.{ranks_by}
use Rattle.item_tree.specs.declared.key.Key.{Key}
use Rattle.item_tree.specs.declared.key.Key.TheVariants.{Null, Boolean, Number, Text, Date, DateTime}
use Rattle.item_tree.specs.contracts.key.KeyOrd.TheImpl as key_ord
use Rattle.item_tree.specs.contracts.key.KeyOrd.TheImpl.Laws.{total-law}
use Rattle.item_tree.specs.contracts.key.KeyPartialEq.TheImpl as key_eq
use Rattle.item_tree.specs.Datum.{Datum}
use Rattle.item_tree.specs.Compare.{Atom, nothing, truth, number, string, day, moment, atom}
use Rattle.item_tree.specs.Keys.{atom_of, total_order, KeysAgree}
use Rattle.tuple_rows.specs.Keys.{key_list}
use Rattle.order_runs.specs.declared.column.Column.{Column}
use Rattle.order_runs.specs.Clashes.{first_key, other_keys}
use Rattle.order_runs.specs.Orders.{atoms_order, value_order, key_order, column_order, keys_order, below, placed, ordered, sorted}
use Rattle.order_runs.specs.Runs.{Entry, entry_of, entries_of, keyed_below}

abbrev pub Agree : Type 0
Agree = KeysAgree (key_eq.ghosts).eq (key_ord.ghosts).cmp

-- the key of an atomic
key_for : Atom → Key
key_for nothing = Null
key_for (truth b) = Boolean b
key_for (number m) = Number m
key_for (string t) = Text t
key_for (day d) = Date d
key_for (moment t) = DateTime t

key_back : (a : Atom) → atom_of (key_for a) ≡ a
unfolding key_for
key_back nothing = refl
key_back (truth b) = refl
key_back (number m) = refl
key_back (string t) = refl
key_back (day d) = refl
key_back (moment t) = refl

by_keys : Agree → (a b : Atom) → (key_ord.ghosts).cmp (key_for a) (key_for b) ≡ total_order a b
by_keys agree a b = agree.total (key_for a) (key_for b) ∙ (λ i. total_order (key_back a i) (key_back b i))

total_atoms : Agree → IsTotalOrder total_order
total_atoms agree =
    let t : IsTotalOrder ((key_ord.ghosts).cmp) = total-law in
    record {
      antisymm = λ x y. sym (by_keys agree x y) ∙ t.antisymm (key_for x) (key_for y) ∙ ap ordering_reverse (by_keys agree y x);
      trans = λ x y z h k. sym (by_keys agree x z) ∙ t.trans (key_for x) (key_for y) (key_for z) (by_keys agree x y ∙ h) (by_keys agree y z ∙ k);
      congr = λ x y z h. sym (by_keys agree x z) ∙ t.congr (key_for x) (key_for y) (key_for z) (by_keys agree x y ∙ h) ∙ by_keys agree y z;
    }

atoms_antisymm : IsTotalOrder total_order → (x y : Option Atom) → atoms_order x y ≡ ordering_reverse (atoms_order y x)
atoms_antisymm t None None = refl
atoms_antisymm t None (Some b) = refl
atoms_antisymm t (Some a) None = refl
atoms_antisymm t (Some a) (Some b) = t.antisymm a b

atoms_trans : IsTotalOrder total_order → (x y z : Option Atom) → atoms_order x y ≡ Less → atoms_order y z ≡ Less → atoms_order x z ≡ Less
atoms_trans t None None z h k = absurd cc
atoms_trans t None (Some b) z h k = absurd cc
atoms_trans t (Some a) None None h k = refl
atoms_trans t (Some a) None (Some c) h k = absurd cc
atoms_trans t (Some a) (Some b) None h k = refl
atoms_trans t (Some a) (Some b) (Some c) h k = t.trans a b c h k

atoms_congr : IsTotalOrder total_order → (x y z : Option Atom) → atoms_order x y ≡ Equal → atoms_order x z ≡ atoms_order y z
atoms_congr t None None z h = refl
atoms_congr t None (Some b) z h = absurd cc
atoms_congr t (Some a) None z h = absurd cc
atoms_congr t (Some a) (Some b) None h = refl
atoms_congr t (Some a) (Some b) (Some c) h = t.congr a b c h

total_values : IsTotalOrder total_order → IsTotalOrder value_order
total_values t = on_total atom (record { antisymm = atoms_antisymm t; trans = atoms_trans t; congr = atoms_congr t })

module _ (t : IsTotalOrder value_order) where
  keys_antisymm : (g : Bool) (k l : Option Datum) → key_order g k l ≡ ordering_reverse (key_order g l k)
  keys_antisymm g None None = refl
  keys_antisymm true None (Some w) = refl
  keys_antisymm false None (Some w) = refl
  keys_antisymm true (Some v) None = refl
  keys_antisymm false (Some v) None = refl
  keys_antisymm g (Some v) (Some w) = t.antisymm v w

  keys_trans : (g : Bool) (k l m : Option Datum) → key_order g k l ≡ Less → key_order g l m ≡ Less → key_order g k m ≡ Less
  keys_trans g None None m h i = absurd cc
  keys_trans true None (Some w) m h i = absurd cc
  keys_trans false None (Some w) None h i = absurd cc
  keys_trans false None (Some w) (Some u) h i = refl
  keys_trans true (Some v) None None h i = refl
  keys_trans true (Some v) None (Some u) h i = absurd cc
  keys_trans false (Some v) None m h i = absurd cc
  keys_trans true (Some v) (Some w) None h i = refl
  keys_trans false (Some v) (Some w) None h i = absurd cc
  keys_trans g (Some v) (Some w) (Some u) h i = t.trans v w u h i

  keys_congr : (g : Bool) (k l m : Option Datum) → key_order g k l ≡ Equal → key_order g k m ≡ key_order g l m
  keys_congr g None None m h = refl
  keys_congr true None (Some w) m h = absurd cc
  keys_congr false None (Some w) m h = absurd cc
  keys_congr true (Some v) None m h = absurd cc
  keys_congr false (Some v) None m h = absurd cc
  keys_congr g (Some v) (Some w) None h = refl
  keys_congr g (Some v) (Some w) (Some u) h = t.congr v w u h

  key_total : (g : Bool) → IsTotalOrder (key_order g)
  key_total g = record { antisymm = keys_antisymm g; trans = keys_trans g; congr = keys_congr g }

  column_case : (d g : Bool) → IsTotalOrder (λ k l. if d then key_order g l k else key_order g k l)
  column_case true g = back_total (key_total g)
  column_case false g = key_total g

  column_total : (c : Column) → IsTotalOrder (column_order c)
  column_total c = column_case c.descending c.empty_greatest

  keys_total : (cs : List Column) → IsTotalOrder (keys_order cs)
  keys_total [] = record { antisymm = λ x y. refl; trans = λ x y z h k. h; congr = λ x y z h. refl }
  keys_total (c ∷ cs) = then_total (on_total first_key (column_total c)) (on_total other_keys (keys_total cs))

pub below_weak : Agree → (cs : List Column) → IsStrictWeakOrder (below cs)
below_weak agree cs = ranks_by (keys_total (total_values (total_atoms agree)) cs) (λ p. p.0)

-- the same of the code's entries
pub keyed_weak : {T : Type 0} → Agree → (cs : List Column) → IsStrictWeakOrder (keyed_below {T = T} cs)
keyed_weak agree cs = ranks_by (keys_total (total_values (total_atoms agree)) cs) (λ e. key_list e.0)

-- entries are ordered as what they stand for
placed_case : (b : Bool) (cs : List Column) (e f : Entry) (fs : List Entry)
    → entries_of (placed (keyed_below cs) e fs) ≡ placed (below cs) (entry_of e) (entries_of fs)
    → entries_of (if b then f ∷ placed (keyed_below cs) e fs else (e ∷ f ∷ fs))
    ≡ (if b then entry_of f ∷ placed (below cs) (entry_of e) (entries_of fs) else (entry_of e ∷ entry_of f ∷ entries_of fs))
placed_case true cs e f fs h = ap (λ ps. entry_of f ∷ ps) h
placed_case false cs e f fs h = refl

entries_placed : (cs : List Column) (e : Entry) (fs : List Entry)
    → entries_of (placed (keyed_below cs) e fs) ≡ placed (below cs) (entry_of e) (entries_of fs)
entries_placed cs e [] = refl
entries_placed cs e (f ∷ fs) = placed_case (keyed_below cs f e) cs e f fs (entries_placed cs e fs)

pub entries_ordered : (cs : List Column) (es : List Entry) → entries_of (ordered (keyed_below cs) es) ≡ sorted cs (entries_of es)
entries_ordered cs [] = refl
entries_ordered cs (e ∷ es) =
    entries_placed cs e (ordered (keyed_below cs) es) ∙ ap (placed (below cs) (entry_of e)) (entries_ordered cs es)
