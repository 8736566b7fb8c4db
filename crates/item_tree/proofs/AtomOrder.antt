-- The order of atomics.
use Rattle.std.proofs.Common.{◌≡◌, ◌≢◌, Bool, true, false, Option, Some, None, option_map, if◌then◌else◌, refl, sym, ap, ◌∙◌}
use Rattle.std.specs.Cmp.{bool_cmp_total}
use Rattle.std.specs.Option.{IsSome}
use Rattle.std.specs.Ordering.{ordering_reverse, bool_cmp}
use Rattle.std.specs.declared.cmp.Ordering.{Ordering}
use Rattle.std.specs.declared.cmp.Ordering.TheVariants.{Less, Equal, Greater}
use Rattle.std.proofs.lemmas.Cmp.{tied_itself, int_cmp_total, nat_list_cmp_total}
use Rattle.std.proofs.lemmas.Map.Lookups.{exact_signed, exact_bytes}
use Rattle.item_tree.specs.Datum.{Datum, null, boolean, integer, decimal, text, date, date_time, array, object, IsAtomic, is_null}
use Rattle.item_tree.specs.inside.DateOrder.{date_exact, date_time_exact, date_cmp_total, date_time_cmp_total}
use Rattle.item_tree.specs.Compare.{Atom, nothing, truth, number, string, day, moment, atom, order, order_if, compare_atoms, is_equal, same_keys, whole_units}
use Rattle.item_tree.specs.declared.class.Class.{Class}
use Rattle.item_tree.specs.declared.class.Class.TheVariants.{Null, Boolean, Number, Text, Date, DateTime}
use Rattle.item_tree.specs.Classes.{class_of}
use Rattle.item_tree.specs.Laws.{IsKey, KeysAreEquivalent, AtomicsAreOrdered}

inside : (o p : Ordering) → Some o ≡ Some p → o ≡ p
inside o p e = cc

order-same : (a : Atom) → order a a ≡ Some Equal
order-same nothing = refl
order-same (truth b) = ap (λ o. Some o) (tied_itself bool_cmp_total b)
order-same (number m) = ap (λ o. Some o) (tied_itself int_cmp_total m)
order-same (string t) = ap (λ o. Some o) (tied_itself nat_list_cmp_total t)
order-same (day d) = ap (λ o. Some o) (tied_itself date_cmp_total d)
order-same (moment x) = ap (λ o. Some o) (tied_itself date_time_cmp_total x)

truth_exact : (b c : Bool) → bool_cmp b c ≡ Equal → b ≡ c
truth_exact true true e = refl
truth_exact true false e = absurd (cc)
truth_exact false true e = absurd (cc)
truth_exact false false e = refl

order_exact : (a b : Atom) → order a b ≡ Some Equal → a ≡ b
order_exact nothing nothing e = refl
order_exact nothing (truth c) e = absurd (cc)
order_exact nothing (number n) e = absurd (cc)
order_exact nothing (string u) e = absurd (cc)
order_exact nothing (day e') e = absurd (cc)
order_exact nothing (moment y) e = absurd (cc)
order_exact (truth b) nothing e = absurd (cc)
order_exact (truth b) (truth c) e = ap truth (truth_exact b c (inside _ _ e))
order_exact (truth b) (number n) e = absurd (cc)
order_exact (truth b) (string u) e = absurd (cc)
order_exact (truth b) (day e') e = absurd (cc)
order_exact (truth b) (moment y) e = absurd (cc)
order_exact (number m) nothing e = absurd (cc)
order_exact (number m) (truth c) e = absurd (cc)
order_exact (number m) (number n) e = ap number (exact_signed m n (inside _ _ e))
order_exact (number m) (string u) e = absurd (cc)
order_exact (number m) (day e') e = absurd (cc)
order_exact (number m) (moment y) e = absurd (cc)
order_exact (string t) nothing e = absurd (cc)
order_exact (string t) (truth c) e = absurd (cc)
order_exact (string t) (number n) e = absurd (cc)
order_exact (string t) (string u) e = ap string (exact_bytes t u (inside _ _ e))
order_exact (string t) (day e') e = absurd (cc)
order_exact (string t) (moment y) e = absurd (cc)
order_exact (day d) nothing e = absurd (cc)
order_exact (day d) (truth c) e = absurd (cc)
order_exact (day d) (number n) e = absurd (cc)
order_exact (day d) (string u) e = absurd (cc)
order_exact (day d) (day e') e = ap day (date_exact d e' (inside _ _ e))
order_exact (day d) (moment y) e = absurd (cc)
order_exact (moment x) nothing e = absurd (cc)
order_exact (moment x) (truth c) e = absurd (cc)
order_exact (moment x) (number n) e = absurd (cc)
order_exact (moment x) (string u) e = absurd (cc)
order_exact (moment x) (day e') e = absurd (cc)
order_exact (moment x) (moment y) e = ap moment (date_time_exact x y (inside _ _ e))

order_reversed : (a b : Atom) → order b a ≡ option_map ordering_reverse (order a b)
order_reversed nothing nothing = refl
order_reversed nothing (truth c) = refl
order_reversed nothing (number n) = refl
order_reversed nothing (string u) = refl
order_reversed nothing (day e') = refl
order_reversed nothing (moment y) = refl
order_reversed (truth b) nothing = refl
order_reversed (truth b) (truth c) = ap (λ o. Some o) (bool_cmp_total.antisymm c b)
order_reversed (truth b) (number n) = refl
order_reversed (truth b) (string u) = refl
order_reversed (truth b) (day e') = refl
order_reversed (truth b) (moment y) = refl
order_reversed (number m) nothing = refl
order_reversed (number m) (truth c) = refl
order_reversed (number m) (number n) = ap (λ o. Some o) (int_cmp_total.antisymm n m)
order_reversed (number m) (string u) = refl
order_reversed (number m) (day e') = refl
order_reversed (number m) (moment y) = refl
order_reversed (string t) nothing = refl
order_reversed (string t) (truth c) = refl
order_reversed (string t) (number n) = refl
order_reversed (string t) (string u) = ap (λ o. Some o) (nat_list_cmp_total.antisymm u t)
order_reversed (string t) (day e') = refl
order_reversed (string t) (moment y) = refl
order_reversed (day d) nothing = refl
order_reversed (day d) (truth c) = refl
order_reversed (day d) (number n) = refl
order_reversed (day d) (string u) = refl
order_reversed (day d) (day e') = ap (λ o. Some o) (date_cmp_total.antisymm e' d)
order_reversed (day d) (moment y) = refl
order_reversed (moment x) nothing = refl
order_reversed (moment x) (truth c) = refl
order_reversed (moment x) (number n) = refl
order_reversed (moment x) (string u) = refl
order_reversed (moment x) (day e') = refl
order_reversed (moment x) (moment y) = ap (λ o. Some o) (date_time_cmp_total.antisymm y x)

order_transitive : (a b c : Atom) → order a b ≡ Some Less → order b c ≡ Some Less → order a c ≡ Some Less
order_transitive nothing nothing k p q = absurd (cc)
order_transitive nothing (truth c) nothing p q = absurd (cc)
order_transitive nothing (number n) nothing p q = absurd (cc)
order_transitive nothing (string u) nothing p q = absurd (cc)
order_transitive nothing (day e') nothing p q = absurd (cc)
order_transitive nothing (moment y) nothing p q = absurd (cc)
order_transitive nothing k (truth z) p q = refl
order_transitive nothing k (number o) p q = refl
order_transitive nothing k (string w) p q = refl
order_transitive nothing k (day f') p q = refl
order_transitive nothing k (moment z') p q = refl
order_transitive (truth b) nothing k p q = absurd (cc)
order_transitive (truth b) (truth c) nothing p q = absurd (cc)
order_transitive (truth b) (truth c) (truth z) p q = ap (λ o. Some o) (bool_cmp_total.trans b c z (inside _ _ p) (inside _ _ q))
order_transitive (truth b) (truth c) (number o) p q = absurd (cc)
order_transitive (truth b) (truth c) (string w) p q = absurd (cc)
order_transitive (truth b) (truth c) (day f') p q = absurd (cc)
order_transitive (truth b) (truth c) (moment z') p q = absurd (cc)
order_transitive (truth b) (number n) k p q = absurd (cc)
order_transitive (truth b) (string u) k p q = absurd (cc)
order_transitive (truth b) (day e') k p q = absurd (cc)
order_transitive (truth b) (moment y) k p q = absurd (cc)
order_transitive (number m) nothing k p q = absurd (cc)
order_transitive (number m) (truth c) k p q = absurd (cc)
order_transitive (number m) (number n) nothing p q = absurd (cc)
order_transitive (number m) (number n) (truth z) p q = absurd (cc)
order_transitive (number m) (number n) (number o) p q = ap (λ o. Some o) (int_cmp_total.trans m n o (inside _ _ p) (inside _ _ q))
order_transitive (number m) (number n) (string w) p q = absurd (cc)
order_transitive (number m) (number n) (day f') p q = absurd (cc)
order_transitive (number m) (number n) (moment z') p q = absurd (cc)
order_transitive (number m) (string u) k p q = absurd (cc)
order_transitive (number m) (day e') k p q = absurd (cc)
order_transitive (number m) (moment y) k p q = absurd (cc)
order_transitive (string t) nothing k p q = absurd (cc)
order_transitive (string t) (truth c) k p q = absurd (cc)
order_transitive (string t) (number n) k p q = absurd (cc)
order_transitive (string t) (string u) nothing p q = absurd (cc)
order_transitive (string t) (string u) (truth z) p q = absurd (cc)
order_transitive (string t) (string u) (number o) p q = absurd (cc)
order_transitive (string t) (string u) (string w) p q = ap (λ o. Some o) (nat_list_cmp_total.trans t u w (inside _ _ p) (inside _ _ q))
order_transitive (string t) (string u) (day f') p q = absurd (cc)
order_transitive (string t) (string u) (moment z') p q = absurd (cc)
order_transitive (string t) (day e') k p q = absurd (cc)
order_transitive (string t) (moment y) k p q = absurd (cc)
order_transitive (day d) nothing k p q = absurd (cc)
order_transitive (day d) (truth c) k p q = absurd (cc)
order_transitive (day d) (number n) k p q = absurd (cc)
order_transitive (day d) (string u) k p q = absurd (cc)
order_transitive (day d) (day e') nothing p q = absurd (cc)
order_transitive (day d) (day e') (truth z) p q = absurd (cc)
order_transitive (day d) (day e') (number o) p q = absurd (cc)
order_transitive (day d) (day e') (string w) p q = absurd (cc)
order_transitive (day d) (day e') (day f') p q = ap (λ o. Some o) (date_cmp_total.trans d e' f' (inside _ _ p) (inside _ _ q))
order_transitive (day d) (day e') (moment z') p q = absurd (cc)
order_transitive (day d) (moment y) k p q = absurd (cc)
order_transitive (moment x) nothing k p q = absurd (cc)
order_transitive (moment x) (truth c) k p q = absurd (cc)
order_transitive (moment x) (number n) k p q = absurd (cc)
order_transitive (moment x) (string u) k p q = absurd (cc)
order_transitive (moment x) (day e') k p q = absurd (cc)
order_transitive (moment x) (moment y) nothing p q = absurd (cc)
order_transitive (moment x) (moment y) (truth z) p q = absurd (cc)
order_transitive (moment x) (moment y) (number o) p q = absurd (cc)
order_transitive (moment x) (moment y) (string w) p q = absurd (cc)
order_transitive (moment x) (moment y) (day f') p q = absurd (cc)
order_transitive (moment x) (moment y) (moment z') p q = ap (λ o. Some o) (date_time_cmp_total.trans x y z' (inside _ _ p) (inside _ _ q))

if_exact : (a b : Option Atom) → order_if a b ≡ Some Equal → a ≡ b
if_exact None b e = absurd (cc)
if_exact (Some a) None e = absurd (cc)
if_exact (Some a) (Some b) e = ap (λ x. Some x) (order_exact a b e)

if_reversed : (a b : Option Atom) → order_if b a ≡ option_map ordering_reverse (order_if a b)
if_reversed None None = refl
if_reversed None (Some b) = refl
if_reversed (Some a) None = refl
if_reversed (Some a) (Some b) = order_reversed a b

if_transitive : (a b c : Option Atom) → order_if a b ≡ Some Less → order_if b c ≡ Some Less → order_if a c ≡ Some Less
if_transitive None b c p q = absurd (cc)
if_transitive (Some a) None c p q = absurd (cc)
if_transitive (Some a) (Some b) None p q = absurd (cc)
if_transitive (Some a) (Some b) (Some c) p q = order_transitive a b c p q

-- an atomic has an atom
pub has_atom : (v : Datum) → IsAtomic v → (a : Atom) × (atom v ≡ Some a)
has_atom null h = (nothing, refl)
has_atom (boolean b) h = (truth b, refl)
has_atom (integer n) h = (number (whole_units n), refl)
has_atom (decimal m) h = (number m, refl)
has_atom (text t) h = (string t, refl)
has_atom (date d) h = (day d, refl)
has_atom (date_time t) h = (moment t, refl)
has_atom (array vs) h = absurd h
has_atom (object ms) h = absurd h

equal_is : (o : Option Ordering) → is_equal o ≡ true → o ≡ Some Equal
equal_is None e = absurd (cc)
equal_is (Some Less) e = absurd (cc)
equal_is (Some Equal) e = refl
equal_is (Some Greater) e = absurd (cc)

pub compare-same : (v : Datum) → IsAtomic v → compare_atoms v v ≡ Some Equal
compare-same v h = let a = has_atom v h in (λ i. order_if (a.1 i) (a.1 i)) ∙ order-same a.0

-- what compares as equal has one atom, and compares alike
pub atoms_equal : (v w : Datum) → is_equal (compare_atoms v w) ≡ true → atom v ≡ atom w
atoms_equal v w e = if_exact (atom v) (atom w) (equal_is _ e)

pub equal_back : (v w : Datum) → is_equal (compare_atoms v w) ≡ true → is_equal (compare_atoms w v) ≡ true
equal_back v w e = ap is_equal (if_reversed (atom v) (atom w) ∙ ap (λ o. option_map ordering_reverse o) (equal_is (compare_atoms v w) e))

pub equal_along : (v w x : Datum) → is_equal (compare_atoms v w) ≡ true → is_equal (compare_atoms w x) ≡ true → is_equal (compare_atoms v x) ≡ true
equal_along v w x e f = ap (λ a. is_equal (order_if a (atom x))) (atoms_equal v w e) ∙ f

not_none : (a : Option Atom) → is_equal (order_if a None) ≡ true → ⊥
not_none None e = absurd (cc)
not_none (Some a) e = absurd (cc)

-- what compares is atomic
both_atomic : (v w : Datum) → IsSome (compare_atoms v w) → IsAtomic v × IsAtomic w
both_atomic v w h = (is_atomic v (atom w) h, is_atomic_behind w (atom v) h)
  where
    is_atomic : (v : Datum) (b : Option Atom) → IsSome (order_if (atom v) b) → IsAtomic v
    is_atomic null b h = tt
    is_atomic (boolean c) b h = tt
    is_atomic (integer n) b h = tt
    is_atomic (decimal m) b h = tt
    is_atomic (text t) b h = tt
    is_atomic (date d) b h = tt
    is_atomic (date_time t) b h = tt
    is_atomic (array vs) b h = absurd (cc)
    is_atomic (object ms) b h = absurd (cc)

    none_behind : (a : Option Atom) → IsSome (order_if a None) → ⊥
    none_behind None h = absurd (cc)
    none_behind (Some a) h = absurd (cc)

    is_atomic_behind : (w : Datum) (a : Option Atom) → IsSome (order_if a (atom w)) → IsAtomic w
    is_atomic_behind null a h = tt
    is_atomic_behind (boolean c) a h = tt
    is_atomic_behind (integer n) a h = tt
    is_atomic_behind (decimal m) a h = tt
    is_atomic_behind (text t) a h = tt
    is_atomic_behind (date d) a h = tt
    is_atomic_behind (date_time t) a h = tt
    is_atomic_behind (array vs) a h = none_behind a h
    is_atomic_behind (object ms) a h = none_behind a h

-- what is equal to something is atomic
pub atomic_right : (v w : Datum) → is_equal (compare_atoms v w) ≡ true → IsAtomic w
atomic_right v null e = tt
atomic_right v (boolean b) e = tt
atomic_right v (integer n) e = tt
atomic_right v (decimal m) e = tt
atomic_right v (text t) e = tt
atomic_right v (date d) e = tt
atomic_right v (date_time t) e = tt
atomic_right v (array vs) e = not_none (atom v) e
atomic_right v (object ms) e = not_none (atom v) e

class_of_atom : Option Atom → Option Class
class_of_atom None = None
class_of_atom (Some nothing) = Some Null
class_of_atom (Some (truth b)) = Some Boolean
class_of_atom (Some (number n)) = Some Number
class_of_atom (Some (string t)) = Some Text
class_of_atom (Some (day d)) = Some Date
class_of_atom (Some (moment t)) = Some DateTime

class_is : (v : Datum) → class_of v ≡ class_of_atom (atom v)
unfolding class_of_atom
class_is null = refl
class_is (boolean b) = refl
class_is (integer n) = refl
class_is (decimal m) = refl
class_is (text t) = refl
class_is (date d) = refl
class_is (date_time t) = refl
class_is (array vs) = refl
class_is (object ms) = refl

if_total : (a b : Option Atom) (k : Class) → class_of_atom a ≡ Some k → class_of_atom b ≡ Some k → IsSome (order_if a b)
unfolding class_of_atom
if_total None b k e f = absurd (cc)
if_total (Some a) None k e f = absurd (cc)
if_total (Some nothing) (Some nothing) k p q = refl
if_total (Some nothing) (Some (truth c)) k p q = refl
if_total (Some nothing) (Some (number n)) k p q = refl
if_total (Some nothing) (Some (string u)) k p q = refl
if_total (Some nothing) (Some (day e')) k p q = refl
if_total (Some nothing) (Some (moment y)) k p q = refl
if_total (Some (truth b)) (Some nothing) k p q = refl
if_total (Some (truth b)) (Some (truth c)) k p q = refl
if_total (Some (truth b)) (Some (number n)) k p q = absurd (cc)
if_total (Some (truth b)) (Some (string u)) k p q = absurd (cc)
if_total (Some (truth b)) (Some (day e')) k p q = absurd (cc)
if_total (Some (truth b)) (Some (moment y)) k p q = absurd (cc)
if_total (Some (number m)) (Some nothing) k p q = refl
if_total (Some (number m)) (Some (truth c)) k p q = absurd (cc)
if_total (Some (number m)) (Some (number n)) k p q = refl
if_total (Some (number m)) (Some (string u)) k p q = absurd (cc)
if_total (Some (number m)) (Some (day e')) k p q = absurd (cc)
if_total (Some (number m)) (Some (moment y)) k p q = absurd (cc)
if_total (Some (string t)) (Some nothing) k p q = refl
if_total (Some (string t)) (Some (truth c)) k p q = absurd (cc)
if_total (Some (string t)) (Some (number n)) k p q = absurd (cc)
if_total (Some (string t)) (Some (string u)) k p q = refl
if_total (Some (string t)) (Some (day e')) k p q = absurd (cc)
if_total (Some (string t)) (Some (moment y)) k p q = absurd (cc)
if_total (Some (day d)) (Some nothing) k p q = refl
if_total (Some (day d)) (Some (truth c)) k p q = absurd (cc)
if_total (Some (day d)) (Some (number n)) k p q = absurd (cc)
if_total (Some (day d)) (Some (string u)) k p q = absurd (cc)
if_total (Some (day d)) (Some (day e')) k p q = refl
if_total (Some (day d)) (Some (moment y)) k p q = absurd (cc)
if_total (Some (moment x)) (Some nothing) k p q = refl
if_total (Some (moment x)) (Some (truth c)) k p q = absurd (cc)
if_total (Some (moment x)) (Some (number n)) k p q = absurd (cc)
if_total (Some (moment x)) (Some (string u)) k p q = absurd (cc)
if_total (Some (moment x)) (Some (day e')) k p q = absurd (cc)
if_total (Some (moment x)) (Some (moment y)) k p q = refl

not_nothing : (v : Datum) → is_null v ≡ false → atom v ≢ Some nothing
not_nothing null h = absurd (cc)
not_nothing (boolean b) h = λ e. absurd (cc)
not_nothing (integer n) h = λ e. absurd (cc)
not_nothing (decimal m) h = λ e. absurd (cc)
not_nothing (text t) h = λ e. absurd (cc)
not_nothing (date d) h = λ e. absurd (cc)
not_nothing (date_time t) h = λ e. absurd (cc)
not_nothing (array vs) h = λ e. absurd (cc)
not_nothing (object ms) h = λ e. absurd (cc)

if_apart : (a b : Option Atom) → a ≢ Some nothing → b ≢ Some nothing → class_of_atom a ≢ class_of_atom b → order_if a b ≡ None
unfolding class_of_atom
if_apart None b p q r = refl
if_apart (Some a) None p q r = refl
if_apart (Some nothing) (Some b) p q r = absurd (p refl)
if_apart (Some (truth b)) (Some nothing) p q r = absurd (q refl)
if_apart (Some (truth b)) (Some (truth c)) p q r = absurd (r refl)
if_apart (Some (truth b)) (Some (number n)) p q r = refl
if_apart (Some (truth b)) (Some (string u)) p q r = refl
if_apart (Some (truth b)) (Some (day e')) p q r = refl
if_apart (Some (truth b)) (Some (moment y)) p q r = refl
if_apart (Some (number m)) (Some nothing) p q r = absurd (q refl)
if_apart (Some (number m)) (Some (truth c)) p q r = refl
if_apart (Some (number m)) (Some (number n)) p q r = absurd (r refl)
if_apart (Some (number m)) (Some (string u)) p q r = refl
if_apart (Some (number m)) (Some (day e')) p q r = refl
if_apart (Some (number m)) (Some (moment y)) p q r = refl
if_apart (Some (string t)) (Some nothing) p q r = absurd (q refl)
if_apart (Some (string t)) (Some (truth c)) p q r = refl
if_apart (Some (string t)) (Some (number n)) p q r = refl
if_apart (Some (string t)) (Some (string u)) p q r = absurd (r refl)
if_apart (Some (string t)) (Some (day e')) p q r = refl
if_apart (Some (string t)) (Some (moment y)) p q r = refl
if_apart (Some (day d)) (Some nothing) p q r = absurd (q refl)
if_apart (Some (day d)) (Some (truth c)) p q r = refl
if_apart (Some (day d)) (Some (number n)) p q r = refl
if_apart (Some (day d)) (Some (string u)) p q r = refl
if_apart (Some (day d)) (Some (day e')) p q r = absurd (r refl)
if_apart (Some (day d)) (Some (moment y)) p q r = refl
if_apart (Some (moment x)) (Some nothing) p q r = absurd (q refl)
if_apart (Some (moment x)) (Some (truth c)) p q r = refl
if_apart (Some (moment x)) (Some (number n)) p q r = refl
if_apart (Some (moment x)) (Some (string u)) p q r = refl
if_apart (Some (moment x)) (Some (day e')) p q r = refl
if_apart (Some (moment x)) (Some (moment y)) p q r = absurd (r refl)

null_lowest : (v : Datum) → IsAtomic v → compare_atoms null v ≡ Some (if is_null v then Equal else Less)
null_lowest null h = refl
null_lowest (boolean b) h = refl
null_lowest (integer n) h = refl
null_lowest (decimal m) h = refl
null_lowest (text t) h = refl
null_lowest (date d) h = refl
null_lowest (date_time t) h = refl
null_lowest (array vs) h = absurd h
null_lowest (object ms) h = absurd h

pub atomics_ordered : AtomicsAreOrdered
atomics_ordered = record {
  reflexive = compare-same;
  reversed = λ v w. if_reversed (atom v) (atom w);
  transitive = λ v w x. if_transitive (atom v) (atom w) (atom x);
  exact = λ v w. if_exact (atom v) (atom w);
  total = λ v w k e f. if_total (atom v) (atom w) k (sym (class_is v) ∙ e) (sym (class_is w) ∙ f);
  apart = λ v w m n d. if_apart (atom v) (atom w) (not_nothing v m) (not_nothing w n) (λ e. d (class_is v ∙ e ∙ sym (class_is w)));
  atomic = both_atomic;
  lowest = null_lowest;
}

pub keys_equivalent : KeysAreEquivalent
keys_equivalent = record {
  reflexive = key-same;
  symmetric = λ k l _ _ e. key_back k l e;
  transitive = λ k l m _ _ _ e f. key_along k l m e f;
}
  where
    key-same : (k : Option Datum) → IsKey k → same_keys k k ≡ true
    key-same None h = refl
    key-same (Some v) h = ap is_equal (compare-same v h)

    key_back : (k l : Option Datum) → same_keys k l ≡ true → same_keys l k ≡ true
    key_back None None e = refl
    key_back None (Some w) e = absurd (cc)
    key_back (Some v) None e = absurd (cc)
    key_back (Some v) (Some w) e = equal_back v w e

    key_along : (k l m : Option Datum) → same_keys k l ≡ true → same_keys l m ≡ true → same_keys k m ≡ true
    key_along None None m e f = f
    key_along None (Some w) m e f = absurd (cc)
    key_along (Some v) None m e f = absurd (cc)
    key_along (Some v) (Some w) None e f = absurd (cc)
    key_along (Some v) (Some w) (Some x) e f = equal_along v w x e f
