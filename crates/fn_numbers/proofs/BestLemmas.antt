-- The kinds and the best items of lists that are put together.
use Rattle.std.proofs.Common.{◌≡◌, ℕ, zero, suc, ◌++◌, Bool, true, false, if◌then◌else◌, List, [], ◌∷◌, Option, Some, None, option_map, Result, Ok, Err, IfOk, IfErr, OnOk, refl, sym, ap, subst, ◌∙◌}
use Rattle.std.specs.Option.{IsSome, is_some}
use Rattle.std.specs.Ordering.{ordering_reverse}
use Rattle.std.specs.declared.cmp.Ordering.{Ordering}
use Rattle.std.specs.declared.cmp.Ordering.TheVariants.{Less, Equal, Greater}
use Rattle.std.proofs.lemmas.Bool.{eqb-true}
use Rattle.item_tree.specs.declared.class.Class.{Class}
use Rattle.item_tree.specs.declared.class.Class.TheVariants as class
use Rattle.item_tree.specs.Classes.{class_of}
use Rattle.item_tree.specs.Compare.{atom, order_if, compare_atoms}
use Rattle.item_tree.specs.Datum.{Datum, null, boolean, integer, decimal, text, date, date_time, array, object, IsAtomic}
use Rattle.item_tree.proofs.AtomOrder.{atomics_ordered}
use Rattle.item_tree.specs.Classes.{class_number, same_class}
use Rattle.value_rules.specs.Numbers.{Kin, unbound, of_class, mixed, kin_of, joined_kin, kin, is_less_order, is_less, is_greater, better, best, unless_mixed, best_values}
use Rattle.fn_numbers.specs.inside.Candidates.{is_mixed, Keeps}

-- ---- classes

abbrev class_at : ℕ → Class
class_at zero = class.Null
class_at (suc zero) = class.Boolean
class_at (suc (suc zero)) = class.Number
class_at (suc (suc (suc zero))) = class.Text
class_at (suc (suc (suc (suc zero)))) = class.Date
class_at (suc (suc (suc (suc (suc n))))) = class.DateTime

class_back : (c : Class) → class_at (class_number c) ≡ c
class_back class.Null = refl
class_back class.Boolean = refl
class_back class.Number = refl
class_back class.Text = refl
class_back class.Date = refl
class_back class.DateTime = refl

one_class : (c d : Class) → same_class c d ≡ true → c ≡ d
one_class c d h = sym (class_back c) ∙ ap class_at (eqb-true (class_number c) (class_number d) h) ∙ class_back d

-- ---- kinds

joined_unbound : (k : Kin) → joined_kin k unbound ≡ k
joined_unbound unbound = refl
joined_unbound (of_class c) = refl
joined_unbound mixed = refl

joined_mixed : (k : Kin) → joined_kin k mixed ≡ mixed
joined_mixed unbound = refl
joined_mixed (of_class c) = refl
joined_mixed mixed = refl

assoc_classes : (s t : Bool) (c d e : Class) → same_class c d ≡ s → same_class d e ≡ t
    → joined_kin (if s then of_class c else mixed) (of_class e) ≡ joined_kin (of_class c) (if t then of_class d else mixed)
assoc_classes true true c d e p q =
    let r : same_class c e ≡ true = ap (λ x. same_class x e) (one_class c d p) ∙ q in rw (p, r) refl
assoc_classes true false c d e p q =
    let r : same_class c e ≡ false = ap (λ x. same_class x e) (one_class c d p) ∙ q in rw r refl
assoc_classes false true c d e p q = rw p refl
assoc_classes false false c d e p q = refl

if_unbound : (s : Bool) (c : Class) → joined_kin (if s then of_class c else mixed) unbound ≡ (if s then of_class c else mixed)
if_unbound true c = refl
if_unbound false c = refl

if_mixed : (s : Bool) (c : Class) → joined_kin (if s then of_class c else mixed) mixed ≡ mixed
if_mixed true c = refl
if_mixed false c = refl

pub joined_kin-assoc : (k l m : Kin) → joined_kin (joined_kin k l) m ≡ joined_kin k (joined_kin l m)
joined_kin-assoc unbound l m = refl
joined_kin-assoc mixed l m = refl
joined_kin-assoc (of_class c) unbound m = refl
joined_kin-assoc (of_class c) mixed m = refl
joined_kin-assoc (of_class c) (of_class d) unbound = if_unbound (same_class c d) c
joined_kin-assoc (of_class c) (of_class d) mixed = if_mixed (same_class c d) c
joined_kin-assoc (of_class c) (of_class d) (of_class e) = assoc_classes (same_class c d) (same_class d e) c d e refl refl

pub kin-append : (vs ws : List Datum) → kin (vs ++ ws) ≡ joined_kin (kin vs) (kin ws)
kin-append [] ws = refl
kin-append (v ∷ vs) ws = ap (joined_kin (kin_of v)) (kin-append vs ws) ∙ sym (joined_kin-assoc (kin_of v) (kin vs) (kin ws))

-- a part of what is not mixed is not
pub front_not_mixed : (k l : Kin) → is_mixed (joined_kin k l) ≡ false → is_mixed k ≡ false
front_not_mixed unbound l h = refl
front_not_mixed (of_class c) l h = refl
front_not_mixed mixed l h = h

pub back_not_mixed : (k l : Kin) → is_mixed (joined_kin k l) ≡ false → is_mixed l ≡ false
back_not_mixed k unbound h = refl
back_not_mixed k (of_class c) h = refl
back_not_mixed k mixed h = sym (ap is_mixed (joined_mixed k)) ∙ h

-- ---- what is of a kind

abbrev pub Below : Kin → Kin → Type 0
Below k l = joined_kin l k ≡ k

mixed_is : (k : Kin) → is_mixed k ≡ false → mixed ≡ k → ⊥
mixed_is k h e = let m : true ≡ is_mixed k = ap is_mixed e in cc (m, h)

front_case : (s : Bool) (k : Kin) (c d : Class) → is_mixed k ≡ false → same_class c d ≡ s → joined_kin (if s then of_class c else mixed) k ≡ k → Below k (of_class c)
front_case true k c d h p e = e
front_case false k c d h p e = absurd (mixed_is k h e)

pub front_below : (k a b : Kin) → is_mixed k ≡ false → Below k (joined_kin a b) → Below k a
front_below k unbound b h e = refl
front_below k mixed b h e = e
front_below k (of_class c) unbound h e = e
front_below k (of_class c) mixed h e = absurd (mixed_is k h e)
front_below k (of_class c) (of_class d) h e = front_case (same_class c d) k c d h refl e

back_case : (s : Bool) (k : Kin) (c d : Class) → is_mixed k ≡ false → same_class c d ≡ s → joined_kin (if s then of_class c else mixed) k ≡ k → Below k (of_class d)
back_case true k c d h p e = subst (λ x. Below k (of_class x)) (one_class c d p) e
back_case false k c d h p e = absurd (mixed_is k h e)

pub back_below : (k a b : Kin) → is_mixed k ≡ false → Below k (joined_kin a b) → Below k b
back_below k unbound b h e = e
back_below k mixed b h e = absurd (mixed_is k h e)
back_below k (of_class c) unbound h e = refl
back_below k (of_class c) mixed h e = absurd (mixed_is k h e)
back_below k (of_class c) (of_class d) h e = back_case (same_class c d) k c d h refl e

pub itself_below : (k : Kin) → Below k k
itself_below unbound = refl
itself_below mixed = refl
itself_below (of_class c) = rw (same_itself c) refl
  where
    same_itself : (c : Class) → same_class c c ≡ true
    same_itself class.Null = refl
    same_itself class.Boolean = refl
    same_itself class.Number = refl
    same_itself class.Text = refl
    same_itself class.Date = refl
    same_itself class.DateTime = refl

abbrev OptionBelow : Kin → Option Datum → Type 0
OptionBelow k None = Unit {0}
OptionBelow k (Some v) = Below k (kin_of v)

chosen_below : (k : Kin) (b : Bool) (v w : Datum) → Below k (kin_of v) → Below k (kin_of w) → OptionBelow k (if b then Some w else Some v)
chosen_below k true v w p q = q
chosen_below k false v w p q = p

better_below : (before : Datum → Datum → Bool) (k : Kin) (a b : Option Datum) → OptionBelow k a → OptionBelow k b → OptionBelow k (better before a b)
better_below before k None b p q = q
better_below before k (Some v) None p q = p
better_below before k (Some v) (Some w) p q = chosen_below k (before w v) v w p q

best_below : (before : Datum → Datum → Bool) (k : Kin) (vs : List Datum) → is_mixed k ≡ false → Below k (kin vs) → OptionBelow k (best before vs)
best_below before k [] h e = tt
best_below before k (v ∷ vs) h e =
    better_below before k (Some v) (best before vs) (front_below k (kin_of v) (kin vs) h e) (best_below before k vs h (back_below k (kin_of v) (kin vs) h e))

-- ---- items of one kind compare

abbrev pub Compares : Datum → Datum → Type 0
Compares v w = IsSome (compare_atoms v w)

null_kin : (v : Datum) → kin_of v ≡ unbound → v ≡ null
null_kin null e = refl
null_kin (boolean b) e = absurd cc
null_kin (integer n) e = absurd cc
null_kin (decimal m) e = absurd cc
null_kin (text t) e = absurd cc
null_kin (date d) e = absurd cc
null_kin (date_time t) e = absurd cc
null_kin (array vs) e = absurd cc
null_kin (object ms) e = absurd cc

class_inside : (c d : Class) → of_class c ≡ of_class d → Some c ≡ Some d
class_inside c d e = cc

class_kin : (v : Datum) (c : Class) → kin_of v ≡ of_class c → class_of v ≡ Some c
class_kin null c e = absurd cc
class_kin (boolean b) c e = class_inside class.Boolean c e
class_kin (integer n) c e = class_inside class.Number c e
class_kin (decimal m) c e = class_inside class.Number c e
class_kin (text t) c e = class_inside class.Text c e
class_kin (date d) c e = class_inside class.Date c e
class_kin (date_time t) c e = class_inside class.DateTime c e
class_kin (array vs) c e = absurd cc
class_kin (object ms) c e = absurd cc

atomic_kin : (v : Datum) → is_mixed (kin_of v) ≡ false → IsAtomic v
atomic_kin null e = tt
atomic_kin (boolean b) e = tt
atomic_kin (integer n) e = tt
atomic_kin (decimal m) e = tt
atomic_kin (text t) e = tt
atomic_kin (date d) e = tt
atomic_kin (date_time t) e = tt
atomic_kin (array vs) e = absurd cc
atomic_kin (object ms) e = absurd cc

-- what is below a kind that is not mixed is not
below_not_mixed : (k l : Kin) → is_mixed k ≡ false → Below k l → is_mixed l ≡ false
below_not_mixed k unbound h e = refl
below_not_mixed k (of_class c) h e = refl
below_not_mixed k mixed h e = absurd (mixed_is k h e)

of_one_case : (s : Bool) (c d : Class) → same_class c d ≡ s → (if s then of_class c else mixed) ≡ of_class d → c ≡ d
of_one_case true c d p e = one_class c d p
of_one_case false c d p e = absurd cc

class_below : (c : Class) (k : Kin) → is_mixed k ≡ false → Below k (of_class c) → k ≡ of_class c
class_below c unbound h e = absurd cc
class_below c mixed h e = absurd cc
class_below c (of_class d) h e = ap of_class (sym (of_one_case (same_class c d) c d refl e))

some_mapped : (o : Option Ordering) → is_some (option_map ordering_reverse o) ≡ is_some o
some_mapped None = refl
some_mapped (Some o) = refl

null_compares : (w : Datum) → IsAtomic w → Compares null w
null_compares w h = ap is_some (atomics_ordered.lowest w h)

turned : (v w : Datum) → Compares w v → Compares v w
turned v w h = ap is_some (atomics_ordered.reversed w v) ∙ some_mapped (compare_atoms w v) ∙ h

compares_case : (p q k : Kin) (v w : Datum) → kin_of v ≡ p → kin_of w ≡ q → is_mixed k ≡ false → Below k p → Below k q → Compares v w
compares_case unbound q k v w e f h a b =
    subst (λ x. Compares x w) (sym (null_kin v e)) (null_compares w (atomic_kin w (ap is_mixed f ∙ below_not_mixed k q h b)))
compares_case mixed q k v w e f h a b = absurd (mixed_is k h a)
compares_case (of_class c) unbound k v w e f h a b =
    subst (λ x. Compares v x) (sym (null_kin w f)) (turned v null (null_compares v (atomic_kin v (ap is_mixed e))))
compares_case (of_class c) mixed k v w e f h a b = absurd (mixed_is k h b)
compares_case (of_class c) (of_class d) k v w e f h a b =
    let same : of_class d ≡ of_class c = sym (class_below d k h b) ∙ class_below c k h a in
    atomics_ordered.total v w c (class_kin v c e) (class_kin w d f ∙ class_inside d c same)

pub compares : (k : Kin) (v w : Datum) → is_mixed k ≡ false → Below k (kin_of v) → Below k (kin_of w) → Compares v w
compares k v w h a b = compares_case (kin_of v) (kin_of w) k v w refl refl h a b

-- ---- a test by which items stand in an order

pub record IsOrderTest (before : Datum → Datum → Bool) : Type 0 where
  pub along : (u v w : Datum) → before u v ≡ true → before v w ≡ true → before u w ≡ true
  pub between : (u v w : Datum) → Compares u v → Compares v w → before u v ≡ false → before v w ≡ false → before u w ≡ false

less_is : (o : Option Ordering) → is_less_order o ≡ true → o ≡ Some Less
less_is None h = absurd cc
less_is (Some Less) h = refl
less_is (Some Equal) h = absurd cc
less_is (Some Greater) h = absurd cc

less_along : (u v w : Datum) → is_less u v ≡ true → is_less v w ≡ true → is_less u w ≡ true
less_along u v w p q = ap is_less_order (atomics_ordered.transitive u v w (less_is (compare_atoms u v) p) (less_is (compare_atoms v w) q))

-- where u is less than w, v is greater than u or less than w
between_case : (a b : Bool) (o : Option Ordering) (u v w : Datum) → is_less u w ≡ a → compare_atoms v w ≡ o → IsSome o → is_less u v ≡ false → is_less v w ≡ false → a ≡ false
between_case false b o u v w p e s q r = refl
between_case true b None u v w p e s q r = absurd cc
between_case true b (Some Less) u v w p e s q r = let t : is_less v w ≡ true = ap is_less_order e in absurd (cc (t, r))
between_case true b (Some Equal) u v w p e s q r =
    let same : is_less u v ≡ is_less u w = ap (λ x. is_less_order (order_if (atom u) x)) (atomics_ordered.exact v w e) in absurd (cc (same, p, q))
between_case true b (Some Greater) u v w p e s q r =
    let turn : is_less w v ≡ true = ap is_less_order (atomics_ordered.reversed v w ∙ ap (option_map ordering_reverse) e) in
    let t = less_along u w v p turn in absurd (cc (t, q))

less_between : (u v w : Datum) → Compares u v → Compares v w → is_less u v ≡ false → is_less v w ≡ false → is_less u w ≡ false
less_between u v w a b p q = between_case (is_less u w) true (compare_atoms v w) u v w refl refl b p q

pub less_test : IsOrderTest is_less
less_test = record { along = less_along; between = less_between }

pub greater_test : IsOrderTest is_greater
greater_test = record {
  along = λ u v w p q. less_along w v u q p;
  between = λ u v w a b p q. less_between w v u (turned w v b) (turned v u a) q p;
}

-- ---- the best of lists that are put together

better_none : (before : Datum → Datum → Bool) (a : Option Datum) → better before a None ≡ a
better_none before None = refl
better_none before (Some v) = refl

three_case : (before : Datum → Datum → Bool) (g : IsOrderTest before) (s t : Bool) (v w x : Datum) → Compares w v → Compares x w → before w v ≡ s → before x w ≡ t
    → better before (if s then Some w else Some v) (Some x) ≡ better before (Some v) (if t then Some x else Some w)
three_case before g true true v w x a b p q = let r = g.along x w v q p in rw (q, r) refl
three_case before g true false v w x a b p q = rw (q, p) refl
three_case before g false true v w x a b p q = refl
three_case before g false false v w x a b p q = let r = g.between x w v b a q p in rw (r, p) refl

better-assoc : (before : Datum → Datum → Bool) (g : IsOrderTest before) (k : Kin) → is_mixed k ≡ false → (a b c : Option Datum) → OptionBelow k a → OptionBelow k b → OptionBelow k c → better before (better before a b) c ≡ better before a (better before b c)
better-assoc before g k h None b c p q r = refl
better-assoc before g k h (Some v) None c p q r = refl
better-assoc before g k h (Some v) (Some w) None p q r = better_none before (better before (Some v) (Some w))
better-assoc before g k h (Some v) (Some w) (Some x) p q r =
    three_case before g (before w v) (before x w) v w x (compares k w v h q p) (compares k x w h r q) refl refl

best_under : (before : Datum → Datum → Bool) (g : IsOrderTest before) (k : Kin) (vs ws : List Datum) → is_mixed k ≡ false → Below k (kin vs) → Below k (kin ws) → best before (vs ++ ws) ≡ better before (best before vs) (best before ws)
best_under before g k [] ws h a b = refl
best_under before g k (v ∷ vs) ws h a b =
    let first = front_below k (kin_of v) (kin vs) h a in
    let rest = back_below k (kin_of v) (kin vs) h a in
    ap (better before (Some v)) (best_under before g k vs ws h rest b)
    ∙ sym (better-assoc before g k h (Some v) (best before vs) (best before ws) first (best_below before k vs h rest) (best_below before k ws h b))

pub best-append : (before : Datum → Datum → Bool) (g : IsOrderTest before) (vs ws : List Datum) → is_mixed (kin (vs ++ ws)) ≡ false → best before (vs ++ ws) ≡ better before (best before vs) (best before ws)
best-append before g vs ws h =
    let k = kin (vs ++ ws) in
    let whole : Below k (joined_kin (kin vs) (kin ws)) = subst (λ l. Below k l) (kin-append vs ws) (itself_below k) in
    best_under before g k vs ws h (front_below k (kin vs) (kin ws) h whole) (back_below k (kin vs) (kin ws) h whole)

-- ---- what is kept of a list

pub keeps_none : (before : Datum → Datum → Bool) (k : Kin) (f : Option Datum) → k ≡ unbound → f ≡ None → Keeps before k f []
keeps_none before k f e p = (e, λ h. p)

pub keeps_joined : (before : Datum → Datum → Bool) (g : IsOrderTest before) (k l m : Kin) (f e o : Option Datum) (vs ws : List Datum) → Keeps before k f vs → Keeps before l e ws → m ≡ joined_kin k l → (is_mixed m ≡ false → o ≡ better before f e) → Keeps before m o (vs ++ ws)
keeps_joined before g k l m f e o vs ws p q s t = (whole, found)
  where
    whole : m ≡ kin (vs ++ ws)
    whole = s ∙ (λ i. joined_kin (p.0 i) (q.0 i)) ∙ sym (kin-append vs ws)

    found : is_mixed m ≡ false → o ≡ best before (vs ++ ws)
    found h =
        let both : is_mixed (joined_kin k l) ≡ false = sym (ap is_mixed s) ∙ h in
        t h ∙ (λ i. better before (p.1 (front_not_mixed k l both) i) (q.1 (back_not_mixed k l both) i)) ∙ sym (best-append before g vs ws (sym (ap is_mixed whole) ∙ h))

keeps_one : (before : Datum → Datum → Bool) (v : Datum) → Keeps before (kin_of v) (Some v) (v ∷ [])
keeps_one before v = (sym (joined_unbound (kin_of v)), λ h. refl)

pub keeps_more : (before : Datum → Datum → Bool) (g : IsOrderTest before) (k m : Kin) (f o : Option Datum) (vs : List Datum) (v : Datum) → Keeps before k f vs → m ≡ joined_kin k (kin_of v) → (is_mixed m ≡ false → o ≡ better before f (Some v)) → Keeps before m o (vs ++ v ∷ [])
keeps_more before g k m f o vs v p s t = keeps_joined before g k (kin_of v) m f (Some v) o vs (v ∷ []) p (keeps_one before v) s t

value_case : (k : Kin) (f o : Option Datum) → (is_mixed k ≡ false → f ≡ o) → unless_mixed k f ≡ unless_mixed k o
value_case unbound f o h = ap (unless_mixed unbound) (h refl)
value_case (of_class c) f o h = ap (unless_mixed (of_class c)) (h refl)
value_case mixed f o h = refl

pub keeps_value : (before : Datum → Datum → Bool) (k : Kin) (f : Option Datum) (vs : List Datum) → Keeps before k f vs → unless_mixed k f ≡ best_values before vs
keeps_value before k f vs h = value_case k f (best before vs) h.1 ∙ ap (λ l. unless_mixed l (best before vs)) h.0

pub both_on_ok : {X E : Type 0} {A B C : Type 0} (r : Result X E) → (A → B → C) → OnOk r A → OnOk r B → OnOk r C
both_on_ok (Ok x) f a b = f a b
both_on_ok (Err e) f a b = tt

pub map_ok : {X E : Type 0} {P Q : X → Type 0} (r : Result X E) → ((x : X) → P x → Q x) → IfOk r P → IfOk r Q
map_ok (Ok x) f h = f x h
map_ok (Err e) f h = tt

pub map_err : {X E : Type 0} {P Q : E → Type 0} (r : Result X E) → ((e : E) → P e → Q e) → IfErr r P → IfErr r Q
map_err (Ok x) f h = tt
map_err (Err e) f h = f e h
