-- What is kept of one column tells the first clash in it.
use Rattle.std.proofs.Common.{◌≡◌, ℕ, zero, suc, ◌+◌, ◌<◌, ◌≤◌, ◌==◌, ◌||◌, Bool, true, false, not, if◌then◌else◌, List, [], ◌∷◌, ◌++◌, length, Option, None, Some, is_some, refl, sym, ap, ◌∙◌, arith}
use Rattle.std.proofs.lemmas.Bool.Decides.{nat_tests}
use Rattle.item_tree.specs.declared.class.Class.{Class}
use Rattle.item_tree.specs.declared.class.Class.TheVariants.{Null, Boolean, Number, Text, Date, DateTime}
use Rattle.order_runs.specs.declared.column_seen.First.{First}
use Rattle.order_runs.specs.declared.column_seen.ColumnSeen.{ColumnSeen}
use Rattle.item_tree.specs.Classes.{class_number, same_class}
use Rattle.order_runs.specs.Clashes.{differ, clashes}
use Rattle.order_runs.specs.Seen.{Sees, nothing, one, several, meets, seeing, further, clash_from, one_later, start_of, column_seen}
use Rattle.order_runs.specs.inside.Follow.{sees_of, sees, place_of, clash_of_one, clash_of, shifted, plus, first_some, or_later, followed, IsPlaced, IsWithin}
use Rattle.order_runs.specs.inside.Columns.{column_clash}

class_with : ℕ → Class
class_with zero = Null
class_with (suc zero) = Boolean
class_with (suc (suc zero)) = Number
class_with (suc (suc (suc zero))) = Text
class_with (suc (suc (suc (suc zero)))) = Date
class_with (suc (suc (suc (suc (suc n))))) = DateTime

class_back : (c : Class) → class_with (class_number c) ≡ c
unfolding class_with
class_back Null = refl
class_back Boolean = refl
class_back Number = refl
class_back Text = refl
class_back Date = refl
class_back DateTime = refl

number_self : (n : ℕ) → (n == n) ≡ true
number_self n = grind (arith, nat_tests)

number_same : (m n : ℕ) → (m == n) ≡ true → m ≡ n
number_same m n h = grind (arith, nat_tests)

same_self : (c : Class) → same_class c c ≡ true
same_self c = number_self (class_number c)

same_is : (c d : Class) → same_class c d ≡ true → c ≡ d
same_is c d h = sym (class_back c) ∙ ap class_with (number_same (class_number c) (class_number d) h) ∙ class_back d

or_false : (b : Bool) → b ≡ (b || false)
or_false true = refl
or_false false = refl

or_self : (b : Bool) → b ≡ (b || b)
or_self true = refl
or_self false = refl

or_assoc : (a b c : Bool) → ((a || b) || c) ≡ (a || (b || c))
or_assoc true b c = refl
or_assoc false b c = refl

-- what was seen in all
abbrev pub sees_from : Sees → List (Option Class) → Sees
sees_from st [] = st
sees_from st (r ∷ rs) = sees_from (seeing st r) rs

both_differ : (a b : Bool) (c d e : Class) → same_class c e ≡ a → same_class d e ≡ b → same_class c d ≡ false → true ≡ (not a || not b)
both_differ false b c d e p q h = refl
both_differ true false c d e p q h = refl
both_differ true true c d e p q h =
    let k : same_class c d ≡ true = ap (λ x. same_class c x) (same_is d e q ∙ sym (same_is c e p)) ∙ same_self c in absurd cc

meets_case : (b : Bool) (c d : Class) (r : Option Class) → same_class c d ≡ b
    → meets (if b then one c else several) r ≡ (differ (Some c) r || differ (Some d) r)
meets_case true c d r h = or_self (differ (Some c) r) ∙ ap (λ x. differ (Some c) r || differ (Some x) r) (same_is c d h)
meets_case false c d None h = refl
meets_case false c d (Some e) h = both_differ (same_class c e) (same_class d e) c d e refl refl h

is_some_or : (r : Option Class) (d : Class) → is_some r ≡ (is_some r || differ (Some d) r)
is_some_or None d = refl
is_some_or (Some e) d = refl

meets_one : (st : Sees) (q r : Option Class) → meets (seeing st q) r ≡ (meets st r || differ q r)
meets_one nothing None r = refl
meets_one nothing (Some d) r = refl
meets_one (one c) None r = or_false (differ (Some c) r)
meets_one (one c) (Some d) r = meets_case (same_class c d) c d r refl
meets_one several None r = or_false (is_some r)
meets_one several (Some d) r = is_some_or r d

meets_all : (st : Sees) (rs : List (Option Class)) (r : Option Class) → meets (sees_from st rs) r ≡ (meets st r || clashes rs r)
meets_all st [] r = or_false (meets st r)
meets_all st (q ∷ rs) r =
    meets_all (seeing st q) rs r ∙ ap (λ b. b || clashes rs r) (meets_one st q r) ∙ or_assoc (meets st r) (differ q r) (clashes rs r)

sees_end : (st : Sees) (rs : List (Option Class)) (q : Option Class) → sees_from st (rs ++ q ∷ []) ≡ seeing (sees_from st rs) q
sees_end st [] q = refl
sees_end st (r ∷ rs) q = sees_end (seeing st r) rs q

clash_from_seen : (rs qs : List (Option Class)) → column_clash rs qs ≡ clash_from (sees_from nothing rs) qs
clash_from_seen rs [] = refl
clash_from_seen rs (q ∷ qs) =
    ap (λ b. if b then Some 0 else further (column_clash (rs ++ q ∷ []) qs)) (sym (meets_all nothing rs q))
    ∙ ap (λ o. if meets (sees_from nothing rs) q then Some 0 else further o)
    (clash_from_seen (rs ++ q ∷ []) qs ∙ ap (λ st. clash_from st qs) (sees_end nothing rs q))

-- what is kept tells what was seen
sees_by : Class → Option ℕ → Sees
sees_by c None = one c
sees_by c (Some t) = several

several_stays : (rs : List (Option Class)) → sees_from several rs ≡ several
several_stays [] = refl
several_stays (None ∷ rs) = several_stays rs
several_stays (Some d ∷ rs) = several_stays rs

by_further : (c : Class) (o : Option ℕ) → sees_by c o ≡ sees_by c (further o)
unfolding sees_by
by_further c None = refl
by_further c (Some t) = refl

one_case : (b : Bool) (c d : Class) (rs : List (Option Class)) → same_class c d ≡ b → sees_from (one c) rs ≡ sees_by c (clash_from (one c) rs)
    → sees_from (if b then one c else several) rs ≡ sees_by c (if not b then Some 0 else further (clash_from (if b then one c else several) rs))
unfolding sees_by
one_case true c d rs h rest = rest ∙ by_further c (clash_from (one c) rs)
one_case false c d rs h rest = several_stays rs

one_seen : (c : Class) (rs : List (Option Class)) → sees_from (one c) rs ≡ sees_by c (clash_from (one c) rs)
unfolding sees_by
one_seen c [] = refl
one_seen c (None ∷ rs) = one_seen c rs ∙ by_further c (clash_from (one c) rs)
one_seen c (Some d ∷ rs) = one_case (same_class c d) c d rs refl (one_seen c rs)

of_further : (s : Option First) (o : Option ℕ) → sees_of s o ≡ sees_of (one_later s) (further o)
of_further None o = refl
of_further (Some f) None = refl
of_further (Some f) (Some t) = refl

of_by : (c : Class) (o : Option ℕ) → sees_by c o ≡ sees_of (Some (record { class = c; before = 0 })) (further o)
unfolding sees_by
of_by c None = refl
of_by c (Some t) = refl

pub sees_column : (rs : List (Option Class)) → sees_from nothing rs ≡ sees (column_seen rs)
sees_column [] = refl
sees_column (None ∷ rs) = sees_column rs ∙ of_further (start_of rs) (clash_from nothing rs)
sees_column (Some c ∷ rs) = one_seen c rs ∙ of_by c (clash_from (one c) rs)

-- and the first clash behind what was seen
with_further : (b : Bool) (o : Option ℕ) (n : ℕ) → further (if b then o else Some n) ≡ (if b then further o else Some (suc n))
with_further true o n = refl
with_further false o n = refl

one_further : (c : Class) (s : Option First) (o : Option ℕ) → further (clash_of_one c s o) ≡ clash_of_one c (one_later s) (further o)
one_further c None o = refl
one_further c (Some f) o = with_further (same_class c f.class) o f.before

clash_case : (b : Bool) (c d : Class) (qs : List (Option Class)) → same_class c d ≡ b
    → (if not b then Some 0 else further (clash_from (if b then one c else several) qs)) ≡ (if b then further (clash_from (one d) qs) else Some 0)
clash_case true c d qs h = ap (λ x. further (clash_from (one x) qs)) (same_is c d h)
clash_case false c d qs h = refl

clash_one : (c : Class) (qs : List (Option Class)) → clash_from (one c) qs ≡ clash_of_one c (start_of qs) (clash_from nothing qs)
clash_one c [] = refl
clash_one c (None ∷ qs) = ap further (clash_one c qs) ∙ one_further c (start_of qs) (clash_from nothing qs)
clash_one c (Some d ∷ qs) = clash_case (same_class c d) c d qs refl

place_further : (s : Option First) → further (place_of s) ≡ place_of (one_later s)
place_further None = refl
place_further (Some f) = refl

clash_several : (qs : List (Option Class)) → clash_from several qs ≡ place_of (start_of qs)
clash_several [] = refl
clash_several (None ∷ qs) = ap further (clash_several qs) ∙ place_further (start_of qs)
clash_several (Some d ∷ qs) = refl

clash_by : (st : Sees) (qs : List (Option Class)) → clash_from st qs ≡ clash_of st (column_seen qs)
clash_by nothing qs = refl
clash_by (one c) qs = clash_one c qs
clash_by several qs = clash_several qs

-- the first clash of a column is told by what is kept of it, and of the keys before it
pub column_told : (rs qs : List (Option Class)) → column_clash rs qs ≡ clash_of (sees (column_seen rs)) (column_seen qs)
column_told rs qs =
    clash_from_seen rs qs ∙ ap (λ st. clash_from st qs) (sees_column rs) ∙ clash_by (sees (column_seen rs)) qs

-- one list behind another
plus_none : (o : Option ℕ) → o ≡ plus 0 o
plus_none None = refl
plus_none (Some t) = ap (λ n. Some n) (omega arith)

shifted_none : (s : Option First) → s ≡ shifted 0 s
shifted_none None = refl
shifted_none (Some f) = ap (λ n. Some (record { class = f.class; before = n })) (omega arith)

later_shifted : (n : ℕ) (a b : Option First) → one_later (first_some a (shifted n b)) ≡ first_some (one_later a) (shifted (suc n) b)
later_shifted n None None = refl
later_shifted n None (Some f) = ap (λ k. Some (record { class = f.class; before = k })) (omega arith)
later_shifted n (Some f) b = refl

start-append : (rs qs : List (Option Class)) → start_of (rs ++ qs) ≡ first_some (start_of rs) (shifted (length rs) (start_of qs))
start-append [] qs = shifted_none (start_of qs)
start-append (None ∷ rs) qs = ap one_later (start-append rs qs) ∙ later_shifted (length rs) (start_of rs) (start_of qs)
start-append (Some c ∷ rs) qs = refl

further_later : (n : ℕ) (a b : Option ℕ) → further (or_later a (plus n b)) ≡ or_later (further a) (plus (suc n) b)
further_later n None None = refl
further_later n None (Some t) = ap (λ k. Some k) (omega arith)
further_later n (Some s) b = refl

append_case : (b : Bool) (n : ℕ) (x y z : Option ℕ) → x ≡ or_later y (plus n z)
    → (if b then Some 0 else further x) ≡ or_later (if b then Some 0 else further y) (plus (suc n) z)
append_case true n x y z h = refl
append_case false n x y z h = ap further h ∙ further_later n y z

clash-append : (st : Sees) (rs qs : List (Option Class))
    → clash_from st (rs ++ qs) ≡ or_later (clash_from st rs) (plus (length rs) (clash_from (sees_from st rs) qs))
clash-append st [] qs = plus_none (clash_from st qs)
clash-append st (r ∷ rs) qs =
    append_case (meets st r) (length rs) (clash_from (seeing st r) (rs ++ qs)) (clash_from (seeing st r) rs)
    (clash_from (sees_from (seeing st r) rs) qs) (clash-append (seeing st r) rs qs)

pub column_seen-append : (rs qs : List (Option Class)) → column_seen (rs ++ qs) ≡ followed (length rs) (column_seen rs) (column_seen qs)
column_seen-append rs qs =
    let back : clash_from nothing (rs ++ qs) ≡ or_later (clash_from nothing rs) (plus (length rs) (clash_of (sees (column_seen rs)) (column_seen qs))) =
    clash-append nothing rs qs
    ∙ ap (λ o. or_later (clash_from nothing rs) (plus (length rs) o))
    (ap (λ st. clash_from st qs) (sees_column rs) ∙ clash_by (sees (column_seen rs)) qs) in
    λ i. record { first = start-append rs qs i; other = back i }

-- places stay within the list
pub placed_more : (m n : ℕ) (o : Option ℕ) → m ≤ n → IsPlaced m o → IsPlaced n o
placed_more m n None le a = tt
placed_more m n (Some t) le a = let lt : t < m = a in omega arith

placed_shifted : (n m : ℕ) (s : Option First) → IsPlaced m (place_of s) → IsPlaced (n + m) (place_of (shifted n s))
placed_shifted n m None a = tt
placed_shifted n m (Some f) a = let lt : f.before < m = a in omega arith

placed_plus : (n m : ℕ) (o : Option ℕ) → IsPlaced m o → IsPlaced (n + m) (plus n o)
placed_plus n m None a = tt
placed_plus n m (Some t) a = let lt : t < m = a in omega arith

first_placed : (k : ℕ) (a b : Option First) → IsPlaced k (place_of a) → IsPlaced k (place_of b) → IsPlaced k (place_of (first_some a b))
first_placed k None b p q = q
first_placed k (Some f) b p q = p

later_placed : (k : ℕ) (a b : Option ℕ) → IsPlaced k a → IsPlaced k b → IsPlaced k (or_later a b)
later_placed k None b p q = q
later_placed k (Some t) b p q = p

one_placed_case : (b : Bool) (m n : ℕ) (other : Option ℕ) → IsPlaced m (Some n) → IsPlaced m other → IsPlaced m (if b then other else Some n)
one_placed_case true m n other p q = q
one_placed_case false m n other p q = p

one_placed : (k : Class) (m : ℕ) (s : Option First) (o : Option ℕ) → IsPlaced m (place_of s) → IsPlaced m o → IsPlaced m (clash_of_one k s o)
one_placed k m None o p q = tt
one_placed k m (Some f) o p q = one_placed_case (same_class k f.class) m f.before o p q

pub clash_placed : (m : ℕ) (st : Sees) (c : ColumnSeen) → IsWithin m c → IsPlaced m (clash_of st c)
clash_placed m nothing c w = w.1
clash_placed m (one k) c w = one_placed k m c.first c.other (w.0) (w.1)
clash_placed m several c w = w.0

pub followed_within : (n m : ℕ) (c d : ColumnSeen) → IsWithin n c → IsWithin m d → IsWithin (n + m) (followed n c d)
followed_within n m c d v w = (
  first_placed (n + m) c.first (shifted n d.first) (placed_more n (n + m) (place_of c.first) (omega arith) (v.0)) (placed_shifted n m d.first (w.0)),
  later_placed (n + m) c.other (plus n (clash_of (sees c) d)) (placed_more n (n + m) c.other (omega arith) (v.1))
      (placed_plus n m (clash_of (sees c) d) (clash_placed m (sees c) d w)),
)
