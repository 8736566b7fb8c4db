-- The best of a list is the first of the best.
use Rattle.std.proofs.Common.{◌≡◌, ◌++◌, Bool, true, false, if◌then◌else◌, List, [], ◌∷◌, Option, Some, None, Result, Ok, refl, ap, subst, ◌∙◌}
use Rattle.std.specs.Prelude.{not, option_to_list}
use Rattle.std.specs.List.{list_all}
use Rattle.std.proofs.lemmas.Bool.{and_parts, and_from}
use Rattle.item_tree.specs.declared.code.Code.{Code}
use Rattle.item_tree.specs.Datum.{Datum}
use Rattle.value_rules.specs.Numbers.{Kin, unbound, of_class, mixed, kin_of, kin, is_less, is_greater, better, best, unless_mixed}
use Rattle.fn_numbers.specs.inside.Candidates.{is_mixed}
use Rattle.fn_numbers.specs.Laws.{IsFirstBest, ExtremesAreFirst}
use Rattle.fn_numbers.proofs.BestLemmas.{Below, front_below, back_below, itself_below, kin-append, compares, IsOrderTest, less_test, greater_test}

all_of_both : (p : Datum → Bool) (xs ys : List Datum) → list_all p xs ≡ true → list_all p ys ≡ true → list_all p (xs ++ ys) ≡ true
all_of_both p [] ys h k = k
all_of_both p (x ∷ xs) ys h k =
    let parts = and_parts (p x) (list_all p xs) h in and_from (p x) (list_all p (xs ++ ys)) parts.0 (all_of_both p xs ys parts.1 k)

not_true : (b : Bool) → not b ≡ true → b ≡ false
not_true true h = absurd cc
not_true false h = refl

-- what an item goes before does not go before what it does not go before itself
passed_case : (b : Bool) (before : Datum → Datum → Bool) (g : IsOrderTest before) (u w x : Datum) → before x u ≡ b → before w x ≡ true → before w u ≡ false → not b ≡ true
passed_case true before g u w x e h k = let t = g.along w x u h e in absurd (cc (t, k))
passed_case false before g u w x e h k = refl

front_later : (before : Datum → Datum → Bool) (g : IsOrderTest before) (u w : Datum) (xs : List Datum) → list_all (λ x. before w x) xs ≡ true → before w u ≡ false → list_all (λ x. not (before x u)) xs ≡ true
front_later before g u w [] h k = refl
front_later before g u w (x ∷ xs) h k =
    let parts = and_parts (before w x) (list_all (λ y. before w y) xs) h in
    and_from (not (before x u)) (list_all (λ y. not (before y u)) xs) (passed_case (before x u) before g u w x refl parts.0 k) (front_later before g u w xs parts.1 k)

back_later : (before : Datum → Datum → Bool) (g : IsOrderTest before) (k : Kin) (u w : Datum) (xs : List Datum) → is_mixed k ≡ false → Below k (kin_of u) → Below k (kin_of w) → Below k (kin xs) → list_all (λ x. not (before x w)) xs ≡ true → before w u ≡ false → list_all (λ x. not (before x u)) xs ≡ true
back_later before g k u w [] n a b c h e = refl
back_later before g k u w (x ∷ xs) n a b c h e =
    let parts = and_parts (not (before x w)) (list_all (λ y. not (before y w)) xs) h in
    let first = front_below k (kin_of x) (kin xs) n c in
    let apart = g.between x w u (compares k x w n first b) (compares k w u n b a) (not_true (before x w) parts.0) e in
    and_from (not (before x u)) (list_all (λ y. not (before y u)) xs) (ap not apart) (back_later before g k u w xs n a b (back_below k (kin_of x) (kin xs) n c) parts.1 e)

some_better : (before : Datum → Datum → Bool) (u : Datum) (r : Option Datum) → better before (Some u) r ≡ None → Some u ≡ None
some_better before u None h = h
some_better before u (Some w) h = chosen (before w u) h
  where
    chosen : (b : Bool) → (if b then Some w else Some u) ≡ None → Some u ≡ None
    chosen true e = absurd cc
    chosen false e = e

none_empty : (before : Datum → Datum → Bool) (us : List Datum) → best before us ≡ None → us ≡ []
none_empty before [] h = refl
none_empty before (u ∷ us) h = let e = some_better before u (best before us) h in absurd cc

same_inside : (u v : Datum) → Some u ≡ Some v → u ≡ v
same_inside u v e = cc

-- an item before a list of which the best is known
later_case : (b : Bool) (before : Datum → Datum → Bool) (g : IsOrderTest before) (k : Kin) (u w v : Datum) (us : List Datum) → is_mixed k ≡ false → Below k (kin_of u) → Below k (kin us) → IsFirstBest before us w → before w u ≡ b → (if b then Some w else Some u) ≡ Some v → IsFirstBest before (u ∷ us) v
later_case true before g k u w v us n a c i p e =
    subst (λ x. IsFirstBest before (u ∷ us) x) (same_inside w v e)
    (record { front = u ∷ i.front; back = i.back; whole = ap (λ l. u ∷ l) i.whole; earlier = and_from (before w u) (list_all (λ x. before w x) i.front) p i.earlier; later = i.later })
later_case false before g k u w v us n a c i p e =
    let parts : Below k (kin (i.front ++ w ∷ i.back)) = subst (λ l. Below k (kin l)) i.whole c in
    let rest = back_below k (kin i.front) (kin (w ∷ i.back)) n (subst (λ l. Below k l) (kin-append i.front (w ∷ i.back)) parts) in
    let there = front_below k (kin_of w) (kin i.back) n rest in
    let behind = back_below k (kin_of w) (kin i.back) n rest in
    let front = front_later before g u w i.front i.earlier p in
    let back = and_from (not (before w u)) (list_all (λ x. not (before x u)) i.back) (ap not p) (back_later before g k u w i.back n a there behind i.later p) in
    let all : list_all (λ x. not (before x u)) us ≡ true =
    ap (list_all (λ x. not (before x u))) i.whole ∙ all_of_both (λ x. not (before x u)) i.front (w ∷ i.back) front back
    in
    subst (λ x. IsFirstBest before (u ∷ us) x) (same_inside u v e) (record { front = []; back = us; whole = refl; earlier = refl; later = all })

step_case : (r : Option Datum) (before : Datum → Datum → Bool) (g : IsOrderTest before) (k : Kin) (u v : Datum) (us : List Datum) → is_mixed k ≡ false → Below k (kin_of u) → Below k (kin us) → best before us ≡ r → ((w : Datum) → r ≡ Some w → IsFirstBest before us w) → better before (Some u) r ≡ Some v → IsFirstBest before (u ∷ us) v
step_case None before g k u v us n a c q i e =
    let none = ap (list_all (λ x. not (before x u))) (none_empty before us q) in
    subst (λ x. IsFirstBest before (u ∷ us) x) (same_inside u v e) (record { front = []; back = us; whole = refl; earlier = refl; later = none })
step_case (Some w) before g k u v us n a c q i e = later_case (before w u) before g k u w v us n a c (i w refl) refl e

first_best : (before : Datum → Datum → Bool) (g : IsOrderTest before) (k : Kin) (vs : List Datum) (v : Datum) → is_mixed k ≡ false → Below k (kin vs) → best before vs ≡ Some v → IsFirstBest before vs v
first_best before g k [] v n c e = absurd cc
first_best before g k (u ∷ us) v n c e =
    let rest = back_below k (kin_of u) (kin us) n c in
    step_case (best before us) before g k u v us n (front_below k (kin_of u) (kin us) n c) rest refl (λ w h. first_best before g k us w n rest h) e

-- a value of one item is what was found among items that compare
abbrev given : List Datum → Result (List Datum) Code
given vs = Ok vs

one_listed : (o : Option Datum) (v : Datum) → given (option_to_list o) ≡ given (v ∷ []) → o ≡ Some v
one_listed None v h = absurd cc
one_listed (Some w) v h = cc

value_found : (k : Kin) (o : Option Datum) (v : Datum) → unless_mixed k o ≡ Ok (v ∷ []) → (is_mixed k ≡ false) × (o ≡ Some v)
value_found unbound o v h = (refl, one_listed o v h)
value_found (of_class c) o v h = (refl, one_listed o v h)
value_found mixed o v h = absurd cc

first_of : (before : Datum → Datum → Bool) (g : IsOrderTest before) (vs : List Datum) (v : Datum) → unless_mixed (kin vs) (best before vs) ≡ Ok (v ∷ []) → IsFirstBest before vs v
first_of before g vs v h =
    let found = value_found (kin vs) (best before vs) v h in first_best before g (kin vs) vs v found.0 (itself_below (kin vs)) found.1

pub extremes_first : ExtremesAreFirst
extremes_first = record { least = first_of is_less less_test; greatest = first_of is_greater greater_test }
