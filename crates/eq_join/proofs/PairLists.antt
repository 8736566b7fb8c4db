-- Pairs by what clashes and by what is equal, and lists with one key more.
use Rattle.std.proofs.Common.{◌≡◌, ℕ, suc, ◌+◌, Bool, true, false, if◌then◌else◌, List, [], ◌∷◌, ◌++◌, length, Option, Some, None, Result, Ok, Err, refl, sym, ap, ◌∙◌, arith}
use Rattle.item_tree.specs.declared.code.Code.{Code}
use Rattle.item_tree.specs.declared.class.Class.{Class}
use Rattle.item_tree.specs.Datum.{Datum}
use Rattle.item_tree.specs.Classes.{class_of}
use Rattle.item_tree.specs.Compare.{compare_atoms, is_equal}
use Rattle.tuple_rows.specs.Keys.{KeyList}
use Rattle.eq_join.specs.declared.pair_fault.PairFault.{PairFault}
use Rattle.eq_join.specs.declared.clashes.Clashes.{Clashes}
use Rattle.eq_join.specs.Pairs.{with_pair, pairs_from, pairs}
use Rattle.eq_join.specs.Clashes.{clash, clash_at, earlier, first_clash}
use Rattle.eq_join.specs.inside.Noted.{noted, AreClashes}
use Rattle.eq_join.specs.inside.Places.{matches}
use Rattle.eq_join.proofs.Comparisons.{outcome, item_comparison}

-- an empty key has no pairs
pub empty_pairs : (at : ℕ) (ls : KeyList) → pairs_from None at ls ≡ Ok []
empty_pairs at [] = refl
empty_pairs at (l ∷ ls) = empty_pairs (suc at) ls

-- the first clash where there is one, and else these positions
abbrev answer : Option PairFault → List ℕ → Result (List ℕ) PairFault
answer None js = Ok js
answer (Some f) js = Err f

pair_step : (o : Option Code) (b : Bool) (at : ℕ) (f : Option PairFault) (js : List ℕ)
    → with_pair (outcome o b) at (answer f js) ≡ answer (earlier (clash_at o at) f) (if b then at ∷ js else js)
pair_step (Some e) b at f js = refl
pair_step None true at None js = refl
pair_step None true at (Some g) js = refl
pair_step None false at None js = refl
pair_step None false at (Some g) js = refl

pairs_are : (v : Datum) (at : ℕ) (ls : KeyList)
    → pairs_from (Some v) at ls ≡ answer (first_clash (class_of v) at ls) (matches v at ls)
pairs_are v at [] = refl
pairs_are v at (None ∷ ls) = pairs_are v (suc at) ls
pairs_are v at (Some w ∷ ls) =
    (λ i. with_pair (item_comparison v w i) at (pairs_are v (suc at) ls i))
    ∙ pair_step (clash (class_of v) (class_of w)) (is_equal (compare_atoms v w)) at (first_clash (class_of v) (suc at) ls) (matches v (suc at) ls)

-- what is answered where there is a clash, and where there is none
pub clash_answer : (v : Datum) (ls : KeyList) (f : PairFault) → first_clash (class_of v) 0 ls ≡ Some f → pairs (Some v) ls ≡ Err f
clash_answer v ls f h = pairs_are v 0 ls ∙ ap (λ (o : Option PairFault). answer o (matches v 0 ls)) h

pub hits_answer : (v : Datum) (ls : KeyList) (js : List ℕ) → first_clash (class_of v) 0 ls ≡ None → js ≡ matches v 0 ls
    → pairs (Some v) ls ≡ Ok js
hits_answer v ls js h e =
    pairs_are v 0 ls ∙ ap (λ (o : Option PairFault). answer o (matches v 0 ls)) h ∙ sym (ap (λ (is : List ℕ). answer None is) e)

-- one key more
earlier_none : (f : Option PairFault) → earlier f None ≡ f
earlier_none None = refl
earlier_none (Some f) = refl

earlier_both : (f g h : Option PairFault) → earlier (earlier f g) h ≡ earlier f (earlier g h)
earlier_both None g h = refl
earlier_both (Some f) g h = refl

clash_more : (c : Option Class) (at n : ℕ) (ls : KeyList) (l : Option Datum) → at + length ls ≡ n
    → first_clash c at (ls ++ l ∷ []) ≡ earlier (first_clash c at ls) (first_clash c n (l ∷ []))
clash_more c at n [] l h = let same : at ≡ n = omega arith in ap (λ (m : ℕ). first_clash c m (l ∷ [])) same
clash_more c at n (None ∷ ls) l h = let next : suc at + length ls ≡ n = omega arith in clash_more c (suc at) n ls l next
clash_more c at n (Some w ∷ ls) l h =
    let next : suc at + length ls ≡ n = omega arith in
    ap (λ (f : Option PairFault). earlier (clash_at (clash c (class_of w)) at) f) (clash_more c (suc at) n ls l next)
    ∙ sym (earlier_both (clash_at (clash c (class_of w)) at) (first_clash c (suc at) ls) (first_clash c n (l ∷ [])))

pub noted_empty : (s : Clashes) (ls : KeyList) → AreClashes s ls → AreClashes s (ls ++ None ∷ [])
noted_empty s ls a = λ c.
    let long : 0 + length ls ≡ length ls = omega arith in
    a c ∙ sym (clash_more c 0 (length ls) ls None long ∙ earlier_none (first_clash c 0 ls))

pub noted_item : (s t : Clashes) (w : Datum) (at : ℕ) (ls : KeyList) → length ls ≡ at
    → ((c : Option Class) → noted t c ≡ earlier (noted s c) (clash_at (clash c (class_of w)) at))
    → AreClashes s ls → AreClashes t (ls ++ Some w ∷ [])
noted_item s t w at ls h more a = λ c.
    let long : 0 + length ls ≡ at = omega arith in
    more c
    ∙ ap (λ (f : Option PairFault). earlier f (clash_at (clash c (class_of w)) at)) (a c)
    ∙ ap (λ (f : Option PairFault). earlier (first_clash c 0 ls) f) (sym (earlier_none (clash_at (clash c (class_of w)) at)))
    ∙ sym (clash_more c 0 at ls (Some w) long)

matches_case : (b : Bool) (at : ℕ) (js ks ends : List ℕ) → js ≡ ks ++ ends
    → (if b then at ∷ js else js) ≡ (if b then at ∷ ks else ks) ++ ends
matches_case true at js ks ends h = ap (λ (is : List ℕ). at ∷ is) h
matches_case false at js ks ends h = h

pub matches_more : (v : Datum) (at n : ℕ) (ls : KeyList) (l : Option Datum) → at + length ls ≡ n
    → matches v at (ls ++ l ∷ []) ≡ matches v at ls ++ matches v n (l ∷ [])
matches_more v at n [] l h = let same : at ≡ n = omega arith in ap (λ (m : ℕ). matches v m (l ∷ [])) same
matches_more v at n (None ∷ ls) l h = let next : suc at + length ls ≡ n = omega arith in matches_more v (suc at) n ls l next
matches_more v at n (Some w ∷ ls) l h =
    let next : suc at + length ls ≡ n = omega arith in
    matches_case (is_equal (compare_atoms v w)) at (matches v (suc at) (ls ++ l ∷ [])) (matches v (suc at) ls) (matches v n (l ∷ []))
    (matches_more v (suc at) n ls l next)
