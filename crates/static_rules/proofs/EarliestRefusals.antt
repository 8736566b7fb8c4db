-- The earliest of all that is broken is the refusal.
use Rattle.std.proofs.Common.{◌≡◌, ℕ, ◌≤◌, Bool, true, false, cond, ◌&&◌, ◌||◌, ◌⊎◌, inl, inr, nat_eq, nat_lt, Option, Some, None, List, [], ◌∷◌, map, refl, sym, ap, subst, ◌∙◌, arith}
use Rattle.std.specs.List.{list_any, filter, flat_map}
use Rattle.std.proofs.lemmas.Bool.Decides.{nat_tests}
use Rattle.std.proofs.lemmas.List.Folds.{list_any-append}
use Rattle.item_tree.proofs.Members.{both}
use Rattle.query_tree.specs.NamedViews.{NamedQuery}
use Rattle.static_rules.specs.Mentions.{MentionAt, query_mentions}
use Rattle.static_rules.specs.declared.rules.Refusal.{Refusal}
use Rattle.static_rules.specs.declared.rules.Rule.{Rule}
use Rattle.static_rules.specs.declared.rules.Rule.TheVariants.{UnboundVariable}
use Rattle.static_rules.specs.Rules.{rules, rank, breaks}
use Rattle.static_rules.specs.Refusals.{IsRefusal, RefusalsAreExact, is_broken, refusals_at, comes_before, earlier_of, earliest, refusal}

-- the same rule at the same place
same : ℕ → ℕ → Refusal → Bool
same place number r = nat_eq (rank r.rule) number && nat_eq r.place place

or_false : (b : Bool) → (b || false) ≡ b
or_false true = refl
or_false false = refl

or_true : (b : Bool) → (b || true) ≡ true
or_true true = refl
or_true false = refl

and_swap : (a b : Bool) → (a && b) ≡ (b && a)
and_swap true true = refl
and_swap true false = refl
and_swap false true = refl
and_swap false false = refl

-- a test on what is made of the elements that pass another one
any_made : {X Y : Type 0} (test : Y → Bool) (make : X → Y) (keep : X → Bool) (xs : List X) → list_any test (map make (filter keep xs)) ≡ list_any (λ x. test (make x) && keep x) xs
any_made test make keep [] = refl
any_made test make keep (x ∷ xs) = by (keep x) (any_made test make keep xs)
  where
    by : (b : Bool) → list_any test (map make (filter keep xs)) ≡ list_any (λ y. test (make y) && keep y) xs
        → list_any test (map make (cond b (x ∷ filter keep xs) (filter keep xs))) ≡ (test (make x) && b || list_any (λ y. test (make y) && keep y) xs)
    by true h = ap (λ t. t || list_any test (map make (filter keep xs))) (and_swap true (test (make x))) ∙ ap (λ t. (test (make x) && true) || t) h
    by false h = h ∙ ap (λ t. t || list_any (λ y. test (make y) && keep y) xs) (and_swap false (test (make x)))

at_rule : (rule : Rule) (place : ℕ) (m : MentionAt) → list_any (λ r. same place (rank rule) (record { place = m.place; rule = r }) && breaks m.mention r) rules ≡ (nat_eq m.place place && breaks m.mention rule)
unfolding same
at_rule UnboundVariable place m = or_false (nat_eq m.place place && breaks m.mention UnboundVariable)
at_rule _ place m = or_false _

told : (rule : Rule) (place : ℕ) (ms : List MentionAt) → list_any (same place (rank rule)) (flat_map refusals_at ms) ≡ list_any (λ m. nat_eq m.place place && breaks m.mention rule) ms
told rule place [] = refl
told rule place (m ∷ ms) =
    list_any-append (same place (rank rule)) (refusals_at m) (flat_map refusals_at ms)
    ∙ ap (λ b. b || list_any (same place (rank rule)) (flat_map refusals_at ms)) (any_made (same place (rank rule)) (λ r. record { place = m.place; rule = r }) (breaks m.mention) rules ∙ at_rule rule place m)
    ∙ ap (λ b. nat_eq m.place place && breaks m.mention rule || b) (told rule place ms)

-- a refusal does not come behind this rule at this place
record IsFirst (r : Refusal) (place number : ℕ) : Type 0 where
  first : r.place ≤ place
  least : r.place ≡ place → rank r.rule ≤ number

same-is : (place number : ℕ) (r : Refusal) → same place number r ≡ true → (r.place ≡ place) × (rank r.rule ≡ number)
unfolding same
same-is place number r e = let h = both (nat_eq (rank r.rule) number) (nat_eq r.place place) e in (grind (arith, nat_tests), grind (arith, nat_tests))

same-itself : (r : Refusal) → same r.place (rank r.rule) r ≡ true
unfolding same
same-itself r = let a : nat_eq (rank r.rule) (rank r.rule) ≡ true = grind (arith, nat_tests) in let b : nat_eq r.place r.place ≡ true = grind (arith, nat_tests) in ap (λ t. t && nat_eq r.place r.place) a ∙ b

either : (a b : Bool) → (a || b) ≡ true → (a ≡ true) ⊎ (b ≡ true)
either true b e = inl refl
either false b e = inr e

earliest-none : (rs : List Refusal) → earliest rs ≡ None → rs ≡ []
earliest-none [] e = refl
earliest-none (r ∷ rs) e = absurd (by (earliest rs) e)
  where
    on : (s : Refusal) (b : Bool) → cond b (Some s) (Some r) ≡ None → ⊥
    on s true g = cc
    on s false g = cc

    by : (o : Option Refusal) → earlier_of r o ≡ None → ⊥
    by None f = cc
    by (Some s) f = on s (comes_before s r) f

-- what comes before a refusal, and what does not
ahead : (p q i j : ℕ) → (nat_lt p q || nat_eq p q && nat_lt i j) ≡ true → (p ≤ q) × (p ≡ q → i ≤ j)
ahead p q i j e =
    elim (either (nat_lt p q) (nat_eq p q && nat_lt i j) e) [
      | inl h ↦ (grind (arith, nat_tests), λ s. grind (arith, nat_tests))
      | inr h ↦ let g = both (nat_eq p q) (nat_lt i j) h in (grind (arith, nat_tests), λ s. grind (arith, nat_tests))
    ]

neither : (a b : Bool) → (a || b) ≡ false → (a ≡ false) × (b ≡ false)
neither true b e = absurd (cc)
neither false b e = (refl, e)

behind : (p q i j : ℕ) → (nat_lt p q || nat_eq p q && nat_lt i j) ≡ false → (q ≤ p) × (q ≡ p → j ≤ i)
behind p q i j e =
    let h = neither (nat_lt p q) (nat_eq p q && nat_lt i j) e in
    (grind (arith, nat_tests), λ s. let t : nat_eq p q ≡ true = grind (arith, nat_tests) in let f : nat_lt i j ≡ false = ap (λ b. b && nat_lt i j) (sym t) ∙ h.1 in grind (arith, nat_tests))

before-first : (a b : Refusal) → comes_before b a ≡ true → IsFirst b a.place (rank a.rule)
before-first a b e = let h = ahead b.place a.place (rank b.rule) (rank a.rule) e in record { first = h.0; least = h.1 }

not_before-first : (a b : Refusal) → comes_before b a ≡ false → IsFirst a b.place (rank b.rule)
not_before-first a b e = let h = behind b.place a.place (rank b.rule) (rank a.rule) e in record { first = h.0; least = h.1 }

first-trans : (a b : Refusal) (place number : ℕ) → IsFirst a b.place (rank b.rule) → IsFirst b place number → IsFirst a place number
first-trans a b place number h g =
    let x = h.first in
    let y = g.first in
    record { first = omega arith; least = λ e. let s : a.place ≡ b.place = omega arith in let t : b.place ≡ place = omega arith in let u = h.least s in let v = g.least t in omega arith }

first-same : (r s : Refusal) (place number : ℕ) → IsFirst r s.place (rank s.rule) → same place number s ≡ true → IsFirst r place number
first-same r s place number h e = let g = same-is place number s e in subst (λ x. IsFirst r place x) g.1 (subst (λ x. IsFirst r x (rank s.rule)) g.0 h)

-- the earliest is one of the list, and none of the list comes before it
record IsEarliest (r : Refusal) (rs : List Refusal) : Type 0 where
  among : list_any (same r.place (rank r.rule)) rs ≡ true
  all : (place number : ℕ) → list_any (same place number) rs ≡ true → IsFirst r place number

earliest-is : (rs : List Refusal) (r : Refusal) → earliest rs ≡ Some r → IsEarliest r rs
earliest-is [] r e = absurd (cc)
earliest-is (a ∷ rs) r e = by (earliest rs) refl (earliest-is rs) e
  where
    itself-first : (x : Refusal) → IsFirst x x.place (rank x.rule)
    itself-first x = record { first = omega arith; least = λ s. omega arith }

    keeps : (b : Refusal) (c : Bool) → comes_before b a ≡ c → IsEarliest b rs → cond c (Some b) (Some a) ≡ Some r → IsEarliest r (a ∷ rs)
    keeps b true s h f =
        let is : b ≡ r = cc in
        subst (λ x. IsEarliest x (a ∷ rs)) is (record {
          among = ap (λ t. same b.place (rank b.rule) a || t) h.among ∙ or_true (same b.place (rank b.rule) a);
          all = λ place number e. elim (either (same place number a) (list_any (same place number) rs) e) [
            | inl g ↦ first-same b a place number (before-first a b s) g
            | inr g ↦ h.all place number g
          ];
        })
    keeps b false s h f =
        let is : a ≡ r = cc in
        subst (λ x. IsEarliest x (a ∷ rs)) is (record {
          among = ap (λ t. t || list_any (same a.place (rank a.rule)) rs) (same-itself a);
          all = λ place number e. elim (either (same place number a) (list_any (same place number) rs) e) [
            | inl g ↦ first-same a a place number (itself-first a) g
            | inr g ↦ first-trans a b place number (not_before-first a b s) (h.all place number g)
          ];
        })

    by : (o : Option Refusal) → earliest rs ≡ o → ((x : Refusal) → earliest rs ≡ Some x → IsEarliest x rs) → earlier_of a o ≡ Some r → IsEarliest r (a ∷ rs)
    by None s h f =
        let is : a ≡ r = cc in
        let none : rs ≡ [] = earliest-none rs s in
        subst (λ x. IsEarliest x (a ∷ rs)) is (record {
          among = ap (λ t. t || list_any (same a.place (rank a.rule)) rs) (same-itself a);
          all = λ place number e. elim (either (same place number a) (list_any (same place number) rs) e) [
            | inl g ↦ first-same a a place number (itself-first a) g
            | inr g ↦ absurd (let t : list_any (same place number) rs ≡ false = ap (list_any (same place number)) none in cc)
          ];
        })
    by (Some b) s h f = keeps b (comes_before b a) refl (h b s) f

found : (q : NamedQuery) (r : Refusal) → refusal q ≡ Some r → IsRefusal q r
found q r e =
    let h = earliest-is (flat_map refusals_at (query_mentions q)) r e in
    record {
      broken = sym (told r.rule r.place (query_mentions q)) ∙ h.among;
      first = λ rule place b. (h.all place (rank rule) (told rule place (query_mentions q) ∙ b)).first;
      least = λ rule b. (h.all r.place (rank rule) (told rule r.place (query_mentions q) ∙ b)).least refl;
    }

none : (q : NamedQuery) → refusal q ≡ None → (rule : Rule) (place : ℕ) → is_broken q rule place ≡ false
none q e rule place = sym (told rule place (query_mentions q)) ∙ ap (list_any (same place (rank rule))) (earliest-none (flat_map refusals_at (query_mentions q)) e)

pub refusals_exact : RefusalsAreExact
refusals_exact = record { found = found; none = none }
