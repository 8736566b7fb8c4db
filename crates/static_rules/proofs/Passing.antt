-- How the states behind the parts of an expression join.
use Rattle.std.proofs.Common.{◌≡◌, ℕ, ◌+◌, Bool, true, false, cond, ◌&&◌, ◌||◌, nat_eq, nat_lt, Option, Some, None, List, [], ◌∷◌, ◌++◌, length, map, refl, sym, ap, ◌∙◌, arith, length-append, append_assoc, add_assoc, add-zero, append-nil}
use Rattle.std.specs.List.{filter, flat_map}
use Rattle.std.proofs.lemmas.Bool.Decides.{nat_tests}
use Rattle.static_rules.specs.declared.rules.Refusal.{Refusal}
use Rattle.static_rules.specs.declared.rules.Rule.{Rule}
use Rattle.static_rules.specs.Mentions.{MentionAt}
use Rattle.static_rules.specs.Rules.{rules, rank, breaks}
use Rattle.static_rules.specs.Refusals.{comes_before, earlier_of, earliest, refusals_at}
use Rattle.static_rules.specs.Compiling.{past}
use Rattle.static_rules.specs.Walks.{State, passed, sooner, first_of, tested}

-- the order of refusals
before-trans : (a b c : Refusal) → comes_before b a ≡ true → comes_before c b ≡ true → comes_before c a ≡ true
before-trans a b c h g = places a.place b.place c.place (rank a.rule) (rank b.rule) (rank c.rule) h g
  where
    places : (p q r i j k : ℕ) → (nat_lt q p || nat_eq q p && nat_lt j i) ≡ true → (nat_lt r q || nat_eq r q && nat_lt k j) ≡ true → (nat_lt r p || nat_eq r p && nat_lt k i) ≡ true
    places p q r i j k h g = grind (arith, nat_tests)

behind-trans : (a b c : Refusal) → comes_before b a ≡ false → comes_before c b ≡ false → comes_before c a ≡ false
behind-trans a b c h g = places a.place b.place c.place (rank a.rule) (rank b.rule) (rank c.rule) h g
  where
    places : (p q r i j k : ℕ) → (nat_lt q p || nat_eq q p && nat_lt j i) ≡ false → (nat_lt r q || nat_eq r q && nat_lt k j) ≡ false → (nat_lt r p || nat_eq r p && nat_lt k i) ≡ false
    places p q r i j k h g = grind (arith, nat_tests)

earlier-sooner : (a : Refusal) (o p : Option Refusal) → earlier_of a (sooner o p) ≡ sooner (earlier_of a o) p
earlier-sooner a None p = refl
earlier-sooner a (Some b) None = by (comes_before b a)
  where
    by : (x : Bool) → cond x (Some b) (Some a) ≡ sooner (cond x (Some b) (Some a)) None
    by true = refl
    by false = refl
earlier-sooner a (Some b) (Some c) = by (comes_before b a) (comes_before c b) refl refl
  where
    by : (x y : Bool) → comes_before b a ≡ x → comes_before c b ≡ y → earlier_of a (cond y (Some c) (Some b)) ≡ sooner (cond x (Some b) (Some a)) (Some c)
    by true true h g = ap (λ t. cond t (Some c) (Some a)) (before-trans a b c h g) ∙ ap (λ t. cond t (Some c) (Some b)) (sym g)
    by true false h g = ap (λ t. cond t (Some b) (Some a)) h ∙ ap (λ t. cond t (Some c) (Some b)) (sym g)
    by false true h g = refl
    by false false h g = ap (λ t. cond t (Some b) (Some a)) h ∙ ap (λ t. cond t (Some c) (Some a)) (sym (behind-trans a b c h g))

pub sooner-none : (o : Option Refusal) → sooner o None ≡ o
sooner-none None = refl
sooner-none (Some a) = refl

earliest-append : (xs ys : List Refusal) → earliest (xs ++ ys) ≡ sooner (earliest xs) (earliest ys)
earliest-append [] ys = refl
earliest-append (x ∷ xs) ys = ap (earlier_of x) (earliest-append xs ys) ∙ earlier-sooner x (earliest xs) (earliest ys)

sooner-assoc : (o p q : Option Refusal) → sooner (sooner o p) q ≡ sooner o (sooner p q)
sooner-assoc None p q = refl
sooner-assoc (Some a) p q = sym (earlier-sooner a p q)

flat-append : (ms ns : List MentionAt) → flat_map refusals_at (ms ++ ns) ≡ flat_map refusals_at ms ++ flat_map refusals_at ns
flat-append [] ns = refl
flat-append (m ∷ ms) ns = ap (λ t. refusals_at m ++ t) (flat-append ms ns) ∙ sym (append_assoc (refusals_at m) (flat_map refusals_at ms) (flat_map refusals_at ns))

first-append : (ms ns : List MentionAt) → first_of (ms ++ ns) ≡ sooner (first_of ms) (first_of ns)
first-append ms ns = ap earliest (flat-append ms ns) ∙ earliest-append (flat_map refusals_at ms) (flat_map refusals_at ns)

pub passed-names : (s : State) (ms : List MentionAt) (bs : List (List ℕ)) → (passed s ms bs).names ≡ s.names
unfolding passed
passed-names s ms bs = refl

pub passed-number : (s : State) (ms : List MentionAt) (bs : List (List ℕ)) → (passed s ms bs).number ≡ past s.number bs
unfolding passed
passed-number s ms bs = refl

state_same : (s : State) (n : ℕ) (f : Option Refusal) → n ≡ s.number → f ≡ s.first → (record { names = s.names; number = n; first = f }) ≡ s
state_same s n f h g = ap (λ k. let x : State = record { names = s.names; number = k; first = f } in x) h ∙ ap (λ o. let x : State = record { names = s.names; number = s.number; first = o } in x) g

pub passed-none : (s : State) → passed s [] [] ≡ s
unfolding passed
passed-none s = state_same s (s.number + 0) (sooner s.first None) (add-zero s.number) (sooner-none s.first)

pub passed-passed : (s : State) (ms ns : List MentionAt) (bs cs : List (List ℕ)) → passed (passed s ms bs) ns cs ≡ passed s (ms ++ ns) (bs ++ cs)
unfolding passed
passed-passed s ms ns bs cs =
    state_same (record { names = s.names; number = s.number + length (bs ++ cs); first = sooner s.first (first_of (ms ++ ns)) }) (s.number + length bs + length cs) (sooner (sooner s.first (first_of ms)) (first_of ns))
    (add_assoc s.number (length bs) (length cs) ∙ ap (λ k. s.number + k) (sym (length-append bs cs)))
    (sooner-assoc s.first (first_of ms) (first_of ns) ∙ ap (sooner s.first) (sym (first-append ms ns)))

pub ruleset passings = (passed-names, passed-number, passed-none, passed-passed)

-- a mention that breaks at most one rule
pub passed-test : (s : State) (m : MentionAt) (broken : Bool) (rule : Rule) → filter (breaks m.mention) rules ≡ cond broken (rule ∷ []) [] → passed s (m ∷ []) [] ≡ tested s broken rule m.place
unfolding passed
passed-test s m broken rule h =
    state_same (tested s broken rule m.place) (s.number + 0) (sooner s.first (first_of (m ∷ []))) (add-zero s.number)
    (ap (λ t. sooner s.first (earliest t)) (append-nil (refusals_at m)) ∙ ap (λ t. sooner s.first (earliest (map (λ r. record { place = m.place; rule = r }) t))) h ∙ by broken)
  where
    by : (b : Bool) → sooner s.first (earliest (map (λ r. let x : Refusal = record { place = m.place; rule = r } in x) (cond b (rule ∷ []) []))) ≡ sooner s.first (cond b (Some (record { place = m.place; rule = rule })) None)
    by true = refl
    by false = refl
