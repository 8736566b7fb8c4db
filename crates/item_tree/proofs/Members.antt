-- The members of an object, and what is looked up among them. For other crates too.
use Rattle.std.proofs.Common.{◌≡◌, ◌≢◌, ℕ, suc, ◌≤◌, Bool, true, false, cond, ◌&&◌, ◌||◌, ◌⊎◌, inl, inr, List, [], ◌∷◌, length, map, refl, sym, ap, subst, ◌∙◌, arith, Option, Some, None}
use Rattle.std.specs.List.{IsDistinct, AllByRecursion, list_any}
use Rattle.std.specs.Map.{lookup as entry_of}
use Rattle.std.specs.Option.{IsSome, is_some}
use Rattle.std.specs.Str.{bytes_eq}
use Rattle.std.proofs.lemmas.Cmp.{nat_list_eq_equiv}
use Rattle.std.proofs.lemmas.Map.Steps.{length-le_from_keys}
use Rattle.std.proofs.lemmas.Slice.Eq.{bytes_eq-Decides}
use Rattle.item_tree.specs.Datum.{Datum, null, Members, no_members, member, pairs, NoneHas, KeysDiffer}
use Rattle.item_tree.specs.Lookup.{lookup}
use Rattle.item_tree.specs.Compare.{passes, equal, equal_in}

-- each key with its value, and each value alone
abbrev pub EachMember : (List ℕ → Datum → Type 0) → Members → Type 0
EachMember P no_members = Unit {0}
EachMember P (member k v ms) = P k v × EachMember P ms

abbrev pub EachValue : (Datum → Type 0) → Members → Type 0
EachValue P no_members = Unit {0}
EachValue P (member k v ms) = P v × EachValue P ms

pub both : (a b : Bool) → (a && b) ≡ true → (a ≡ true) × (b ≡ true)
both true b e = (refl, e)
both false b e = absurd (cc)

other_key : (k l : List ℕ) → k ≢ l → bytes_eq k l ≡ false
other_key k l n = by (bytes_eq k l) (bytes_eq-Decides k l).0
  where
    by : (b : Bool) → (b ≡ true → k ≡ l) → b ≡ false
    by true f = absurd (n (f refl))
    by false f = refl

own_key : (k : List ℕ) → bytes_eq k k ≡ true
own_key k = (bytes_eq-Decides k k).1 refl

pub value_of : (P : Datum → Type 0) (ms : Members) → EachValue P ms → (k : List ℕ) (v : Datum) → lookup k (pairs ms) ≡ Some v → P v
value_of P no_members h k v e = absurd (cc)
value_of P (member l w ms) h k v e = by (bytes_eq k l) (value_of P ms h.1 k v) e
  where
    by : (b : Bool) → (lookup k (pairs ms) ≡ Some v → P v) → cond b (Some w) (lookup k (pairs ms)) ≡ Some v → P v
    by true r f = let s : w ≡ v = cc in subst P s h.0
    by false r f = r f

-- where the keys differ, each member is found at its key
behind : (k : List ℕ) (v : Datum) (ps : List (List ℕ × Datum)) (ms : Members) → NoneHas k (pairs ms) → EachMember (λ l w. lookup l ps ≡ Some w) ms → EachMember (λ l w. lookup l ((k, v) ∷ ps) ≡ Some w) ms
behind k v ps no_members n h = tt
behind k v ps (member l w ms) n h = (ap (λ b. cond b (Some v) (lookup l ps)) (other_key l k (λ e. n.0 (sym e))) ∙ h.0, behind k v ps ms n.1 h.1)

pub each_found : (ms : Members) → KeysDiffer (pairs ms) → EachMember (λ k v. lookup k (pairs ms) ≡ Some v) ms
each_found no_members d = tt
each_found (member k v ms) d = (ap (λ b. cond b (Some v) (lookup k (pairs ms))) (own_key k), behind k v (pairs ms) ms d.0 (each_found ms d.1))

pub passes_some : (test : Datum → Bool) (o : Option Datum) → passes test o ≡ true → (w : Datum) × (o ≡ Some w) × (test w ≡ true)
passes_some test None e = absurd (cc)
passes_some test (Some w) e = (w, refl, e)

-- what is found among members that are all in the pairs is in the pairs, with an equal value
pub found_equal : (ms : Members) (ps : List (List ℕ × Datum)) → equal_in ms ps ≡ true → (k : List ℕ) (v : Datum) → lookup k (pairs ms) ≡ Some v → passes (λ w. equal v w) (lookup k ps) ≡ true
found_equal no_members ps e k v f = absurd (cc)
found_equal (member l u ms) ps e k v f =
    let h = both (passes (λ w. equal u w) (lookup l ps)) (equal_in ms ps) e in
    by (bytes_eq k l) (bytes_eq-Decides k l).0 h.0 (found_equal ms ps h.1 k v) f
  where
    by : (b : Bool) → (b ≡ true → k ≡ l) → passes (λ w. equal u w) (lookup l ps) ≡ true → (lookup k (pairs ms) ≡ Some v → passes (λ w. equal v w) (lookup k ps) ≡ true)
        → cond b (Some u) (lookup k (pairs ms)) ≡ Some v → passes (λ w. equal v w) (lookup k ps) ≡ true
    by true same here later g =
        let s : u ≡ v = cc in
        let t : k ≡ l = same refl in
        subst (λ x. passes (λ w. equal x w) (lookup k ps) ≡ true) s (subst (λ x. passes (λ w. equal u w) (lookup x ps) ≡ true) (sym t) here)
    by false same here later g = later g

-- the keys
keys_of : List (List ℕ × Datum) → List (List ℕ)
keys_of ps = map (λ p. p.0) ps

lookup_is : (k : List ℕ) (ps : List (List ℕ × Datum)) → lookup k ps ≡ entry_of (λ l. bytes_eq k l) ps
lookup_is k [] = refl
lookup_is k (p ∷ ps) = ap (λ o. cond (bytes_eq k p.0) (Some p.1) o) (lookup_is k ps)

some_key : (k : List ℕ) (ps : List (List ℕ × Datum)) → list_any (λ l. bytes_eq k l) (keys_of ps) ≡ is_some (lookup k ps)
unfolding keys_of
some_key k [] = refl
some_key k (p ∷ ps) = ap (λ b. bytes_eq k p.0 || b) (some_key k ps) ∙ by (bytes_eq k p.0)
  where
    by : (b : Bool) → (b || is_some (lookup k ps)) ≡ is_some (cond b (Some p.1) (lookup k ps))
    by true = refl
    by false = refl

none_of_keys : (k : List ℕ) (ps : List (List ℕ × Datum)) → NoneHas k ps → AllByRecursion (λ l. bytes_eq k l ≡ false) (keys_of ps)
unfolding keys_of
none_of_keys k [] n = tt
none_of_keys k (p ∷ ps) n = (other_key k p.0 n.0, none_of_keys k ps n.1)

keys_distinct : (ps : List (List ℕ × Datum)) → KeysDiffer ps → IsDistinct (λ k l. bytes_eq k l) (keys_of ps)
unfolding keys_of IsDistinct
keys_distinct [] d = tt
keys_distinct (p ∷ ps) d = (none_of_keys p.0 ps d.0, keys_distinct ps d.1)

keys-length : (ps : List (List ℕ × Datum)) → length (keys_of ps) ≡ length ps
unfolding keys_of
keys-length [] = refl
keys-length (p ∷ ps) = ap suc (keys-length ps)

either_key : (a b : Bool) → (a || b) ≡ true → (a ≡ true) ⊎ (b ≡ true)
either_key true b e = inl refl
either_key false b e = inr e

absent : (k : List ℕ) (ps : List (List ℕ × Datum)) → lookup k ps ≡ None → NoneHas k ps
absent k [] e = tt
absent k (p ∷ ps) e = by (bytes_eq k p.0) (bytes_eq-Decides k p.0).1 (absent k ps) e
  where
    by : (b : Bool) → (k ≡ p.0 → b ≡ true) → (lookup k ps ≡ None → NoneHas k ps) → cond b (Some p.1) (lookup k ps) ≡ None → (k ≢ p.0) × NoneHas k ps
    by true f r g = absurd (cc)
    by false f r g = ((λ s. absurd (let t = f s in cc)), r g)

some_value : (o : Option Datum) → is_some o ≡ true → (v : Datum) × (o ≡ Some v)
some_value None e = absurd (cc)
some_value (Some v) e = (v, refl)

-- a list of pairs with different keys that are all in another of the same length has each key of the other
pub all_there : (ps qs : List (List ℕ × Datum)) → KeysDiffer ps → length ps ≡ length qs → ((k : List ℕ) (v : Datum) → lookup k ps ≡ Some v → IsSome (lookup k qs)) → (k : List ℕ) → IsSome (lookup k qs) → lookup k ps ≡ None → ⊥
unfolding keys_of
all_there ps qs d l each k here none =
    let le : length (k ∷ keys_of ps) ≤ length qs = length-le_from_keys nat_list_eq_equiv (k ∷ keys_of ps) qs (keys_distinct ((k, null) ∷ ps) (absent k ps none, d)) covered in
    omega (arith, keys-length ps)
  where
    covered : (q : List ℕ) → list_any (λ m. bytes_eq q m) (k ∷ keys_of ps) ≡ true → IsSome (entry_of (λ m. bytes_eq q m) qs)
    covered q e =
        elim (either_key (bytes_eq q k) (list_any (λ m. bytes_eq q m) (keys_of ps)) e) [
          | inl h ↦ subst IsSome (lookup_is q qs) (subst (λ x. IsSome (lookup x qs)) (sym ((bytes_eq-Decides q k).0 h)) here)
          | inr h ↦ let v = some_value (lookup q ps) (sym (some_key q ps) ∙ h) in subst IsSome (lookup_is q qs) (each q v.0 v.1)
        ]
