-- Deep equality is an equivalence.
use Rattle.std.proofs.Common.{◌≡◌, ℕ, Bool, true, ◌&&◌, ◌==◌, List, length, refl, sym, ap, subst, ◌∙◌, arith, Option, Some, None}
use Rattle.std.specs.Option.{IsSome}
use Rattle.std.proofs.lemmas.Bool.Decides.{nat_tests}
use Rattle.item_tree.specs.Datum.{Datum, null, boolean, integer, decimal, text, date, date_time, array, object, Data, no_values, value, Members, no_members, member, pairs, values, Sound, AllSound, MembersSound}
use Rattle.item_tree.specs.Lookup.{lookup}
use Rattle.item_tree.specs.Compare.{equal, equal_data, equal_in, passes, compare_atoms, is_equal}
use Rattle.item_tree.specs.Laws.{ItemsAreEquivalent, SequencesAreEquivalent, AtomicsCompare}
use Rattle.item_tree.proofs.AtomOrder.{compare-same, equal_back, equal_along, atomic_right}
use Rattle.item_tree.proofs.Members.{EachMember, EachValue, both, value_of, each_found, passes_some, found_equal, all_there}

pub atomics_compare : AtomicsCompare
atomics_compare null w h = refl
atomics_compare (boolean b) w h = refl
atomics_compare (integer n) w h = refl
atomics_compare (decimal m) w h = refl
atomics_compare (text t) w h = refl
atomics_compare (date d) w h = refl
atomics_compare (date_time d) w h = refl
atomics_compare (array vs) w h = absurd h
atomics_compare (object ms) w h = absurd h

same_count : (m n : ℕ) → (m == n) ≡ true → m ≡ n
same_count m n e = grind (arith, nat_tests)

counts_same : (m n : ℕ) → m ≡ n → (m == n) ≡ true
counts_same m n e = grind (arith, nat_tests)

join : (a b : Bool) → a ≡ true → b ≡ true → (a && b) ≡ true
join a b e f = ap (λ x. x && b) e ∙ f

-- each is equal to itself
mutual
  equal-same : (v : Datum) → Sound v → equal v v ≡ true
  equal-same null s = ap is_equal (compare-same null tt)
  equal-same (boolean b) s = ap is_equal (compare-same (boolean b) tt)
  equal-same (integer n) s = ap is_equal (compare-same (integer n) tt)
  equal-same (decimal m) s = ap is_equal (compare-same (decimal m) tt)
  equal-same (text t) s = ap is_equal (compare-same (text t) tt)
  equal-same (date d) s = ap is_equal (compare-same (date d) tt)
  equal-same (date_time d) s = ap is_equal (compare-same (date_time d) tt)
  equal-same (array vs) s = data-same vs s.0
  equal-same (object ms) s = join (length (pairs ms) == length (pairs ms)) (equal_in ms (pairs ms)) (counts_same (length (pairs ms)) (length (pairs ms)) refl) (members-same ms (pairs ms) s.0 (each_found ms s.1))

  data-same : (vs : Data) → AllSound vs → equal_data vs vs ≡ true
  data-same no_values s = refl
  data-same (value v vs) s = join (equal v v) (equal_data vs vs) (equal-same v s.0) (data-same vs s.1)

  members-same : (ms : Members) (ps : List (List ℕ × Datum)) → MembersSound ms → EachMember (λ k v. lookup k ps ≡ Some v) ms → equal_in ms ps ≡ true
  members-same no_members ps s h = refl
  members-same (member k v ms) ps s h = join (passes (λ w. equal v w) (lookup k ps)) (equal_in ms ps) (ap (λ o. passes (λ w. equal v w) o) h.0 ∙ equal-same v s.1) (members-same ms ps s.2 h.1)

atom_back : (v w : Datum) → is_equal (compare_atoms v w) ≡ true → equal w v ≡ true
atom_back v w e = atomics_compare w v (atomic_right v w e) ∙ equal_back v w e

abbrev EqualBack : Datum → Type 0
EqualBack v = (w : Datum) → Sound w → equal v w ≡ true → equal w v ≡ true

-- each member of the second object is in the first
members_back : (ms ns : Members) → EachValue EqualBack ms → equal_in ms (pairs ns) ≡ true
    → ((k : List ℕ) → IsSome (lookup k (pairs ns)) → lookup k (pairs ms) ≡ None → ⊥)
    → (os : Members) → MembersSound os → EachMember (λ k w. lookup k (pairs ns) ≡ Some w) os → equal_in os (pairs ms) ≡ true
members_back ms ns h e there no_members s f = refl
members_back ms ns h e there (member k w os) s f =
    join (passes (λ v. equal w v) (lookup k (pairs ms))) (equal_in os (pairs ms)) (by (lookup k (pairs ms)) refl) (members_back ms ns h e there os s.2 f.1)
  where
    by : (o : Option Datum) → lookup k (pairs ms) ≡ o → passes (λ v. equal w v) o ≡ true
    by None g = absurd (there k (subst IsSome (sym f.0) refl) g)
    by (Some v) g =
        let p = found_equal ms (pairs ns) e k v g in
        let q : equal v w ≡ true = sym (ap (λ o. passes (λ x. equal v x) o) f.0) ∙ p in
        value_of EqualBack ms h k v g w s.1 q

object_back : (ms : Members) → Sound (object ms) → (ns : Members) → Sound (object ns) → EachValue EqualBack ms → equal (object ms) (object ns) ≡ true → equal (object ns) (object ms) ≡ true
object_back ms s ns t h e =
    let p = both (length (pairs ms) == length (pairs ns)) (equal_in ms (pairs ns)) e in
    let l = same_count (length (pairs ms)) (length (pairs ns)) p.0 in
    join (length (pairs ns) == length (pairs ms)) (equal_in ns (pairs ms)) (counts_same (length (pairs ns)) (length (pairs ms)) (sym l))
    (members_back ms ns h p.1 (all_there (pairs ms) (pairs ns) s.1 l (λ k v f. let q = passes_some (λ w. equal v w) (lookup k (pairs ns)) (found_equal ms (pairs ns) p.1 k v f) in subst IsSome (sym q.1) refl)) ns t.0 (each_found ns t.1))

mutual
  back : (v : Datum) → Sound v → EqualBack v
  back null s w t e = atom_back null w e
  back (boolean b) s w t e = atom_back (boolean b) w e
  back (integer n) s w t e = atom_back (integer n) w e
  back (decimal m) s w t e = atom_back (decimal m) w e
  back (text u) s w t e = atom_back (text u) w e
  back (date d) s w t e = atom_back (date d) w e
  back (date_time d) s w t e = atom_back (date_time d) w e
  back (array vs) s null t e = absurd (cc)
  back (array vs) s (boolean b) t e = absurd (cc)
  back (array vs) s (integer n) t e = absurd (cc)
  back (array vs) s (decimal m) t e = absurd (cc)
  back (array vs) s (text u) t e = absurd (cc)
  back (array vs) s (date d) t e = absurd (cc)
  back (array vs) s (date_time d) t e = absurd (cc)
  back (array vs) s (array ws) t e = data_back vs s.0 ws t.0 e
  back (array vs) s (object ns) t e = absurd (cc)
  back (object ms) s null t e = absurd (cc)
  back (object ms) s (boolean b) t e = absurd (cc)
  back (object ms) s (integer n) t e = absurd (cc)
  back (object ms) s (decimal m) t e = absurd (cc)
  back (object ms) s (text u) t e = absurd (cc)
  back (object ms) s (date d) t e = absurd (cc)
  back (object ms) s (date_time d) t e = absurd (cc)
  back (object ms) s (array ws) t e = absurd (cc)
  back (object ms) s (object ns) t e = object_back ms s ns t (values_back ms s.0) e

  data_back : (vs : Data) → AllSound vs → (ws : Data) → AllSound ws → equal_data vs ws ≡ true → equal_data ws vs ≡ true
  data_back no_values s no_values t e = refl
  data_back no_values s (value w ws) t e = absurd (cc)
  data_back (value v vs) s no_values t e = absurd (cc)
  data_back (value v vs) s (value w ws) t e =
      let h = both (equal v w) (equal_data vs ws) e in
      join (equal w v) (equal_data ws vs) (back v s.0 w t.0 h.0) (data_back vs s.1 ws t.1 h.1)

  values_back : (ms : Members) → MembersSound ms → EachValue EqualBack ms
  values_back no_members s = tt
  values_back (member k v ms) s = (back v s.1, values_back ms s.2)

atom_along : (v w x : Datum) → is_equal (compare_atoms v w) ≡ true → equal w x ≡ true → is_equal (compare_atoms v x) ≡ true
atom_along v w x e f = equal_along v w x e (sym (atomics_compare w x (atomic_right v w e)) ∙ f)

-- an array is equal to arrays alone, and an object to objects alone
mutual
  along : (v w x : Datum) → equal v w ≡ true → equal w x ≡ true → equal v x ≡ true
  along null w x e f = atom_along null w x e f
  along (boolean b) w x e f = atom_along (boolean b) w x e f
  along (integer n) w x e f = atom_along (integer n) w x e f
  along (decimal m) w x e f = atom_along (decimal m) w x e f
  along (text u) w x e f = atom_along (text u) w x e f
  along (date d) w x e f = atom_along (date d) w x e f
  along (date_time d) w x e f = atom_along (date_time d) w x e f
  along (array vs) null x e f = absurd (cc)
  along (array vs) (boolean b) x e f = absurd (cc)
  along (array vs) (integer n) x e f = absurd (cc)
  along (array vs) (decimal m) x e f = absurd (cc)
  along (array vs) (text u) x e f = absurd (cc)
  along (array vs) (date d) x e f = absurd (cc)
  along (array vs) (date_time d) x e f = absurd (cc)
  along (array vs) (object ns) x e f = absurd (cc)
  along (array vs) (array ws) null e f = absurd (cc)
  along (array vs) (array ws) (boolean b) e f = absurd (cc)
  along (array vs) (array ws) (integer n) e f = absurd (cc)
  along (array vs) (array ws) (decimal m) e f = absurd (cc)
  along (array vs) (array ws) (text u) e f = absurd (cc)
  along (array vs) (array ws) (date d) e f = absurd (cc)
  along (array vs) (array ws) (date_time d) e f = absurd (cc)
  along (array vs) (array ws) (object ns) e f = absurd (cc)
  along (array vs) (array ws) (array xs) e f = data_along vs ws xs e f
  along (object ms) null x e f = absurd (cc)
  along (object ms) (boolean b) x e f = absurd (cc)
  along (object ms) (integer n) x e f = absurd (cc)
  along (object ms) (decimal m) x e f = absurd (cc)
  along (object ms) (text u) x e f = absurd (cc)
  along (object ms) (date d) x e f = absurd (cc)
  along (object ms) (date_time d) x e f = absurd (cc)
  along (object ms) (array ws) x e f = absurd (cc)
  along (object ms) (object ns) null e f = absurd (cc)
  along (object ms) (object ns) (boolean b) e f = absurd (cc)
  along (object ms) (object ns) (integer n) e f = absurd (cc)
  along (object ms) (object ns) (decimal m) e f = absurd (cc)
  along (object ms) (object ns) (text u) e f = absurd (cc)
  along (object ms) (object ns) (date d) e f = absurd (cc)
  along (object ms) (object ns) (date_time d) e f = absurd (cc)
  along (object ms) (object ns) (array ws) e f = absurd (cc)
  along (object ms) (object ns) (object os) e f =
      let p = both (length (pairs ms) == length (pairs ns)) (equal_in ms (pairs ns)) e in
      let q = both (length (pairs ns) == length (pairs os)) (equal_in ns (pairs os)) f in
      let l = same_count (length (pairs ms)) (length (pairs ns)) p.0 ∙ same_count (length (pairs ns)) (length (pairs os)) q.0 in
      join (length (pairs ms) == length (pairs os)) (equal_in ms (pairs os)) (counts_same (length (pairs ms)) (length (pairs os)) l) (members_along ms ns (pairs os) p.1 q.1)

  data_along : (vs ws xs : Data) → equal_data vs ws ≡ true → equal_data ws xs ≡ true → equal_data vs xs ≡ true
  data_along no_values no_values xs e f = f
  data_along no_values (value w ws) xs e f = absurd (cc)
  data_along (value v vs) no_values xs e f = absurd (cc)
  data_along (value v vs) (value w ws) no_values e f = absurd (cc)
  data_along (value v vs) (value w ws) (value x xs) e f =
      let p = both (equal v w) (equal_data vs ws) e in
      let q = both (equal w x) (equal_data ws xs) f in
      join (equal v x) (equal_data vs xs) (along v w x p.0 q.0) (data_along vs ws xs p.1 q.1)

  members_along : (ms ns : Members) (ps : List (List ℕ × Datum)) → equal_in ms (pairs ns) ≡ true → equal_in ns ps ≡ true → equal_in ms ps ≡ true
  members_along no_members ns ps e f = refl
  members_along (member k v ms) ns ps e f =
      let p = both (passes (λ w. equal v w) (lookup k (pairs ns))) (equal_in ms (pairs ns)) e in
      let w = passes_some (λ w. equal v w) (lookup k (pairs ns)) p.0 in
      let x = passes_some (λ x. equal w.0 x) (lookup k ps) (found_equal ns ps f k w.0 w.1) in
      join (passes (λ x. equal v x) (lookup k ps)) (equal_in ms ps) (ap (λ o. passes (λ x. equal v x) o) x.1 ∙ along v w.0 x.0 w.2 x.2) (members_along ms ns ps p.1 f)

pub items_equivalent : ItemsAreEquivalent
items_equivalent = record {
  reflexive = equal-same;
  symmetric = λ v w s t e. back v s w t e;
  transitive = λ v w x _ _ _ e f. along v w x e f;
}

pub sequences_equivalent : SequencesAreEquivalent
sequences_equivalent = record {
  reflexive = λ vs s. data-same (values vs) s;
  symmetric = λ vs ws s t e. data_back (values vs) s (values ws) t e;
  transitive = λ vs ws xs _ _ _ e f. data_along (values vs) (values ws) (values xs) e f;
}
