-- A set of keys, and the values whose keys it has.
use Rattle.std.proofs.Common.{◌≡◌, Bool, true, false, cond, ◌||◌, List, [], ◌∷◌, ◌++◌, Some, refl, sym, ◌∙◌}
use Rattle.std.proofs.lemmas.List.Folds.{list_any-append}
use Rattle.std.specs.BTreeMap.{is_at}
use Rattle.std.specs.BTreeSet.{BTreeSet, contains}
use Rattle.std.specs.List.{list_any}
use Rattle.std.specs.Ordering.{is_eq}
use Rattle.std.specs.declared.cmp.Ordering.{Ordering}
use Rattle.item_tree.specs.contracts.key.KeyPartialEq.TheImpl as key_eq
use Rattle.item_tree.specs.contracts.key.KeyOrd.TheImpl as key_ord
use Rattle.item_tree.specs.contracts.key.KeyOrd.TheImpl.Laws.{matches_eq-law}
use Rattle.item_tree.specs.declared.key.Key.{Key}
use Rattle.item_tree.specs.Compare.{atom}
use Rattle.item_tree.specs.Datum.{Datum}
use Rattle.item_tree.specs.Keys.{atom_of, KeysAgree}
use Rattle.value_rules.specs.Sequences.{same_atomics}

abbrev pub eq_of : Key → Key → Bool
eq_of = (key_eq.ghosts).eq

abbrev pub cmp_of : Key → Key → Ordering
cmp_of = (key_ord.ghosts).cmp

-- the set has the keys of these values and no others
pub record Known (keys : BTreeSet Key) (vs : List Datum) : Type 0 where
  pub known : (v : Datum) (k : Key) → atom v ≡ Some (atom_of k) → contains cmp_of keys k ≡ list_any (λ w. same_atomics w v) vs

one_place : KeysAgree eq_of cmp_of → (v w : Datum) (k l : Key) → atom v ≡ Some (atom_of k) → atom w ≡ Some (atom_of l) → is_eq (cmp_of k l) ≡ same_atomics v w
one_place agree v w k l p q = sym (matches_eq-law k l) ∙ agree.same v w k l p q

pub known_more : KeysAgree eq_of cmp_of → (old new : BTreeSet Key) (vs : List Datum) (x : Datum) (k : Key) → atom x ≡ Some (atom_of k) → Known old vs → ((q : Key) → contains cmp_of new q ≡ cond (is_at (cmp_of k) q) true (contains cmp_of old q)) → Known new (vs ++ x ∷ [])
known_more agree old new vs x k p h u = record {
  known = λ v q e.
      u q ∙ (λ i. cond (one_place agree x v k q p e i) true (h.known v q e i)) ∙ by (same_atomics x v) (list_any (λ w. same_atomics w v) vs) ∙ sym (list_any-append (λ w. same_atomics w v) vs (x ∷ []));
}
  where
    by : (a b : Bool) → cond a true b ≡ (b || (a || false))
    by true true = refl
    by true false = refl
    by false true = refl
    by false false = refl
