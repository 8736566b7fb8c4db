-- Sets of keys, one key larger.
use Rattle.std.proofs.Common.{◌≡◌, ℕ, Bool, true, false, cond, not, ◌||◌, List, [], ◌∷◌, ◌++◌, map, refl, sym, ap, ◌∙◌}
use Rattle.std.proofs.lemmas.List.{map-append}
use Rattle.std.proofs.lemmas.List.Folds.{list_any-append}
use Rattle.std.proofs.lemmas.Map.Text.{is_eq-slice_cmp}
use Rattle.std.specs.BTreeMap.{is_at}
use Rattle.std.specs.Cmp.Lexicographic.{slice_cmp}
use Rattle.std.specs.List.{list_any}
use Rattle.std.specs.Ordering.{nat_cmp}
use Rattle.std.specs.Str.{bytes_eq}
use Rattle.item_tree.specs.declared.item.Item.{Item}
use Rattle.item_tree.specs.Datum.{text}
use Rattle.item_tree.specs.Item.{datums}
use Rattle.value_rules.specs.Sequences.{firsts}
use Rattle.value_rules.specs.Objects.{is_among}
use Rattle.value_rules.proofs.FirstLemmas.{further, firsts-push}
use Rattle.fn_objects.specs.inside.KeySets.{KeySet, has, HasNames, HasKeys}

-- one more name is among them
pub among-push : (ks : List (List ℕ)) (k q : List ℕ) → is_among (ks ++ k ∷ []) q ≡ cond (bytes_eq k q) true (is_among ks q)
among-push ks k q = list_any-append (λ n. bytes_eq n q) ks (k ∷ []) ∙ by (bytes_eq k q) (is_among ks q)
  where
    by : (a b : Bool) → (b || (a || false)) ≡ cond a true b
    by true true = refl
    by true false = refl
    by false true = refl
    by false false = refl

-- a set into which this key was put
pub put_in : (old new : KeySet) (k q : List ℕ) → has new q ≡ cond (is_at (slice_cmp nat_cmp k) q) true (has old q) → has new q ≡ cond (bytes_eq k q) true (has old q)
put_in old new k q u = u ∙ ap (λ b. cond b true (has old q)) (is_eq-slice_cmp k q)

pub no_names : (set : KeySet) → set.keys ≡ [] → HasNames set []
no_names set e k = ap (λ ks. list_any (is_at (slice_cmp nat_cmp k)) ks) e

pub keys_added : (seen next : KeySet) (found new : List Item) (ks : List (List ℕ)) (k : List ℕ) (added : Bool) → HasKeys seen found ks → added ≡ not (has seen k) → ((q : List ℕ) → has next q ≡ cond (is_at (slice_cmp nat_cmp k) q) true (has seen q))
    → datums new ≡ datums found ++ cond added (text k ∷ []) [] → HasKeys next new (ks ++ k ∷ [])
keys_added seen next found new ks k added h a u n = record {
  known = λ q. put_in seen next k q (u q) ∙ ap (λ b. cond (bytes_eq k q) true b) (h.known q) ∙ sym (among-push ks k q);
  listed =
      n ∙ (λ j. h.listed j ++ cond (a j) (text k ∷ []) []) ∙ ap (λ vs. map text (firsts bytes_eq ks) ++ vs) (by (has seen k) ∙ ap (λ b. map text (cond b [] (k ∷ []))) (h.known k))
      ∙ sym (map-append text (firsts bytes_eq ks) (further bytes_eq ks k)) ∙ ap (map text) (sym (firsts-push bytes_eq ks k));
}
  where
    by : (b : Bool) → cond (not b) (text k ∷ []) [] ≡ map text (cond b [] (k ∷ []))
    by true = refl
    by false = refl
