-- One more pair put among the pairs of an object. These lemmas are meant for other crates too.
use Rattle.std.proofs.Common.{is_some, ◌≡◌, ◌≢◌, ℕ, zero, suc, Bool, true, false, cond, List, [], ◌∷◌, ◌++◌, get_or, refl, sym, ap, subst, ◌∙◌, arith, Option, Some, None, option_map}
use Rattle.std.proofs.Math.ListN.{set}
use Rattle.std.proofs.lemmas.Bool.{cond_both, both_ways}
use Rattle.std.proofs.lemmas.Slice.Eq.{bytes_eq-Decides}
use Rattle.std.specs.Str.{bytes_eq}
use Rattle.item_tree.specs.declared.item.Item.{Item}
use Rattle.item_tree.specs.Datum.{Datum, NoneHas, KeysDiffer}
use Rattle.item_tree.specs.Item.{datum, pair_datums}
use Rattle.item_tree.specs.Lookup.{place_of, put, Index, Indexes, IsIndexed, IndexesMore}
use Rattle.item_tree.proofs.PairLists.{Pair}

none_put : (j k : List ℕ) (x : Datum) (ps : List (List ℕ × Datum)) → j ≢ k → NoneHas j ps → NoneHas j (put k x ps)
none_put j k x [] h a = (h, tt)
none_put j k x (p ∷ ps) h a = cond_both (bytes_eq k p.0) _ _ (NoneHas j) (λ _. a) (λ _. (a.0, none_put j k x ps h a.1))

-- keys that differ still do
pub keys_put : (k : List ℕ) (x : Datum) (ps : List (List ℕ × Datum)) → KeysDiffer ps → KeysDiffer (put k x ps)
keys_put k x [] a = (tt, tt)
keys_put k x (p ∷ ps) a =
    cond_both (bytes_eq k p.0) _ _ KeysDiffer (λ _. a) (λ e. (none_put p.0 k x ps (λ q. both_ways _ e ((bytes_eq-Decides k p.0).1 (sym q))) a.0, keys_put k x ps a.1))

-- a key without a place goes last
pub put_last : (k : List ℕ) (x : Datum) (ps : List (List ℕ × Datum)) → place_of k ps ≡ None → ps ++ (k, x) ∷ [] ≡ put k x ps
put_last k x [] e = refl
put_last k x (p ∷ ps) e = by (bytes_eq k p.0) (place_of k ps) (put_last k x ps) e
  where
    by : (b : Bool) (o : Option ℕ) → (o ≡ None → ps ++ (k, x) ∷ [] ≡ put k x ps) → cond b (Some 0) (option_map suc o) ≡ None → p ∷ (ps ++ (k, x) ∷ []) ≡ cond b ((p.0, x) ∷ ps) (p ∷ put k x ps)
    by true o r h = absurd cc
    by false (Some i) r h = absurd cc
    by false None r h = ap (λ zs. p ∷ zs) (r refl)

-- a key with a place keeps it
pub put_there : (k : List ℕ) (x : Item) (xs : List Pair) (i : ℕ) (q d : Pair) → Some i ≡ place_of k (pair_datums xs) → q ≡ ((get_or xs i d).0, x) → pair_datums (set xs i q) ≡ put k (datum x) (pair_datums xs)
put_there k x [] i q d e h = absurd cc
put_there k x (p ∷ ps) i q d e h = by (bytes_eq k p.0) (place_of k (pair_datums ps)) i (λ j. put_there k x ps j q d) e h
  where
    by : (b : Bool) (o : Option ℕ) (i : ℕ) → ((j : ℕ) → Some j ≡ o → q ≡ ((get_or ps j d).0, x) → pair_datums (set ps j q) ≡ put k (datum x) (pair_datums ps)) → Some i ≡ cond b (Some 0) (option_map suc o) → q ≡ ((get_or (p ∷ ps) i d).0, x)
        → pair_datums (set (p ∷ ps) i q) ≡ cond b ((p.0, datum x) ∷ pair_datums ps) ((p.0, datum p.1) ∷ put k (datum x) (pair_datums ps))
    by true o zero r e h = ap (λ (z : Pair). (z.0, datum z.1) ∷ pair_datums ps) h
    by true o (suc i) r e h = absurd (let z : suc i ≡ 0 = cc in omega arith)
    by false (Some j) zero r e h = absurd (let z : 0 ≡ suc j = cc in omega arith)
    by false (Some j) (suc i) r e h = let z : suc i ≡ suc j = cc in let w : i ≡ j = omega arith in ap (λ zs. (p.0, datum p.1) ∷ zs) (r i (ap (λ n. Some n) w) h)
    by false None i r e h = absurd cc

-- so each key has the place that it had
pub place_kept : (q k : List ℕ) (x : Datum) (ps : List (List ℕ × Datum)) (i : ℕ) → Some i ≡ place_of k ps → place_of q (put k x ps) ≡ place_of q ps
place_kept q k x [] i e = absurd cc
place_kept q k x (p ∷ ps) i e = by (bytes_eq k p.0) (place_of k ps) (place_kept q k x ps) e
  where
    by : (b : Bool) (o : Option ℕ) → ((j : ℕ) → Some j ≡ o → place_of q (put k x ps) ≡ place_of q ps) → Some i ≡ cond b (Some 0) (option_map suc o) → place_of q (cond b ((p.0, x) ∷ ps) (p ∷ put k x ps)) ≡ place_of q (p ∷ ps)
    by true o r h = refl
    by false (Some j) r h = ap (λ n. cond (bytes_eq q p.0) (Some 0) (option_map suc n)) (r j refl)
    by false None r h = absurd cc

kept_index : (o : Option Index) (k : List ℕ) (x : Datum) (ps : List (List ℕ × Datum)) (i : ℕ) → Some i ≡ place_of k ps → Indexes o ps → Indexes o (put k x ps)
kept_index o k x ps i e h = λ m is q. h m is q ∙ sym (place_kept q k x ps i e)

-- and the index stays right
pub indexed_put : (o : Option Index) (k : List ℕ) (x : Datum) (ps : List (List ℕ × Datum)) (i : ℕ) → Some i ≡ place_of k ps → IsIndexed o ps → IsIndexed o (put k x ps)
indexed_put o k x ps i e h = (keys_put k x ps h.0, kept_index o k x ps i e h.1)

-- no index stays none
pub no_index : (o : Option Index) → is_some o ≡ false → (k : List ℕ) (ps : List (List ℕ × Datum)) → IndexesMore o k ps
no_index None e k ps = λ v m f. absurd (cc)
no_index (Some m) e k ps = absurd (cc)

pub indexed_more : (o : Option Index) (k : List ℕ) (x : Datum) (ps : List (List ℕ × Datum)) → place_of k ps ≡ None → KeysDiffer ps → IndexesMore o k ps → IsIndexed o (ps ++ (k, x) ∷ [])
indexed_more o k x ps e d m = (subst KeysDiffer (sym (put_last k x ps e)) (keys_put k x ps d), m x)
