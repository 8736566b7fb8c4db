-- What one more pair adds to an object. For other crates too.
use Rattle.std.proofs.Common.{◌≡◌, ◌≢◌, ℕ, zero, suc, ◌+◌, ◌<◌, ◌≤◌, max, List, [], ◌∷◌, ◌++◌, length, get_or, take, refl, sym, ap, subst, ◌∙◌, arith, inl, inr, true}
use Rattle.std.specs.Str.{all_scalars}
use Rattle.item_tree.specs.declared.fault.MakeFault.{MakeFault}
use Rattle.item_tree.specs.declared.fault.MakeFault.TheVariants.{KeyTwice, TooDeep, NoMemory}
use Rattle.item_tree.specs.declared.item.Item.{Item}
use Rattle.item_tree.specs.Datum.{Datum, null, depth, object_of_pairs, members, pairs_members, Sound, MembersSound, NoneHas, KeysDiffer}
use Rattle.item_tree.specs.Item.{datum, pair_datums}
use Rattle.item_tree.specs.Made.{HasKey, HasDeepPair, IsFirstRepeat, RepeatRefused, DistinctRefused, ObjectRefused}
use Rattle.item_tree.proofs.ArrayLists.{step, sound_depth, deep_or}

abbrev pub Pair : Type 0
Pair = List ℕ × Item

depth-push : (xs : List Pair) (p : Pair) → depth (object_of_pairs (pair_datums (xs ++ p ∷ []))) ≡ max (depth (object_of_pairs (pair_datums xs))) (depth (datum p.1) + 1)
depth-push [] p = omega arith
depth-push (y ∷ ys) p = omega (arith, depth-push ys p)

sound-push : (xs : List Pair) (p : Pair) → MembersSound (members (pair_datums xs)) → all_scalars p.0 ≡ true → Sound (datum p.1) → MembersSound (members (pair_datums (xs ++ p ∷ [])))
sound-push [] p h k s = (k, s, tt)
sound-push (y ∷ ys) p h k s = (h.0, h.1, sound-push ys p h.2 k s)

none-push : (k : List ℕ) (xs : List Pair) (p : Pair) → NoneHas k (pair_datums xs) → k ≢ p.0 → NoneHas k (pair_datums (xs ++ p ∷ []))
none-push k [] p h n = (n, tt)
none-push k (y ∷ ys) p h n = (h.0, none-push k ys p h.1 n)

differ-push : (xs : List Pair) (p : Pair) → KeysDiffer (pair_datums xs) → NoneHas p.0 (pair_datums xs) → KeysDiffer (pair_datums (xs ++ p ∷ []))
differ-push [] p h n = (tt, tt)
differ-push (y ∷ ys) p h n = (none-push y.0 ys p h.0 (λ e. n.0 (sym e)), differ-push ys p h.1 n.1)

pub depth_more : (xs : List Pair) (i : ℕ) (p : Pair) → i < length xs → p ≡ get_or xs i p → depth (object_of_pairs (pair_datums (take (i + 1) xs))) ≡ max (depth (object_of_pairs (pair_datums (take i xs)))) (depth (datum p.1) + 1)
depth_more xs i p lt e = ap (λ ys. depth (object_of_pairs (pair_datums ys))) (step xs i p lt e) ∙ depth-push (take i xs) p

pub sound_more : (xs : List Pair) (i : ℕ) (p : Pair) → i < length xs → p ≡ get_or xs i p → MembersSound (members (pair_datums (take i xs))) → all_scalars p.0 ≡ true → Sound (datum p.1)
    → MembersSound (members (pair_datums (take (i + 1) xs)))
sound_more xs i p lt e h k s = subst (λ ys. MembersSound (members (pair_datums ys))) (sym (step xs i p lt e)) (sound-push (take i xs) p h k s)

pub differ_more : (xs : List Pair) (i : ℕ) (p : Pair) → i < length xs → p ≡ get_or xs i p → KeysDiffer (pair_datums (take i xs)) → NoneHas p.0 (pair_datums (take i xs)) → KeysDiffer (pair_datums (take (i + 1) xs))
differ_more xs i p lt e h n = subst (λ ys. KeysDiffer (pair_datums ys)) (sym (step xs i p lt e)) (differ-push (take i xs) p h n)

-- one more pair, as items and as values
pub pushed_datums : (xs : List Pair) (p : Pair) → pair_datums (xs ++ p ∷ []) ≡ pair_datums xs ++ (p.0, datum p.1) ∷ []
pushed_datums [] p = refl
pushed_datums (y ∷ ys) p = ap (λ zs. (y.0, datum y.1) ∷ zs) (pushed_datums ys p)

pub step_datums : (xs : List Pair) (i : ℕ) (p : Pair) → i < length xs → p ≡ get_or xs i p → pair_datums (take (i + 1) xs) ≡ pair_datums (take i xs) ++ (p.0, datum p.1) ∷ []
step_datums xs i p lt e = ap pair_datums (step xs i p lt e) ∙ pushed_datums (take i xs) p

pub length_is : (xs : List Pair) → length (pair_datums xs) ≡ length xs
length_is [] = refl
length_is (y ∷ ys) = ap suc (length_is ys)

take_is : (xs : List Pair) (i : ℕ) → take i (pair_datums xs) ≡ pair_datums (take i xs)
take_is xs zero = refl
take_is [] (suc i) = refl
take_is (y ∷ ys) (suc i) = ap (λ zs. (y.0, datum y.1) ∷ zs) (take_is ys i)

key_is : (xs : List Pair) (i : ℕ) (p : Pair) → i < length xs → p ≡ get_or xs i p → (get_or (pair_datums xs) i ([], null)).0 ≡ p.0
key_is [] i p lt e = absurd (omega arith)
key_is (y ∷ ys) zero p lt e = ap (λ q. q.0) (sym e)
key_is (y ∷ ys) (suc i) p lt e = key_is ys i p (omega arith) e

pub repeat_at : (xs : List Pair) (i : ℕ) (p : Pair) → i < length xs → p ≡ get_or xs i p → KeysDiffer (pair_datums (take i xs)) → HasKey p.0 (pair_datums (take i xs)) → IsFirstRepeat (pair_datums xs) i
repeat_at xs i p lt e d h = record {
  inside = omega (arith, length_is xs);
  before = rw (take_is xs i) d;
  again = rw (key_is xs i p lt e, take_is xs i) h;
}

none_at : (k : List ℕ) (ps : List (List ℕ × Datum)) (i : ℕ) → NoneHas k ps → i < length ps → k ≢ (get_or ps i ([], null)).0
none_at k [] i n lt = absurd (omega arith)
none_at k (p ∷ ps) zero n lt = n.0
none_at k (p ∷ ps) (suc i) n lt = none_at k ps i n.1 (omega arith)

repeated : (ps : List (List ℕ × Datum)) (i : ℕ) → KeysDiffer ps → i < length ps → HasKey (get_or ps i ([], null)).0 (take i ps) → ⊥
repeated [] i d lt h = absurd (omega arith)
repeated (p ∷ ps) zero d lt h = h
repeated (p ∷ ps) (suc i) d lt h =
    elim h [ inl e ↦ none_at p.0 ps i d.0 (omega arith) (sym e) | inr r ↦ repeated ps i d.1 (omega arith) r ]

-- where the keys differ, none repeats
pub no_repeat : (ps : List (List ℕ × Datum)) (i : ℕ) → KeysDiffer ps → IsFirstRepeat ps i → ⊥
no_repeat ps i d r = repeated ps i d r.inside r.again

pub deep_from : (ps : List (List ℕ × Datum)) → MembersSound (members ps) → 128 < depth (object_of_pairs ps) → HasDeepPair ps
deep_from [] s h = absurd (omega arith)
deep_from (p ∷ ps) s h =
    elim (deep_or p.1 (sound_depth p.1 s.1)) [ inl e ↦ inl e | inr l ↦ inr (deep_from ps s.2 (omega arith)) ]

pub object_sound : (ps : List (List ℕ × Datum)) → KeysDiffer ps → MembersSound (members ps) → depth (object_of_pairs ps) ≤ 128 → Sound (object_of_pairs ps)
object_sound ps k s l = (s, subst KeysDiffer (sym (pairs_members ps)) k, omega arith)

pub refused_repeat : (ps : List (List ℕ × Datum)) (f : MakeFault) → RepeatRefused ps f → ObjectRefused ps f
refused_repeat ps (KeyTwice at) r = r
refused_repeat ps TooDeep r = absurd r
refused_repeat ps NoMemory r = r

pub refused_depth : (ps : List (List ℕ × Datum)) (f : MakeFault) → KeysDiffer ps → DistinctRefused ps f → ObjectRefused ps f
refused_depth ps (KeyTwice at) d r = absurd r
refused_depth ps TooDeep d r = (d, r)
refused_depth ps NoMemory d r = r
