-- What one more item adds to an array.
use Rattle.std.proofs.Common.{◌≡◌, ℕ, ◌+◌, ◌<◌, ◌≤◌, max, List, [], ◌∷◌, ◌++◌, length, map, get_or, take, refl, sym, ap, subst, ◌∙◌, arith, inl, inr, ◌⊎◌}
use Rattle.std.proofs.lemmas.List.{take_more}
use Rattle.item_tree.specs.declared.item.Item.{Item}
use Rattle.item_tree.specs.Datum.{Datum, null, boolean, integer, decimal, text, date, date_time, array, object, depth, array_of_list, object_of_pairs, values, Sound, AllSound}
use Rattle.item_tree.specs.Item.{datum, datums}
use Rattle.item_tree.specs.Laws.{greatest, DepthsAreKept}
use Rattle.item_tree.specs.Made.{HasDeep}

datums-push : (xs : List Item) (x : Item) → depth (array_of_list (datums (xs ++ x ∷ []))) ≡ max (depth (array_of_list (datums xs))) (depth (datum x) + 1)
datums-push [] x = omega arith
datums-push (y ∷ ys) x = omega (arith, datums-push ys x)

sound-push : (xs : List Item) (x : Item) → AllSound (values (datums xs)) → Sound (datum x) → AllSound (values (datums (xs ++ x ∷ [])))
sound-push [] x h s = (s, tt)
sound-push (y ∷ ys) x h s = (h.0, sound-push ys x h.1 s)

pub step : {X : Type 0} (xs : List X) (i : ℕ) (x : X) → i < length xs → x ≡ get_or xs i x → take (i + 1) xs ≡ take i xs ++ x ∷ []
step xs i x lt e = take_more xs i x lt ∙ ap (λ y. take i xs ++ y ∷ []) (sym e)

pub depth_more : (xs : List Item) (i : ℕ) (x : Item) → i < length xs → x ≡ get_or xs i x → depth (array_of_list (datums (take (i + 1) xs))) ≡ max (depth (array_of_list (datums (take i xs)))) (depth (datum x) + 1)
depth_more xs i x lt e = ap (λ ys. depth (array_of_list (datums ys))) (step xs i x lt e) ∙ datums-push (take i xs) x

pub sound_more : (xs : List Item) (i : ℕ) (x : Item) → i < length xs → x ≡ get_or xs i x → AllSound (values (datums (take i xs))) → Sound (datum x) → AllSound (values (datums (take (i + 1) xs)))
sound_more xs i x lt e h s = subst (λ ys. AllSound (values (datums ys))) (sym (step xs i x lt e)) (sound-push (take i xs) x h s)

-- each is within the depth that an item may have
pub sound_depth : (v : Datum) → Sound v → depth v ≤ 128
sound_depth null s = omega arith
sound_depth (boolean b) s = omega arith
sound_depth (integer n) s = omega arith
sound_depth (decimal m) s = omega arith
sound_depth (text t) s = omega arith
sound_depth (date d) s = omega arith
sound_depth (date_time t) s = omega arith
sound_depth (array vs) s = omega (arith, s.1)
sound_depth (object ms) s = omega (arith, s.2)

pub deep_or : (v : Datum) → depth v ≤ 128 → (depth v ≡ 128) ⊎ (depth v < 128)
deep_or v h = grind arith

pub deep_from : (vs : List Datum) → AllSound (values vs) → 128 < depth (array_of_list vs) → HasDeep vs
deep_from [] s h = absurd (omega arith)
deep_from (v ∷ vs) s h =
    elim (deep_or v (sound_depth v s.0)) [ inl e ↦ inl e | inr l ↦ inr (deep_from vs s.1 (omega arith)) ]

array_depth : (vs : List Datum) → depth (array_of_list vs) ≡ greatest (map depth vs) + 1
array_depth [] = refl
array_depth (v ∷ vs) = omega (arith, array_depth vs)

object_depth : (ps : List (List ℕ × Datum)) → depth (object_of_pairs ps) ≡ greatest (map (λ p. depth p.1) ps) + 1
object_depth [] = refl
object_depth (p ∷ ps) = omega (arith, object_depth ps)

pub depths_kept : DepthsAreKept
depths_kept = record {
  of_array = array_depth;
  of_object = object_depth;
  bounded = sound_depth;
}
