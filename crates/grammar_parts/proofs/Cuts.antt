-- Lists that are cut in two, and outcomes that are equal.
use Rattle.std.proofs.Common.{◌≡◌, ◌<◌, ◌≤◌, ◌⊎◌, inl, inr, List, [], ◌∷◌, ◌++◌, length, Ok, refl, sym, ap, append_assoc, arith}
use Rattle.std.proofs.lemmas.List.{length-append}
use Rattle.grammar_parts.specs.Readers.{Outcome}

pub nil_from_append : {T : Type 0} (u v : List T) → [] ≡ u ++ v → (u ≡ []) × (v ≡ [])
nil_from_append [] v e = (refl, sym e)
nil_from_append (t ∷ u) v e = absurd cc

pub head_same : {T : Type 0} (t s : T) (u v : List T) → t ∷ u ≡ s ∷ v → t ≡ s
head_same t s u v e = cc

pub tail_same : {T : Type 0} (t s : T) (u v : List T) → t ∷ u ≡ s ∷ v → u ≡ v
tail_same t s u v e = cc

-- a token moves over the seam
pub moved : {T : Type 0} (u r : List T) (t : T) → u ++ t ∷ r ≡ (u ++ t ∷ []) ++ r
moved u r t = sym (append_assoc u (t ∷ []) r)

-- the first list ends in the second or the other way round
pub split_append : {T : Type 0} (u v a b : List T) → u ++ v ≡ a ++ b → ((c : List T) × (a ≡ u ++ c)) ⊎ ((c : List T) × (u ≡ a ++ c) × (b ≡ c ++ v))
split_append [] v a b e = inl (a, refl)
split_append (t ∷ u) v [] b e = inr (t ∷ u, refl, sym e)
split_append (t ∷ u) v (s ∷ a) b e =
    let h : t ≡ s = head_same t s (u ++ v) (a ++ b) e in
    elim (split_append u v a b (tail_same t s (u ++ v) (a ++ b) e)) [
      | inl (c, f) ↦ inl (c, rw (f, h) refl)
      | inr (c, f, i) ↦ inr (c, rw (f, h) refl, i)
    ]

pub shorter : {T : Type 0} (u s r : List T) → s ≡ u ++ r → (u ≡ [] → ⊥) → length r < length s
shorter [] s r e n = absurd (n refl)
shorter (t ∷ u) s r e n = omega (arith, ap length e, length-append u r)

pub no_length : {T : Type 0} (s : List T) → length s ≤ 0 → s ≡ []
no_length [] h = refl
no_length (t ∷ s) h = absurd (omega arith)

abbrev done : {T A : Type 0} → A × List T → Outcome T A
done x = Ok x

ok_same : {T A : Type 0} (x y : A × List T) → done x ≡ done y → x ≡ y
ok_same x y e = cc

pub ok_rest : {T A : Type 0} (x y : A) (r s : List T) → done (x, r) ≡ done (y, s) → r ≡ s
ok_rest x y r s e = ap (λ (p : _). p.1) (ok_same (x, r) (y, s) e)

pub ok_value : {T A : Type 0} (x y : A) (r s : List T) → done (x, r) ≡ done (y, s) → x ≡ y
ok_value x y r s e = ap (λ (p : _). p.0) (ok_same (x, r) (y, s) e)
