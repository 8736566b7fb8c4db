-- Where a stage is another one seen so, so are its outcomes; and steps in front of both keep this.
use Rattle.std.proofs.Common.{◌≡◌, ℕ, ◌+◌, ◌≤◌, ◌==◌, Bool, true, false, nat_lt, if◌then◌else◌, List, [], ◌∷◌, length, Result, Ok, Err, refl, sym, ap, ap₂, ◌∙◌, subst}
use Rattle.stage_laws.specs.Runs.{Met, ◌>>=◌, joined, met_at, each_from}
use Rattle.stage_laws.specs.Stages.{Stage, into_next, narrow}
use Rattle.stage_laws.specs.Pieces.{Outcome, whole, met, clean, Counted, told_below, by_outcome}
use Rattle.stage_laws.specs.Laws.{reach, IsCarry}
use Rattle.piece_run.specs.Remade.{remade, outcome_remade, counted_remade, IsRemade}

-- ---- steps in front

joined_remade : {B K J F : Type 0} (q r : Result (List B) (Met K F)) → joined (remade {J = J} (λ ys. ys) q) (remade (λ ys. ys) r) ≡ remade (λ ys. ys) (joined q r)
joined_remade (Ok xs) (Ok ys) = refl
joined_remade (Ok xs) (Err e) = refl
joined_remade (Err e) r = refl

met_remade : {B F : Type 0} (K J : Type 0) (number n : ℕ) (q : Result (List B) F) → met_at {K = J} number n q ≡ remade (λ ys. ys) (met_at {K = K} number n q)
met_remade K J number n (Ok ys) = refl
met_remade K J number n (Err fault) = refl

pub each_remade : {A B F : Type 0} (K J : Type 0) (number : ℕ) (f : A → Result (List B) F) (n : ℕ) (xs : List A) → each_from {K = J} number f n xs ≡ remade (λ ys. ys) (each_from {K = K} number f n xs)
each_remade K J number f n [] = refl
each_remade K J number f n (x ∷ xs) =
    ap₂ joined (met_remade K J number n (f x)) (each_remade K J number f (n + 1) xs)
    ∙ joined_remade (met_at {K = K} number n (f x)) (each_from {K = K} number f (n + 1) xs)

then_remade : {M B W K J F : Type 0} (view : B → W) (s : Stage M B K F) (t : Stage M W J F) → IsRemade view s t → (q : Result (List M) (Met K F)) → (remade (λ ys. ys) q >>= t.run) ≡ remade view (q >>= s.run)
then_remade view s t h (Ok ys) = h.run ys
then_remade view s t h (Err e) = refl

next_remade : {M B W K J F : Type 0} (view : B → W) (s : Stage M B K F) (t : Stage M W J F) → IsRemade view s t → (c : ℕ) (q : Result (List M) (Met K F)) → into_next t c (remade (λ ys. ys) q) ≡ into_next s c q
next_remade view s t h c (Ok ys) = h.into c ys
next_remade view s t h c (Err e) = refl

pub narrow_remade : {A M B W F : Type 0} (K J : Type 0) (view : B → W) (number : ℕ) (f : A → Result (List M) F) (s : Stage M B K F) (t : Stage M W J F) → IsRemade view s t → IsRemade view (narrow number f s) (narrow number f t)
narrow_remade K J view number f s t h = record {
  run = λ xs. ap (λ (q : Result _ _). q >>= t.run) (each_remade K J number f 1 xs) ∙ then_remade view s t h (each_from {K = K} number f 1 xs);
  into = λ c xs. ap (λ (n : ℕ). if c == number then length xs else n) (ap (into_next t c) (each_remade K J number f 1 xs) ∙ next_remade view s t h c (each_from {K = K} number f 1 xs));
}

-- ---- outcomes

picked_remade : {B W K J F : Type 0} (view : B → W) (b : Bool) (o : Outcome B K F) → (if b then outcome_remade {J = J} view o else clean) ≡ outcome_remade view (if b then o else clean)
picked_remade view true o = refl
picked_remade view false o = refl

told_remade : {B W K J F : Type 0} (view : B → W) (full limit : ℕ) (q : Result B (Met K F)) → outcome_remade {J = J} view (told_below full limit q) ≡ told_below full limit (remade view q)
told_remade view full limit (Ok x) = sym (picked_remade view (limit == full) (whole x))
told_remade view full limit (Err e) = sym (picked_remade view (nat_lt e.step limit) (met e))

reach_remade : {B W K F : Type 0} (J : Type 0) (view : B → W) (last limit : ℕ) (o : Outcome B K F) → reach last (by_outcome limit (outcome_remade {J = J} view o)) ≡ reach last (by_outcome limit o)
reach_remade J view last limit (whole x) = refl
reach_remade J view last limit (met e) = refl
reach_remade J view last limit clean = refl

pub carry_remade : {A B W K J F : Type 0} (view : B → W) (s : Stage A B K F) (t : Stage A W J F) → IsRemade view s t → (first last limit : ℕ) (xs : List A) (out : Counted B K F)
    → IsCarry first last s xs limit out → IsCarry first last t xs limit (counted_remade view out)
carry_remade view s t h first last limit xs out c = record {
  outcome = ap (outcome_remade view) c.outcome ∙ told_remade view (last + 1) limit (s.run xs) ∙ ap (told_below (last + 1) limit) (sym (h.run xs));
  into = λ n from k. c.into n from (subst (λ (m : ℕ). n ≤ m) (reach_remade _ view last limit out.outcome) k) ∙ sym (h.into n xs);
}
