-- Limits are enough: a limit is the least clause told, and only pieces before the next one are told.
use Rattle.std.proofs.Common.{◌≡◌, ◌<◌, ◌≤◌, ◌+◌, ℕ, Bool, true, false, List, [], ◌∷◌, Option, None, Some, if◌then◌else◌, IfSome, refl, ap, sym, ◌∙◌, subst, inl, inr, arith}
use Rattle.std.proofs.lemmas.Bool.Decides.{nat_tests}
use Rattle.fault_merge.specs.declared.at.At.{At}
use Rattle.board_core.specs.declared.state.CoreState.{CoreState}
use Rattle.board_core.specs.declared.event.CoreEvent.{CoreEvent}
use Rattle.board_core.specs.declared.event.CoreEvent.TheVariants.{Took, Told, Stopped}
use Rattle.fault_merge.specs.Places.{least_of, is_before}
use Rattle.fault_merge.specs.Enough.{enough_of}
use Rattle.fault_merge.specs.Faults.{IsLeastFault}
use Rattle.board_core.specs.Core.{stepped, replay, opening, limit_of}
use Rattle.board_core.specs.Schedules.{IsFaults, Truthful, TakesEnough}
use Rattle.board_core.specs.Laws.{LimitsSuffice}
use Rattle.board_core.proofs.Replays.{alive, step_took, step_told}

-- what was told least is a fault of f, of a piece before the next one
pub record IsToldBy (f : ℕ → Option ℕ) (next : ℕ) (a : At) : Type 0 where
  pub before : a.piece < next
  pub fault : f a.piece ≡ Some a.clause

chosen_told : (f : ℕ → Option ℕ) (next : ℕ) (c : Bool) (a b : At) → IsToldBy f next a → IsToldBy f next b → IsToldBy f next (if c then b else a)
chosen_told f next true a b h k = k
chosen_told f next false a b h k = h

least_told : (f : ℕ → Option ℕ) (next : ℕ) (o : Option At) (b : At) → IfSome o (IsToldBy f next) → IsToldBy f next b → IsToldBy f next (least_of o b)
least_told f next None b h k = k
least_told f next (Some a) b h k = chosen_told f next (is_before b a) a b h k

later_told : (f : ℕ → Option ℕ) (n m : ℕ) (o : Option At) → n ≤ m → IfSome o (IsToldBy f n) → IfSome o (IsToldBy f m)
later_told f n m None le h = tt
later_told f n m (Some a) le h = record { before = omega (arith, h.before); fault = h.fault }

-- the limit of a take is enough
take_enough : (f : ℕ → Option ℕ) (a o : Option At) (total full p : ℕ) → IsFaults f total full → IsLeastFault f a → IfSome o (IsToldBy f p) → enough_of (limit_of full o) p a full ≡ true
take_enough f None None total full p faults least told = grind (arith, nat_tests)
take_enough f None (Some b) total full p faults least told = absurd (let e = least b.piece in let h = told.fault in cc)
take_enough f (Some a) None total full p faults least told =
    let below : a.clause < full = (faults a.piece a.clause least.0).1 in grind (arith, nat_tests)
take_enough f (Some a) (Some b) total full p faults least told =
    let before = told.before in
    elim (least.1 b.piece b.clause told.fault) as (λ _. enough_of (limit_of full (Some b)) p (Some a) full ≡ true)
    [ inl h ↦ grind (arith, nat_tests) | inr h ↦ let e = h.0 in let le = h.1 in grind (arith, nat_tests) ]

abbrev IsSound : (ℕ → Option ℕ) → ℕ → Option CoreState → Type 0
IsSound f full o = IfSome o (λ u. (u.full ≡ full) × IfSome u.least (IsToldBy f u.next))

took_sound : (f : ℕ → Option ℕ) (full : ℕ) (s : CoreState) (p l : ℕ) (o : Option CoreState) → stepped s (Took p l) ≡ o → IsSound f full (Some s) → IsSound f full o
took_sound f full s p l None e h = tt
took_sound f full s p l (Some u) e h =
    let k = step_took s u p l e in
    let P : CoreState → Type 0 = λ v. (v.full ≡ full) × IfSome v.least (IsToldBy f v.next) in
    subst P (sym k.left) (h.0, later_told f s.next (p + 1) s.least (omega (arith, k.here)) h.1)

told_sound : (f : ℕ → Option ℕ) (full : ℕ) (s : CoreState) (c p : ℕ) (o : Option CoreState) → stepped s (Told c p) ≡ o → f p ≡ Some c → IsSound f full (Some s) → IsSound f full o
told_sound f full s c p None e is h = tt
told_sound f full s c p (Some u) e is h =
    let k = step_told s u c p e in
    let P : CoreState → Type 0 = λ v. (v.full ≡ full) × IfSome v.least (IsToldBy f v.next) in
    subst P (sym k.left) (h.0, least_told f s.next s.least (record { clause = c; piece = p }) h.1 (record { before = k.taken; fault = is }))

pub run_enough : (f : ℕ → Option ℕ) (a : Option At) (total full : ℕ) (es : List CoreEvent) (o : Option CoreState) (t : CoreState)
    → IsFaults f total full → IsLeastFault f a → IsSound f full o → Truthful f es → replay o es ≡ Some t → TakesEnough a full es
run_enough f a total full [] o t faults least sound true_es r = tt
run_enough f a total full (e ∷ es) None t faults least sound true_es r = absurd cc
run_enough f a total full (Took p l ∷ es) (Some s) t faults least sound true_es r =
    let o = stepped s (Took p l) in
    let u = alive o es t r in
    let k = step_took s u.0 p l u.1 in
    let told : IfSome s.least (IsToldBy f p) = subst (λ (n : ℕ). IfSome s.least (IsToldBy f n)) (sym k.here) sound.1 in
    let limit : l ≡ limit_of full s.least = k.at ∙ ap (λ n. limit_of n s.least) sound.0 in
    (rw limit (take_enough f a s.least total full p faults least told), run_enough f a total full es o t faults least (took_sound f full s p l o refl sound) true_es r)
run_enough f a total full (Told c p ∷ es) (Some s) t faults least sound true_es r =
    let o = stepped s (Told c p) in
    run_enough f a total full es o t faults least (told_sound f full s c p o refl true_es.0 sound) true_es.1 r
run_enough f a total full (Stopped ∷ es) (Some s) t faults least sound true_es r =
    run_enough f a total full es (Some (record s { stopped = true })) t faults least sound true_es r

pub limits_suffice_lem : LimitsSuffice
limits_suffice_lem = λ f a total full es s faults least true_es r. run_enough f a total full es (Some (opening total full)) s faults least (refl, tt) true_es r
