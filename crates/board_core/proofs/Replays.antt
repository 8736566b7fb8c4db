-- Events that replay, and what a step that is allowed says.
use Rattle.std.proofs.Common.{◌≡◌, ◌<◌, ◌+◌, ◌==◌, ◌&&◌, not, nat_lt, ℕ, Bool, true, false, if◌then◌else◌, List, [], ◌∷◌, ◌++◌, Option, None, Some, refl, ap, ◌∙◌, sym, arith}
use Rattle.std.proofs.lemmas.Grind.{common_steps}
use Rattle.std.proofs.lemmas.Bool.Decides.{nat_tests}
use Rattle.board_core.specs.declared.event.CoreEvent.TheVariants.{Took, Told}
use Rattle.board_core.specs.declared.state.CoreState.{CoreState}
use Rattle.board_core.specs.declared.event.CoreEvent.{CoreEvent}
use Rattle.fault_merge.specs.Places.{least_of}
use Rattle.board_core.specs.Core.{stepped, replay, limit_of}

pub replay_none : (es : List CoreEvent) → replay None es ≡ None
replay_none [] = refl
replay_none (e ∷ es) = refl

pub replay_append : (s : Option CoreState) (es fs : List CoreEvent) → replay s (es ++ fs) ≡ replay (replay s es) fs
replay_append s [] fs = refl
replay_append None (e ∷ es) fs = sym (replay_none fs)
replay_append (Some s) (e ∷ es) fs = replay_append (stepped s e) es fs

-- what replays on has a state
pub alive : (o : Option CoreState) (es : List CoreEvent) (t : CoreState) → replay o es ≡ Some t → (u : CoreState) × (o ≡ Some u)
alive None es t r = absurd (let e = replay_none es in cc)
alive (Some u) es t r = (u, refl)

-- one more event
pub replay_more : (s : Option CoreState) (es : List CoreEvent) (e : CoreEvent) (t u : CoreState)
    → replay s es ≡ Some t → stepped t e ≡ Some u → replay s (es ++ e ∷ []) ≡ Some u
replay_more s es e t u h k = replay_append s es (e ∷ []) ∙ (ap (λ (w : Option CoreState). replay w (e ∷ [])) h ∙ k)

-- what a step that is allowed says of the event and of both states
pub record IsTook (s t : CoreState) (piece limit : ℕ) : Type 0 where
  pub going : s.stopped ≡ false
  pub here : piece ≡ s.next
  pub below : piece < s.total
  pub at : limit ≡ limit_of s.full s.least
  pub left : t ≡ record s { next = piece + 1 }

pub record IsTold (s t : CoreState) (clause piece : ℕ) : Type 0 where
  pub taken : piece < s.next
  pub below : clause < s.full
  pub left : t ≡ record s { least = Some (least_of s.least (record { clause = clause; piece = piece })) }

both : (a b c d : Bool) → ((a && b) && (c && d)) ≡ true → (a ≡ true) × (b ≡ true) × (c ≡ true) × (d ≡ true)
both true true true true e = (refl, refl, refl, refl)
both false b c d e = absurd cc
both true false c d e = absurd cc
both true true false d e = absurd cc
both true true true false e = absurd cc

chosen : {A : Type 0} (b : Bool) (x y : A) → (if b then Some x else None) ≡ Some y → (b ≡ true) × (y ≡ x)
chosen true x y e = (refl, cc)
chosen false x y e = absurd cc

pub step_took : (s t : CoreState) (piece limit : ℕ) → stepped s (Took piece limit) ≡ Some t → IsTook s t piece limit
step_took s t p l e =
    let c = chosen ((not s.stopped && (p == s.next)) && (nat_lt p s.total && (l == limit_of s.full s.least))) (record s { next = p + 1 }) t e in
    let b = both (not s.stopped) (p == s.next) (nat_lt p s.total) (l == limit_of s.full s.least) c.0 in
    record {
      going = grind (arith, common_steps);
      here = grind (arith, nat_tests);
      below = grind (arith, nat_tests);
      at = grind (arith, nat_tests);
      left = c.1;
    }

two : (a b : Bool) → (a && b) ≡ true → (a ≡ true) × (b ≡ true)
two true true e = (refl, refl)
two false b e = absurd cc
two true false e = absurd cc

pub step_told : (s t : CoreState) (clause piece : ℕ) → stepped s (Told clause piece) ≡ Some t → IsTold s t clause piece
step_told s t k p e =
    let c = chosen (nat_lt p s.next && nat_lt k s.full) (record s { least = Some (least_of s.least (record { clause = k; piece = p })) }) t e in
    let b = two (nat_lt p s.next) (nat_lt k s.full) c.0 in
    record {
      taken = grind (arith, nat_tests);
      below = grind (arith, nat_tests);
      left = c.1;
    }
