-- No limit of a whole run is past the one at which all steps are run.
use Rattle.std.proofs.Common.{◌≡◌, ◌<◌, ◌≤◌, ◌==◌, ℕ, Bool, true, false, List, [], ◌∷◌, Option, None, Some, if◌then◌else◌, ap, sym, subst, arith}
use Rattle.fault_merge.specs.declared.at.At.{At}
use Rattle.fault_merge.specs.declared.done.Done.{Done}
use Rattle.fault_merge.specs.Places.{least_of, is_before}
use Rattle.board_core.specs.declared.state.CoreState.{CoreState}
use Rattle.board_core.specs.declared.event.CoreEvent.{CoreEvent}
use Rattle.board_core.specs.declared.event.CoreEvent.TheVariants.{Took, Told, Stopped}
use Rattle.board_core.specs.Core.{stepped, replay, opening, limit_of}
use Rattle.board_core.specs.Schedules.{limits_of}
use Rattle.board_core.proofs.Replays.{alive, step_took, step_told}
use Rattle.piece_board.specs.Whole.{IsAt, IsWhole}

-- all of these numbers are at most `full`
abbrev AtMost : ℕ → List ℕ → Type 0
AtMost full [] = Unit {0}
AtMost full (x ∷ xs) = (x ≤ full) × AtMost full xs

at_most_if : (full : ℕ) (b : Bool) (x : ℕ) (xs : List ℕ) → x ≤ full → AtMost full xs → AtMost full (if b then x ∷ xs else xs)
at_most_if full true x xs h k = (h, k)
at_most_if full false x xs h k = k

-- the limit of a state is within the limit of all
abbrev Within : CoreState → Type 0
Within s = limit_of s.full s.least ≤ s.full

chosen : (full : ℕ) (b : Bool) (x y : At) → x.clause ≤ full → y.clause ≤ full → (if b then x else y).clause ≤ full
chosen full true x y h k = h
chosen full false x y h k = k

least_within : (full : ℕ) (o : Option At) (b : At) → limit_of full o ≤ full → b.clause < full → limit_of full (Some (least_of o b)) ≤ full
least_within full None b h k = omega (arith, k)
least_within full (Some a) b h k =
    let low : b.clause ≤ full = omega (arith, k) in
    chosen full (is_before b a) b a low h

limits_within : (es : List CoreEvent) (s t : CoreState) → replay (Some s) es ≡ Some t → Within s → (p : ℕ) → AtMost s.full (limits_of p es)
limits_within [] s t r w p = tt
limits_within (Took q l ∷ es) s t r w p =
    let u = alive (stepped s (Took q l)) es t r in
    let k = step_took s u.0 q l u.1 in
    let r2 = subst (λ (o : Option CoreState). replay o es ≡ Some t) u.1 r in
    let same : u.0.full ≡ s.full = ap (λ (v : CoreState). v.full) k.left in
    let w2 : Within u.0 = subst Within (sym k.left) w in
    let low : l ≤ s.full = subst (λ (n : ℕ). n ≤ s.full) (sym k.at) w in
    at_most_if s.full (q == p) l (limits_of p es) low (subst (λ (n : ℕ). AtMost n (limits_of p es)) same (limits_within es u.0 t r2 w2 p))
limits_within (Told c q ∷ es) s t r w p =
    let u = alive (stepped s (Told c q)) es t r in
    let k = step_told s u.0 c q u.1 in
    let r2 = subst (λ (o : Option CoreState). replay o es ≡ Some t) u.1 r in
    let same : u.0.full ≡ s.full = ap (λ (v : CoreState). v.full) k.left in
    let w2 : Within u.0 = subst Within (sym k.left) (least_within s.full s.least (record { clause = c; piece = q }) w k.below) in
    subst (λ (n : ℕ). AtMost n (limits_of p es)) same (limits_within es u.0 t r2 w2 p)
limits_within (Stopped ∷ es) s t r w p = limits_within es (record s { stopped = true }) t r w p

pub limit_within : {O : Type 0} (tells : O → Option ℕ) (good : ℕ → ℕ → O → Type 0) (total full : ℕ) (done : List (Done O)) (events : List CoreEvent)
    → IsWhole tells good total full done events → (p : ℕ) (d : Done O) → IsAt tells good events p d → d.limit ≤ full
limit_within tells good total full done events w p d at =
    let low : full ≤ full = omega arith in
    let all : AtMost full (limits_of p events) = limits_within events (opening total full) w.ends.state w.ends.replays low p in
    let one : AtMost full (d.limit ∷ []) = subst (AtMost full) at.taken all in
    one.0
