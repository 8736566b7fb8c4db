-- The pieces that a schedule takes.
use Rattle.std.proofs.Common.{◌≡◌, ◌+◌, ℕ, suc, true, List, [], ◌∷◌, Option, Some, refl, ap, ◌∙◌, subst, arith}
use Rattle.board_core.specs.declared.state.CoreState.{CoreState}
use Rattle.board_core.specs.declared.event.CoreEvent.{CoreEvent}
use Rattle.board_core.specs.declared.event.CoreEvent.TheVariants.{Took, Told, Stopped}
use Rattle.board_core.specs.Core.{stepped, replay, opening}
use Rattle.board_core.specs.Schedules.{pieces_of, numbers_from}
use Rattle.board_core.specs.Laws.{PiecesInOrder}
use Rattle.board_core.proofs.Replays.{alive, step_took, step_told}

-- from one state to a later one
record Takes (first : ℕ) (events : List CoreEvent) (last : ℕ) : Type 0 where
  count : ℕ
  is : first + count ≡ last
  pieces : pieces_of events ≡ numbers_from first count

takes_more : (first p l last : ℕ) (es : List CoreEvent) → p ≡ first → Takes (first + 1) es last → Takes first (Took p l ∷ es) last
takes_more first p l last es e t =
    record {
      count = suc t.count;
      is = omega (arith, t.is);
      pieces = rw e (ap (λ (w : List ℕ). first ∷ w) t.pieces);
    }

takes_told : (first c p last : ℕ) (es : List CoreEvent) → Takes first es last → Takes first (Told c p ∷ es) last
takes_told first c p last es t = record { count = t.count; is = t.is; pieces = t.pieces }

takes_stopped : (first last : ℕ) (es : List CoreEvent) → Takes first es last → Takes first (Stopped ∷ es) last
takes_stopped first last es t = record { count = t.count; is = t.is; pieces = t.pieces }

takes : (es : List CoreEvent) (s t : CoreState) → replay (Some s) es ≡ Some t → Takes s.next es t.next
takes [] s t r =
    let e : s ≡ t = cc in
    record { count = 0; is = omega (arith, ap (λ (v : CoreState). v.next) e); pieces = refl }
takes (Took p l ∷ es) s t r =
    let u = alive (stepped s (Took p l)) es t r in
    let k = step_took s u.0 p l u.1 in
    let next : u.0.next ≡ s.next + 1 = ap (λ (v : CoreState). v.next) k.left ∙ ap (λ (n : ℕ). n + 1) k.here in
    let rest = takes es u.0 t (subst (λ (o : Option CoreState). replay o es ≡ Some t) u.1 r) in
    takes_more s.next p l t.next es k.here (subst (λ (n : ℕ). Takes n es t.next) next rest)
takes (Told c p ∷ es) s t r =
    let u = alive (stepped s (Told c p)) es t r in
    let k = step_told s u.0 c p u.1 in
    let next : u.0.next ≡ s.next = ap (λ (v : CoreState). v.next) k.left in
    let rest = takes es u.0 t (subst (λ (o : Option CoreState). replay o es ≡ Some t) u.1 r) in
    takes_told s.next c p t.next es (subst (λ (n : ℕ). Takes n es t.next) next rest)
takes (Stopped ∷ es) s t r = takes_stopped s.next t.next es (takes es (record s { stopped = true }) t r)

pub pieces_in_order_lem : PiecesInOrder
pieces_in_order_lem total full es s r =
    let t = takes es (opening total full) s r in
    let e : t.count ≡ s.next = omega (arith, t.is) in
    t.pieces ∙ ap (λ (n : ℕ). numbers_from 0 n) e
