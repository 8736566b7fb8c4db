-- Each event that the core allows keeps a board.
use Rattle.std.proofs.Common.{◌≡◌, ◌≤◌, ◌<◌, ◌+◌, ℕ, Bool, true, false, if◌then◌else◌, List, [], ◌∷◌, ◌++◌, Some, refl, ap, ◌∙◌, sym, subst, arith, length-append}
use Rattle.std.proofs.lemmas.List.Sums.{sum_by-append}
use Rattle.board_core.specs.declared.state.CoreState.{CoreState}
use Rattle.board_core.specs.declared.event.CoreEvent.{CoreEvent}
use Rattle.board_core.specs.declared.event.CoreEvent.TheVariants.{Took, Told, Stopped}
use Rattle.board_core.specs.Core.{stepped, replay, opening}
use Rattle.board_core.specs.Schedules.{is_told}
use Rattle.board_core.proofs.Replays.{replay_more, step_took, step_told}
use Rattle.piece_board.specs.Boards.{IsKept}

pub took_keeps : (s t : CoreState) (log : List CoreEvent) (tells room room' p l : ℕ) → IsKept s log tells room → room ≤ room' → stepped s (Took p l) ≡ Some t
    → IsKept t (log ++ Took p l ∷ []) tells room'
took_keeps s t log tells room room' p l k le e =
    let h = step_took s t p l e in
    let r : replay (Some (opening s.total s.full)) (log ++ Took p l ∷ []) ≡ Some t = replay_more _ log (Took p l) s t k.replays e in
    let P : CoreState → Type 0 = λ u. replay (Some (opening s.total s.full)) (log ++ Took p l ∷ []) ≡ Some u → IsKept u (log ++ Took p l ∷ []) tells room' in
    subst P (sym h.left) (λ r'. record {
      replays = r';
      has_room = omega (arith, k.has_room);
      counted = omega (arith, k.counted, sum_by-append (λ (e : CoreEvent). if is_told e then 1 else 0) log (Took p l ∷ []));
      length = omega (arith, length-append log (Took p l ∷ []), k.length, h.here);
      bounded = omega (arith, h.below);
      tells_fit = k.tells_fit;
      small = k.small;
    }) r

pub told_keeps : (s t : CoreState) (log : List CoreEvent) (tells room room' c p : ℕ) → IsKept s log tells room → room ≤ room' → tells < s.total → stepped s (Told c p) ≡ Some t
    → IsKept t (log ++ Told c p ∷ []) (tells + 1) room'
told_keeps s t log tells room room' c p k le more e =
    let h = step_told s t c p e in
    let r : replay (Some (opening s.total s.full)) (log ++ Told c p ∷ []) ≡ Some t = replay_more _ log (Told c p) s t k.replays e in
    let P : CoreState → Type 0 = λ u. replay (Some (opening s.total s.full)) (log ++ Told c p ∷ []) ≡ Some u → IsKept u (log ++ Told c p ∷ []) (tells + 1) room' in
    subst P (sym h.left) (λ r'. record {
      replays = r';
      has_room = omega (arith, k.has_room);
      counted = omega (arith, k.counted, sum_by-append (λ (e : CoreEvent). if is_told e then 1 else 0) log (Told c p ∷ []));
      length = omega (arith, length-append log (Told c p ∷ []), k.length);
      bounded = k.bounded;
      tells_fit = omega arith;
      small = k.small;
    }) r

pub stop_keeps : (s : CoreState) (log : List CoreEvent) (tells room room' : ℕ) → IsKept s log tells room → room ≤ room' → s.stopped ≡ false
    → IsKept (record s { stopped = true }) (log ++ Stopped ∷ []) tells room'
stop_keeps s log tells room room' k le going =
    record {
      replays = replay_more _ log Stopped s (record s { stopped = true }) k.replays refl;
      has_room = omega (arith, k.has_room);
      counted = omega (arith, k.counted, sum_by-append (λ (e : CoreEvent). if is_told e then 1 else 0) log (Stopped ∷ []));
      length = omega (arith, length-append log (Stopped ∷ []), k.length ∙ ap (λ (b : Bool). s.next + tells + (if b then 1 else 0)) going);
      bounded = k.bounded;
      tells_fit = k.tells_fit;
      small = k.small;
    }
