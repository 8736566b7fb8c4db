-- What workers give for all pieces of an input is a whole run.
use Rattle.std.proofs.Common.{◌≡◌, ℕ, zero, suc, ◌+◌, ◌<◌, List, [], ◌∷◌, length, slice_get, Option, None, Some, IfSome, refl, ap, ◌∙◌, subst, arith}
use Rattle.item_tree.specs.Datum.{Datum}
use Rattle.item_reader.specs.Lines.{Line}
use Rattle.line_pieces.specs.Pieces.{told_piece}
use Rattle.seq_types.specs.declared.types.SeqType.{SeqType}
use Rattle.tuple_rows.specs.Keys.{KeyList, Keyed}
use Rattle.query_tree.specs.declared.bound.Slot.{Slot}
use Rattle.query_tree.specs.declared.bound.Target.{Target}
use Rattle.query_tree.specs.declared.names.Placed.{Placed}
use Rattle.query_tree.specs.Plain.{PlainOrderKeys}
use Rattle.query_meaning.specs.Orders.{column_places}
use Rattle.fault_merge.specs.declared.done.Done.{Done}
use Rattle.stage_laws.specs.Ends.{in_order}
use Rattle.stage_laws.specs.Laws.{Falls}
use Rattle.clause_stages.specs.Drivers.{numbered_lines}
use Rattle.board_core.specs.declared.event.CoreEvent.{CoreEvent}
use Rattle.piece_board.specs.Whole.{IsWhole}
use Rattle.piece_outcomes.specs.Came.{nothing_came, follow}
use Rattle.piece_outcomes.specs.Counting.{told_step, order_told_step}
use Rattle.piece_outcomes.specs.Orders.{clash_at, IsWide}
use Rattle.piece_outcomes.specs.declared.outcome.Counted.{Counted}
use Rattle.piece_outcomes.specs.declared.outcome.OrderCounted.{OrderCounted}
use Rattle.piece_seats.specs.Seats.{first_line}
use Rattle.piece_run.specs.Driven.{MayBegin, stage_of, order_stage_of}
use Rattle.piece_run.specs.Gathering.{OnPieces, IsWideOutcomeOf, lines_before, numbered_piece}
use Rattle.piece_run.specs.Inputs.{RunsAreWhole, OrdersAreWhole, orders_on_pieces}
use Rattle.piece_run.specs.Outcomes.{CameIs, IsOutcomeOf}
use Rattle.piece_run.specs.Seats.{IsOfLines, IsKeyedPiece, IsOrderOfLines, IsWidePiece}
use Rattle.piece_run.specs.Staged.{last_step, tuples_stage, ordered_stage}
use Rattle.piece_run.specs.declared.came.CameOut.{CameOut}
use Rattle.piece_run.specs.declared.stage.DrivenStage.{DrivenStage}
use Rattle.piece_run.proofs.EndFalls.{tuples_fall, ordered_fall, driven_fall}
use Rattle.piece_run.proofs.Numbering.{pieces_are_numbered}
use Rattle.piece_run.proofs.WholeRuns.{lists_chosen}

below : {X : Type 0} (xs : List X) (p : ℕ) (x : X) → slice_get xs p ≡ Some x → p < length xs
below [] p x e = absurd cc
below (y ∷ ys) zero x e = omega arith
below (y ∷ ys) (suc p) x e = let h = below ys p x e in omega (arith, h)

-- outputs that are good so are good in another way
pub good_as : {O : Type 0} (tells : O → Option ℕ) (good other : ℕ → ℕ → O → Type 0) (total full : ℕ) (done : List (Done O)) (events : List CoreEvent)
    → ((p limit : ℕ) (out : O) → p < total → good p limit out → other p limit out) → IsWhole tells good total full done events → IsWhole tells other total full done events
good_as tells good other total full done events h w = record {
  count = w.count;
  each = λ p d e.
      let at = w.each p d e in
      let low : p < total = omega (arith, below done p d e, w.count) in
      record { here = at.here; is_good = h p d.limit d.out low at.is_good; taken = at.taken; told = at.told };
  ends = w.ends;
}

stage_falls : {F : Type 0} (s : DrivenStage F) → Falls s.reading (last_step s) nothing_came follow (stage_of s)
stage_falls s = driven_fall s nothing_came follow (tuples_stage s) (tuples_fall s)

order_falls : {F : Type 0} (s : DrivenStage F) (keys : PlainOrderKeys Slot Target SeqType) → Falls s.reading (last_step s) [] (in_order (last_step s) (clash_at (column_places keys))) (order_stage_of s keys)
order_falls s keys = driven_fall s [] (in_order (last_step s) (clash_at (column_places keys))) (ordered_stage s keys) (ordered_fall s keys)

may_begin : (at : Option (Placed Slot)) (n : ℕ) → MayBegin at n n
may_begin None n = tt
may_begin (Some at) n = refl

pub of_told : (o : Option (List Line)) (found lines : List Line) → o ≡ Some lines → IfSome o (λ ls. found ≡ ls) → found ≡ lines
of_told None found lines e h = absurd cc
of_told (Some ls) found lines e h = let same : ls ≡ lines = cc in h ∙ same

pub runs_are_whole : {I : Type 0} (F : Type 0) (stands : I → List Datum → Type 0) → RunsAreWhole F stands
runs_are_whole {I = I} F stands = record {
  some = λ s told total pieces w.
      let full = last_step s + 1 in
      let ds = pieces.done.items in
      let events = pieces.events.items in
      let of : List Line → ℕ → ℕ → Counted (CameOut I) → Type 0 = IsOfLines stands s in
      let kept = good_as told_step (IsKeyedPiece stands s told) (λ p limit out. (ls : List Line) × of ls p limit out) total full ds events
      (λ p limit out low k. (k.of_piece.lines, k.of_piece.outcome)) w in
      let chosen = lists_chosen [] told_step of total full ds events kept in
      let lists : ℕ → List (ℕ × Line) = λ p. numbered_lines (first_line s.before.now p) (chosen.0 p) in (
        lists,
        record {
          falls = stage_falls s;
          outputs = good_as told_step (λ p limit out. of (chosen.0 p) p limit out) (λ p limit out. IsOutcomeOf (CameIs stands) s.reading (last_step s) (stage_of s) (lists p) limit out) total full ds events
              (λ p limit out low k. k (first_line s.before.now p) (may_begin s.binding.at.now (first_line s.before.now p))) chosen.1;
        },
      );
  told = λ s told total lines pieces are w. record {
    falls = stage_falls s;
    outputs = good_as told_step (IsKeyedPiece stands s told) (λ p limit out. IsOutcomeOf (CameIs stands) s.reading (last_step s) (stage_of s) (numbered_piece lines p) limit out)
        total (last_step s + 1) pieces.done.items pieces.events.items
        (λ p limit out low k.
        let same = of_told (told_piece s.cut.now told p) k.of_piece.lines (lines p) (are.pieces p low) k.of_piece.are in
        subst (λ (ls : List Line). IsOfLines stands s ls p limit out) same k.of_piece.outcome (lines_before lines p + 1) (are.numbers p low)) w;
  };
  runs = λ s source total lines. ap (stage_of s).run (pieces_are_numbered lines total);
}

pub orders_are_whole : {I : Type 0} (F : Type 0) (stands : I → List Datum → Type 0) → OrdersAreWhole F stands
orders_are_whole {I = I} F stands = record {
  some = λ s keys told total pieces w.
      let full = last_step s + 1 in
      let ds = pieces.done.items in
      let events = pieces.events.items in
      let width = length (column_places keys) in
      let of : List Line → ℕ → ℕ → OrderCounted (CameOut I) → Type 0 = λ ls p limit out. IsOrderOfLines stands s keys ls p limit out × IsWide width out.outcome in
      let kept = good_as order_told_step (IsWidePiece stands s keys told) (λ p limit out. (ls : List Line) × of ls p limit out) total full ds events
      (λ p limit out low k. (k.of_piece.lines, (k.of_piece.outcome, k.wide))) w in
      let chosen = lists_chosen [] order_told_step of total full ds events kept in
      let lists : ℕ → List (ℕ × Line) = λ p. numbered_lines (first_line s.before.now p) (chosen.0 p) in
      let o : OnPieces (List Keyed) KeyList = record { first = s.reading; last = last_step s; stage = order_stage_of s keys; total = total; lists = lists } in (
        o,
        refl,
        record {
          falls = order_falls s keys;
          outputs = good_as order_told_step (λ p limit out. of (chosen.0 p) p limit out) (IsWideOutcomeOf (CameIs stands) width o) total full ds events
              (λ p limit out low k.
              record { outcome = k.0 (first_line s.before.now p) (may_begin s.binding.at.now (first_line s.before.now p)); wide = k.1 }) chosen.1;
        },
      );
  told = λ s keys told total lines pieces are w. record {
    falls = order_falls s keys;
    outputs = good_as order_told_step (IsWidePiece stands s keys told) (IsWideOutcomeOf (CameIs stands) (length (column_places keys)) (orders_on_pieces s keys total lines))
        total (last_step s + 1) pieces.done.items pieces.events.items
        (λ p limit out low k.
        let same = of_told (told_piece s.cut.now told p) k.of_piece.lines (lines p) (are.pieces p low) k.of_piece.are in
        record {
          outcome = subst (λ (ls : List Line). IsOrderOfLines stands s keys ls p limit out) same k.of_piece.outcome (lines_before lines p + 1) (are.numbers p low);
          wide = k.wide;
        }) w;
  };
  runs = λ s keys source total lines. ap (order_stage_of s keys).run (pieces_are_numbered lines total);
}
