use Rattle.std.proofs.Common.{◌≡◌, List, ℕ, Result, IfOk, sym, ◌∙◌, subst}
use Rattle.tuple_rows.specs.Keys.{KeyList, Keyed}
use Rattle.query_tree.specs.BoundViews.{bound_order_keys}
use Rattle.query_meaning.specs.Orders.{column_places}
use Rattle.piece_run.specs.Gathering.{OnPieces, IsWholeOrder}
use Rattle.piece_run.specs.Outcomes.{CameIs}
use Rattle.piece_run.proofs.flwor_stage.gather_orders_ran.Goals as goal

pub gather_whole_orders-requires-clause-whole : goal.gather_whole_orders-requires-clause-whole
gather_whole_orders-requires-clause-whole g c =
    let keys = column_places (bound_order_keys c.args.keys.now) in
    let places : keys ≡ c.as_slice.result.now = sym (c.as_slice.ensures.value ∙ c.in_ok-places.ensures) in
    let whole = subst (λ (r : Result _ _). IfOk r (λ p. (o : OnPieces (List Keyed) KeyList) × (o.last ≡ c.args.step) × IsWholeOrder (CameIs g.I.ItemsKept.stands) keys o p)) c.in_ok-pieces.was c.requires.whole in
    (whole.0, whole.1, subst (λ (ps : List ℕ). IsWholeOrder (CameIs g.I.ItemsKept.stands) ps whole.0 c.in_ok-pieces.pieces) places whole.2)

pub returns-clause-given : goal.returns-clause-given
returns-clause-given g c = λ o last ran.
    let keys = column_places (bound_order_keys c.args.keys.now) in
    let places : keys ≡ c.as_slice.result.now = sym (c.as_slice.ensures.value ∙ c.in_ok-places.ensures) in
    let whole = subst (λ (r : Result _ _). IfOk r (IsWholeOrder (CameIs g.I.ItemsKept.stands) keys o)) c.in_ok-pieces.was ran in
    c.in_ok-gathered.ensures o last (subst (λ (ps : List ℕ). IsWholeOrder (CameIs g.I.ItemsKept.stands) ps o c.in_ok-pieces.pieces) places whole)
