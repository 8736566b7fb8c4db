use Rattle.std.proofs.Common.{◌≡◌, ◌<◌, ℕ, sym, ap, ◌∙◌, subst}
use Rattle.line_pieces.specs.Cuts.{Cutting, HaveLengths}
use Rattle.query_tree.specs.BoundViews.{bound_order_keys}
use Rattle.piece_run.proofs.FlworStages.{some_orders, orders_gathered, orders_as_flwor, first_has, last_is}
use Rattle.piece_run.proofs.driven_flwor.DrivenFlwor.run_orders.Goals as goal

pub gather_orders_ran-gathered-requires : goal.gather_orders_ran-gathered-requires
gather_orders_ran-gathered-requires g c =
    let s = c.stage-stage.result in
    let last = last_is c.args.self.now c.args.binding c.args.count s c.stage-stage.ensures.first c.requires.count in
    record { whole = some_orders g.I.ItemsKept.stands s (bound_order_keys c.args.keys.now) (g.T.FilesTold.told c.args.told.now) _ last c.run_driven_orders-seats.result.1 c.run_driven_orders-seats.ensures.whole }

pub returns-clause-lines : goal.returns-clause-lines
returns-clause-lines g c =
    let told = g.T.FilesTold.told c.args.told.now in
    let s = c.stage-stage.result in
    let f = c.args.self.now in
    let keys = bound_order_keys c.args.keys.now in
    let cut : s.cut.now ≡ f.cut.now = c.stage-stage.ensures.cut in
    let lengths : HaveLengths f.cut.now.lengths told = first_has _ f.cut.now told c.args.seats.items c.requires.some c.requires.files in
    let last = last_is f c.args.binding c.args.count s c.stage-stage.ensures.first c.requires.count in
    orders_as_flwor g.I.ItemsKept.stands f c.args.binding c.args.count told s c.stage-stage.ensures.first cut c.gather_orders_ran-gathered.result keys
    (orders_gathered g.I.ItemsKept.stands s keys told _ last c.run_driven_orders-seats.result.1 c.gather_orders_ran-gathered.result c.gather_orders_ran-gathered.ensures.given c.run_driven_orders-seats.ensures.whole
    c.pieces_are_whole.ensures c.pieces_are_told.ensures
    (subst (λ (k : Cutting). HaveLengths k.lengths told) (sym cut) lengths)
    (subst (λ (n : ℕ). 0 < n) (c.size-some.ensures.value ∙ ap (λ (k : Cutting). k.size) (sym cut)) c.size-some.ensures.some))
