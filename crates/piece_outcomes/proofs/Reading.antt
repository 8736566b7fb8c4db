-- What is gathered, where it is known what pieces tell together.
use Rattle.std.proofs.Common.{◌≡◌, List, Result, subst}
use Rattle.item_tree.specs.declared.fault.Fault.{Fault}
use Rattle.tuple_rows.specs.Keys.{KeyList, Keyed}
use Rattle.stage_laws.specs.Runs.{Met}
use Rattle.stage_laws.specs.Pieces.{Known, known}
use Rattle.piece_outcomes.specs.declared.outcome.Gathered.{Gathered}
use Rattle.piece_outcomes.specs.Came.{Came, Seen}
use Rattle.piece_outcomes.specs.Outcomes.{GatheredIs, ResultIs}
use Rattle.piece_outcomes.specs.Orders as order

pub result_is : {W : Type 0} (stands : W → Came → Type 0) (g : Gathered W)
    (k : Known Came Seen Fault) (r : Result Came (Met Seen Fault)) → k ≡ known r
    → GatheredIs stands g k → ResultIs stands g r
result_is stands g k r e is = subst (λ (q : Known Came Seen Fault). GatheredIs stands g q) e is

-- the same at an order
pub order_result_is : {W : Type 0} (stands : W → Came → Type 0) (g : Gathered W)
    (k : Known (List Keyed) KeyList Fault) (r : Result (List Keyed) (Met KeyList Fault))
    → k ≡ known r → order.GatheredIs stands g k → order.ResultIs stands g r
order_result_is stands g k r e is =
    subst (λ (q : Known (List Keyed) KeyList Fault). order.GatheredIs stands g q) e is
