use Rattle.std.proofs.Common.{[], ◌∷◌}
use Rattle.table_tests.proofs.PieceLists.{two_known}
use Rattle.table_tests.proofs.outcomes.compares_keys_between_pieces.Goals as goal

pub gather_orders-found-requires-clause-known : goal.gather_orders-found-requires-clause-known
gather_orders-found-requires-clause-known g c =
    two_known 3 (90 ∷ []) c.in_ok-pieces.pieces.items 0 1 4 4 _ _ c.in_ok-number.number c.in_ok-truth.truth _ _
    c.in_ok-pieces.ensures.items c.in_ok-number.ensures.stands c.in_ok-truth.ensures.stands
