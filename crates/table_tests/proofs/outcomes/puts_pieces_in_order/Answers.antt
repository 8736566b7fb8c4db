use Rattle.std.proofs.Common.{refl}
use Rattle.table_tests.proofs.PieceLists.{all_known}
use Rattle.table_tests.proofs.outcomes.puts_pieces_in_order.Goals as goal

pub gather-found-requires-clause-known : goal.gather-found-requires-clause-known
gather-found-requires-clause-known g c = all_known c.in_ok-pieces.pieces.items _ c.in_ok-pieces.ensures.items refl
