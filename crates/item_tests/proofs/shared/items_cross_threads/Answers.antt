use denote.Param.Send.{sendable}
use Rattle.item_tree.proofs.Crossing.{sent, seen}
use Rattle.item_tests.proofs.shared.items_cross_threads.Goals as goal

pub crosses_threads-requires-2-send-T : goal.crosses_threads-requires-2-send-T
crosses_threads-requires-2-send-T c = λ κs. search (sendable, sent)

pub crosses_threads-requires-2-sync-T : goal.crosses_threads-requires-2-sync-T
crosses_threads-requires-2-sync-T c = λ κs. search (sendable, seen)
