use Rattle.rumble_run.proofs.Crossing.{parts, min_sent, min_seen, max_sent, max_seen}
use Rattle.rumble_run.proofs.walk.Walk.call.Goals as goal

pub folded-requires-in-Min-send-P : goal.folded-requires-in-Min-send-P
folded-requires-in-Min-send-P g c κs within = search (parts, min_sent) depth 20

pub folded-requires-in-Min-sync-P : goal.folded-requires-in-Min-sync-P
folded-requires-in-Min-sync-P g c κs within = search (parts, min_seen) depth 20

pub folded-requires-in-Max-send-P : goal.folded-requires-in-Max-send-P
folded-requires-in-Max-send-P g c κs within = search (parts, max_sent) depth 20

pub folded-requires-in-Max-sync-P : goal.folded-requires-in-Max-sync-P
folded-requires-in-Max-sync-P g c κs within = search (parts, max_seen) depth 20
