-- Parts of a minimum and of a maximum may be sent to other threads, and seen by several.
use denote.Param.Send.{IsSend, IsSync, sendable}
use Rattle.std.proofs.Crossing.{crosses}
use Rattle.std.proofs.option.Option.TheSendSync as option
use Rattle.item_tree.proofs.Crossing.{sent_field, sent, seen_field, seen}
use Rattle.fn_numbers.specs.contracts.extremes.MinPart as min
use Rattle.fn_numbers.specs.contracts.extremes.MaxPart as max

pub ruleset parts = (sendable, crosses, option.the_send, option.the_sync, option.the_field_send, option.the_field_sync, sent_field, sent, seen_field, seen)

pub min_sent : IsSend min.the_row
min_sent = search parts depth 20

pub min_seen : IsSync min.the_row
min_seen = search parts depth 20

pub max_sent : IsSend max.the_row
max_sent = search parts depth 20

pub max_seen : IsSync max.the_row
max_seen = search parts depth 20
