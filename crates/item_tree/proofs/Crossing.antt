-- Items may be sent to other threads, and seen by several. For crates above.
use denote.Param.Send.{IsSend, IsSync, sendable}
use Rattle.std.proofs.Crossing.{crosses}
use Rattle.std.proofs.option.Option.TheSendSync as option
use Rattle.std.proofs.collections.BTreeMap.TheSendSync as map
use Rattle.item_tree.specs.contracts.item.Item as item
use Rattle.item_tree.proofs.text.Str.TheSendSync as str
use Rattle.item_tree.proofs.number.Whole.TheSendSync as whole
use Rattle.item_tree.proofs.number.Units.TheSendSync as units
use Rattle.item_tree.proofs.date.Day.TheSendSync as day
use Rattle.item_tree.proofs.date.Moment.TheSendSync as moment
use Rattle.item_tree.proofs.item.Items.TheLaws.TheKnot.{both_send-Item, both_send-Items, both_send-Pairs, both_sync-Item, both_sync-Items, both_sync-Pairs}

ruleset parts = (sendable, crosses, option.the_send, option.the_sync, option.the_field_send, option.the_field_sync, map.the_send, map.the_sync, str.the_send, str.the_sync, whole.the_send, whole.the_sync, units.the_send, units.the_sync, day.the_send, day.the_sync, moment.the_send, moment.the_sync)

pub sent_field : IsSend (item.the_field).row
sent_field = both_send-Item (search parts depth 20) (search parts depth 20) (search parts depth 20) (search parts depth 20) (search parts depth 20) (search parts depth 20) (both_send-Items (search parts depth 20) (search parts depth 20) (λ h s y. search parts depth 20) (λ h s y. search parts depth 20) (λ h s y. search parts depth 20) (λ h s y. search parts depth 20) (λ h s y. search parts depth 20) (λ h s y. search parts depth 20) (λ h s y. search parts depth 20) (λ h s y. search parts depth 20) (λ h s y. search parts depth 20) (λ h s y. search parts depth 20) (search parts depth 20) (search parts depth 20) (search parts depth 20) (search parts depth 20) (search parts depth 20) (search parts depth 20) (λ h s y. search parts depth 20) (search parts depth 20) (search parts depth 20) (search parts depth 20) (λ h s y. search parts depth 20) (λ h s y. search parts depth 20) (λ h s y. search parts depth 20) (λ h s y. search parts depth 20) (λ h s y. search parts depth 20) (λ h s y. search parts depth 20) (λ h s y. search parts depth 20) (λ h s y. search parts depth 20) (λ h s y. search parts depth 20) (λ h s y. search parts depth 20) (search parts depth 20) (search parts depth 20) (search parts depth 20) (search parts depth 20) (search parts depth 20) (search parts depth 20) (λ h s y. search parts depth 20) (search parts depth 20)) (both_send-Pairs (search parts depth 20) (search parts depth 20) (λ h s y. search parts depth 20) (λ h s y. search parts depth 20) (λ h s y. search parts depth 20) (λ h s y. search parts depth 20) (λ h s y. search parts depth 20) (λ h s y. search parts depth 20) (λ h s y. search parts depth 20) (λ h s y. search parts depth 20) (λ h s y. search parts depth 20) (λ h s y. search parts depth 20) (search parts depth 20) (search parts depth 20) (search parts depth 20) (search parts depth 20) (search parts depth 20) (search parts depth 20) (λ h s y. search parts depth 20) (search parts depth 20) (search parts depth 20) (search parts depth 20) (λ h s y. search parts depth 20) (λ h s y. search parts depth 20) (λ h s y. search parts depth 20) (λ h s y. search parts depth 20) (λ h s y. search parts depth 20) (λ h s y. search parts depth 20) (λ h s y. search parts depth 20) (λ h s y. search parts depth 20) (λ h s y. search parts depth 20) (λ h s y. search parts depth 20) (search parts depth 20) (search parts depth 20) (search parts depth 20) (search parts depth 20) (search parts depth 20) (search parts depth 20) (λ h s y. search parts depth 20) (search parts depth 20))

pub sent : IsSend item.the_row
sent = search (sendable, sent_field)

pub seen_field : IsSync (item.the_field).row
seen_field = both_sync-Item (search parts depth 20) (search parts depth 20) (search parts depth 20) (search parts depth 20) (search parts depth 20) (search parts depth 20) (both_sync-Items (search parts depth 20) (search parts depth 20) (λ h s y. search parts depth 20) (λ h s y. search parts depth 20) (λ h s y. search parts depth 20) (λ h s y. search parts depth 20) (λ h s y. search parts depth 20) (λ h s y. search parts depth 20) (λ h s y. search parts depth 20) (λ h s y. search parts depth 20) (λ h s y. search parts depth 20) (λ h s y. search parts depth 20) (search parts depth 20) (search parts depth 20) (search parts depth 20) (search parts depth 20) (search parts depth 20) (search parts depth 20) (λ h s y. search parts depth 20) (search parts depth 20) (search parts depth 20) (search parts depth 20) (λ h s y. search parts depth 20) (λ h s y. search parts depth 20) (λ h s y. search parts depth 20) (λ h s y. search parts depth 20) (λ h s y. search parts depth 20) (λ h s y. search parts depth 20) (λ h s y. search parts depth 20) (λ h s y. search parts depth 20) (λ h s y. search parts depth 20) (λ h s y. search parts depth 20) (search parts depth 20) (search parts depth 20) (search parts depth 20) (search parts depth 20) (search parts depth 20) (search parts depth 20) (λ h s y. search parts depth 20) (search parts depth 20)) (both_sync-Pairs (search parts depth 20) (search parts depth 20) (λ h s y. search parts depth 20) (λ h s y. search parts depth 20) (λ h s y. search parts depth 20) (λ h s y. search parts depth 20) (λ h s y. search parts depth 20) (λ h s y. search parts depth 20) (λ h s y. search parts depth 20) (λ h s y. search parts depth 20) (λ h s y. search parts depth 20) (λ h s y. search parts depth 20) (search parts depth 20) (search parts depth 20) (search parts depth 20) (search parts depth 20) (search parts depth 20) (search parts depth 20) (λ h s y. search parts depth 20) (search parts depth 20) (search parts depth 20) (search parts depth 20) (λ h s y. search parts depth 20) (λ h s y. search parts depth 20) (λ h s y. search parts depth 20) (λ h s y. search parts depth 20) (λ h s y. search parts depth 20) (λ h s y. search parts depth 20) (λ h s y. search parts depth 20) (λ h s y. search parts depth 20) (λ h s y. search parts depth 20) (λ h s y. search parts depth 20) (search parts depth 20) (search parts depth 20) (search parts depth 20) (search parts depth 20) (search parts depth 20) (search parts depth 20) (λ h s y. search parts depth 20) (search parts depth 20))

pub seen : IsSync item.the_row
seen = search (sendable, seen_field)
