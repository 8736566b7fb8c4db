use Rattle.piece_seats.proofs.Texts.{text_after}
use Rattle.piece_seats.proofs.text.TextItemsKept.follow.Goals as goal

pub returns : goal.returns
returns c = λ a b h k.
    text_after a b c.args.self.bytes.items c.args.later.bytes.items c.in_ok-bytes.bytes.items c.args.self.items c.args.later.items c.in_ok-items.items h k.text c.in_ok-bytes.ensures k.many c.in_ok-items.ensures
