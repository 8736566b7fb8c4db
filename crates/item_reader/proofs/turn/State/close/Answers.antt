use Rattle.std.proofs.Common.{refl, arith}
use Rattle.item_reader.proofs.Frames.{nothing_long}
use Rattle.item_reader.proofs.Turning.{closes_wrong, closes_right, closes_none}
use Rattle.item_reader.proofs.turn.State.close.Goals as goal

pub returns-then-kind-is_array : goal.returns-then-kind-is_array
returns-then-kind-is_array c = closes_wrong c.args.self.now _ c.in-Some.kind c.args.is_array c.pop.new.self.items c.in-Some.ensures.items c.if-kind-is_array.true

pub returns-in_ok-close-in-Some : goal.returns-in_ok-close-in-Some
returns-in_ok-close-in-Some c = closes_right c.args.self.now _ c.in-Some.kind c.args.is_array c.in-Some.ensures.items c.if-kind-is_array.false c.in_ok-close-in-Some.ensures refl

pub returns-in-None : goal.returns-in-None
returns-in-None c =
    let n = c.in-None.ensures.cases in let k = c.args.self.now.kinds.ok.0 in
    closes_none c.args.self.now _ c.args.is_array (nothing_long _ (omega arith))
