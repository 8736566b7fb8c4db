use Rattle.std.proofs.Common.{◌≡◌, refl, arith, length}
use Rattle.std.specs.Prelude.{◌<◌}
use Rattle.std.proofs.lemmas.Bool.Decides.{nat_tests}
use Rattle.item_reader.proofs.Frames.{nothing_long}
use Rattle.item_reader.proofs.Turning.{ends_here, not_ended}
use Rattle.item_reader.proofs.turn.State.end_turn.Goals as goal

pub returns-then-is_empty : goal.returns-then-is_empty
returns-then-is_empty c =
    let e = c.if-is_empty.ensures in let k = c.args.self.now.kinds.ok.0 in
    let z : length c.args.self.now.kinds.items ≡ 0 = grind (arith, nat_tests) in
    ends_here c.args.self.now _ (nothing_long _ z) refl

pub returns-else-is_empty : goal.returns-else-is_empty
returns-else-is_empty c =
    let e = c.if-is_empty.ensures in let k = c.args.self.now.kinds.ok.0 in
    let z : 0 < length c.args.self.now.kinds.items = grind (arith, nat_tests) in
    not_ended c.args.self.now _ z
