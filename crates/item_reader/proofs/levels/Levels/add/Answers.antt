use Rattle.std.proofs.Common.{arith}
use Rattle.item_tree.specs.Item.{datum}
use Rattle.item_reader.specs.Levels.{add_inside}
use Rattle.item_reader.proofs.LevelSteps.{depth_is, last_changed}
use Rattle.item_reader.proofs.levels.Levels.add.Goals as goal

pub overflow_sub-self-inside : goal.overflow_sub-self-inside
overflow_sub-self-inside c =
    let n = c.self.inside.depth in let xs = c.self.inside.levels.items in
    let d = depth_is n xs c.args.self.now c.self.invariant c.self.view_is in
    omega (arith, d, c.requires)

pub add_at-requires : goal.add_at-requires
add_at-requires c =
    let n = c.self.inside.depth in let xs = c.self.inside.levels.items in
    let d = depth_is n xs c.args.self.now c.self.invariant c.self.view_is in
    omega (arith, d, c.requires, c.self.invariant)

pub invariant_of-self : goal.invariant_of-self
invariant_of-self c = omega (arith, c.self.invariant, c.add_at.ensures.kept)

pub returns : goal.returns
returns c =
    let n = c.self.inside.depth in let xs = c.self.inside.levels.items in
    let d = depth_is n xs c.args.self.now c.self.invariant c.self.view_is in
    last_changed n xs c.add_at.new.levels.items (add_inside (datum c.args.item)) c.args.self.now (omega (arith, d, c.requires)) c.in_ok-add_at.ensures.ok c.self.view_is
