use Rattle.std.proofs.Common.{arith}
use Rattle.item_tree.specs.Item.{datum}
use Rattle.item_reader.proofs.LevelSteps.{depth_is, last_closed, last_fits}
use Rattle.item_reader.proofs.levels.Levels.close.Goals as goal

pub overflow_sub-self-inside : goal.overflow_sub-self-inside
overflow_sub-self-inside c =
    let n = c.self.inside.depth in let xs = c.self.inside.levels.items in
    let d = depth_is n xs c.args.self.now c.self.invariant c.self.view_is in
    omega (arith, d, c.requires.some)

pub item_at-requires-clause-inside : goal.item_at-requires-clause-inside
item_at-requires-clause-inside c =
    let n = c.self.inside.depth in let xs = c.self.inside.levels.items in
    let d = depth_is n xs c.args.self.now c.self.invariant c.self.view_is in
    omega (arith, d, c.requires.some, c.self.invariant)

pub item_at-requires-clause-fits : goal.item_at-requires-clause-fits
item_at-requires-clause-fits c =
    let n = c.self.inside.depth in let xs = c.self.inside.levels.items in
    let d = depth_is n xs c.args.self.now c.self.invariant c.self.view_is in
    last_fits n xs c.args.self.now (omega (arith, d, c.requires.some)) c.requires.fits c.self.view_is

pub invariant_of-self : goal.invariant_of-self
invariant_of-self c = omega (arith, c.self.invariant, c.item_at.ensures.kept)

pub overflow_sub-self : goal.overflow_sub-self
overflow_sub-self c =
    let n = c.self.inside.depth in let xs = c.self.inside.levels.items in
    let d = depth_is n xs c.args.self.now c.self.invariant c.self.view_is in
    omega (arith, d, c.requires.some)

pub returns : goal.returns
returns c =
    let n = c.self.inside.depth in let xs = c.self.inside.levels.items in
    let d = depth_is n xs c.args.self.now c.self.invariant c.self.view_is in
    last_closed n xs c.item_at.new.levels.items (datum c.in_ok-item.item) c.args.self.now (omega (arith, d, c.requires.some)) c.in_ok-item.ensures.ok c.self.view_is
