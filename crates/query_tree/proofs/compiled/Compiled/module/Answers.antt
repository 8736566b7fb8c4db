use Rattle.query_tree.proofs.CompiledFrames.{compiled-framed}
use Rattle.query_tree.proofs.compiled.Compiled.module.Goals as goal

pub returns-clause-framed : goal.returns-clause-framed
returns-clause-framed c = rw (← c.self.view_is) (compiled-framed _ _ c.self.invariant)
