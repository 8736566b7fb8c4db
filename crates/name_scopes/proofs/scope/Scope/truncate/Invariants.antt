use Rattle.std.proofs.Common.{◌≡◌, length}
use Rattle.name_scopes.specs.Scopes.{first_bound}
use Rattle.name_scopes.proofs.scope.Scope.truncate.Given as goal

abbrev pub invariant-loop-self : goal.invariant-loop-self
invariant-loop-self g l = first_bound l.depth l.self ≡ first_bound l.depth l.initial.self

abbrev pub decreases-loop-self : goal.decreases-loop-self
decreases-loop-self g l = length l.self
