use Rattle.std.proofs.Common.{drop}
use Rattle.static_rules.proofs.VariableLoops.{VariablesLeft}
use Rattle.static_rules.proofs.declarations.variables.Given as goal

abbrev pub invariant-loop-number : goal.invariant-loop-number
invariant-loop-number l = VariablesLeft l.initial.walk l.parts l.walk l.out.items l.width l.number (drop l.number l.parts)
