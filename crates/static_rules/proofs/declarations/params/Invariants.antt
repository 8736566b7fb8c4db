use Rattle.std.proofs.Common.{drop}
use Rattle.static_rules.proofs.ParamLoops.{ParamsLeft}
use Rattle.static_rules.proofs.declarations.params.Given as goal

abbrev pub invariant-loop-part : goal.invariant-loop-part
invariant-loop-part l = ParamsLeft l.base l.initial.walk l.parts l.walk l.out.items (drop l.part-index l.parts)
