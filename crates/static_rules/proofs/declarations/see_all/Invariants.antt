use Rattle.std.proofs.Common.{◌≡◌, take, map}
use Rattle.static_rules.specs.Mentions as m
use Rattle.static_rules.specs.Declarations.{seeing_functions}
use Rattle.query_tree.specs.NamedViews.{named_function}
use Rattle.static_rules.proofs.declarations.see_all.Given as goal

abbrev pub invariant-loop-part : goal.invariant-loop-part
invariant-loop-part l = l.walk ≡ seeing_functions l.fn.walk (map m.callee_of (map named_function (take l.part-index l.parts)))
