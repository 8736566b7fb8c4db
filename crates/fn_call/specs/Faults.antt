-- How the call of a function fails.
use Rattle.std.specs.Prelude.{Result}
use Rattle.item_tree.specs.declared.code.Code.{Code}
use Rattle.item_tree.specs.declared.fault.OpFault.{OpFault}
use Rattle.item_tree.specs.declared.functions.FnId.{FnId}
use Rattle.item_tree.specs.declared.functions.FnId.TheVariants.{Accumulate, ParseJson}
use Rattle.value_rules.specs.Operands.{FailsWith}
use Rattle.fn_objects.specs.Faults.{MayFailWith}

-- with the error that there is; where memory ran out there is none, but for the two functions that
-- take memory before they know of every error
abbrev pub FailsAs : {A : Type 0} → FnId → Result A Code → OpFault → Type 0
FailsAs Accumulate r e = MayFailWith r e
FailsAs ParseJson r e = MayFailWith r e
FailsAs _ r e = FailsWith r e
