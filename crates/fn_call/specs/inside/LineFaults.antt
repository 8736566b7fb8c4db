-- The fault of a line as one of an operation.
use Rattle.std.specs.Prelude.{Option, Some, None}
use Rattle.item_tree.specs.declared.code.Code.{Code}
use Rattle.item_tree.specs.declared.fault.OpFault.{OpFault}
use Rattle.item_tree.specs.declared.fault.OpFault.TheVariants.{Raised, NoMemory}
use Rattle.item_reader.specs.Faults.{code_of}
use Rattle.item_reader.specs.declared.fault.LineFault.{LineFault}

abbrev pub raised_or_none : Option Code → OpFault
raised_or_none (Some c) = Raised c
raised_or_none None = NoMemory

abbrev pub op_fault : LineFault → OpFault
op_fault f = raised_or_none (code_of f)
