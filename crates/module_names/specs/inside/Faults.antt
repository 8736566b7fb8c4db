-- Faults of reading as faults of loading.
use Rattle.line_pieces.specs.declared.fault.PieceFault.{PieceFault}
use Rattle.line_pieces.specs.declared.fault.PieceFault.TheVariants as piece
use Rattle.module_names.specs.declared.load_fault.LoadFault.{LoadFault}
use Rattle.module_names.specs.declared.load_fault.LoadFault.TheVariants as load

abbrev pub fault_of : PieceFault → LoadFault
fault_of piece.ReadFault = load.ReadFault
fault_of piece.NoMemory = load.NoMemory
