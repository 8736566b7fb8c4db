-- The codes of a line's faults.
use Rattle.std.specs.Prelude.{Option, None, Some}
use Rattle.item_tree.specs.declared.code.Code.{Code}
use Rattle.item_tree.specs.declared.code.Code.TheVariants.{JNDY0021, PJDY0002, PJDY0004}
use Rattle.item_reader.specs.declared.fault.LineFault.{LineFault}
use Rattle.item_reader.specs.declared.fault.LineFault.TheVariants.{NotJson, NumberOut, TooDeep, NoMemory}

abbrev pub code_of : LineFault → Option Code
code_of NotJson = Some JNDY0021
code_of NumberOut = Some PJDY0004
code_of TooDeep = Some PJDY0002
code_of NoMemory = None
