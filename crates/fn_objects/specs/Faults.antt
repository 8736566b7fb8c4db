-- Which errors a call may answer that takes memory before it has found its error.
use Rattle.std.specs.Prelude.{◌≡◌, Result, Err}
use Rattle.item_tree.specs.declared.code.Code.{Code}
use Rattle.item_tree.specs.declared.fault.OpFault.{OpFault}
use Rattle.item_tree.specs.declared.fault.OpFault.TheVariants.{Raised, NoMemory}

-- the error that there is, or want of memory
abbrev pub MayFailWith : {A : Type 0} → Result A Code → OpFault → Type 0
MayFailWith r (Raised e) = r ≡ Err e
MayFailWith r NoMemory = Unit {0}
