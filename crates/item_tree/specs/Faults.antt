-- Errors of a query.
use Rattle.std.specs.Prelude.{ℕ, None}
use Rattle.item_tree.specs.declared.code.Code.{Code}
use Rattle.item_tree.specs.declared.fault.Fault.{Fault}

-- the error of a code at a place; it begins without a spot, and gets one where it leaves a clause
abbrev pub fault_at : Code → ℕ → Fault
fault_at code place = record { code = code; place = place; spot = None }
