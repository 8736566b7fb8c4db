-- Why nothing is compiled.
use Rattle.std.specs.Prelude.{◌≡◌, Option, Some, Result, Ok}
use Rattle.static_rules.specs.Rules.{code_of}
use Rattle.static_rules.specs.declared.compiling.CompileFault.{CompileFault}
use Rattle.static_rules.specs.declared.compiling.CompileFault.TheVariants as fault
use Rattle.static_rules.specs.declared.rules.Refusal.{Refusal}

-- memory ran out, or all was made and this was broken first
abbrev pub IsFault : {A E : Type 0} → Result A E → Option Refusal → CompileFault → Type 0
IsFault {A} made first fault.NoMemory = Unit {0}
IsFault {A} made first (fault.Refused code place) =
    (a : A) × (r : Refusal) × (made ≡ Ok a) × (first ≡ Some r) × (code ≡ code_of r.rule)
    × (place ≡ r.place)
