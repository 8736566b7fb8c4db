-- What a call leaves of the counts of faults, by its answer.
use Rattle.std.specs.Prelude.{◌≡◌, ◌≤◌, ℕ, List, slice_index, Result, Ok, Err}
use Rattle.outside.specs.Counted.{Rose}
use Rattle.line_pieces.specs.declared.fault.PieceFault.{PieceFault}
use Rattle.line_pieces.specs.declared.fault.PieceFault.TheVariants.{ReadFault, NoMemory}

-- the count stays at an answer, and rose where reading failed
abbrev pub CausedBy : {T : Type 0} → Result T PieceFault → ℕ → ℕ → Type 0
CausedBy (Ok x) before after = after ≡ before
CausedBy (Err ReadFault) before after = Rose before after
CausedBy (Err NoMemory) before after = Unit {0}

-- the counts of all files stay at an answer, and that of this file rose where reading failed
abbrev pub CausedByFile : {T : Type 0} → Result T PieceFault → ℕ → List ℕ → List ℕ → Type 0
CausedByFile (Ok x) file before after = after ≡ before
CausedByFile (Err ReadFault) file before after =
    Rose (slice_index before file) (slice_index after file)
CausedByFile (Err NoMemory) file before after = Unit {0}

-- no count is lower than it was
abbrev pub NoneFalls : List ℕ → List ℕ → Type 0
NoneFalls before after = (file : ℕ) → slice_index before file ≤ slice_index after file
