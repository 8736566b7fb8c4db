-- What becomes of an answer of a leaf.
use Rattle.std.specs.Prelude.{◌≡◌, Result, Ok, Err}
use Rattle.piece_run.specs.Kept.{IsUnread}
use Rattle.piece_run.specs.declared.leaf_fault.LeafFault.{LeafFault}
use Rattle.piece_run.specs.declared.leaf_fault.LeafFault.TheVariants as leaf

-- a fault that the query raises may be caught; any other answer stays
abbrev pub CaughtFrom : {K : Type 0} → Result K LeafFault → Result K LeafFault → Type 0
CaughtFrom (Ok kept) result = result ≡ Ok kept
CaughtFrom (Err (leaf.Raised fault)) result = ¬ (IsUnread result)
CaughtFrom (Err leaf.ReadFault) result = result ≡ Err leaf.ReadFault
CaughtFrom (Err leaf.NoMemory) result = result ≡ Err leaf.NoMemory

-- what is made of what is kept reads nothing
abbrev pub MadeFrom : {K L : Type 0} → Result K LeafFault → Result L LeafFault → Type 0
MadeFrom (Ok kept) result = ¬ (IsUnread result)
MadeFrom (Err fault) result = result ≡ Err fault
