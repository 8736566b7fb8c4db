-- What is kept of the value of a leaf that runs over pieces, and how such a run answers.
use Rattle.std.specs.Prelude.{◌≡◌, List, Result, Ok, Err}
use Rattle.item_tree.specs.Datum.{Datum}
use Rattle.outside.specs.declared.sink.Failed.{Failed}
use Rattle.line_pieces.specs.declared.fault.PieceFault.{PieceFault}
use Rattle.line_pieces.specs.declared.fault.PieceFault.TheVariants as pieces
use Rattle.piece_board.specs.declared.job.JobFault.{JobFault}
use Rattle.piece_board.specs.declared.job.JobFault.TheVariants as job
use Rattle.query_meaning.specs.Outcome.{Outcome}
use Rattle.query_meaning.specs.declared.fault.EvalFault.{EvalFault}
use Rattle.query_meaning.specs.declared.fault.EvalFault.TheVariants as eval
use Rattle.piece_run.specs.declared.leaf_fault.LeafFault.{LeafFault}
use Rattle.piece_run.specs.declared.leaf_fault.LeafFault.TheVariants as leaf

-- a fault that is raised is what is meant; of want of memory, and of files that cannot be read,
-- nothing is said
abbrev pub LeafFails : LeafFault → Outcome → Type 0
LeafFails (leaf.Raised fault) meant = meant ≡ Err fault
LeafFails leaf.ReadFault meant = Unit {0}
LeafFails leaf.NoMemory meant = Unit {0}

-- This is kept of the items that are meant, or their fault is raised.
abbrev pub KeptIs : {K : Type 0} → (K → List Datum → Type 0) → Result K LeafFault → Outcome
    → Type 0
KeptIs stands (Ok kept) meant = (items : List Datum) × (meant ≡ Ok items) × stands kept items
KeptIs stands (Err fault) meant = LeafFails fault meant

-- the value, or a fault that the query raises
abbrev pub IsRaised : LeafFault → Type 0
IsRaised (leaf.Raised fault) = Unit {0}
IsRaised leaf.ReadFault = ⊥
IsRaised leaf.NoMemory = ⊥

abbrev pub IsAnswer : {K : Type 0} → Result K LeafFault → Type 0
IsAnswer (Ok kept) = Unit {0}
IsAnswer (Err fault) = IsRaised fault

-- a call on a file failed
abbrev pub IsReadFault : LeafFault → Type 0
IsReadFault (leaf.Raised fault) = ⊥
IsReadFault leaf.ReadFault = Unit {0}
IsReadFault leaf.NoMemory = ⊥

abbrev pub IsUnread : {K : Type 0} → Result K LeafFault → Type 0
IsUnread (Ok kept) = ⊥
IsUnread (Err fault) = IsReadFault fault

-- ---- the same fault of an evaluation, of a job, and of opening files

abbrev pub of_evaluation : EvalFault → LeafFault
of_evaluation (eval.Raised fault) = leaf.Raised fault
of_evaluation eval.NoMemory = leaf.NoMemory

abbrev pub of_job : JobFault Failed → LeafFault
of_job (job.Job fault) = leaf.ReadFault
of_job job.NoMemory = leaf.NoMemory

abbrev pub of_opening : PieceFault → LeafFault
of_opening pieces.ReadFault = leaf.ReadFault
of_opening pieces.NoMemory = leaf.NoMemory
