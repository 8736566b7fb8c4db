use Rattle.fault_merge.proofs.Finding.{least_fault_stands_lem}
use Rattle.fault_merge.proofs.laws.least_fault_stands.Goals as goal

pub returns : goal.returns
returns g c = least_fault_stands_lem _
