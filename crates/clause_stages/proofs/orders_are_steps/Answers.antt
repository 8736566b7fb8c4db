use Rattle.clause_stages.proofs.OrderSteps as law
use Rattle.clause_stages.proofs.orders_are_steps.Goals as goal

pub returns : goal.returns
returns c = law.orders_are_steps
