use Rattle.std.proofs.Common.{sym, ap, ◌∙◌}
use Rattle.clause_eval.specs.Carrying.{given_tuples}
use Rattle.clause_eval.proofs.Waits.{turned_twice}
use Rattle.clause_eval.proofs.waiting.turned.Goals as goal

pub returns-in-Many : goal.returns-in-Many
returns-in-Many c = turned_twice c.in-Many.frames.items _ c.reverse.ensures.items ∙ sym (ap given_tuples c.in-Many.is)
