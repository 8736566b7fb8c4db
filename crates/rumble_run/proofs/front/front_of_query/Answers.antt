use Rattle.std.proofs.Common.{◌≡◌, Err, sym, subst}
use Rattle.std.specs.Prelude.{IfSome}
use Rattle.query_tree.specs.NamedViews.{named_query}
use Rattle.rumble_run.specs.Front.{static_front}
use Rattle.rumble_run.specs.inside.Seen.{front_of}
use Rattle.rumble_run.proofs.Fronts.{compiles, refuses}
use Rattle.rumble_run.proofs.front.front_of_query.Goals as goal

pub returns-in-Ok : goal.returns-in-Ok
returns-in-Ok c = compiles (named_query c.args.query.now) c.in-Ok.compiled c.in-Ok.ensures.compiled

pub returns-in-Err-Refused : goal.returns-in-Err-Refused
returns-in-Err-Refused c =
    subst (λ r. IfSome (front_of (Err r)) (λ f. f ≡ static_front (named_query c.args.query.now))) (sym c.refused.ensures)
    (refuses (named_query c.args.query.now) c.in-Err-Refused.code c.in-Err-Refused.place (rw c.in-Err-Refused.field-0-is at c.in-Err-Refused.ensures.refused))
