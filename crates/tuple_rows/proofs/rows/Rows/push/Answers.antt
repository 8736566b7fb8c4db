use Rattle.std.proofs.Common.{sym, ◌∙◌, ap}
use Rattle.tuple_rows.specs.Tuples.{Table}
use Rattle.tuple_rows.proofs.Cutting.{width_pushed}
use Rattle.tuple_rows.proofs.rows.Rows.push.Goals as goal

pub invariant_of-self-2 : goal.invariant_of-self-2
invariant_of-self-2 c =
    width_pushed c.self.inside.width c.self.inside.tuples.items c.push.new.self.items c.args.tuple
    c.in_ok-push.ensures.items c.self.invariant (c.requires ∙ sym (ap (λ (t : Table). t.width) c.self.view_is))
