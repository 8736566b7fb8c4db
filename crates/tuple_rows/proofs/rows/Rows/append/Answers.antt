use Rattle.std.proofs.Common.{sym, ◌∙◌, ap, subst}
use Rattle.tuple_rows.specs.Tuples.{Table, AllOfWidth, row_list}
use Rattle.tuple_rows.proofs.Cutting.{width_appended}
use Rattle.tuple_rows.proofs.rows.Rows.append.Goals as goal

pub invariant_of-self-2 : goal.invariant_of-self-2
invariant_of-self-2 c =
    width_appended c.self.inside.width c.self.inside.tuples.items c.later.inside.tuples.items c.append.new.self.items
    c.in_ok-append.ensures.items c.self.invariant
    (subst (λ n. AllOfWidth n (row_list c.later.inside.tuples.items))
    (ap (λ (t : Table). t.width) c.later.view_is ∙ c.requires ∙ sym (ap (λ (t : Table). t.width) c.self.view_is))
    c.later.invariant)
