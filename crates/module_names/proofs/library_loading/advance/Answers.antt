use Rattle.std.proofs.Common.{Bool, [], length, refl, ap, ◌∙◌, sym, subst}
use Rattle.std.specs.Fn.{FnReturnsAt}
use Rattle.module_names.specs.Answers.{AreHeld}
use Rattle.module_names.specs.Loading.{Files}
use Rattle.module_names.specs.Remaining.{state_of, files_in}
use Rattle.module_names.specs.declared.file_bytes.Kept.{Kept}
use Rattle.module_names.proofs.Stepping.{told_from, told_all, refused_held, refused_counts, opened_top}
use Rattle.module_names.proofs.library_loading.advance.Goals as goal

pub returns-in-Refused-clause-held : goal.returns-in-Refused-clause-held
returns-in-Refused-clause-held g c =
    told_all (g.I.Inputs.world c.args.inputs.now)
    (λ w h.
    refused_held Bool w (state_of c.next_step.new.loading) [] c.in-Refused.why.code c.in-Refused.why.place c.in-Refused.why.opened c.refuse_top.result c.refuse_top.ensures
    (subst (λ (fs : Files (Kept g.row.T.Denot)). AreHeld w fs) (sym c.in_ok-next_step.ensures.files) h))

pub returns-in-Refused-clause-counts : goal.returns-in-Refused-clause-counts
returns-in-Refused-clause-counts g c =
    let inner = rw c.in-Refused.is at c.in_ok-next_step.ensures.refused in
    refused_counts Bool (FnReturnsAt g.F.Fn c.args.read) (state_of c.next_step.new.loading) (state_of c.next_step.new.loading).path
    c.in-Refused.why c.in-Refused.why.place c.in-Refused.why.opened c.refuse_top.result _ c.refuse_top.ensures inner

pub returns-in-Refused-clause-opened : goal.returns-in-Refused-clause-opened
returns-in-Refused-clause-opened g c =
    let inner = rw c.in-Refused.is at c.in_ok-next_step.ensures.refused in
    opened_top Bool (state_of c.next_step.new.loading).path c.in-Refused.why.code c.in-Refused.why.place c.in-Refused.why.opened
    (length (files_in (state_of c.args.loading.now))) 0 c.refuse_top.result (g.I.Inputs.counts c.args.inputs.now) (g.I.Inputs.counts c.args.inputs.now) c.refuse_top.ensures
    (inner.opened ∙ ap length c.in_ok-next_step.ensures.files) c.requires.few refl

pub returns-in_ok-add_wanted-in-Wanted-clause-told : goal.returns-in_ok-add_wanted-in-Wanted-clause-told
returns-in_ok-add_wanted-in-Wanted-clause-told g c =
    let asks = rw c.in-Wanted.is at c.in_ok-next_step.ensures.step in
    told_from (g.I.Inputs.world c.args.inputs.now) (λ w h sources are. h sources (state_of c.args.loading.now) are asks)
    c.in_ok-add_wanted-in-Wanted.ensures.told
