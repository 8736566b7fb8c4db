use Rattle.std.proofs.Common.{◌∙◌, ap, sym}
use Rattle.std.specs.Option.{ok_or}
use Rattle.item_tree.specs.declared.code.Code.TheVariants.{FORG0001}
use Rattle.date_atoms.proofs.ReadTexts.{date_found, no_date}
use Rattle.atom_ops.proofs.date_texts.day_in.Goals as goal

pub returns-in-Ok : goal.returns-in-Ok
returns-in-Ok c =
    c.ok_or.ensures.value
    ∙ ap (λ o. ok_or o FORG0001) (date_found c.read_date.result c.args.text.now c.in-Ok.ensures.cases.1 (rw c.in-Ok.ensures.cases.0 at c.read_date.ensures))

pub returns-in-Err : goal.returns-in-Err
returns-in-Err c = ap (λ o. ok_or o FORG0001) (sym (no_date c.args.text.now c.in-Err.ensures.cases.0))
