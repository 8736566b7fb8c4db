use Rattle.std.proofs.Common.{sym, ◌∙◌}
use Rattle.std.proofs.lemmas.List.{length-take-le}
use Rattle.item_reader.proofs.NumberSteps.{whole_within, json_told}
use Rattle.item_reader.proofs.number.is_json_front.Goals as goal

pub slice_bounds-behind_minus-end : goal.slice_bounds-behind_minus-end
slice_bounds-behind_minus-end c = sym (length-take-le c.args.whole_end c.args.line.now (whole_within c.args.line.now c.args.whole_end c.requires))

pub returns : goal.returns
returns c = c.is_int.ensures ∙ json_told c.args.line.now c.args.whole_end _ c.requires c.behind_minus.ensures
