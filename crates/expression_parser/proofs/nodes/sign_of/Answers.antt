use Rattle.std.proofs.Common.{◌∙◌, sym, ap}
use Rattle.expression_parser.specs.Views.{first_place}
use Rattle.expression_parser.proofs.NodeLemmas.{sign_is}
use Rattle.expression_parser.proofs.nodes.sign_of.Goals as goal

pub returns : goal.returns
returns c = sign_is c.args.signs c.in_ok-operand.signs c.in-Some.place c.args.operand c.in_ok-operand.operand (ap first_place (sym c.deref.ensures.value) ∙ sym c.first_place.ensures ∙ c.in-Some.is) c.in_ok-operand.ensures.0 c.in_ok-operand.ensures.1
