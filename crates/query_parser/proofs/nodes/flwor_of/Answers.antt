use Rattle.std.proofs.Common.{◌∙◌}
use Rattle.query_parser.proofs.NodeLemmas.{flwor_is}
use Rattle.query_parser.proofs.nodes.flwor_of.Goals as goal

pub returns : goal.returns
returns c = flwor_is c.args.first.0 c.args.first.1 c.in_ok-clauses.clauses c.in_ok-result.clauses c.args.others c.args.place c.in_ok-result.result c.args.value c.in_ok-result.ensures.1 c.in_ok-clauses.ensures.0 (c.in_ok-result.ensures.0 ∙ c.in_ok-clauses.ensures.1)
