use Rattle.query_tree.specs.NamedViews.{named_query}
use Rattle.query_grammar.proofs.Texts.{begins_test}
use Rattle.query_parser.proofs.reading.begins.Goals as goal

pub returns : goal.returns
returns c = rw c.is_empty.ensures (begins_test named_query c.args.wide c.args.words.now c.in_ok-query.rest.now c.in_ok-query.query c.in_ok-query.ensures)
