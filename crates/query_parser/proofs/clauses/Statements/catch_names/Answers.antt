use Rattle.std.proofs.Common.{rules, of_calls}
use Rattle.query_grammar.specs.declared.word.Kind.TheVariants as k
use Rattle.query_grammar.specs.Classes.{is, is_name}
use Rattle.query_grammar.specs.Languages.{of_kind, one}
use Rattle.query_grammar.specs.Nodes as n
use Rattle.query_grammar.specs.Grammar as g
use Rattle.query_parser.proofs.ListLemmas.{list_reads_mapped}
use Rattle.query_parser.proofs.clauses.Statements.catch_names.Goals as goal

pub returns : goal.returns
unfolding g.catch_names
returns o c = list_reads_mapped (of_kind (is k.Bar)) n.name_of (one is_name).read c.list.ensures (λ old new r post. search (rules, of_calls))
