use Rattle.std.proofs.Common.{rules, of_calls}
use Rattle.query_grammar.specs.declared.word.Kind.TheVariants as k
use Rattle.query_grammar.specs.Classes.{is}
use Rattle.query_grammar.specs.Languages.{of_kind}
use Rattle.query_grammar.specs.Grammar as g
use Rattle.grammar_parts.proofs.TurnLemmas.{list_reads_plainly}
use Rattle.query_parser.proofs.clauses.Statements.seq_types.Goals as goal

pub returns : goal.returns
unfolding g.seq_types
returns o c = list_reads_plainly (of_kind (is k.Bar)) (g.seq_type).read c.list.ensures (λ old new r post. search (rules, of_calls))
