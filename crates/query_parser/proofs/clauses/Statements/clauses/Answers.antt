use Rattle.std.proofs.Common.{rules, of_calls}
use Rattle.query_grammar.specs.Classes.{clause_first}
use Rattle.query_grammar.specs.Languages.{of_kind}
use Rattle.query_grammar.specs.Grammar as g
use Rattle.grammar_parts.proofs.TurnLemmas.{repeated_reads}
use Rattle.expression_parser.specs.Views.{reader}
use Rattle.query_parser.specs.Views as view
use Rattle.query_parser.proofs.clauses.Statements.clauses.Goals as goal

pub returns : goal.returns
unfolding g.clauses
returns o c = repeated_reads (of_kind clause_first) view.clauses (reader g.clause c.args.self.now.parts.wide c.args.self.now.parts.depth) c.repeat.ensures (λ old new r post. search (rules, of_calls))
