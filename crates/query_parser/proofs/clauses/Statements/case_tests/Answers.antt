use Rattle.std.proofs.Common.{rules, of_calls}
use Rattle.query_tree.specs.NamedViews.{named_tree}
use Rattle.query_grammar.specs.declared.word.Kind.TheVariants as k
use Rattle.query_grammar.specs.Classes.{is}
use Rattle.query_grammar.specs.Languages.{of_kind}
use Rattle.query_grammar.specs.Grammar as g
use Rattle.grammar_parts.proofs.TurnLemmas.{some_reads}
use Rattle.expression_parser.specs.Views.{reader}
use Rattle.query_parser.proofs.clauses.Statements.case_tests.Goals as goal

pub returns : goal.returns
unfolding g.case_tests
returns o c = some_reads (of_kind (is k.Case)) named_tree (reader g.case_test c.args.self.now.parts.wide c.args.self.now.parts.depth) c.repeat_some.ensures (λ old new r post. search (rules, of_calls))
