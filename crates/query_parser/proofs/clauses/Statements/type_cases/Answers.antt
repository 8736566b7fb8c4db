use Rattle.std.proofs.Common.{rules, of_calls}
use Rattle.query_tree.specs.NamedViews.{named_type_case}
use Rattle.query_grammar.specs.declared.word.Kind.TheVariants as k
use Rattle.query_grammar.specs.Classes.{is}
use Rattle.query_grammar.specs.Languages.{of_kind}
use Rattle.query_grammar.specs.Grammar as g
use Rattle.grammar_parts.proofs.TurnLemmas.{some_reads}
use Rattle.expression_parser.specs.Views.{reader}
use Rattle.query_parser.proofs.clauses.Statements.type_cases.Goals as goal

pub returns : goal.returns
unfolding g.type_cases
returns o c = some_reads (of_kind (is k.Case)) named_type_case (reader g.type_case c.args.self.now.parts.wide c.args.self.now.parts.depth) c.repeat_some.ensures (λ old new r post. search (rules, of_calls))
