use Rattle.std.proofs.Common.{rules, of_calls}
use Rattle.query_tree.specs.NamedViews.{named_catch}
use Rattle.query_grammar.specs.declared.word.Kind.TheVariants as k
use Rattle.query_grammar.specs.Classes.{is}
use Rattle.query_grammar.specs.Languages.{of_kind}
use Rattle.query_grammar.specs.Grammar as g
use Rattle.grammar_parts.proofs.TurnLemmas.{some_reads}
use Rattle.expression_parser.specs.Views.{reader}
use Rattle.query_parser.proofs.clauses.Statements.catches.Goals as goal

pub returns : goal.returns
unfolding g.catches
returns o c = some_reads (of_kind (is k.Catch)) named_catch (reader g.catch c.args.self.now.parts.wide c.args.self.now.parts.depth) c.repeat_some.ensures (λ old new r post. search (rules, of_calls))
