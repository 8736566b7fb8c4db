use Rattle.std.proofs.Common.{rules, of_calls}
use Rattle.query_tree.specs.NamedViews.{named_order_key}
use Rattle.query_grammar.specs.declared.word.Kind.TheVariants as k
use Rattle.query_grammar.specs.Classes.{is}
use Rattle.query_grammar.specs.Languages.{of_kind}
use Rattle.query_grammar.specs.Grammar as g
use Rattle.grammar_parts.proofs.TurnLemmas.{list_reads}
use Rattle.expression_parser.specs.Views.{reader}
use Rattle.query_parser.proofs.clauses.Statements.order_list.Goals as goal

pub returns : goal.returns
unfolding g.order_list
returns o c = list_reads (of_kind (is k.Comma)) named_order_key (reader g.order_key c.args.self.now.parts.wide c.args.self.now.parts.depth) c.list.ensures (λ old new r post. search (rules, of_calls))
