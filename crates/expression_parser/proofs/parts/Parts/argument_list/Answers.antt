use Rattle.std.proofs.Common.{rules, of_calls}
use Rattle.query_tree.specs.NamedViews.{named_tree}
use Rattle.query_grammar.specs.declared.word.Kind.TheVariants as k
use Rattle.query_grammar.specs.Classes.{is}
use Rattle.query_grammar.specs.Languages.{of_kind}
use Rattle.query_grammar.specs.Grammar as g
use Rattle.grammar_parts.proofs.TurnLemmas.{list_reads}
use Rattle.expression_parser.specs.Views.{reader}
use Rattle.expression_parser.proofs.parts.Parts.argument_list.Goals as goal

pub returns : goal.returns
unfolding g.argument_list
returns o c = list_reads (of_kind (is k.Comma)) named_tree (reader g.argument c.args.self.now.wide c.args.self.now.depth) c.list.ensures (λ old new r post. search (rules, of_calls))
