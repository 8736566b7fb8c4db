use Rattle.std.proofs.Common.{rules, of_calls}
use Rattle.query_tree.specs.NamedViews.{named_operand}
use Rattle.query_grammar.specs.declared.word.Kind.TheVariants as k
use Rattle.query_grammar.specs.Classes.{is}
use Rattle.query_grammar.specs.Languages.{of_kind}
use Rattle.query_grammar.specs.Grammar as g
use Rattle.grammar_parts.proofs.TurnLemmas.{repeated_reads}
use Rattle.expression_parser.specs.Views.{reader}
use Rattle.expression_parser.proofs.parts.Parts.mapped_operands.Goals as goal

pub returns : goal.returns
unfolding g.mapped_operands
returns o c = repeated_reads (of_kind (is k.Bang)) named_operand (reader g.mapped_operand c.args.self.now.wide c.args.self.now.depth) c.repeat.ensures (λ old new r post. search (rules, of_calls))
