use Rattle.std.proofs.Common.{rules, of_calls}
use Rattle.query_tree.specs.NamedViews.{named_factor}
use Rattle.query_grammar.specs.Classes.{is_product_op}
use Rattle.query_grammar.specs.Languages.{of_kind}
use Rattle.query_grammar.specs.Grammar as g
use Rattle.grammar_parts.proofs.TurnLemmas.{repeated_reads}
use Rattle.expression_parser.specs.Views.{reader}
use Rattle.expression_parser.proofs.parts.Parts.factors.Goals as goal

pub returns : goal.returns
unfolding g.factors
returns o c = repeated_reads (of_kind (is_product_op)) named_factor (reader g.factor c.args.self.now.wide c.args.self.now.depth) c.repeat.ensures (λ old new r post. search (rules, of_calls))
