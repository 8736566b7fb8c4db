use Rattle.std.proofs.Common.{rules, of_calls}
use Rattle.query_tree.specs.NamedViews.{named_step}
use Rattle.query_grammar.specs.Classes.{step_first}
use Rattle.query_grammar.specs.Languages.{of_kind}
use Rattle.query_grammar.specs.Grammar as g
use Rattle.grammar_parts.proofs.TurnLemmas.{repeated_reads}
use Rattle.expression_parser.specs.Views.{reader}
use Rattle.expression_parser.proofs.parts.Parts.steps.Goals as goal

pub returns : goal.returns
unfolding g.steps
returns o c = repeated_reads (of_kind (step_first c.args.self.now.wide)) named_step (reader g.step c.args.self.now.wide c.args.self.now.depth) c.repeat.ensures (λ old new r post. search (rules, of_calls))
