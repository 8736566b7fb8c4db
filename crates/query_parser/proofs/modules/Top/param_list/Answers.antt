use Rattle.std.proofs.Common.{rules, of_calls}
use Rattle.query_grammar.specs.declared.word.Kind.TheVariants as k
use Rattle.query_grammar.specs.Classes.{is}
use Rattle.query_grammar.specs.Languages.{of_kind}
use Rattle.query_grammar.specs.Grammar as g
use Rattle.grammar_parts.proofs.TurnLemmas.{list_reads_plainly}
use Rattle.query_parser.specs.Views.{top_reader}
use Rattle.query_parser.proofs.modules.Top.param_list.Goals as goal

pub returns : goal.returns
unfolding g.param_list
returns c = list_reads_plainly (of_kind (is k.Comma)) (top_reader g.param c.args.self.now.wide c.args.self.now.depth) c.list.ensures (λ old new r post. search (rules, of_calls))
