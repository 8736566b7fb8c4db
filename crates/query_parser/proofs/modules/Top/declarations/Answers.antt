use Rattle.std.proofs.Common.{rules, of_calls}
use Rattle.query_grammar.specs.declared.word.Kind.TheVariants as k
use Rattle.query_grammar.specs.Classes.{is}
use Rattle.query_grammar.specs.Languages.{of_kind}
use Rattle.query_grammar.specs.Grammar as g
use Rattle.grammar_parts.proofs.TurnLemmas.{repeated_reads}
use Rattle.query_parser.specs.Views as view
use Rattle.query_parser.specs.Views.{top_reader}
use Rattle.query_parser.proofs.modules.Top.declarations.Goals as goal

pub returns : goal.returns
unfolding g.declarations
returns c = repeated_reads (of_kind (is k.Declare)) view.declaration (top_reader g.declaration c.args.self.now.wide c.args.self.now.depth) c.repeat.ensures (λ old new r post. search (rules, of_calls))
