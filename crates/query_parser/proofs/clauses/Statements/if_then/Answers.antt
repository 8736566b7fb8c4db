use Rattle.std.proofs.Common.{arith}
use Rattle.query_parser.proofs.NodeLemmas.{if_stops, if_goes}
use Rattle.query_parser.proofs.clauses.Statements.if_then.Goals as goal

pub returns-then-depth-eq0 : goal.returns-then-depth-eq0
returns-then-depth-eq0 o c = if_stops c.args.self.now.parts.wide c.args.self.now.parts.depth c.args.cursor.now.rest.now (omega arith)

pub returns : goal.returns
returns o c = if_goes c.args.self.now.parts.wide c.args.self.now.parts.depth c.args.cursor.now.rest.now c.if_content.result c.if_content.new.cursor.rest.now (λ e. omega (arith, e, c.if-depth-eq0.false)) c.if_content.ensures
