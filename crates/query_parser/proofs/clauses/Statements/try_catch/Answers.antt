use Rattle.std.proofs.Common.{arith}
use Rattle.query_parser.proofs.NodeLemmas.{try_stops, try_goes}
use Rattle.query_parser.proofs.clauses.Statements.try_catch.Goals as goal

pub returns-then-depth-eq0 : goal.returns-then-depth-eq0
returns-then-depth-eq0 o c = try_stops c.args.self.now.parts.wide c.args.self.now.parts.depth c.args.cursor.now.rest.now (omega arith)

pub returns : goal.returns
returns o c = try_goes c.args.self.now.parts.wide c.args.self.now.parts.depth c.args.cursor.now.rest.now c.try_content.result c.try_content.new.cursor.rest.now (λ e. omega (arith, e, c.if-depth-eq0.false)) c.try_content.ensures
