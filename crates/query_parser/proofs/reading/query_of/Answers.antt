use Rattle.std.proofs.Common.{sym}
use Rattle.query_tree.specs.NamedViews.{named_query}
use Rattle.query_grammar.proofs.Texts.{found, found_only, left_over, stopped, reached}
use Rattle.query_parser.proofs.reading.query_of.Goals as goal

pub refusal-requires-clause-derives_none : goal.refusal-requires-clause-derives_none
refusal-requires-clause-derives_none c = stopped named_query c.args.words.now c.in_ok-query.rest.now c.in_ok-query.query c.in_ok-query.ensures c.in-None.is

pub refusal-requires-clause-stopped : goal.refusal-requires-clause-stopped
refusal-requires-clause-stopped c = reached named_query c.args.words.now c.in_ok-query.rest.now c.in_ok-query.query c.in_ok-query.ensures

pub refusal-requires-else-is_empty-clause-derives_none :
    goal.refusal-requires-else-is_empty-clause-derives_none
refusal-requires-else-is_empty-clause-derives_none c = left_over named_query c.args.words.now c.in_ok-query.rest.now c.in_ok-query.query c.in_ok-query.ensures c.in-Some.query c.in-Some.is (sym c.if-is_empty.ensures)

pub refusal-requires-else-is_empty-clause-stopped :
    goal.refusal-requires-else-is_empty-clause-stopped
refusal-requires-else-is_empty-clause-stopped c = reached named_query c.args.words.now c.in_ok-query.rest.now c.in_ok-query.query c.in_ok-query.ensures

pub returns-then-is_empty-clause-found : goal.returns-then-is_empty-clause-found
returns-then-is_empty-clause-found c = found named_query c.args.words.now c.in_ok-query.rest.now c.in_ok-query.query c.in_ok-query.ensures c.in-Some.query c.in-Some.is (sym c.if-is_empty.ensures)

pub returns-then-is_empty-clause-only : goal.returns-then-is_empty-clause-only
returns-then-is_empty-clause-only c = λ y w. found_only named_query c.args.words.now c.in_ok-query.rest.now c.in_ok-query.query c.in_ok-query.ensures c.in-Some.query y c.in-Some.is (sym c.if-is_empty.ensures) w
