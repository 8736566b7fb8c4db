use Rattle.std.proofs.Common.{arith}
use Rattle.grammar_parts.proofs.Levels.{inside-level}
use Rattle.query_grammar.specs.Grammar.{forms}
use Rattle.query_parser.proofs.modules.+read.Goals as goal

pub expr-requires : goal.expr-requires
expr-requires t c = record {
  callable = λ alloc p old room. (omega (arith, c.decreases), tt);
  reads = λ alloc p old new r room post. rw (inside-level forms c.args.wide c.args.depth room) post.2;
}

pub single-requires : goal.single-requires
single-requires t c = record {
  callable = λ alloc p old room. (omega (arith, c.decreases), tt);
  reads = λ alloc p old new r room post. rw (inside-level forms c.args.wide c.args.depth room) post.2;
}
