use Rattle.std.proofs.Common.{sym, ◌∙◌, arith}
use Rattle.std.proofs.lemmas.Bool.{ne_eqb}
use Rattle.query_lexer.proofs.StringLemmas.{raw_begins, none_begins}
use Rattle.query_lexer.proofs.strings.character_from.Goals as goal

pub returns-then-is_raw-clause-some : goal.returns-then-is_raw-clause-some
returns-then-is_raw-clause-some c = record {
  same = raw_begins c.args.first c.args.rest.now (sym c.is_raw.ensures ∙ c.if-is_raw.true);
  shorter = omega arith;
  sound = tt;
}

pub returns-else-is_raw-clause-none : goal.returns-else-is_raw-clause-none
returns-else-is_raw-clause-none c = none_begins c.args.first c.args.rest.now (ne_eqb c.args.first 92 c.if-first-eq92.false) (sym c.is_raw.ensures ∙ c.if-is_raw.false)
