use Rattle.std.proofs.Common.{◌-◌, sym, ◌∙◌, subst, arith}
use Rattle.std.proofs.lemmas.List.{take_rest}
use Rattle.query_lexer.proofs.PlaceLemmas.{token_indexed}
use Rattle.query_lexer.specs.declared.token.Token.{Token}
use Rattle.query_lexer.specs.declared.token.TokenKind.TheVariants.{Name}
use Rattle.module_names.proofs.Bodies.{NoneCloses, none_past, one_more, last_is, none_is}
use Rattle.module_names.proofs.body.body_tokens.Goals as goal

abbrev none : Token
none = record { kind = Name; from = 0; to = 0 }

pub finding-init : goal.finding-init
finding-init c = record { within = omega arith; passed = none_past c.args.text.now c.args.tokens.now }

pub is_mark-requires : goal.is_mark-requires
is_mark-requires c = token_indexed c.args.text.now c.args.tokens.now (c.finding.start - 1) none c.requires (omega arith)

pub finding-preserved : goal.finding-preserved
finding-preserved c = record {
  within = omega arith;
  passed = one_more c.args.text.now c.args.tokens.now c.finding.start none c.finding-test.true c.finding.invariant.passed (sym c.is_mark.ensures ∙ c.if-is_mark.false);
}

pub returns-then-is_mark : goal.returns-then-is_mark
returns-then-is_mark c =
    take_rest c.args.tokens.now c.finding.start
    ∙ last_is c.args.text.now c.args.tokens.now c.finding.start none c.finding.invariant.within c.finding.invariant.passed (sym c.is_mark.ensures ∙ c.if-is_mark.true)

pub returns : goal.returns
returns c =
    none_is c.args.text.now c.args.tokens.now none
    (subst (λ n. NoneCloses c.args.text.now c.args.tokens.now n) (omega arith) c.finding.invariant.passed)
