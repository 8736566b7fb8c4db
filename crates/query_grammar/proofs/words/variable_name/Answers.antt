use Rattle.std.proofs.Common.{get_or, length, ap, arith}
use Rattle.std.proofs.lemmas.Str.{IsCharBoundary-after_ascii}
use Rattle.query_grammar.proofs.WordLemmas.{token_first}
use Rattle.query_grammar.proofs.words.variable_name.Goals as goal

pub range_from-requires : goal.range_from-requires
range_from-requires c =
    let f = token_first c.args.text.now c.args.token.now c.requires.listed in
    λ _. IsCharBoundary-after_ascii c.spelled.result.now 0 c.spelled.utf8 (omega (arith, f.some, ap length c.spelled.ensures)) (omega (arith, f.ascii, ap (λ w. get_or w 0 0) c.spelled.ensures))
