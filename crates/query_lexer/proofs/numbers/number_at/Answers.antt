use Rattle.std.proofs.Common.{sym, ◌∙◌}
use Rattle.query_lexer.proofs.FrontLemmas.{whole_first, fraction_first, found_is}
use Rattle.query_lexer.proofs.SoundNumbers.{number_sound}
use Rattle.query_lexer.proofs.numbers.number_at.Goals as goal

pub overflow_sub-fraction : goal.overflow_sub-fraction
overflow_sub-fraction c = let (some, ends) = c.in_ok-front.ensures.some in whole_first c.args.text.now c.in_ok-front.front ends

pub overflow_sub-exponent : goal.overflow_sub-exponent
overflow_sub-exponent c = let (some, ends) = c.in_ok-front.ensures.some in fraction_first c.args.text.now c.in_ok-front.front ends

pub returns-clause-within : goal.returns-clause-within
returns-clause-within c =
    let (some, ends) = c.in_ok-front.ensures.some in
    let is = found_is c.args.text.now c.in_ok-front.front c.number_kind.result (sym c.begins_with_minus.ensures ∙ c.if-begins_with_minus.false) some ends c.number_kind.ensures in
    let s = number_sound c.args.text.now c.number_kind.result c.in_ok-front.front.end (sym is) in
    s.within
