use Rattle.std.proofs.Common.{take, drop}
use Rattle.query_lexer.proofs.RangeLemmas.{fits_alone}
use Rattle.query_lexer.proofs.SoundTokens.{token_sound}
use Rattle.query_lexer.proofs.steps.word_step.Goals as goal

pub is_out-requires : goal.is_out-requires
is_out-requires c =
    let text = c.args.text.now in
    let n = c.args.n in
    fits_alone c.args.kind (take n text) (drop n text) (token_sound text (c.args.kind, n) c.requires.found).fits
