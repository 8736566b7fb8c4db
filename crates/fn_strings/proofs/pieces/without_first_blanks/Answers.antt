use Rattle.std.proofs.Common.{◌≡◌, ◌∙◌, ap, sym, subst}
use Rattle.std.specs.List.{prefix_len}
use Rattle.std.specs.Str.{IsCharBoundary}
use Rattle.value_rules.specs.Strings.{is_blank}
use Rattle.fn_strings.proofs.PieceLemmas.{bare_is}
use Rattle.fn_strings.proofs.pieces.without_first_blanks.Goals as goal

pub range_from-requires : goal.range_from-requires
range_from-requires c =
    let n : c.blanks_len.result ≡ prefix_len is_blank c.args.text.now = c.blanks_len.ensures.value ∙ ap (prefix_len is_blank) c.as_bytes.ensures.value in
    λ _. subst (IsCharBoundary c.args.text.now) (sym n) (bare_is c.args.text.now c.utf8.text).start
