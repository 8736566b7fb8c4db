use Rattle.std.proofs.Common.{◌≡◌, ◌<◌, ◌∙◌, ap, sym, subst, drop, arith}
use Rattle.std.specs.List.{prefix_len}
use Rattle.std.specs.Str.{IsCharBoundary}
use Rattle.value_rules.specs.Strings.{is_blank}
use Rattle.fn_strings.proofs.PieceLemmas.{is_solid, no_piece, one_piece, piece_ends}
use Rattle.fn_strings.proofs.pieces.next_piece.Goals as goal

pub returns-then-len-eq0-clause-pieces : goal.returns-then-len-eq0-clause-pieces
returns-then-len-eq0-clause-pieces c =
    let n : c.piece_len-len.result ≡ prefix_len is_solid (drop (prefix_len is_blank c.args.text.now) c.args.text.now) =
    c.piece_len-len.ensures.value ∙ ap (prefix_len is_solid) (c.as_bytes.ensures.value ∙ c.without_first_blanks-bare.ensures) in
    no_piece c.args.text.now c.utf8.text (omega arith)

pub split_at-requires : goal.split_at-requires
split_at-requires c =
    let bare = c.without_first_blanks-bare in
    let n : c.piece_len-len.result ≡ prefix_len is_solid bare.result.now = c.piece_len-len.ensures.value ∙ ap (prefix_len is_solid) c.as_bytes.ensures.value in
    subst (IsCharBoundary bare.result.now) (sym n) (piece_ends bare.result.now bare.utf8)

pub returns-clause-pieces : goal.returns-clause-pieces
returns-clause-pieces c =
    let n : c.piece_len-len.result ≡ prefix_len is_solid (drop (prefix_len is_blank c.args.text.now) c.args.text.now) =
    c.piece_len-len.ensures.value ∙ ap (prefix_len is_solid) (c.as_bytes.ensures.value ∙ c.without_first_blanks-bare.ensures) in
    let some : 0 < c.piece_len-len.result = omega arith in
    rw (c.split_at.ensures.front, c.split_at.ensures.back, c.without_first_blanks-bare.ensures)
    (one_piece c.args.text.now c.piece_len-len.result c.utf8.text n some)
