use Rattle.std.proofs.Common.{arith}
use Rattle.std.proofs.lemmas.Grind.{common_steps}
use Rattle.line_pieces.proofs.Parts.{IsWindow, none_in_part, some_read}
use Rattle.line_pieces.proofs.piece.read_part.Goals as goal

pub returns-in_default-clause-lines : goal.returns-in_default-clause-lines
returns-in_default-clause-lines g c =
    let window : IsWindow c.args.size c.args.number c.args.file_length c.saturating_sub-from.result c.min-end.result = record {
      some = c.requires.some;
      piece = c.requires.piece;
      start = c.saturating_sub-from.ensures;
      stop = grind (arith, common_steps);
    } in
    rw c.none.ensures
    (none_in_part c.args.size c.args.number c.args.file_length c.saturating_sub-from.result c.min-end.result
    _ (g.F.InputFile.held c.args.file.now) c.first_begin.result
    window c.first_begin.ensures.first (rw c.deref.ensures.value at c.first_begin.ensures.later) c.in_default.is c.requires.length c.in_ok-range.ensures.bytes)

pub returns-clause-lines : goal.returns-clause-lines
returns-clause-lines g c =
    let window : IsWindow c.args.size c.args.number c.args.file_length c.saturating_sub-from.result c.min-end.result = record {
      some = c.requires.some;
      piece = c.requires.piece;
      start = c.saturating_sub-from.ensures;
      stop = grind (arith, common_steps);
    } in
    some_read c.args.size c.args.number c.args.file_length c.saturating_sub-from.result c.min-end.result c.in-Some.skipped
    c.in_ok-range.range c.in_ok-filled.filled c.read_range.new.bytes.items c.read_line_behind.new.bytes.items
    (g.F.InputFile.held c.args.file.now) c.first_begin.result
    window c.first_begin.ensures.first (rw c.deref.ensures.value at c.first_begin.ensures.later) c.in-Some.is
    (grind (arith, common_steps)) (grind (arith, common_steps)) c.requires.length c.in_ok-range.ensures.bytes
    (rw c.in_ok-range.ensures.same at c.in_ok-filled.ensures.bytes)
