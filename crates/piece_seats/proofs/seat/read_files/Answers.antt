use Rattle.std.proofs.Common.{◌≡◌, Err, map, subst}
use Rattle.line_pieces.specs.Cuts.{file_of_piece}
use Rattle.line_pieces.specs.Faults.{CausedByFile}
use Rattle.piece_seats.proofs.Sums.{sum_rises, sum_rose, as_long, same_sum}
use Rattle.piece_seats.proofs.seat.read_files.Goals as goal

pub returns-in-Err-ReadFault-clause-rises : goal.returns-in-Err-ReadFault-clause-rises
returns-in-Err-ReadFault-clause-rises g c =
    sum_rises g.S.InputFile.faults c.args.files.now c.read.new.files (as_long g.S.InputFile.held c.read.new.files c.args.files.now c.read.ensures.same) c.read.ensures.rises

pub returns-in-Err-NoMemory-clause-rises : goal.returns-in-Err-NoMemory-clause-rises
returns-in-Err-NoMemory-clause-rises g c =
    sum_rises g.S.InputFile.faults c.args.files.now c.read.new.files (as_long g.S.InputFile.held c.read.new.files c.args.files.now c.read.ensures.same) c.read.ensures.rises

pub returns-in-Err-ReadFault-clause-cause : goal.returns-in-Err-ReadFault-clause-cause
returns-in-Err-ReadFault-clause-cause g c = λ job.
    let file = file_of_piece c.args.cut.now c.args.piece in
    let e = subst (λ f. c.read.result ≡ Err f) c.in-Err-ReadFault.field-0-is c.in-Err-ReadFault.is in
    sum_rose g.S.InputFile.faults c.args.files.now c.read.new.files file
    (as_long g.S.InputFile.held c.read.new.files c.args.files.now c.read.ensures.same) c.read.ensures.rises
    (subst (λ r. CausedByFile r file (map g.S.InputFile.faults c.args.files.now) (map g.S.InputFile.faults c.read.new.files)) e c.read.ensures.cause)

pub returns-in-Ok-clause-calm : goal.returns-in-Ok-clause-calm
returns-in-Ok-clause-calm g c =
    same_sum g.S.InputFile.faults c.read.new.files c.args.files.now
    (subst (λ r. CausedByFile r (file_of_piece c.args.cut.now c.args.piece) (map g.S.InputFile.faults c.args.files.now) (map g.S.InputFile.faults c.read.new.files)) c.in-Ok.is c.read.ensures.cause)

pub returns-in-Ok-clause-rises : goal.returns-in-Ok-clause-rises
returns-in-Ok-clause-rises g c =
    sum_rises g.S.InputFile.faults c.args.files.now c.read.new.files (as_long g.S.InputFile.held c.read.new.files c.args.files.now c.read.ensures.same) c.read.ensures.rises
