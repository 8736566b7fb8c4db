use Rattle.date_atoms.proofs.DigitTexts.{no_shorter, front_missed}
use Rattle.date_atoms.proofs.digits.number_front.Goals as goal

pub returns-then-bytes-count : goal.returns-then-bytes-count
returns-then-bytes-count c = no_shorter c.args.count c.args.bytes.now c.if-bytes-count.true

pub returns-in-None : goal.returns-in-None
returns-in-None c = front_missed c.args.count c.args.bytes.now c.split_at.result.0.now c.split_at.ensures.front c.in-None.ensures
