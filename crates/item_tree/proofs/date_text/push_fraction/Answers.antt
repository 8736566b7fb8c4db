use Rattle.item_tree.specs.Digits.{last_digits}
use Rattle.item_tree.proofs.AtomTexts.{last_zeros_ascii, digits_ascii}
use Rattle.item_tree.proofs.date_text.push_fraction.Goals as goal

pub push-requires-then-nanos-gt0-clause-ascii : goal.push-requires-then-nanos-gt0-clause-ascii
push-requires-then-nanos-gt0-clause-ascii c =
    rw (c.kept_len.ensures.kept, c.nano_digits-digits.ensures) (last_zeros_ascii (last_digits 9 c.args.nanos) (digits_ascii 9 c.args.nanos))
