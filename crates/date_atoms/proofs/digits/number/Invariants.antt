use Rattle.std.proofs.Common.{◌≡◌, ◌^◌, ◌<◌, take}
use Rattle.item_tree.specs.Digits.{last_digits}
use Rattle.date_atoms.proofs.digits.number.Given as goal

abbrev pub invariant-loop-digit : goal.invariant-loop-digit
invariant-loop-digit l = record {
  small : l.n < 10 ^ l.digit-index;
  spelled : take l.digit-index l.digits ≡ last_digits l.digit-index l.n;
}
