use Rattle.std.proofs.Common.{◌+◌, arith, rules, append-nil}
use Rattle.std.proofs.lemmas.Fmt.{length-decimal-le, decimal_nonempty}
use Rattle.std.proofs.lemmas.List.{drop_all}
use Rattle.item_tree.proofs.decimal.write_places.Goals as goal

pub write_digits-requires : goal.write_digits-requires
write_digits-requires c = (omega (arith, length-decimal-le 7 (1000000 + c.args.units) (omega arith) (omega arith) (omega arith)), search rules)

pub returns-clause-room : goal.returns-clause-room
returns-clause-room c = omega (arith, length-decimal-le 7 (1000000 + c.args.units) (omega arith) (omega arith) (omega arith))

pub returns-clause-inside : goal.returns-clause-inside
returns-clause-inside c = omega (arith, decimal_nonempty (1000000 + c.args.units) (omega arith))

pub returns-clause-written : goal.returns-clause-written
returns-clause-written c = rw (c.write_digits.ensures.written, drop_all 28 c.args.bytes.now (omega arith), append-nil)
