use Rattle.std.proofs.Common.{◌≡◌, ◌+◌, ◌-◌, arith, rules, append_assoc}
use Rattle.std.proofs.lemmas.Fmt.{decimal_step_wide}
use Rattle.std.proofs.lemmas.List.{drop-set}
use Rattle.item_tree.proofs.DecimalDigits.{length_whole, length_front, length_step}
use Rattle.item_tree.proofs.decimal.write_whole.Goals as goal

pub write_digits-requires : goal.write_digits-requires
write_digits-requires c = (omega (arith, length_whole c.args.n c.requires.small), search rules)

pub returns-then-n-from-clause-first : goal.returns-then-n-from-clause-first
returns-then-n-from-clause-first c = omega (arith, length_whole c.args.n c.requires.small)

pub write_digits-requires-2 : goal.write_digits-requires-2
write_digits-requires-2 c = (omega (arith, length_front c.args.n c.requires.small), search rules)

pub returns-clause-start : goal.returns-clause-start
returns-clause-start c = omega (arith, length_step c.args.n (omega arith) c.requires.small)

pub returns-clause-first : goal.returns-clause-first
returns-clause-first c = omega (arith, length_front c.args.n c.requires.small)

pub returns-clause-written : goal.returns-clause-written
returns-clause-written c =
    let e : c.args.end - 1 + 1 ≡ c.args.end = omega arith in
    rw (c.write_digits-2.ensures.written, drop-set c.args.bytes.now (c.args.end - 1) _ (omega arith), e, decimal_step_wide c.args.n (omega arith) (omega arith), append_assoc)
