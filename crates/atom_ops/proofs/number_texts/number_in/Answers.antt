use Rattle.std.proofs.Common.{◌≡◌, true, rules}
use Rattle.atom_ops.specs.Casts.{is_plain_number, plain_numeral}
use Rattle.atom_ops.proofs.CastLemmas.{plain_is, number_read, number_refused, number_within}
use Rattle.atom_ops.proofs.number_texts.number_in.Goals as goal

pub read_number-requires : goal.read_number-requires
read_number-requires c =
    let plain : is_plain_number c.args.point c.args.text.now ≡ true = search rules in
    (plain_numeral c.args.text.now, plain_is c.args.point c.args.text.now plain)

pub returns-in-Ok-clause-value : goal.returns-in-Ok-clause-value
returns-in-Ok-clause-value c =
    let plain : is_plain_number c.args.point c.args.text.now ≡ true = search rules in
    number_read c.args.point c.args.text.now c.in-Ok.number plain c.in-Ok.ensures.value

pub returns-in-Ok-clause-within : goal.returns-in-Ok-clause-within
returns-in-Ok-clause-within c =
    let plain : is_plain_number c.args.point c.args.text.now ≡ true = search rules in
    number_within c.args.point c.args.text.now c.in-Ok.number plain c.in-Ok.ensures.value

pub returns-in-Err-clause-value : goal.returns-in-Err-clause-value
returns-in-Err-clause-value c =
    let plain : is_plain_number c.args.point c.args.text.now ≡ true = search rules in
    number_refused c.args.point c.args.text.now c.in-Err._fault plain c.in-Err.ensures.overflow
