use Rattle.std.proofs.Common.{arith}
use Rattle.std.proofs.lemmas.List.Sums.{prefix_len-le-length}
use Rattle.date_atoms.specs.inside.Fronts.{is_fraction_byte}
use Rattle.date_atoms.proofs.TailTexts.{tail_split}
use Rattle.date_atoms.proofs.tails.tail_of.Goals as goal

pub returns-in_err-fraction_of : goal.returns-in_err-fraction_of
returns-in_err-fraction_of c =
    rw c.from_residual.ensures
    (λ f o h. c.in_err-fraction_of.ensures f (tail_split c.args.bytes.now c.split_at.result.0.now c.split_at.result.1.now _ f o h c.fraction_len.ensures c.split_at.ensures.front c.split_at.ensures.back).0)

pub returns-in_err-offset_of : goal.returns-in_err-offset_of
returns-in_err-offset_of c =
    rw c.from_residual-in_err-offset_of.ensures
    (λ f o h. c.in_err-offset_of.ensures o (tail_split c.args.bytes.now c.split_at.result.0.now c.split_at.result.1.now _ f o h c.fraction_len.ensures c.split_at.ensures.front c.split_at.ensures.back).1)

pub split_at-requires : goal.split_at-requires
split_at-requires c = omega (arith, c.fraction_len.ensures, prefix_len-le-length is_fraction_byte c.args.bytes.now)
