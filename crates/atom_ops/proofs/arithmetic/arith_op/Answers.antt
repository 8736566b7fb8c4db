use Rattle.std.proofs.Common.{◌∙◌, ap, sym}
use Rattle.atom_ops.specs.Arithmetic.{some_datum}
use Rattle.atom_ops.proofs.OperandLemmas.{arithmetic_of}
use Rattle.atom_ops.proofs.arithmetic.arith_op.Goals as goal

pub returns-in-Err : goal.returns-in-Err
returns-in-Err c =
    ap some_datum c.in-Err.ensures.value
    ∙ sym (arithmetic_of c.args.op _ _ c.in_ok-x.x c.in_ok-y.y (sym c.in_ok-x.ensures.value) (sym c.in_ok-y.ensures.value))
