use Rattle.std.proofs.Common.{◌∙◌, subst, sym, IfOk, pos, ◌+ℤ◌, ◌-ℤ◌, ◌*ℤ◌, int_div}
use Rattle.std.specs.Int.{w128}
use Rattle.std.proofs.lemmas.Int.{to_z-of_z}
use Rattle.num_fixed.specs.Bounds.{NumberInBounds}
use Rattle.num_fixed.specs.Nearest.{IsNearestUnit}
use Rattle.num_fixed.specs.Quotients.{IsProduct, IsTruncated, IsRemainder}
use Rattle.num_fixed.specs.Values.{near_unit, product}
use Rattle.num_fixed.specs.declared.number.Kind.TheVariants.{Whole, Units}
use Rattle.num_fixed.proofs.ValueLemmas.{near_is, one_near, product_is, one_product, truncated_is, one_truncated}
use Rattle.value_rules.proofs.ToldLemmas.{told_number, told_one, told_within}
use Rattle.atom_ops.proofs.ToldLemmas.{told_quotient, told_remainder}
use Rattle.atom_ops.proofs.arithmetic.of_kind.Goals as goal

pub returns-in-Add-clause-value : goal.returns-in-Add-clause-value
returns-in-Add-clause-value c =
    let a = c.args.a in let b = c.args.b in
    rw c.in-Add.is (c.told.ensures ∙ told_number c.args.kind (a +ℤ b) c.add.result (rw (to_z-of_z w128 a c.ranges.a, to_z-of_z w128 b c.ranges.b) at c.add.ensures.value) (rw (to_z-of_z w128 a c.ranges.a, to_z-of_z w128 b c.ranges.b) at c.add.ensures.overflow))

pub returns-in-Sub-clause-value : goal.returns-in-Sub-clause-value
returns-in-Sub-clause-value c =
    let a = c.args.a in let b = c.args.b in
    rw c.in-Sub.is (c.told-in-Sub.ensures ∙ told_number c.args.kind (a -ℤ b) c.sub.result (rw (to_z-of_z w128 a c.ranges.a, to_z-of_z w128 b c.ranges.b) at c.sub.ensures.value) (rw (to_z-of_z w128 a c.ranges.a, to_z-of_z w128 b c.ranges.b) at c.sub.ensures.overflow))

pub returns-in-Mul-clause-value : goal.returns-in-Mul-clause-value
returns-in-Mul-clause-value c =
    let a = c.args.a in let b = c.args.b in let k = c.args.kind in
    rw c.in-Mul.is (c.told-in-Mul.ensures ∙ told_one k (IsProduct k a b) (product k a b) (product_is k a b) (one_product k a b) c.mul.result (rw (to_z-of_z w128 a c.ranges.a, to_z-of_z w128 b c.ranges.b) at c.mul.ensures.value) (rw (to_z-of_z w128 a c.ranges.a, to_z-of_z w128 b c.ranges.b) at c.mul.ensures.overflow))

pub returns-in-Div-clause-value : goal.returns-in-Div-clause-value
returns-in-Div-clause-value c =
    let a = c.args.a in let b = c.args.b in let n = a *ℤ pos 1000000 in
    rw c.in-Div.is (c.told-in-Div.ensures ∙ told_quotient Units (IsNearestUnit a b) b (near_unit a b) (near_is n b) (one_near n b) c.div.result (rw (to_z-of_z w128 a c.ranges.a, to_z-of_z w128 b c.ranges.b) at c.div.ensures.value) (rw (to_z-of_z w128 a c.ranges.a, to_z-of_z w128 b c.ranges.b) at c.div.ensures.fault))

pub returns-in-Idiv-clause-value : goal.returns-in-Idiv-clause-value
returns-in-Idiv-clause-value c =
    let a = c.args.a in let b = c.args.b in
    rw c.in-Idiv.is (c.told-in-Idiv.ensures ∙ told_quotient Whole (IsTruncated a b) b (int_div a b) (truncated_is a b) (λ _. one_truncated a b) c.idiv.result (rw (to_z-of_z w128 a c.ranges.a, to_z-of_z w128 b c.ranges.b) at c.idiv.ensures.value) (rw (to_z-of_z w128 a c.ranges.a, to_z-of_z w128 b c.ranges.b) at c.idiv.ensures.fault))

pub returns-in-Mod-clause-value : goal.returns-in-Mod-clause-value
returns-in-Mod-clause-value c =
    let a = c.args.a in let b = c.args.b in
    rw c.in-Mod.is (c.told-in-Mod.ensures ∙ told_remainder c.args.kind a b c.rem.result (rw (to_z-of_z w128 a c.ranges.a, to_z-of_z w128 b c.ranges.b) at c.rem.ensures.value) (rw (to_z-of_z w128 b c.ranges.b) at c.rem.ensures.zero))

pub returns-in-Mod-clause-within : goal.returns-in-Mod-clause-within
returns-in-Mod-clause-within c =
    let a = c.args.a in let b = c.args.b in
    subst (λ r. IfOk r NumberInBounds) (sym c.told-in-Mod.ensures) (told_within c.args.kind (IsRemainder a b) c.rem.result (rw (to_z-of_z w128 a c.ranges.a, to_z-of_z w128 b c.ranges.b) at c.rem.ensures.value))
