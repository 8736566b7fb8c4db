use Rattle.std.proofs.Common.{◌≤◌, ◌<◌, ◌^◌, ◌*◌, pos, ◌*ℤ◌, ◌∙◌, ap, arith, rules, FitsSigned, unsigned_abs}
use Rattle.std.specs.Int.{w128}
use Rattle.std.specs.Int.RustNames.{int_div}
use Rattle.std.proofs.lemmas.Int.{ints, to_z-of_z}
use Rattle.value_rules.specs.Numbers.{total}
use Rattle.fn_numbers.proofs.WideLemmas.{wide, quotient_fits, total_whole, total_units}
use Rattle.fn_numbers.proofs.wide_totals.WideTotal.value.Goals as goal

pub returns-then-self-clause-value : goal.returns-then-self-clause-value
returns-then-self-clause-value c =
    let h = c.self.inside.high in
    let l = c.self.inside.low in
    let fh : FitsSigned w128 h = search rules in
    let fl : FitsSigned w128 l = search rules in
    let steps = rw (to_z-of_z w128 h fh) at c.unsigned_abs.ensures.value in
    let few : unsigned_abs h ≤ 1 = omega (arith, steps, c.if-unsigned_abs-gt1.false) in
    let small = c.self.invariant.0 in
    let fp : FitsSigned w128 (h *ℤ pos (10 ^ 27)) = omega (arith, ints, few) in
    let size : unsigned_abs (wide h l) < 2 * 10 ^ 27 = omega (arith, ints, few, small) in
    let fs : FitsSigned w128 (wide h l) = omega (arith, ints, size) in
    let fq = quotient_fits (wide h l) size in
    rw (to_z-of_z w128 h fh, to_z-of_z w128 l fl, to_z-of_z w128 (h *ℤ pos (10 ^ 27)) fp, to_z-of_z w128 (wide h l) fs, to_z-of_z w128 (int_div (wide h l) (pos 1000000)) fq) at c.bounded.ensures.value
    ∙ total_whole (wide h l) c.self.inside.count c.self.inside.whole c.if-self.true
    ∙ ap total c.self.view_is

pub returns-else-self-clause-value : goal.returns-else-self-clause-value
returns-else-self-clause-value c =
    let h = c.self.inside.high in
    let l = c.self.inside.low in
    let fh : FitsSigned w128 h = search rules in
    let fl : FitsSigned w128 l = search rules in
    let steps = rw (to_z-of_z w128 h fh) at c.unsigned_abs.ensures.value in
    let few : unsigned_abs h ≤ 1 = omega (arith, steps, c.if-unsigned_abs-gt1.false) in
    let small = c.self.invariant.0 in
    let fp : FitsSigned w128 (h *ℤ pos (10 ^ 27)) = omega (arith, ints, few) in
    let fs : FitsSigned w128 (wide h l) = omega (arith, ints, few, small) in
    rw (to_z-of_z w128 h fh, to_z-of_z w128 l fl, to_z-of_z w128 (h *ℤ pos (10 ^ 27)) fp, to_z-of_z w128 (wide h l) fs) at c.bounded-else-self.ensures.value
    ∙ total_units (wide h l) c.self.inside.count c.self.inside.whole c.if-self.false
    ∙ ap total c.self.view_is
