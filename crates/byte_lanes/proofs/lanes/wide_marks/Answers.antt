use Rattle.std.proofs.Common.{ℕ, leb, cond, refl, arith}
use Rattle.std.proofs.lemmas.Simd.{zip2_splat_left}
use Rattle.std.specs.Char.{is_ascii}
use Rattle.byte_lanes.proofs.LaneLemmas.{marked}
use Rattle.byte_lanes.proofs.lanes.wide_marks.Goals as goal

pub returns : goal.returns
returns c =
    let v = c.args.v in
    let long = c.fits-v.0 in
    marked is_ascii _ v 16 long (omega arith) c.fits-v.1 (zip2_splat_left {X = ℕ} (λ a b. cond (leb a b) 255 0) 128 16 v long) refl
