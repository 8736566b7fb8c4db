use Rattle.std.proofs.Common.{refl, arith}
use Rattle.std.proofs.lemmas.Simd.{zip2_splat, zip2_of_maps}
use Rattle.byte_lanes.specs.Bytes.{is_raw}
use Rattle.byte_lanes.proofs.LaneLemmas.{marked}
use Rattle.byte_lanes.proofs.lanes.stop_marks.Goals as goal

pub returns : goal.returns
returns c =
    let v = c.args.v in
    let long = c.fits-v.0 in
    marked is_raw _ v 16 long (omega arith) c.fits-v.1
    (zip2_of_maps _ _ _ v (zip2_of_maps _ _ _ v (zip2_splat _ v 16 32 long) (zip2_splat _ v 16 34 long)) (zip2_splat _ v 16 92 long)) refl
