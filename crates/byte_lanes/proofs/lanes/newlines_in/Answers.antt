use Rattle.std.proofs.Common.{eqb, w8, ap, ◌∙◌, arith}
use Rattle.std.proofs.lemmas.Simd.{bitmask_splat, ones-mask_l}
use Rattle.std.specs.Int.RustNames.{count_ones}
use Rattle.byte_lanes.specs.Bytes.{is_newline}
use Rattle.byte_lanes.proofs.lanes.newlines_in.Goals as goal

pub returns : goal.returns
returns c =
    let v = c.args.v in
    ap count_ones (bitmask_splat w8 eqb v 32 10 c.fits-v.0 (omega arith)) ∙ ones-mask_l is_newline v
