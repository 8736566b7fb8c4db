use Rattle.std.proofs.Common.{◌+◌, sym, ap, ap₂, ◌∙◌, arith, take, drop}
use Rattle.std.proofs.lemmas.List.{length-take}
use Rattle.std.proofs.lemmas.List.Sums.{count_by-le-length}
use Rattle.std.specs.List.{count_by}
use Rattle.byte_lanes.specs.Bytes.{is_newline}
use Rattle.byte_lanes.proofs.LineLemmas.{count_block}
use Rattle.byte_lanes.proofs.lines.count_newlines.Goals as goal

pub loop-at-preserved : goal.loop-at-preserved
loop-at-preserved c =
    let b = c.args.b.now in
    let at = c.loop-at.at in
    let seen = c.loop-at.invariant in
    let more = c.newlines_in-count.ensures ∙ ap (count_by is_newline) c.load_wide.ensures in
    let few = count_by-le-length is_newline (take 32 (drop at b)) in
    record {
      within = omega (arith, c.loop-at-test.true, seen.within);
      bound = omega (arith, seen.bound, more, few, length-take 32 (drop at b));
      counted = ap₂ (λ m n. m + n) seen.counted more ∙ sym (count_block is_newline b at 32);
    }
