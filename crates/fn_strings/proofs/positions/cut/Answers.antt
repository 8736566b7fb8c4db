use Rattle.std.proofs.Common.{◌∙◌, ap}
use Rattle.std.specs.Int.{w128}
use Rattle.std.specs.Str.{chars}
use Rattle.std.proofs.lemmas.Int.{to_z-of_z}
use Rattle.fn_strings.proofs.Cuts.{cut_boundary, cut_front, cut_back}
use Rattle.fn_strings.proofs.PositionLemmas.{front_cut}
use Rattle.fn_strings.proofs.positions.cut.Goals as goal

pub split_at-requires : goal.split_at-requires
split_at-requires c =
    let len = rw (to_z-of_z w128 c.args.end c.ranges.end, to_z-of_z w128 c.args.first c.ranges.first) at c.front_len.ensures in
    cut_boundary c.args.text.now _ _ c.front_len.result (front_cut c.args.text.now c.args.end c.args.first c.utf8.text) len

pub returns-clause-front : goal.returns-clause-front
returns-clause-front c =
    let len = rw (to_z-of_z w128 c.args.end c.ranges.end, to_z-of_z w128 c.args.first c.ranges.first) at c.front_len.ensures in
    ap chars c.split_at.ensures.front
    ∙ cut_front c.args.text.now _ _ c.front_len.result (front_cut c.args.text.now c.args.end c.args.first c.utf8.text) len

pub returns-clause-back : goal.returns-clause-back
returns-clause-back c =
    let len = rw (to_z-of_z w128 c.args.end c.ranges.end, to_z-of_z w128 c.args.first c.ranges.first) at c.front_len.ensures in
    ap chars c.split_at.ensures.back
    ∙ cut_back c.args.text.now _ _ c.front_len.result (front_cut c.args.text.now c.args.end c.args.first c.utf8.text) len
