use Rattle.std.proofs.Common.{true, sym, ◌∙◌, arith}
use Rattle.byte_lanes.proofs.FrontLemmas.{none_seen, no_mark, at_mark, from_start, front_within, each_below}
use Rattle.byte_lanes.proofs.strings.string_front.Goals as goal

pub front_behind-requires-then-stops-eq0 : goal.front_behind-requires-then-stops-eq0
front_behind-requires-then-stops-eq0 c =
    no_mark c.args.b.now 0 16 (omega arith) true (none_seen c.args.b.now)
    _ c.load-lanes.ensures _ _ c.stop_marks-stops.ensures c.wide_marks-wide.ensures c.if-stops-eq0.true

pub returns : goal.returns
returns c =
    let b = c.args.b.now in
    let front =
    from_start b _ _
    (at_mark b 0 16 (omega arith) true (none_seen b) _ c.load-lanes.ensures
    _ _ c.stop_marks-stops.ensures c.wide_marks-wide.ensures _ c.before_mark.ensures c.if-stops-eq0.false) in
    let within = front_within b _ _ front in
    record {
      value = front.value;
      within = within;
      ascii = front.plain;
      below = λ plain. each_below b _ within (sym front.plain ∙ plain);
    }
