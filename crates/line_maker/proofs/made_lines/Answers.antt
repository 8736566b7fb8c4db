use Rattle.std.proofs.Common.{◌∙◌, ap, ◌+◌, ◌-◌, ◌/◌, ◌++◌}
use Rattle.line_maker.specs.Lines.{line, lines_from}
use Rattle.line_maker.proofs.Turns.{turn}
use Rattle.line_maker.proofs.made_lines.Goals as goal

pub loop-i-preserved : goal.loop-i-preserved
loop-i-preserved c =
    let i = c.loop-i.i in
    let left = c.args.lines - (i + 1) in
    ap (λ items. items ++ lines_from (i + 1 + 1) c.drawn-state.result left) c.in_ok-push_line.ensures
    ∙ ap (λ state. (c.loop-i.out.items ++ line (i + 1) (state / 65536)) ++ lines_from (i + 1 + 1) state left) c.drawn-state.ensures
    ∙ turn c.loop-i.out.items i c.args.lines c.loop-i.state c.loop-i-test.true
    ∙ c.loop-i.invariant
