use Rattle.std.proofs.Common.{◌-◌, length, take, drop, ap, ◌∙◌, arith, inl}
use Rattle.std.proofs.lemmas.Grind.{common_steps}
use Rattle.outside.specs.Counted.{appended}
use Rattle.outside.proofs.Sinks.{next_piece}
use Rattle.outside.proofs.sink.write_all.Goals as goal

pub loop-done-preserved : goal.loop-done-preserved
loop-done-preserved g c =
    let call = c.in_ok-taken.ensures in
    let had = c.loop-done.invariant in
    let before = g.S.Sink.wrote c.args.sink.now in
    let bytes = c.args.bytes.now in
    let done = c.loop-done.done in
    let taken = c.in_ok-taken.taken in
    let piece = take taken (take (length bytes - done) (drop done bytes)) in record {
      within = grind (arith, common_steps);
      label = call.label ∙ had.label;
      written = call.taken
          ∙ ap (λ w. appended w piece) had.written
          ∙ next_piece before bytes done taken;
      steady = call.steady (inl (omega arith)) ∙ had.steady;
    }
