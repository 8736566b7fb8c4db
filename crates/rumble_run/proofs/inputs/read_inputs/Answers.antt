use Rattle.std.proofs.Common.{◌∙◌, ◌+◌, map, take, drop, refl, ap, arith}
use Rattle.rumble_run.specs.inside.Held.{entry}
use Rattle.rumble_run.proofs.Opened.{told_all, told_from_two, opening, opening_at, pushed_read, leaves_then, next_taken, next_dropped}
use Rattle.rumble_run.proofs.inputs.read_inputs.Goals as goal

pub loop-name-init : goal.loop-name-init
loop-name-init g c = record {
  world = refl;
  held = told_all (g.I.Inputs.world c.args.inputs.now) (λ w. ap (map entry) c.new-held.ensures.items);
  counts = record {
    cause = refl;
    rises = record { faults = omega arith; misses = omega arith; opened = omega arith; closed = omega arith };
    balanced = record { same = λ a b. refl };
  };
  opening = told_all (g.I.Inputs.world c.args.inputs.now) (λ w. opening w c.args.names.now (g.I.Inputs.counts c.args.inputs.now));
}

pub loop-name-preserved : goal.loop-name-preserved
loop-name-preserved g c =
    let names = c.args.names.now in
    let i = c.loop-name.name-index in
    let before = c.loop-name.invariant in
    let world = g.I.Inputs.world c.args.inputs.now in
    let taken = next_taken names i c.name-item.result c.loop-name-test.true c.name-item.is in
    let dropped = next_dropped names i c.name-item.result c.loop-name-test.true c.name-item.is in
    let read = rw before.world at c.in_ok-one.ensures.held in
    let counted = rw before.world at c.in_ok-one.ensures.searched in
    record {
      world = c.in_ok-one.ensures.world ∙ before.world;
      held = rw c.in_ok-push.ensures.items (told_from_two world (λ w m one. pushed_read w c.loop-name.held.items c.in_ok-one.one (take i names) (take (i + 1) names) c.name-item.result taken m one) before.held read);
      counts = leaves_then c.loop-name.held c.in_ok-one.one c.push.new.self _ _ _ before.counts c.in_ok-one.ensures.counts;
      opening = told_from_two world (λ w o h. opening_at w (drop i names) names (drop (i + 1) names) c.name-item.result _ _ _ dropped c.in_ok-one.ensures.counts.rises o h) before.opening counted;
    }
