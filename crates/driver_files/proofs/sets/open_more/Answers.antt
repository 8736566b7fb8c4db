use Rattle.std.proofs.Common.{◌≡◌, ◌∙◌, sym, subst, arith, All, length}
use Rattle.std.specs.Prelude.{Vec, is_some}
use Rattle.std.specs.declared.alloc.Global.{Global}
use Rattle.std.proofs.lemmas.List.Elements.{All-push}
use Rattle.driver_files.specs.Driver.{IsSet, told_files}
use Rattle.driver_files.proofs.More.{more_ends, more_gone, more_short, more_unread, sets_next}
use Rattle.driver_files.proofs.sets.open_more.Goals as goal

pub returns-in-Err-Missing-clause-counts : goal.returns-in-Err-Missing-clause-counts
returns-in-Err-Missing-clause-counts g c =
    let at = c.loop.invariant in
    let leaves = rw at.world at (rw c.in-Err-Missing.field-0-is at c.in-Err-Missing.ensures.counts) in (
      c.loop.counter,
      at.count,
      more_gone (g.I.Inputs.world c.args.inputs.now) c.args.names.now c.loop.counter c.args.more tt (g.I.Inputs.counts c.args.inputs.now) (g.I.Inputs.counts c.loop.inputs)
          (g.I.Inputs.counts c.open_set.new.inputs) c.loop-test.true c.requires.there at.so_far leaves,
    )

pub returns-in-Err-Failed-clause-counts : goal.returns-in-Err-Failed-clause-counts
returns-in-Err-Failed-clause-counts g c =
    let at = c.loop.invariant in
    let leaves = rw at.world at (rw c.in-Err-Failed.field-0-is at c.in-Err-Failed.ensures.counts) in (
      c.loop.counter,
      at.count,
      more_unread (is_some (g.I.Inputs.world c.args.inputs.now)) (g.I.Inputs.world c.args.inputs.now) c.args.names.now c.loop.counter c.args.more (g.I.Inputs.counts c.args.inputs.now)
          (g.I.Inputs.counts c.loop.inputs) (g.I.Inputs.counts c.open_set.new.inputs) c.loop-test.true at.so_far leaves,
    )

pub returns-in-Err-NoMemory-clause-counts : goal.returns-in-Err-NoMemory-clause-counts
returns-in-Err-NoMemory-clause-counts g c =
    let at = c.loop.invariant in
    let leaves = rw at.world at (rw c.in-Err-NoMemory.field-0-is at c.in-Err-NoMemory.ensures.counts) in (
      c.loop.counter,
      at.count,
      more_short (is_some (g.I.Inputs.world c.args.inputs.now)) (g.I.Inputs.world c.args.inputs.now) c.args.names.now c.loop.counter c.args.more (g.I.Inputs.counts c.args.inputs.now)
          (g.I.Inputs.counts c.loop.inputs) (g.I.Inputs.counts c.open_set.new.inputs) c.loop-test.true at.so_far leaves,
    )

pub loop-preserved : goal.loop-preserved
loop-preserved g c =
    let at = c.loop.invariant in
    let leaves = rw at.world at c.in-Ok.ensures.counts in
    let set = rw at.world at c.in-Ok.ensures.set in
    let P : Vec g.row.I-File.Denot Global → Type 0 =
    λ s. IsSet g.I.File.InputFile.held g.I.File.InputFile.faults (told_files (g.I.Inputs.world c.args.inputs.now) c.args.names.now) s.items in
    let more = c.in-Ok-push.ensures.len in
    let kept = c.push.ensures.capacity in
    let count = at.count in
    let room = at.room in
    record {
      world = c.open_set.ensures.world ∙ at.world;
      room = omega arith;
      count = omega arith;
      sets = subst (λ xs. All P xs) (sym c.in-Ok-push.ensures.items) (All-push P c.loop.sets.items c.in-Ok.files at.sets set);
      so_far = sets_next (g.I.Inputs.world c.args.inputs.now) c.args.names.now c.loop.counter c.in-Ok.files (g.I.Inputs.counts c.args.inputs.now) (g.I.Inputs.counts c.loop.inputs)
          (g.I.Inputs.counts c.open_set.new.inputs) at.so_far leaves;
    }

pub returns-clause-counts : goal.returns-clause-counts
returns-clause-counts g c =
    let at = c.loop.invariant in
    let all : c.loop.counter ≡ c.args.more = omega (arith, c.loop-test.false, c.loop.auto.counter-end) in (
      c.loop.counter,
      at.count,
      more_ends (is_some (g.I.Inputs.world c.args.inputs.now)) (length c.args.names.now) c.loop.counter c.args.more tt (g.I.Inputs.counts c.args.inputs.now) (g.I.Inputs.counts c.loop.inputs)
          all at.so_far,
    )
