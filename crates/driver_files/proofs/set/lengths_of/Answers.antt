use Rattle.std.proofs.Common.{rules, arith, ◌<◌, length}
use Rattle.driver_files.proofs.Lengths.{same_told, same_failures, failures_rose, lengths_next}
use Rattle.driver_files.proofs.set.lengths_of.Goals as goal

pub returns-in_err-push-in-Ok-clause-same : goal.returns-in_err-push-in-Ok-clause-same
returns-in_err-push-in-Ok-clause-same g c =
    same_told g.S.InputFile.held c.loop-file.files c.args.files.now c.loop-file.file-index c.file-item.result c.len.new.self
    c.len.ensures.same c.loop-file.invariant.same

pub returns-in_err-push-in-Ok-clause-faults : goal.returns-in_err-push-in-Ok-clause-faults
returns-in_err-push-in-Ok-clause-faults g c =
    let lt : c.loop-file.file-index < length c.loop-file.files = omega (arith, c.loop-file-test.true, c.loop-file.auto.files) in
    rw (same_failures g.S.InputFile.faults c.loop-file.files c.args.files.now c.loop-file.file-index c.file-item.result c.len.new.self lt
    c.in-Ok.ensures.steady c.loop-file.invariant.faults) (search rules)

pub returns-in-Err-clause-same : goal.returns-in-Err-clause-same
returns-in-Err-clause-same g c =
    same_told g.S.InputFile.held c.loop-file.files c.args.files.now c.loop-file.file-index c.file-item.result c.len.new.self
    c.len.ensures.same c.loop-file.invariant.same

pub returns-in-Err-clause-faults : goal.returns-in-Err-clause-faults
returns-in-Err-clause-faults g c =
    let lt : c.loop-file.file-index < length c.loop-file.files = omega (arith, c.loop-file-test.true, c.loop-file.auto.files) in
    failures_rose g.S.InputFile.faults c.loop-file.files c.args.files.now c.loop-file.file-index c.file-item.result c.len.new.self lt
    c.in-Err.ensures.cause c.loop-file.invariant.faults

pub loop-file-preserved : goal.loop-file-preserved
loop-file-preserved g c =
    let files = c.loop-file.files in
    let start = c.args.files.now in
    let i = c.loop-file.file-index in
    let item = c.file-item.result in
    let new = c.len.new.self in
    let before = c.loop-file.invariant in
    let lt : i < length files = omega (arith, c.loop-file-test.true, c.loop-file.auto.files) in
    record {
      same = same_told g.S.InputFile.held files start i item new c.len.ensures.same before.same;
      lengths = lengths_next g.S.InputFile.held start files i item c.loop-file.lengths.items c.push.new.self.items c.in-Ok.length lt
          before.same c.in_ok-push-in-Ok.ensures.items before.lengths c.in-Ok.ensures.value;
      faults = same_failures g.S.InputFile.faults files start i item new lt c.in-Ok.ensures.steady before.faults;
    }
