use Rattle.std.proofs.Common.{◌≡◌, ◌+◌, ◌-◌, ◌<◌, ◌≤◌, length, get_or, arith}
use Rattle.module_names.specs.Places.{start_of}
use Rattle.module_names.proofs.Starts.{start_none, start_more, start_grows}
use Rattle.module_names.proofs.places.locate.Goals as goal

pub returns-then-rest-length-clause-last : goal.returns-then-rest-length-clause-last
returns-then-rest-length-clause-last c = λ file later within.
    let whole : start_of c.args.lengths.now c.loop-file.file + c.loop-file.rest ≡ c.args.place = c.loop-file.invariant in
    let inside : c.loop-file.file < length c.args.lengths.now = omega arith in
    let next = start_more c.args.lengths.now c.loop-file.file inside in
    let grown : start_of c.args.lengths.now (c.loop-file.file + 1) ≤ start_of c.args.lengths.now file =
    start_grows c.args.lengths.now (c.loop-file.file + 1) file (omega arith) in
    omega (arith, whole, next, grown, c.if-rest-length.true)

pub loop-file-init : goal.loop-file-init
loop-file-init c =
    let none = start_none c.args.lengths.now in
    let whole : start_of c.args.lengths.now 0 + c.args.place ≡ c.args.place = omega (arith, none) in
    whole

pub loop-file-preserved : goal.loop-file-preserved
loop-file-preserved c =
    let whole : start_of c.args.lengths.now c.loop-file.file + c.loop-file.rest ≡ c.args.place = c.loop-file.invariant in
    let inside : c.loop-file.file < length c.args.lengths.now = omega arith in
    let next = start_more c.args.lengths.now c.loop-file.file inside in
    let moved : start_of c.args.lengths.now (c.loop-file.file + 1) + (c.loop-file.rest - get_or c.args.lengths.now c.loop-file.file 0) ≡ c.args.place =
    omega (arith, whole, next, c.if-rest-length.false) in
    moved
