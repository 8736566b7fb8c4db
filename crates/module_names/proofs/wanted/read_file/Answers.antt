use Rattle.std.specs.Fn.{FnReturnsAt}
use Rattle.module_names.proofs.Finding.{missing_there, read_found, refused_there, refused_found}
use Rattle.module_names.proofs.Stepping.{told_from}
use Rattle.module_names.proofs.wanted.read_file.Goals as goal

pub returns-in_default-clause-found : goal.returns-in_default-clause-found
returns-in_default-clause-found g c =
    let there = rw (c.in_default.is, c.most_read.ensures) at c.in_ok-bytes.ensures.bytes in
    told_from (g.I.Inputs.world c.args.inputs.now)
    (λ w h. missing_there (FnReturnsAt g.F.Fn c.args.read) w c.args.name.now _ h c.as_str.ensures.value) there

pub returns-in-Ok-clause-found : goal.returns-in-Ok-clause-found
returns-in-Ok-clause-found g c =
    let there = rw (c.in-Some.is, c.most_read.ensures) at c.in_ok-bytes.ensures.bytes in
    told_from (g.I.Inputs.world c.args.inputs.now)
    (λ w h. read_found (FnReturnsAt g.F.Fn c.args.read) w c.args.name.now _ c.in-Some.bytes.items c.of-contents.result c.in-Ok.source c.keep.result
    h c.as_str.ensures.value c.of-contents.ensures (rw c.in-Ok.is at c.read_alone.ensures) c.keep.ensures) there

pub returns-in-Err-Refused-clause-found : goal.returns-in-Err-Refused-clause-found
returns-in-Err-Refused-clause-found g c =
    let there = rw (c.in-Some.is, c.most_read.ensures) at c.in_ok-bytes.ensures.bytes in
    told_from (g.I.Inputs.world c.args.inputs.now)
    (λ w h. refused_there (FnReturnsAt g.F.Fn c.args.read) w c.args.name.now _ c.in-Some.bytes.items c.of-contents.result c.in-Err-Refused.code
    c.in-Err-Refused.place h c.as_str.ensures.value c.of-contents.ensures (rw c.in-Err-Refused.field-0-is at c.in-Err-Refused.ensures)) there

pub returns-in-Err-Refused-clause-counts : goal.returns-in-Err-Refused-clause-counts
returns-in-Err-Refused-clause-counts g c =
    refused_found (FnReturnsAt g.F.Fn c.args.read) c.in-Some.bytes c.of-contents.result c.in-Err-Refused.code c.in-Err-Refused.place _ _
    (rw c.in-Some.is at c.in_ok-bytes.ensures.counts) (rw c.in-Err-Refused.field-0-is at c.in-Err-Refused.ensures)
