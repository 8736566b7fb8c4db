use Rattle.std.proofs.Common.{◌≤◌, ◌++◌, drop, ap, ◌∙◌, arith}
use Rattle.std.proofs.lemmas.Grind.{common_steps}
use Rattle.outside.proofs.Slices.{filled-part}
use Rattle.outside.proofs.slow.SlowFileInputFile.read_at.Goals as goal

pub returns-clause-bytes : goal.returns-clause-bytes
returns-clause-bytes c =
    let into = c.args.into.now in
    let room = c.min-room.result in
    let within : c.read_at.result ≤ room = grind (arith, common_steps) in
    rw (← c.self.view_is)
    (ap (λ new. new ++ drop room into) c.read_at.ensures.bytes
    ∙ filled-part _ c.args.at c.read_at.result room into within)
