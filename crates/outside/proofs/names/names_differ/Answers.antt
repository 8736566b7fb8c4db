use Rattle.std.proofs.Common.{◌≡◌, true, false, arith}
use Rattle.std.proofs.lemmas.Bool.Decides.{Decides-at}
use Rattle.std.proofs.lemmas.Grind.{common_steps}
use Rattle.outside.specs.InMemory.{world_of}
use Rattle.outside.proofs.NameLemmas.{differ, differ-tells}
use Rattle.outside.proofs.names.names_differ.Goals as goal

pub returns-then-not-lacks_name : goal.returns-then-not-lacks_name
returns-then-not-lacks_name c =
    let files = world_of c.args.files.now in
    let e : false ≡ differ files = grind (arith, common_steps) in
    Decides-at false (differ files) e (differ-tells files)

pub returns : goal.returns
returns c =
    let files = world_of c.args.files.now in
    let e : true ≡ differ files = grind (arith, common_steps) in
    Decides-at true (differ files) e (differ-tells files)
