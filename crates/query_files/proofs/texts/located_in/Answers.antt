use Rattle.std.proofs.Common.{length, ap, subst, ◌∙◌, ◌<◌}
use Rattle.std.proofs.lemmas.List.{length-map}
use Rattle.query_files.specs.inside.Places.{text_length}
use Rattle.query_files.proofs.Placing.{located_by}
use Rattle.query_files.proofs.texts.located_in.Goals as goal

pub returns : goal.returns
returns c =
    let count = ap length c.requires.lengths ∙ length-map c.args.files.now text_length in
    located_by c.args.files.now c.args.lengths.now c.locate-position.result.0 c.locate-position.result.1 c.args.place _ c.requires.some c.located_at.ensures c.requires.lengths
    (subst (λ n. c.locate-position.result.0 < n) count c.locate-position.ensures.within) c.locate-position.ensures.place c.locate-position.ensures.last
