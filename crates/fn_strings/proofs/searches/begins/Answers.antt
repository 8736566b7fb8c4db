use Rattle.std.proofs.Common.{◌∙◌, nat_eq}
use Rattle.std.specs.List.{starts_with}
use Rattle.fn_strings.proofs.SearchLemmas.{same_begin}
use Rattle.fn_strings.proofs.searches.begins.Goals as goal

pub returns : goal.returns
returns c =
    c.starts_with.ensures.value
    ∙ (λ i. starts_with nat_eq (c.as_bytes.ensures.value i) (c.as_bytes-2.ensures.value i))
    ∙ same_begin c.args.text.now c.args.part.now c.utf8.text c.utf8.part
