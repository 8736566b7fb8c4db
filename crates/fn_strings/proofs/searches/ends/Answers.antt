use Rattle.std.proofs.Common.{◌∙◌, nat_eq}
use Rattle.std.specs.List.{ends_with}
use Rattle.fn_strings.proofs.SearchLemmas.{same_end}
use Rattle.fn_strings.proofs.searches.ends.Goals as goal

pub returns : goal.returns
returns c =
    c.ends_with.ensures.value
    ∙ (λ i. ends_with nat_eq (c.as_bytes.ensures.value i) (c.as_bytes-2.ensures.value i))
    ∙ same_end c.args.text.now c.args.part.now c.utf8.text c.utf8.part
