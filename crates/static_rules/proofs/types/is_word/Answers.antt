use Rattle.std.proofs.Common.{refl, sym, ap, ◌∙◌}
use Rattle.std.specs.Prelude.{codes}
use Rattle.std.specs.Str.{bytes_eq}
use Rattle.item_tree.proofs.AsciiTexts.{all_below, same_text}
use Rattle.static_rules.proofs.types.is_word.Goals as goal

pub returns : goal.returns
returns c =
    c.eq.ensures
    ∙ sym (same_text c.as_str.result.now (codes "empty-sequence") c.as_str.utf8 (all_below (codes "empty-sequence") refl))
    ∙ ap (λ n. bytes_eq n (codes "empty-sequence")) c.as_str.ensures.value
