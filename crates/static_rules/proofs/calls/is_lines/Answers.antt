use Rattle.std.proofs.Common.{refl, sym, ap, ◌∙◌}
use Rattle.std.specs.Prelude.{codes}
use Rattle.std.specs.Str.{bytes_eq}
use Rattle.item_tree.proofs.AsciiTexts.{all_below, same_text}
use Rattle.static_rules.proofs.calls.is_lines.Goals as goal

pub returns : goal.returns
returns c =
    c.eq.ensures
    ∙ sym (same_text c.as_str.result.now (codes "json-lines") c.as_str.utf8 (all_below (codes "json-lines") refl))
    ∙ ap (λ n. bytes_eq n (codes "json-lines")) c.as_str.ensures.value
