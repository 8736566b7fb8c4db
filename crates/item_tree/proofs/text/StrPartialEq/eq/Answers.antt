use Rattle.std.proofs.Common.{◌∙◌}
use Rattle.std.specs.Str.{bytes_eq}
use Rattle.item_tree.proofs.ShortTexts.{same_characters, is_text}
use Rattle.item_tree.proofs.text.StrPartialEq.eq.Goals as goal

pub returns : goal.returns
returns c =
    c.is_same.ensures
    ∙ same_characters _ _ (is_text c.self.inside.text c.self.invariant) (is_text c.other.inside.text c.other.invariant)
    ∙ (λ i. bytes_eq (c.self.view_is i) (c.other.view_is i))
