use Rattle.std.proofs.Common.{Ok, ap, sym, ◌∙◌}
use Rattle.std.proofs.lemmas.Str.{chars-nil}
use Rattle.value_rules.specs.Strings.{one_text}
use Rattle.fn_strings.proofs.searches.substring_before.Goals as goal

pub returns-in_default-clause-value : goal.returns-in_default-clause-value
returns-in_default-clause-value c =
    rw (c.in_ok-text.ensures, c.in_ok-part.ensures, c.in_default.ensures) (ap Ok (sym (c.in_ok-one_str.ensures ∙ ap one_text chars-nil)))
