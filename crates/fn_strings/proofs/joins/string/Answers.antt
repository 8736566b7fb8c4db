use Rattle.std.proofs.Common.{Ok, ap, sym, ◌∙◌}
use Rattle.std.proofs.lemmas.Str.{chars-nil}
use Rattle.value_rules.specs.Strings.{one_text}
use Rattle.fn_strings.proofs.joins.string.Goals as goal

pub returns-in_ok-one_str-in-None-clause-value : goal.returns-in_ok-one_str-in-None-clause-value
returns-in_ok-one_str-in-None-clause-value c =
    rw (c.in_ok-optional_atomic.ensures.value, c.in-None.is) (ap Ok (sym (c.in_ok-one_str-in-None.ensures ∙ ap one_text chars-nil)))
