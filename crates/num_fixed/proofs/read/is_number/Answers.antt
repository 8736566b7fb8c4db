use Rattle.std.proofs.Common.{◌≡◌, nat_lt, drop, not, ap, sym, ◌∙◌}
use Rattle.num_fixed.specs.Scan.{digits_len, ends_well, number_at}
use Rattle.num_fixed.proofs.TextLemmas.{sound, complete, tested}
use Rattle.num_fixed.proofs.read.is_number.Goals as goal

pub returns : goal.returns
returns c =
    let text = c.args.text.now in
    let unsigned = c.split_sign.result.1.now in
    let passes = c.ends_well.ensures ∙ ap (ends_well (not c.is_empty.result)) c.split_digits.ensures.rest in
    let is : c.ends_well.result ≡ number_at text =
    tested unsigned c.split_digits.result.0.now c.is_empty.result c.ends_well.result c.split_digits.ensures.first c.is_empty.ensures passes
    ∙ ap (λ l. ends_well (nat_lt 0 (digits_len l)) (drop (digits_len l) l)) c.split_sign.ensures.rest in
    (λ h. sound text (sym is ∙ h), λ h. is ∙ complete text h)
