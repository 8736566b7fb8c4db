use Rattle.std.proofs.Common.{◌≡◌, ◌≢◌, inl, inr, [], ◌∷◌, ◌-◌, length, take, drop, ap, sym, ◌∙◌, subst, rules}
use Rattle.num_fixed.specs.Numeral.{IsExp, frac_digits, is_minus}
use Rattle.num_fixed.proofs.Reading.{pieces, empty, not_empty, slice_tail, first, tail, at_end, at_point, at_other, digits_taken, exp_stops, whole_said, whole_over, decimal_said, decimal_over}
use Rattle.num_fixed.proofs.read.read_parts.Goals as goal

pub returns-in-empty-clause-value : goal.returns-in-empty-clause-value
returns-in-empty-clause-value c = λ n h.
    let p = pieces n c.args.text.now h in
    let negative : c.split_sign-negative.result.0 ≡ is_minus n.sign = cc in
    let whole : c.split_digits.result.0.now ≡ n.int = cc in
    let rest : c.split_digits.result.1.now ≡ h.behind_int = cc in
    let parts = at_end n.frac n.exp h.behind_int h.behind_frac (sym rest ∙ empty c.split_digits.result.1.now c.in-empty.len_below) h.frac h.exp in
    whole_said n c.split_sign-negative.result.0 c.split_digits.result.0.now parts.0 parts.1 negative whole c.read_int.result c.read_int.ensures.value

pub returns-in-46-clause-value : goal.returns-in-46-clause-value
returns-in-46-clause-value c = λ n h.
    let p = pieces n c.args.text.now h in
    let negative : c.split_sign-negative.result.0 ≡ is_minus n.sign = cc in
    let whole : c.split_digits.result.0.now ≡ n.int = cc in
    let rest : c.split_digits.result.1.now ≡ h.behind_int = cc in
    let point : c.split_digits.result.1.now ≡ 46 ∷ tail c.split_digits.result.1.now = search rules in
    let parts = at_point n.frac n.exp h.behind_int h.behind_frac (tail c.split_digits.result.1.now) (sym rest ∙ point) h.frac h.exp in
    let digits = digits_taken (take (length c.split_digits.result.1.now - 1) (drop 1 c.split_digits.result.1.now)) (frac_digits n.frac) h.behind_frac (slice_tail c.split_digits.result.1.now ∙ parts.2) parts.1 (exp_stops n.exp h.behind_frac h.exp) in
    let fraction : c.split_digits-in-46.result.0.now ≡ frac_digits n.frac = c.split_digits-in-46.ensures.first ∙ digits.0 in
    let exponent : c.split_digits-in-46.result.1.now ≡ h.behind_frac = c.split_digits-in-46.ensures.rest ∙ digits.1 in
    decimal_said n c.split_sign-negative.result.0 c.split_digits.result.0.now c.split_digits-in-46.result.0.now (inl parts.0) negative whole fraction c.read_dec.result
    (c.read_dec.ensures.value n.exp (subst (λ l. IsExp n.exp l []) (sym exponent) h.exp))

pub returns-in_default-clause-value : goal.returns-in_default-clause-value
returns-in_default-clause-value c = λ n h.
    let p = pieces n c.args.text.now h in
    let negative : c.split_sign-negative.result.0 ≡ is_minus n.sign = cc in
    let whole : c.split_digits.result.0.now ≡ n.int = cc in
    let rest : c.split_digits.result.1.now ≡ h.behind_int = cc in
    let other : first c.split_digits.result.1.now ≢ 46 = search rules in
    let parts = at_other n.frac n.exp (first c.split_digits.result.1.now) h.behind_int h.behind_frac (tail c.split_digits.result.1.now) other (sym rest ∙ not_empty c.split_digits.result.1.now c.in_default.len_at_least) h.frac h.exp in
    decimal_said n c.split_sign-negative.result.0 c.split_digits.result.0.now [] (inr parts.2) negative whole (ap frac_digits (sym parts.0)) c.read_dec-in_default.result
    (c.read_dec-in_default.ensures.value n.exp (subst (λ l. IsExp n.exp l []) (sym (rest ∙ parts.1)) h.exp))

pub returns-in-empty-clause-overflow : goal.returns-in-empty-clause-overflow
returns-in-empty-clause-overflow c = λ n h.
    let p = pieces n c.args.text.now h in
    let negative : c.split_sign-negative.result.0 ≡ is_minus n.sign = cc in
    let whole : c.split_digits.result.0.now ≡ n.int = cc in
    let rest : c.split_digits.result.1.now ≡ h.behind_int = cc in
    let parts = at_end n.frac n.exp h.behind_int h.behind_frac (sym rest ∙ empty c.split_digits.result.1.now c.in-empty.len_below) h.frac h.exp in
    whole_over n c.split_sign-negative.result.0 c.split_digits.result.0.now parts.0 parts.1 negative whole c.read_int.result c.read_int.ensures.overflow

pub returns-in-46-clause-overflow : goal.returns-in-46-clause-overflow
returns-in-46-clause-overflow c = λ n h.
    let p = pieces n c.args.text.now h in
    let negative : c.split_sign-negative.result.0 ≡ is_minus n.sign = cc in
    let whole : c.split_digits.result.0.now ≡ n.int = cc in
    let rest : c.split_digits.result.1.now ≡ h.behind_int = cc in
    let point : c.split_digits.result.1.now ≡ 46 ∷ tail c.split_digits.result.1.now = search rules in
    let parts = at_point n.frac n.exp h.behind_int h.behind_frac (tail c.split_digits.result.1.now) (sym rest ∙ point) h.frac h.exp in
    let digits = digits_taken (take (length c.split_digits.result.1.now - 1) (drop 1 c.split_digits.result.1.now)) (frac_digits n.frac) h.behind_frac (slice_tail c.split_digits.result.1.now ∙ parts.2) parts.1 (exp_stops n.exp h.behind_frac h.exp) in
    let fraction : c.split_digits-in-46.result.0.now ≡ frac_digits n.frac = c.split_digits-in-46.ensures.first ∙ digits.0 in
    let exponent : c.split_digits-in-46.result.1.now ≡ h.behind_frac = c.split_digits-in-46.ensures.rest ∙ digits.1 in
    decimal_over n c.split_sign-negative.result.0 c.split_digits.result.0.now c.split_digits-in-46.result.0.now (inl parts.0) negative whole fraction c.read_dec.result
    (c.read_dec.ensures.overflow n.exp (subst (λ l. IsExp n.exp l []) (sym exponent) h.exp))

pub returns-in_default-clause-overflow : goal.returns-in_default-clause-overflow
returns-in_default-clause-overflow c = λ n h.
    let p = pieces n c.args.text.now h in
    let negative : c.split_sign-negative.result.0 ≡ is_minus n.sign = cc in
    let whole : c.split_digits.result.0.now ≡ n.int = cc in
    let rest : c.split_digits.result.1.now ≡ h.behind_int = cc in
    let other : first c.split_digits.result.1.now ≢ 46 = search rules in
    let parts = at_other n.frac n.exp (first c.split_digits.result.1.now) h.behind_int h.behind_frac (tail c.split_digits.result.1.now) other (sym rest ∙ not_empty c.split_digits.result.1.now c.in_default.len_at_least) h.frac h.exp in
    decimal_over n c.split_sign-negative.result.0 c.split_digits.result.0.now [] (inr parts.2) negative whole (ap frac_digits (sym parts.0)) c.read_dec-in_default.result
    (c.read_dec-in_default.ensures.overflow n.exp (subst (λ l. IsExp n.exp l []) (sym (rest ∙ parts.1)) h.exp))
