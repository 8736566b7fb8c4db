use Rattle.std.proofs.Common.{◌≡◌, ◌≤◌, ◌+◌, ◌-◌, length, take, drop, [], refl, sym, subst, arith}
use Rattle.num_fixed.specs.Fronts.{exponent_len, numeral_front}
use Rattle.num_fixed.specs.Numeral.{IsNumeral, IsSaid}
use Rattle.num_fixed.proofs.FrontLemmas.{AreLengths, lengths, lengths_of_whole, no_places, number_kept, places_kept, whole_ends, fraction_ends_at, ends_at, none_at, some_at, digits_read, small_read, front_alone}
use Rattle.num_fixed.proofs.front.number_front.Goals as goal

pub small_number-requires-clause-digits : goal.small_number-requires-clause-digits
small_number-requires-clause-digits c =
    let l = c.args.bytes.now in
    let m = c.minus_len-minus.result in
    let w = c.digits_front-whole.result.0 in
    let n = c.digits_front-whole.result.1 in
    let nothing = c.may_go_on.ensures.no c.if-not-may_go_on.true in
    let h = lengths_of_whole l m w c.minus_len-minus.ensures.value c.digits_front-whole.ensures.length nothing.0 nothing.1 in
    (digits_read l m w 0 0 n n h (omega arith) (number_kept l m n c.digits_front-whole.ensures.number) (no_places l m w n h)).1

pub returns-then-not-may_go_on-clause-some : goal.returns-then-not-may_go_on-clause-some
returns-then-not-may_go_on-clause-some c =
    let l = c.args.bytes.now in
    let m = c.minus_len-minus.result in
    let w = c.digits_front-whole.result.0 in
    let nothing = c.may_go_on.ensures.no c.if-not-may_go_on.true in
    let h = lengths_of_whole l m w c.minus_len-minus.ensures.value c.digits_front-whole.ensures.length nothing.0 nothing.1 in
    let fraction = fraction_ends_at l m w 0 0 h in
    let end = ends_at l m w 0 0 h in
    (some_at l m w 0 0 h (λ e. omega arith), record { whole = whole_ends l m w 0 0 h; fraction = omega arith; all = omega arith })

pub returns-then-not-may_go_on-clause-value : goal.returns-then-not-may_go_on-clause-value
returns-then-not-may_go_on-clause-value c =
    let l = c.args.bytes.now in
    let m = c.minus_len-minus.result in
    let w = c.digits_front-whole.result.0 in
    let n = c.digits_front-whole.result.1 in
    let nothing = c.may_go_on.ensures.no c.if-not-may_go_on.true in
    let h = lengths_of_whole l m w c.minus_len-minus.ensures.value c.digits_front-whole.ensures.length nothing.0 nothing.1 in
    subst (IsSaid (numeral_front l)) (sym c.small_number.ensures) (small_read l m w 0 0 n n h (omega arith) (omega arith) refl (number_kept l m n c.digits_front-whole.ensures.number) (no_places l m w n h))

pub returns-then-fraction_end-minus-clause-none : goal.returns-then-fraction_end-minus-clause-none
returns-then-fraction_end-minus-clause-none c =
    let l = c.args.bytes.now in
    let m = c.minus_len-minus.result in
    let w = c.digits_front-whole.result.0 in
    let f = c.fraction_front-fraction.result.0 in
    let h = lengths l m w f (exponent_len (take (length l - (m + w + f)) (drop (m + w + f) l))) c.minus_len-minus.ensures.value c.digits_front-whole.ensures.length c.fraction_front-fraction.ensures.length refl in
    none_at l m w f _ h c.if-fraction_end-minus.true

pub small_number-requires-then-end-fraction_end-clause-digits : goal.small_number-requires-then-end-fraction_end-clause-digits
small_number-requires-then-end-fraction_end-clause-digits c =
    let l = c.args.bytes.now in
    let m = c.minus_len-minus.result in
    let w = c.digits_front-whole.result.0 in
    let f = c.fraction_front-fraction.result.0 in
    let x = c.exponent_len.result in
    let h : AreLengths l m w f x = lengths l m w f x c.minus_len-minus.ensures.value c.digits_front-whole.ensures.length c.fraction_front-fraction.ensures.length c.exponent_len.ensures.value in
    let n = c.digits_front-whole.result.1 in
    let k = c.fraction_front-fraction.result.1 in
    let few : w + (f - 1) ≤ 18 = omega arith in
    (digits_read l m w f x n k h few (number_kept l m n c.digits_front-whole.ensures.number) (places_kept l (m + w) n k c.fraction_front-fraction.ensures.number)).1

pub read_parts-value-requires : goal.read_parts-value-requires
read_parts-value-requires c =
    let l = c.args.bytes.now in
    let m = c.minus_len-minus.result in
    let w = c.digits_front-whole.result.0 in
    let f = c.fraction_front-fraction.result.0 in
    let x = c.exponent_len.result in
    let h : AreLengths l m w f x = lengths l m w f x c.minus_len-minus.ensures.value c.digits_front-whole.ensures.length c.fraction_front-fraction.ensures.length c.exponent_len.ensures.value in
    let some = some_at l m w f x h c.if-fraction_end-minus.false in
    let alone = subst (λ e. IsNumeral (numeral_front l) (take e l) []) (sym (ends_at l m w f x h)) (front_alone l some) in
    (numeral_front l, alone)

pub returns-then-end-fraction_end-clause-some : goal.returns-then-end-fraction_end-clause-some
returns-then-end-fraction_end-clause-some c =
    let l = c.args.bytes.now in
    let m = c.minus_len-minus.result in
    let w = c.digits_front-whole.result.0 in
    let f = c.fraction_front-fraction.result.0 in
    let x = c.exponent_len.result in
    let h : AreLengths l m w f x = lengths l m w f x c.minus_len-minus.ensures.value c.digits_front-whole.ensures.length c.fraction_front-fraction.ensures.length c.exponent_len.ensures.value in
    let some = some_at l m w f x h c.if-fraction_end-minus.false in
    (some, record { whole = whole_ends l m w f x h; fraction = fraction_ends_at l m w f x h; all = ends_at l m w f x h })

pub returns-then-end-fraction_end-clause-value : goal.returns-then-end-fraction_end-clause-value
returns-then-end-fraction_end-clause-value c =
    let l = c.args.bytes.now in
    let m = c.minus_len-minus.result in
    let w = c.digits_front-whole.result.0 in
    let f = c.fraction_front-fraction.result.0 in
    let x = c.exponent_len.result in
    let h : AreLengths l m w f x = lengths l m w f x c.minus_len-minus.ensures.value c.digits_front-whole.ensures.length c.fraction_front-fraction.ensures.length c.exponent_len.ensures.value in
    let n = c.digits_front-whole.result.1 in
    let k = c.fraction_front-fraction.result.1 in
    let few : w + (f - 1) ≤ 18 = omega arith in
    let gone : x ≡ 0 = omega arith in
    subst (IsSaid (numeral_front l)) (sym c.small_number-then-end-fraction_end.ensures) (small_read l m w f x n k h few c.if-fraction-lt8.true gone (number_kept l m n c.digits_front-whole.ensures.number) (places_kept l (m + w) n k c.fraction_front-fraction.ensures.number))

pub returns-else-digits-le18-clause-some : goal.returns-else-digits-le18-clause-some
returns-else-digits-le18-clause-some c =
    let l = c.args.bytes.now in
    let m = c.minus_len-minus.result in
    let w = c.digits_front-whole.result.0 in
    let f = c.fraction_front-fraction.result.0 in
    let x = c.exponent_len.result in
    let h : AreLengths l m w f x = lengths l m w f x c.minus_len-minus.ensures.value c.digits_front-whole.ensures.length c.fraction_front-fraction.ensures.length c.exponent_len.ensures.value in
    let some = some_at l m w f x h c.if-fraction_end-minus.false in
    (some, record { whole = whole_ends l m w f x h; fraction = fraction_ends_at l m w f x h; all = ends_at l m w f x h })

pub returns-else-digits-le18-clause-value : goal.returns-else-digits-le18-clause-value
returns-else-digits-le18-clause-value c =
    let l = c.args.bytes.now in
    let m = c.minus_len-minus.result in
    let w = c.digits_front-whole.result.0 in
    let f = c.fraction_front-fraction.result.0 in
    let x = c.exponent_len.result in
    let h : AreLengths l m w f x = lengths l m w f x c.minus_len-minus.ensures.value c.digits_front-whole.ensures.length c.fraction_front-fraction.ensures.length c.exponent_len.ensures.value in
    let some = some_at l m w f x h c.if-fraction_end-minus.false in
    let alone = subst (λ e. IsNumeral (numeral_front l) (take e l) []) (sym (ends_at l m w f x h)) (front_alone l some) in
    c.read_parts-value.ensures.value (numeral_front l) alone

pub returns-else-digits-le18-clause-overflow : goal.returns-else-digits-le18-clause-overflow
returns-else-digits-le18-clause-overflow c =
    let l = c.args.bytes.now in
    let m = c.minus_len-minus.result in
    let w = c.digits_front-whole.result.0 in
    let f = c.fraction_front-fraction.result.0 in
    let x = c.exponent_len.result in
    let h : AreLengths l m w f x = lengths l m w f x c.minus_len-minus.ensures.value c.digits_front-whole.ensures.length c.fraction_front-fraction.ensures.length c.exponent_len.ensures.value in
    let some = some_at l m w f x h c.if-fraction_end-minus.false in
    let alone = subst (λ e. IsNumeral (numeral_front l) (take e l) []) (sym (ends_at l m w f x h)) (front_alone l some) in
    c.read_parts-value.ensures.overflow (numeral_front l) alone
