-- What the test of the words reads of one word: a beginning, and numbers.
use Rattle.std.proofs.Common.{◌≡◌, ◌∙◌, ◌<◌, ◌≤◌, ◌&&◌, ◌+◌, ◌-◌, ◌*◌, ◌^◌, ℕ, Bool, true, false, List, [], ◌∷◌, ◌++◌, length, drop, Option, Some, None, refl, sym, ap, ap₂, arith, rules, Bor, option_map}
use Rattle.std.specs.Prelude.{nat_le, nat_lt, MatchOption, ◌==◌, if◌then◌else◌}
use Rattle.std.specs.Str.{all_ascii_digits}
use Rattle.std.specs.Str.Parse.{IsNumeral, digits_value, without_leading_plus}
use Rattle.std.specs.Str.Pattern.{FindsTextPrefix}
use Rattle.std.proofs.lemmas.Str.Parse.{IsNumeralModel, numerals_by_fold}
use Rattle.run_words.specs.Table.{Text, is_number_in}
use Rattle.run_words.specs.Given.{after}
use Rattle.run_words.proofs.Reading.{after_gives}

eq_self : (x : ℕ) → (x == x) ≡ true
eq_self x = search rules

pub after_here : (needle rest : Text) → after needle (needle ++ rest) ≡ Some rest
after_here [] rest = refl
after_here (x ∷ xs) rest = ap (λ b. if b then after xs (xs ++ rest) else None) (eq_self x) ∙ after_here xs rest

after_none : (needle word : Text) → ((rest : Text) → word ≡ needle ++ rest → ⊥) → None ≡ after needle word
after_none needle word lacks = go (after needle word) refl
  where
    go : (o : Option Text) → after needle word ≡ o → None ≡ after needle word
    go None e = sym e
    go (Some v) e = absurd (lacks v (sym (after_gives needle word v e)))

-- the clause of `strip_prefix` at a text
pub after_of : (needle word : Text) (r : Option (Bor Text))
    → MatchOption r (FindsTextPrefix needle word None) (λ x. (n : ℕ) × FindsTextPrefix needle word (Some n) × (x.now ≡ drop n word) × (length x.now + n ≡ length word))
    → option_map (λ s. s.now) r ≡ after needle word
after_of needle word None h = after_none needle word h
after_of needle word (Some x) h =
    sym (ap (after needle) h.1.1 ∙ after_here needle (drop h.0 word) ∙ ap (λ t. Some t) (sym h.2))

-- ---- numbers

abbrev read_on : ℕ → List ℕ → ℕ
read_on n [] = n
read_on n (c ∷ cs) = read_on (10 * n + (c - 48)) cs

own : IsNumeralModel (λ ds. all_ascii_digits ds ≡ true) (read_on 0)
own = numerals_by_fold _ (search rules) read_on (search rules)

both : (a b : Bool) → (a && b) ≡ true → (a ≡ true) × (b ≡ true)
both true b e = (refl, e)
both false b e = cc

le_true : (a b : ℕ) → a ≤ b → nat_le a b ≡ true
le_true a b h = search rules

lt_true : (a b : ℕ) → a < b → nat_lt a b ≡ true
lt_true a b h = search rules

true_lt : (a b : ℕ) → nat_lt a b ≡ true → a < b
true_lt a b h = search rules

true_le : (a b : ℕ) → nat_le a b ≡ true → a ≤ b
true_le a b h = search rules

pub number_ok : (low high n : ℕ) (text : Text) → IsNumeral 10 (without_leading_plus text) → n ≡ digits_value 10 (without_leading_plus text) → low ≤ n
    → nat_le n high ≡ is_number_in low high text
number_ok low high n text numeral value above =
    let v = digits_value 10 (without_leading_plus text) in
    ap (λ k. nat_le k high) value
    ∙ sym (ap₂ (λ (a b : Bool). a && (b && (nat_le low v && nat_le v high))) (lt_true 0 _ numeral.0) (own.from _ numeral.1)
    ∙ ap (λ b. b && nat_le v high) (le_true low v (omega (arith, above, value))))

pub number_err : (low high : ℕ) (text : Text) → (IsNumeral 10 (without_leading_plus text) × (digits_value 10 (without_leading_plus text) < 2 ^ 32) → ⊥) → high < 2 ^ 32
    → false ≡ is_number_in low high text
number_err low high text refuted small = go (is_number_in low high text) refl
  where
    go : (b : Bool) → is_number_in low high text ≡ b → false ≡ is_number_in low high text
    go false e = sym e
    go true e =
        let p = both _ _ e in
        let q = both _ _ p.1 in
        let r = both _ _ q.1 in
        let most : digits_value 10 (without_leading_plus text) ≤ high = true_le _ _ r.1 in
        absurd (refuted ((true_lt _ _ p.0, own.to _ q.0), omega (arith, most, small)))
