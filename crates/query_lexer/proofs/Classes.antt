-- The first byte tells which kinds of token there can be.
use Rattle.std.proofs.Common.{◌≡◌, inl, inr, ℕ, true, false, ◌&&◌, ◌||◌, ◌==◌, ap, refl, arith, codes}
use Rattle.std.proofs.lemmas.Bool.{and_parts, or_cases, eqb-true}
use Rattle.std.proofs.lemmas.Bool.Decides.{nat_tests}
use Rattle.std.specs.Char.{is_ascii_digit}
use Rattle.query_lexer.specs.Bytes.{is_letter, is_mark, is_double_mark, is_one_of}
use Rattle.query_lexer.proofs.Cases.{tested, tested_not}

-- it begins no name, no variable and no string
pub record Other (b : ℕ) : Type 0 where
  pub letter : is_letter b ≡ false
  pub dollar : (b == 36) ≡ false
  pub quote : (b == 34) ≡ false

pub digit_is_other : (b : ℕ) → is_ascii_digit b ≡ true → Other b
unfolding is_letter
digit_is_other b h = record { letter = grind (arith, nat_tests); dollar = grind (arith, nat_tests); quote = grind (arith, nat_tests) }

pub point_is_other : Other 46
unfolding is_letter
point_is_other = record { letter = refl; dollar = refl; quote = refl }

pub mark_is_other : (b : ℕ) → is_mark b ≡ true → Other b
unfolding is_mark is_letter
mark_is_other b h = record {
  letter = tested_not is_letter (codes "()[]{},;:.!|+-*=<>#?") refl b h;
  dollar = tested_not (λ c. c == 36) (codes "()[]{},;:.!|+-*=<>#?") refl b h;
  quote = tested_not (λ c. c == 34) (codes "()[]{},;:.!|+-*=<>#?") refl b h;
}

pub mark_no_digit : (b : ℕ) → is_mark b ≡ true → is_ascii_digit b ≡ false
unfolding is_mark
mark_no_digit b h = tested_not is_ascii_digit (codes "()[]{},;:.!|+-*=<>#?") refl b h

pub double_mark_first : (b c : ℕ) → is_double_mark b c ≡ true → (is_mark b ≡ true) × ((b == 46) ≡ false)
unfolding is_mark is_double_mark
double_mark_first b c h =
    let brace = b == 123 && c == 124 in
    let bar = b == 124 && is_one_of (codes "}|") c in
    let equal = is_one_of (codes ":!<>") b && c == 61 in
    elim (or_cases (brace || bar) equal h) [
      | inl first ↦ elim (or_cases brace bar first) [
        | inl e ↦ let v = eqb-true b 123 (and_parts (b == 123) (c == 124) e).0 in (ap is_mark v, ap (λ v. v == 46) v)
        | inr e ↦ let v = eqb-true b 124 (and_parts (b == 124) (is_one_of (codes "}|") c) e).0 in (ap is_mark v, ap (λ v. v == 46) v)
      ]
      | inr e ↦
          let v = (and_parts (is_one_of (codes ":!<>") b) (c == 61) e).0 in
          (tested is_mark (codes ":!<>") refl b v, tested_not (λ v. v == 46) (codes ":!<>") refl b v)
    ]
