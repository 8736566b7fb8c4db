-- The decimal digits of a number.
use Rattle.std.specs.Prelude.{◌≡◌, ◌<◌, ◌≤◌, ℕ, zero, suc, ◌+◌, ◌-◌, ◌*◌, ◌/◌, ◌%◌, ◌^◌, ◌==◌, true, false, List, [], ◌∷◌, ◌++◌, length, replicate, refl}
use Rattle.std.specs.Char.{is_ascii_digit}
use Rattle.std.specs.Fmt.{decimal}
use Rattle.std.specs.List.{list_all}
use Rattle.std.proofs.Common.{sym, ◌∙◌, ap, arith, append_assoc, length-append}
use Rattle.std.proofs.lemmas.Bool.{and_from, and_parts, ne_eqb, cond_both, eqb-true}
use Rattle.std.proofs.lemmas.Bool.Decides.{nat_tests}
use Rattle.std.proofs.lemmas.Fmt.{decimal_by_steps_wide, decimal_step_wide, decimal_digit}
use Rattle.std.proofs.lemmas.List.{length-replicate}
use Rattle.std.proofs.lemmas.List.Folds.{list_all-append}
use Rattle.std.proofs.Math.Nat.{pow-succ'}
use Rattle.num_fixed.specs.Numeral.{AreDigits, number_of}
use Rattle.num_fixed.proofs.DigitLemmas.{number-append, split_number, power_some}
use Rattle.item_tree.specs.ItemText.{without_last_zeros}
use Rattle.json_text.specs.Json.{IsInt}

-- the first digit is another than 0
abbrev pub Leads : List ℕ → Type 0
Leads [] = ⊥
Leads (d ∷ ds) = (d == 48) ≡ false

pub record IsDecimal (n : ℕ) (ds : List ℕ) : Type 0 where
  pub digits : AreDigits ds
  pub value : number_of 0 ds ≡ n
  pub int : IsInt ds
  pub leads : 0 < n → Leads ds

digit_test : (n : ℕ) → n < 10 → is_ascii_digit (48 + n) ≡ true
digit_test n h = grind (arith, nat_tests)

digits_append : (a b : List ℕ) → AreDigits a → AreDigits b → AreDigits (a ++ b)
digits_append a b h k = list_all-append is_ascii_digit a b ∙ and_from _ _ h k

digits_one : (n : ℕ) → n < 10 → AreDigits ((48 + n) ∷ [])
digits_one n h = and_from _ _ (digit_test n h) refl

one_digit : (n : ℕ) → n < 10 → IsDecimal n ((48 + n) ∷ [])
one_digit n h = record {
  digits = digits_one n h;
  value = omega arith;
  int = tt;
  leads = λ some. ne_eqb (48 + n) 48 (λ e. omega arith);
}

number_push : (ds : List ℕ) (c : ℕ) → number_of 0 (ds ++ (c ∷ [])) ≡ number_of 0 ds * 10 + (c - 48)
number_push ds c = number-append 0 ds (c ∷ [])

int_push : (ds : List ℕ) (c : ℕ) → Leads ds → IsInt (ds ++ (c ∷ []))
int_push [] c h = absurd h
int_push (d ∷ []) c h = h
int_push (d ∷ e ∷ ds) c h = h

leads_push : (ds : List ℕ) (c : ℕ) → Leads ds → Leads (ds ++ (c ∷ []))
leads_push [] c h = absurd h
leads_push (d ∷ ds) c h = h

more_digits : (n : ℕ) (ds : List ℕ) → 10 ≤ n → IsDecimal (n / 10) ds → IsDecimal n (ds ++ ((48 + n % 10) ∷ []))
more_digits n ds h k =
    let v = k.value in let push = number_push ds (48 + n % 10) in
    record {
      digits = digits_append ds ((48 + n % 10) ∷ []) k.digits (digits_one (n % 10) (omega arith));
      value = omega arith;
      int = int_push ds (48 + n % 10) (k.leads (omega arith));
      leads = λ some. leads_push ds (48 + n % 10) (k.leads (omega arith));
    }

pub decimal_is : (n : ℕ) → n < 10 ^ 64 → IsDecimal n (decimal n)
decimal_is n h = decimal_by_steps_wide IsDecimal one_digit more_digits n h

-- ---- the last digits of a number

abbrev pub last_digits : ℕ → ℕ → List ℕ
last_digits zero n = []
last_digits (suc k) n = last_digits k (n / 10) ++ ((48 + n % 10) ∷ [])

pub last_are : (k n : ℕ) → AreDigits (last_digits k n)
last_are zero n = refl
last_are (suc k) n = digits_append (last_digits k (n / 10)) ((48 + n % 10) ∷ []) (last_are k (n / 10)) (digits_one (n % 10) (omega arith))

pub last_length : (k n : ℕ) → length (last_digits k n) ≡ k
last_length zero n = refl
last_length (suc k) n = let e = last_length k (n / 10) in length-append (last_digits k (n / 10)) ((48 + n % 10) ∷ []) ∙ omega arith

power : (k : ℕ) → 10 ^ suc k ≡ 10 * 10 ^ k
power k = omega (arith, pow-succ' 10 k)

pub last_value : (k n : ℕ) → n < 10 ^ k → number_of 0 (last_digits k n) ≡ n
last_value zero n h = omega arith
last_value (suc k) n h =
    let p = power k in
    let e = last_value k (n / 10) (omega arith) in
    let push = number_push (last_digits k (n / 10)) (48 + n % 10) in
    omega arith

-- the digits of a number that begins with a 1 before k others
pub one_before : (k n : ℕ) → n < 10 ^ k → 2 * 10 ^ k ≤ 10 ^ 64 → decimal (10 ^ k + n) ≡ 49 ∷ last_digits k n
one_before zero n h small = let e : 10 ^ 0 + n ≡ 1 = omega arith in ap decimal e ∙ decimal_digit 1 (omega arith)
one_before (suc k) n h small =
    let p = power k in
    let front : (10 ^ suc k + n) / 10 ≡ 10 ^ k + n / 10 = omega arith in
    let last : (10 ^ suc k + n) % 10 ≡ n % 10 = omega arith in
    decimal_step_wide (10 ^ suc k + n) (omega (arith, power_some k)) (omega arith)
    ∙ ap (λ x. decimal x ++ ((48 + (10 ^ suc k + n) % 10) ∷ [])) front
    ∙ ap (λ x. decimal (10 ^ k + n / 10) ++ ((48 + x) ∷ [])) last
    ∙ ap (λ ds. ds ++ ((48 + n % 10) ∷ [])) (one_before k (n / 10) (omega arith) (omega arith))

-- ---- digits without the zeros at their end

all_zeros : (ds : List ℕ) → list_all (λ e. e == 48) ds ≡ true → ds ≡ replicate (length ds) 48
all_zeros [] h = refl
all_zeros (d ∷ ds) h = let k = and_parts (d == 48) (list_all (λ e. e == 48) ds) h in ap (λ x. x ∷ ds) (eqb-true d 48 k.0) ∙ ap (λ x. 48 ∷ x) (all_zeros ds k.1)

abbrev pub IsStripped : List ℕ → List ℕ → Type 0
IsStripped ds ss = (zeros : ℕ) × (ds ≡ ss ++ replicate zeros 48)

pub stripped : (ds : List ℕ) → IsStripped ds (without_last_zeros ds)
stripped [] = (0, refl)
stripped (d ∷ ds) =
    cond_both (list_all (λ e. e == 48) (d ∷ ds)) _ _ (IsStripped (d ∷ ds)) (λ h. (length (d ∷ ds), all_zeros (d ∷ ds) h)) (λ _. let k = stripped ds in (k.0, ap (λ x. d ∷ x) k.1))

zeros_value : (n : ℕ) → number_of 0 (replicate n 48) ≡ 0
zeros_value zero = refl
zeros_value (suc n) = zeros_value n

pub stripped_value : (front ss : List ℕ) (n : ℕ) → number_of 0 (front ++ (ss ++ replicate n 48)) ≡ number_of 0 (front ++ ss) * 10 ^ n
stripped_value front ss n =
    let zs : List ℕ = replicate n 48 in
    let split = split_number (front ++ ss) zs in
    let none : number_of 0 zs ≡ 0 = zeros_value n in
    let long : length zs ≡ n = length-replicate n 48 in
    ap (number_of 0) (sym (append_assoc front ss zs)) ∙ split ∙ ap (λ k. number_of 0 (front ++ ss) * 10 ^ k + number_of 0 zs) long ∙ omega arith

pub stripped_some : (ds ss : List ℕ) → IsStripped ds ss → 0 < number_of 0 ds → 0 < length ss
stripped_some ds [] h some = let e : number_of 0 ds ≡ 0 = ap (number_of 0) h.1 ∙ zeros_value h.0 in absurd (omega arith)
stripped_some ds (s ∷ ss) h some = omega arith

pub stripped_digits : (ds ss : List ℕ) → IsStripped ds ss → AreDigits ds → AreDigits ss
stripped_digits ds ss h k = (and_parts (list_all is_ascii_digit ss) (list_all is_ascii_digit (replicate h.0 48)) (sym (list_all-append is_ascii_digit ss (replicate h.0 48)) ∙ ap (list_all is_ascii_digit) (sym h.1) ∙ k)).0
