-- The text of a moment says that moment.
use Rattle.std.proofs.Common.{◌≡◌, ◌≢◌, ℕ, zero, suc, inl, inr, ◌+◌, ◌-◌, ◌*◌, ◌/◌, ◌%◌, ◌^◌, ◌<◌, ◌≤◌, ◌==◌, true, false, if◌then◌else◌, List, [], ◌∷◌, ◌++◌, length, get_or, take, refl, sym, ap, ◌∙◌, arith, length-append, ℤ, pos, ◌+ℤ◌, ◌-ℤ◌, ◌*ℤ◌}
use Rattle.std.proofs.Math.Seq.{take-append_seam, take-length}
use Rattle.std.proofs.Math.Nat.{pow-succ'}
use Rattle.std.proofs.lemmas.Bool.{cases_lt}
use Rattle.std.proofs.lemmas.Bool.Decides.{nat_tests}
use Rattle.jiff_core.proofs.SignedLemmas.{signed_arith}
use Rattle.item_tree.specs.Digits.{last_digits, without_last_zeros}
use Rattle.item_tree.specs.Dates.{DateTime, IsDateTime, day_number, date_text, clock_text, nanos_text, date_time_text}
use Rattle.item_tree.proofs.LastZeros.{zero_last, digit_last}
use Rattle.date_atoms.specs.Texts.{Fraction, no_fraction, fraction, IsFraction, fraction_text, fraction_nanos, utc, Said, said_text, nanos_since, IsDateTimeText}
use Rattle.date_atoms.specs.Laws.{TextsSayOne, PrintedTextsAreRead}
use Rattle.date_atoms.proofs.CivilDays.{one_date}
use Rattle.date_atoms.proofs.SaidTexts.{date_same, nanos_same}

get_last : (xs : List ℕ) (y : ℕ) → get_or (xs ++ y ∷ []) (length xs) 0 ≡ y
get_last [] y = refl
get_last (x ∷ xs) y = get_last xs y

-- the list without its last, and the whole of it
all_but_last : (xs : List ℕ) (y n : ℕ) → n ≡ length xs → take n (xs ++ y ∷ []) ≡ xs
all_but_last xs y n e = ap (λ i. take i (xs ++ y ∷ [])) e ∙ take-append_seam xs (y ∷ [])

all_of : (xs : List ℕ) (y n : ℕ) → n ≡ length xs + 1 → take n (xs ++ y ∷ []) ≡ xs ++ y ∷ []
all_of xs y n e =
    let l : n ≡ length (xs ++ y ∷ []) = omega (arith, e, length-append xs (y ∷ [])) in
    ap (λ i. take i (xs ++ y ∷ [])) l ∙ take-length (xs ++ y ∷ [])

dropped : (xs : List ℕ) (y : ℕ) → y ≡ 48 → without_last_zeros (xs ++ y ∷ []) ≡ without_last_zeros xs
dropped xs y e =
    let n = length xs + 1 in
    let b : n - 1 ≡ length xs = omega arith in
    let r = zero_last (xs ++ y ∷ []) n (omega arith) (omega (arith, length-append xs (y ∷ []))) (ap (λ i. get_or (xs ++ y ∷ []) i 0) b ∙ get_last xs y ∙ e) in
    sym (sym (ap without_last_zeros (all_but_last xs y (n - 1) b)) ∙ r ∙ ap without_last_zeros (all_of xs y n refl))

kept : (xs : List ℕ) (y : ℕ) → y ≢ 48 → without_last_zeros (xs ++ y ∷ []) ≡ xs ++ y ∷ []
kept xs y e =
    let n = length xs + 1 in
    let b : n - 1 ≡ length xs = omega arith in
    let at_end = ap (λ i. get_or (xs ++ y ∷ []) i 0) b ∙ get_last xs y in
    let r = digit_last (xs ++ y ∷ []) n (omega arith) (omega (arith, length-append xs (y ∷ []))) (λ f. e (sym at_end ∙ f)) in
    sym (ap without_last_zeros (all_of xs y n refl)) ∙ r ∙ all_of xs y n refl

-- a number's digits without the zeros at their end
record IsTrimmed (count n : ℕ) : Type 0 where
  kept_count : ℕ
  number : ℕ
  low : 1 ≤ kept_count
  high : kept_count ≤ count
  small : number < 10 ^ kept_count
  value : n ≡ number * 10 ^ (count - kept_count)
  spelled : without_last_zeros (last_digits count n) ≡ last_digits kept_count number

ten_times : (a m p : ℕ) → a ≡ m * p → a * 10 ≡ m * (10 * p)
ten_times a m p e = grind (arith, e)

shorter : (count n : ℕ) → n % 10 ≡ 0 → IsTrimmed count (n / 10) → IsTrimmed (suc count) n
shorter count n e t =
    let s : suc count - t.kept_count ≡ suc (count - t.kept_count) = omega (arith, t.high) in
    let p : 10 ^ (suc count - t.kept_count) ≡ 10 * 10 ^ (count - t.kept_count) = ap (λ k. 10 ^ k) s ∙ pow-succ' 10 (count - t.kept_count) in
    let v = ten_times (n / 10) t.number (10 ^ (count - t.kept_count)) t.value ∙ ap (λ q. t.number * q) (sym p) in
    let z : 48 + n % 10 ≡ 48 = omega (arith, e) in
    let r : n ≡ n / 10 * 10 = omega (arith, e) in
    record {
      kept_count = t.kept_count;
      number = t.number;
      low = t.low;
      high = omega (arith, t.high);
      small = t.small;
      value = r ∙ v;
      spelled = dropped (last_digits count (n / 10)) (48 + n % 10) z ∙ t.spelled;
    }

whole : (count n : ℕ) → n < 10 ^ suc count → 0 < n % 10 → IsTrimmed (suc count) n
whole count n h e =
    let s : suc count - suc count ≡ 0 = omega arith in
    let p = ap (λ k. n * 10 ^ k) s in
    record {
      kept_count = suc count;
      number = n;
      low = omega arith;
      high = omega arith;
      small = h;
      value = omega (arith, p);
      spelled = kept (last_digits count (n / 10)) (48 + n % 10) (λ f. omega (arith, e, f));
    }

trimmed : (count n : ℕ) → n < 10 ^ count → 0 < n → IsTrimmed count n
trimmed zero n h k = absurd (omega (arith, h, k))
trimmed (suc count) n h k =
    elim (cases_lt 0 (n % 10)) [
      | inl l ↦ whole count n h l
      | inr l ↦ shorter count n (omega (arith, l)) (trimmed count (n / 10) (omega (arith, h, pow-succ' 10 count)) (omega (arith, k, l)))
    ]

-- the fraction that is printed
abbrev Prints : ℕ → Type 0
Prints n = (f : Fraction) × IsFraction f × (nanos_text n ≡ fraction_text f) × (fraction_nanos f ≡ n)

printed_fraction : (n : ℕ) → n < 10 ^ 9 → Prints n
printed_fraction n h =
    elim (cases_lt 0 n) [
      | inl k ↦ let t = trimmed 9 n h k in
          let some : (n == 0) ≡ false = grind (arith, nat_tests) in
          (fraction t.kept_count t.number, ((t.low, t.high), t.small), ap (λ b. if b then [] else 46 ∷ without_last_zeros (last_digits 9 n)) some ∙ ap (λ l. 46 ∷ l) t.spelled, sym t.value)
      | inr k ↦ let none : (n == 0) ≡ true = grind (arith, nat_tests) in
          (no_fraction, tt, ap (λ b. if b then [] else 46 ∷ without_last_zeros (last_digits 9 n)) none, omega (arith, k))
    ]

printed_moment : (t : DateTime) → IsDateTime t → IsDateTimeText t (date_time_text t)
printed_moment t h =
    let f = printed_fraction (t.nanos % 10 ^ 9) (omega arith) in
    let s : Said = record { date = t.date; clock = t.nanos / 10 ^ 9; fraction = f.0; offset = utc } in
    let text : date_time_text t ≡ said_text s = ap (λ l. date_text t.date ++ 84 ∷ clock_text (t.nanos / 10 ^ 9) ++ l ++ 90 ∷ []) f.2 in
    let nanos : pos t.nanos ≡ (pos (t.nanos / 10 ^ 9 * 10 ^ 9 + fraction_nanos f.0) -ℤ pos 0 *ℤ pos (60 * 10 ^ 9)) = omega (arith, signed_arith, f.3) in
    (s, (h.0, omega (arith, h.1), f.1, tt), text, (h, ap (λ z. nanos_since t.date z) nanos))

-- days and nanoseconds below a day are those of one number
pub one_split : (a b : ℤ) (m n : ℕ) → m < 86400 * 10 ^ 9 → n < 86400 * 10 ^ 9 → (a *ℤ pos (86400 * 10 ^ 9) +ℤ pos m) ≡ (b *ℤ pos (86400 * 10 ^ 9) +ℤ pos n) → (a ≡ b) × (m ≡ n)
one_split a b m n h k e = (omega (arith, signed_arith, h, k, e), omega (arith, signed_arith, h, k, e))

one_moment : (t u : DateTime) (text : List ℕ) → IsDateTimeText t text → IsDateTimeText u text → t ≡ u
one_moment t u text h k =
    let same = nanos_same text h.0 k.0 h.1 k.1 h.2 k.2 in
    let parts = one_split (day_number t.date) (day_number u.date) t.nanos u.nanos h.3.0.1 k.3.0.1 (h.3.1 ∙ same ∙ sym k.3.1) in
    let d = one_date t.date u.date h.3.0.0 k.3.0.0 parts.0 in
    (λ i. record { date = d i; nanos = parts.1 i })

pub texts_say_one : TextsSayOne
texts_say_one = record { date = λ d e text h k. date_same text d e h k; date_time = one_moment }

pub printed_texts_read : PrintedTextsAreRead
printed_texts_read = record { date = λ d h. (h, refl); date_time = printed_moment }
