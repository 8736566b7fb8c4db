-- Each number in the range of day numbers is a date's: from each date but the last the next is
-- reached. And which date is the next. For other crates too.
use Rattle.std.proofs.Common.{◌≡◌, ℕ, zero, suc, inl, inr, ◌+◌, ◌-◌, ◌<◌, ◌≤◌, refl, sym, ap, ◌∙◌, arith, ℤ, pos, negsuc, ◌-ℤ◌, ◌≤ℤ◌}
use Rattle.std.proofs.lemmas.Bool.{cases_lt}
use Rattle.jiff_core.proofs.SignedLemmas.{signed_arith}
use Rattle.item_tree.specs.Dates.{Date, IsDate, days_in_year, days_in_month, days_of_years, days_of_months, day_count, day_number}
use Rattle.date_atoms.specs.Laws.{first_date, last_date, DaysAreReached}
use Rattle.date_atoms.proofs.CivilDays.{number_range, one_date, first_count, next_year, months_of_year}

counted : (d : Date) → day_count d ≡ days_of_years (d.year - 1) + days_of_months d.year (d.month - 1) + d.day
unfolding day_count
counted d = refl

next_month : (y n : ℕ) → days_of_months y (suc n) ≡ days_of_months y n + days_in_month y (suc n)
unfolding days_of_months
next_month y n = refl

no_months : (y : ℕ) → days_of_months y 0 ≡ 0
unfolding days_of_months
no_months y = refl

pub first_is : day_count first_date ≡ 1
unfolding day_count days_of_years days_of_months
first_is = refl

pub number_of : (d : Date) → day_number d ≡ (pos (day_count d) -ℤ pos 719163)
unfolding day_number
number_of d = ap (λ n. pos (day_count d) -ℤ pos n) first_count

last_count : day_count last_date ≡ 3652059
unfolding day_count days_of_years days_of_months
last_count = refl

pub month_length : (y m : ℕ) → (28 ≤ days_in_month y m) × (days_in_month y m ≤ 31)
month_length y m = grind arith

abbrev Counts : ℕ → Type 0
Counts n = (d : Date) × IsDate d × (day_count d ≡ n)

-- the second date is the day after the first
abbrev pub IsNext : Date → Date → Type 0
IsNext d e = IsDate e × (day_count e ≡ suc (day_count d))

pub next_day : (d : Date) → IsDate d → d.day < days_in_month d.year d.month → IsNext d (record { year = d.year; month = d.month; day = d.day + 1 })
next_day d h l =
    let e : Date = record { year = d.year; month = d.month; day = d.day + 1 } in
    ((h.0, h.1, (omega arith, omega (arith, l))), omega (arith, counted d, counted e))

pub next_first : (d : Date) → IsDate d → d.day ≡ days_in_month d.year d.month → d.month < 12 → IsNext d (record { year = d.year; month = d.month + 1; day = 1 })
next_first d h l m =
    let e : Date = record { year = d.year; month = d.month + 1; day = 1 } in
    let b : d.month + 1 - 1 ≡ d.month = omega arith in
    let s : suc (d.month - 1) ≡ d.month = omega (arith, h.1.0) in
    let f = ap (λ n. days_of_months d.year n) b in
    let g = ap (λ n. days_of_months d.year n) s in
    let k = ap (λ n. days_in_month d.year n) s in
    ((h.0, (omega arith, omega (arith, m)), (omega arith, omega (arith, (month_length d.year (d.month + 1)).0))), omega (arith, counted d, counted e, next_month d.year (d.month - 1), f, g, k, l))

pub next_january : (d : Date) → IsDate d → d.day ≡ days_in_month d.year d.month → d.month ≡ 12 → d.year < 9999 → IsNext d (record { year = d.year + 1; month = 1; day = 1 })
next_january d h l m y =
    let e : Date = record { year = d.year + 1; month = 1; day = 1 } in
    let b : d.year + 1 - 1 ≡ d.year = omega arith in
    let s : suc (d.year - 1) ≡ d.year = omega (arith, h.0.0) in
    let f = ap (λ n. days_of_years n) b in
    let g = ap (λ n. days_of_years n) s in
    let k = ap (λ n. days_in_year n) s in
    let before = ap (λ n. days_of_months d.year (n - 1)) m in
    let december = ap (λ n. days_in_month d.year n) m in (
      ((omega arith, omega (arith, y)), (omega arith, omega arith), (omega arith, omega arith)),
      omega (arith, counted d, counted e, next_year (d.year - 1), f, g, k, l, before, december, months_of_year d.year, next_month d.year 11, no_months (d.year + 1)),
    )

pub is_last : (d : Date) → IsDate d → d.day ≡ days_in_month d.year d.month → d.month ≡ 12 → d.year ≡ 9999 → day_count d ≡ 3652059
is_last d h l m y =
    let z : d.day ≡ 31 = l ∙ (λ i. days_in_month (y i) (m i)) in
    (λ i. day_count (record { year = y i; month = m i; day = z i })) ∙ last_count

reached_by : (d e : Date) → IsNext d e → Counts (suc (day_count d))
reached_by d e h = (e, h.0, h.1)

next : (d : Date) → IsDate d → day_count d < 3652059 → Counts (suc (day_count d))
next d h below =
    elim (cases_lt d.day (days_in_month d.year d.month)) [
      | inl l ↦ reached_by d _ (next_day d h l)
      | inr l ↦ let full : d.day ≡ days_in_month d.year d.month = omega (arith, l, h.2.1) in
          elim (cases_lt d.month 12) [
            | inl m ↦ reached_by d _ (next_first d h full m)
            | inr m ↦ let december : d.month ≡ 12 = omega (arith, m, h.1.1) in
                elim (cases_lt d.year 9999) [
                  | inl y ↦ reached_by d _ (next_january d h full december y)
                  | inr y ↦ absurd (omega (arith, below, is_last d h full december (omega (arith, y, h.0.1))))
                ]
          ]
    ]

count_reached : (n : ℕ) → n < 3652059 → Counts (suc n)
count_reached zero h = (first_date, ((omega arith, omega arith), (omega arith, omega arith), (omega arith, omega arith)), first_is)
count_reached (suc n) h =
    let before = count_reached n (omega (arith, h)) in
    let after = next before.0 before.1 (omega (arith, h, before.2)) in
    (after.0, after.1, after.2 ∙ ap suc before.2)

first_number : day_number first_date ≡ negsuc 719161
first_number = number_of first_date ∙ omega (arith, signed_arith, first_is)

last_number : day_number last_date ≡ pos 2932896
last_number = number_of last_date ∙ omega (arith, signed_arith, last_count)

number_reached : (n : ℕ) (z : ℤ) → n < 3652059 → z ≡ (pos (suc n) -ℤ pos 719163) → (d : Date) × IsDate d × (day_number d ≡ z)
number_reached n z h e =
    let there = count_reached n h in
    (there.0, there.1, number_of there.0 ∙ ap (λ k. pos k -ℤ pos 719163) there.2 ∙ sym e)

up_from : (z : ℤ) → negsuc 719161 ≤ℤ z → z ≤ℤ pos 2932896 → (n : ℕ) × (n < 3652059) × (z ≡ (pos (suc n) -ℤ pos 719163))
up_from (pos n) h k = (n + 719162, omega (arith, signed_arith, k), omega (arith, signed_arith))
up_from (negsuc n) h k = (719161 - n, omega arith, omega (arith, signed_arith, h))

pub reached : DaysAreReached
reached = record {
  first = first_number;
  last = last_number;
  within = number_range;
  apart = one_date;
  reached = λ z h. let there = up_from z h.0 h.1 in number_reached there.0 z there.1 there.2;
}
