-- A date has the day number that `jiff` gives it. For other crates too.
use Rattle.std.proofs.Common.{◌≡◌, ℕ, zero, suc, ◌+◌, ◌-◌, ◌≤◌, refl, sym, ap, ◌∙◌, arith, ℤ, pos, negsuc, ◌+ℤ◌, ◌-ℤ◌, ◌≤ℤ◌, unsigned_abs}
use Rattle.std.specs.Prelude.{Option, Some, None, MatchOption}
use Rattle.std.proofs.lemmas.Int.{ints}
use Rattle.jiff_core.specs.Calendar.{days_from_civil, days_of_years as civil_years, days_of_months as civil_months, day_count as civil_count, days_in_year as civil_year}
use Rattle.jiff_core.specs.Date.{epoch_day}
use Rattle.jiff_core.specs.declared.civil.date.Date.{Date as CivilDate}
use Rattle.jiff_core.proofs.CalendarLemmas.{days_of_months_all}
use Rattle.jiff_core.proofs.SignedLemmas.{signed_arith}
use Rattle.jiff_core.proofs.DateLemmas.{epoch_day_injective, epoch_day_range}
use Rattle.item_tree.specs.Dates.{Date, IsDate, days_in_year, days_in_month, days_of_years, days_of_months, day_count, day_number, first_of_1970}
use Rattle.date_atoms.specs.Sums.{IsDaysLater}
use Rattle.date_atoms.specs.inside.Civil.{IsCivil}

pub next_year : (n : ℕ) → days_of_years (suc n) ≡ days_of_years n + days_in_year (suc n)
unfolding days_of_years
next_year n = refl

no_years : days_of_years 0 ≡ 0
unfolding days_of_years
no_years = refl

next_civil_year : (n : ℕ) → civil_years (suc n) ≡ civil_years n + civil_year (pos n -ℤ pos 10000)
unfolding civil_years
next_civil_year n = refl

year_of : (k : ℕ) → (pos (10001 + k) -ℤ pos 10000) ≡ pos (suc k)
year_of k = omega (arith, ints)

-- the years of `jiff` begin with -10000
same_years : (k : ℕ) → civil_years (10001 + k) ≡ civil_years 10001 + days_of_years k
same_years zero = omega (arith, no_years)
same_years (suc k) =
    let e : 10001 + suc k ≡ suc (10001 + k) = omega arith in
    ap civil_years e ∙ omega (arith, next_civil_year (10001 + k), ap civil_year (year_of k), same_years k, next_year k)

same_months : (y n : ℕ) → civil_months (pos y) n ≡ days_of_months y n
unfolding civil_months days_of_months
same_months y zero = refl
same_months y (suc n) = ap (λ k. k + days_in_month y (suc n)) (same_months y n)

counted : (d : Date) → IsDate d → civil_count (pos d.year) d.month d.day + 1 ≡ civil_years 10001 + day_count d
unfolding civil_count day_count
counted d h =
    let e : unsigned_abs (pos d.year +ℤ pos 10000) ≡ 10001 + (d.year - 1) = omega (arith, signed_arith, h.0.0) in
    let f = ap civil_years e in
    omega (arith, f, same_years (d.year - 1), same_months d.year (d.month - 1), h.2.0)

pub same_number : (d : Date) → IsDate d → day_number d ≡ days_from_civil (pos d.year) d.month d.day
unfolding day_number days_from_civil
same_number d h =
    let first = counted first_of_1970 ((omega arith, omega arith), (omega arith, omega arith), (omega arith, omega arith)) in
    omega (arith, ints, counted d h, first)

-- `jiff` has each date
civil_of : (d : Date) → IsDate d → CivilDate
civil_of d h = record {
  year = pos d.year;
  month = d.month;
  day = d.day;
  year_in = (omega (arith, ints), omega (arith, ints, h.0.1));
  month_in = h.1;
  day_in = h.2;
}

pub number_is : (date : CivilDate) (d : Date) → IsCivil date d → day_number d ≡ epoch_day date
number_is date d h =
    let y : pos d.year ≡ date.year = sym h.1.0 in
    let m : d.month ≡ date.month = omega (arith, ints, h.1.1) in
    let k : d.day ≡ date.day = omega (arith, ints, h.1.2) in
    same_number d h.0 ∙ (λ i. days_from_civil (y i) (m i) (k i))

-- no other date has its number
pub only_number : (date : CivilDate) (d : Date) → IsDate d → day_number d ≡ epoch_day date → IsCivil date d
unfolding civil_of
only_number date d h e =
    let same = epoch_day_injective date (civil_of d h) (sym e ∙ same_number d h) in
    (h, (same.0, ap pos same.1, ap pos same.2))

pub first_count : day_count first_of_1970 ≡ 719163
unfolding day_count days_of_years days_of_months
first_count = refl

at_least_one : (d : Date) → IsDate d → 1 ≤ day_count d
unfolding day_count
at_least_one d h = omega (arith, h.2.0)

-- the numbers of the first and of the last date
pub number_range : (d : Date) → IsDate d → (negsuc 719161 ≤ℤ day_number d) × (day_number d ≤ℤ pos 2932896)
unfolding day_number civil_of
number_range d h =
    let e = same_number d h in
    let r = epoch_day_range (civil_of d h) in
    (omega (arith, signed_arith, at_least_one d h, first_count), omega (arith, signed_arith, e, r.1))

-- what lies so many days after a date of `jiff`
pub match_later : (r : Option Date) (date later : CivilDate) (d : Date) (days : ℤ) → IsCivil date d → epoch_day later ≡ epoch_day date +ℤ days → MatchOption r ((e : Date) → ¬ IsCivil later e) (IsCivil later) → MatchOption r ((e : Date) → ¬ IsDaysLater d days e) (IsDaysLater d days)
match_later None date later d days start sum h = λ e k.
    h e (only_number later e k.0 (k.1 ∙ ap (λ z. z +ℤ days) (number_is date d start) ∙ sym sum))
match_later (Some e) date later d days start sum h =
    (h.0, number_is later e h ∙ sum ∙ ap (λ z. z +ℤ days) (sym (number_is date d start)))

-- no two dates lie further apart
pub within : (a b n : ℤ) → (negsuc 719161 ≤ℤ a) × (a ≤ℤ pos 2932896) → (negsuc 719161 ≤ℤ b) × (b ≤ℤ pos 2932896) → b ≡ a +ℤ n → unsigned_abs n ≤ 3652058
within a b (pos n) h k e = omega (arith, signed_arith, h, k, e)
within a b (negsuc n) h k e = omega (arith, signed_arith, h, k, e)

-- no two dates have one number
pub one_date : (d e : Date) → IsDate d → IsDate e → day_number d ≡ day_number e → d ≡ e
unfolding civil_of
one_date d e h k n =
    let same = epoch_day_injective (civil_of d h) (civil_of e k) (sym (same_number d h) ∙ n ∙ same_number e k) in
    let y : d.year ≡ e.year = omega (arith, ints, same.0) in
    (λ i. record { year = y i; month = same.1 i; day = same.2 i })

pub months_of_year : (y : ℕ) → days_of_months y 12 ≡ days_in_year y
months_of_year y = sym (same_months y 12) ∙ days_of_months_all (pos y)
