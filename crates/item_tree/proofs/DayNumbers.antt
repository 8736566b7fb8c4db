-- Dates compare as their day numbers do.
use Rattle.std.proofs.Common.{◌≡◌, ℕ, zero, suc, ◌+◌, ◌-◌, ◌<◌, ◌≤◌, Bool, true, false, if◌then◌else◌, refl, sym, ap, subst, arith, pos, ◌-ℤ◌, ◌<ℤ◌}
use Rattle.std.specs.Cmp.{ranks, int_cmp_is}
use Rattle.std.specs.Ordering.{MatchOrdering, nat_cmp, ordering_then}
use Rattle.std.specs.declared.cmp.Ordering.{Ordering}
use Rattle.std.specs.declared.cmp.Ordering.TheVariants.{Less, Equal, Greater}
use Rattle.std.proofs.lemmas.Int.{ints}
use Rattle.item_tree.specs.Dates.{Date, IsDate, date_cmp, is_leap_year, days_in_month, days_in_year, days_of_years, days_of_months, day_count, first_of_1970, day_number}
use Rattle.item_tree.specs.Laws.{DaysAreNumbered}

year_months : (y : ℕ) → days_of_months y 12 ≡ days_in_year y
unfolding days_of_months
year_months y = by (is_leap_year y)
  where
    by : (b : Bool) → 0 + 31 + (if b then 29 else 28) + 31 + 30 + 31 + 30 + 31 + 31 + 30 + 31 + 30 + 31 ≡ (if b then 366 else 365)
    by true = refl
    by false = refl

next_month : (y n : ℕ) → days_of_months y (suc n) ≡ days_of_months y n + days_in_month y (suc n)
unfolding days_of_months
next_month y n = refl

next_year : (n : ℕ) → days_of_years (suc n) ≡ days_of_years n + days_in_year (suc n)
unfolding days_of_years
next_year n = refl

months_more : (y m k : ℕ) → days_of_months y m ≤ days_of_months y (m + k)
months_more y m zero =
    let e : m ≡ m + 0 = omega arith in
    let h : days_of_months y m ≤ days_of_months y m = omega arith in
    subst (λ x. days_of_months y m ≤ days_of_months y x) e h
months_more y m (suc k) =
    let e : suc (m + k) ≡ m + suc k = omega arith in
    let h : days_of_months y m ≤ days_of_months y (suc (m + k)) = omega (arith, months_more y m k, next_month y (m + k)) in
    subst (λ x. days_of_months y m ≤ days_of_months y x) e h

years_more : (m k : ℕ) → days_of_years m ≤ days_of_years (m + k)
years_more m zero =
    let e : m ≡ m + 0 = omega arith in
    let h : days_of_years m ≤ days_of_years m = omega arith in
    subst (λ x. days_of_years m ≤ days_of_years x) e h
years_more m (suc k) =
    let e : suc (m + k) ≡ m + suc k = omega arith in
    let h : days_of_years m ≤ days_of_years (suc (m + k)) = omega (arith, years_more m k, next_year (m + k)) in
    subst (λ x. days_of_years m ≤ days_of_years x) e h

months_up : (y m n : ℕ) → m ≤ n → days_of_months y m ≤ days_of_months y n
months_up y m n h =
    let e : m + (n - m) ≡ n = omega arith in
    subst (λ x. days_of_months y m ≤ days_of_months y x) e (months_more y m (n - m))

years_up : (m n : ℕ) → m ≤ n → days_of_years m ≤ days_of_years n
years_up m n h =
    let e : m + (n - m) ≡ n = omega arith in
    subst (λ x. days_of_years m ≤ days_of_years x) e (years_more m (n - m))

-- a date is no later than its month's end, and that no later than its year's
by_month : (d : Date) → IsDate d → days_of_months d.year (d.month - 1) + d.day ≤ days_of_months d.year d.month
by_month d h =
    let e : suc (d.month - 1) ≡ d.month = omega (arith, h.1.0) in
    let f = ap (λ m. days_of_months d.year m) e in
    let g = ap (λ m. days_in_month d.year m) e in
    omega (arith, h.2.1, next_month d.year (d.month - 1))

by_year : (d : Date) → IsDate d → days_of_months d.year (d.month - 1) + d.day ≤ days_in_year d.year
by_year d h = omega (arith, by_month d h, months_up d.year d.month 12 h.1.1, year_months d.year)

counted : (d : Date) → day_count d ≡ days_of_years (d.year - 1) + days_of_months d.year (d.month - 1) + d.day
unfolding day_count
counted d = refl

year_before : (d e : Date) → IsDate d → IsDate e → d.year < e.year → day_count d < day_count e
year_before d e h k l =
    let s : suc (d.year - 1) ≡ d.year = omega (arith, h.0.0) in
    let n = next_year (d.year - 1) in
    let f = ap (λ y. days_of_years y) s in
    let g = ap (λ y. days_in_year y) s in
    let u = years_up d.year (e.year - 1) (omega arith) in
    omega (arith, by_year d h, counted d, counted e, k.2.0)

month_before : (d e : Date) → IsDate d → IsDate e → d.year ≡ e.year → d.month < e.month → day_count d < day_count e
month_before d e h k s l =
    let u = months_up d.year d.month (e.month - 1) (omega arith) in
    let f = ap (λ y. days_of_years (y - 1)) s in
    let g = ap (λ y. days_of_months y (e.month - 1)) s in
    omega (arith, by_month d h, counted d, counted e, k.2.0)

day_before : (d e : Date) → d.year ≡ e.year → d.month ≡ e.month → d.day < e.day → day_count d < day_count e
day_before d e s t l =
    let f = ap (λ y. days_of_years (y - 1)) s in
    let g : days_of_months d.year (d.month - 1) ≡ days_of_months e.year (e.month - 1) = λ i. days_of_months (s i) (t i - 1) in
    omega (arith, counted d, counted e)

counts : (d e : Date) → IsDate d → IsDate e → (r s t : Ordering)
    → MatchOrdering r (d.year < e.year) (d.year ≡ e.year) (e.year < d.year)
    → MatchOrdering s (d.month < e.month) (d.month ≡ e.month) (e.month < d.month)
    → MatchOrdering t (d.day < e.day) (d.day ≡ e.day) (e.day < d.day)
    → MatchOrdering (ordering_then r (ordering_then s t)) (day_count d < day_count e) (day_count d ≡ day_count e) (day_count e < day_count d)
counts d e h k Less s t a b c = year_before d e h k a
counts d e h k Greater s t a b c = year_before e d k h a
counts d e h k Equal Less t a b c = month_before d e h k a b
counts d e h k Equal Greater t a b c = month_before e d k h (sym a) b
counts d e h k Equal Equal Less a b c = day_before d e a b c
counts d e h k Equal Equal Greater a b c = day_before e d (sym a) (sym b) c
counts d e h k Equal Equal Equal a b c = λ i. day_count (record { year = a i; month = b i; day = c i })

numbers : (m n k : ℕ) (r : Ordering) → MatchOrdering r (m < n) (m ≡ n) (n < m)
    → MatchOrdering r ((pos m -ℤ pos k) <ℤ (pos n -ℤ pos k)) ((pos m -ℤ pos k) ≡ (pos n -ℤ pos k)) ((pos n -ℤ pos k) <ℤ (pos m -ℤ pos k))
numbers m n k Less h = omega (arith, ints)
numbers m n k Equal h = ap (λ x. pos x -ℤ pos k) h
numbers m n k Greater h = omega (arith, ints)

none_left : (k : ℕ) → (pos k -ℤ pos k) ≡ pos 0
none_left k = omega (arith, ints)

pub days_numbered : DaysAreNumbered
unfolding day_number
days_numbered = record {
  first = none_left (day_count first_of_1970);
  ordered = λ d e h k.
      int_cmp_is (day_number d) (day_number e) (date_cmp d e)
      (numbers (day_count d) (day_count e) (day_count first_of_1970) (date_cmp d e) (counts d e h k (nat_cmp d.year e.year) (nat_cmp d.month e.month) (nat_cmp d.day e.day) (ranks d.year e.year) (ranks d.month e.month) (ranks d.day e.day)));
}
