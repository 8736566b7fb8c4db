-- Dates so many days later. For other crates too.
use Rattle.std.proofs.Common.{◌≡◌, ◌<◌, ◌≤◌, ℕ, zero, suc, ◌+◌, ℤ, pos, negsuc, Option, Some, None, refl, sym, ap, ◌∙◌, arith}
use Rattle.std.specs.Prelude.{MatchOption, option_and_then}
use Rattle.std.proofs.lemmas.Int.{ints}
use Rattle.item_tree.specs.Dates.{Date, IsDate, day_count}
use Rattle.date_atoms.specs.Sums.{IsDaysLater}
use Rattle.date_atoms.specs.Values.{day_after, day_before}
use Rattle.date_atoms.proofs.CivilDays.{number_range, one_date}
use Rattle.date_atoms.proofs.ComputedTexts.{after_is, before_is}
use Rattle.date_atoms.proofs.DayRange.{IsNext, number_of}
use Rattle.fn_table.specs.Dates.{days_after, days_before, days_later}

-- a date with this day count, unless the count is beyond the last one
abbrev IsAfter : ℕ → Option Date → Type 0
IsAfter n o = MatchOption o (3652059 < n) (λ e. IsDate e × (day_count e ≡ n))

after_counts : (n : ℕ) (d : Date) → IsDate d → IsAfter (day_count d + n) (days_after n d)
unfolding days_after
after_counts zero d h = (h, omega arith)
after_counts (suc n) d h = step (day_after d) (after_is d h) (λ e i. after_counts n e i)
  where
    weaker : (e : Date) → day_count e ≡ suc (day_count d) → (r : Option Date) → IsAfter (day_count e + n) r → IsAfter (day_count d + suc n) r
    weaker e s None l = omega (arith, s)
    weaker e s (Some x) l = (l.0, omega (arith, s, l.1))

    step : (o : Option Date) → MatchOption o (day_count d ≡ 3652059) (IsNext d)
        → ((e : Date) → IsDate e → IsAfter (day_count e + n) (days_after n e))
        → IsAfter (day_count d + suc n) (option_and_then (days_after n) o)
    step None last more = omega (arith, last)
    step (Some e) next more = weaker e next.1 (days_after n e) (more e next.0)

-- a date with this day count and so many days, unless there are fewer before it
abbrev IsBefore : ℕ → ℕ → Option Date → Type 0
IsBefore m n o = MatchOption o (m ≤ n) (λ e. IsDate e × (day_count e + n ≡ m))

before_counts : (n : ℕ) (d : Date) → IsDate d → IsBefore (day_count d) n (days_before n d)
unfolding days_before
before_counts zero d h = (h, omega arith)
before_counts (suc n) d h = step (day_before d) (before_is d h) (λ e i. before_counts n e i)
  where
    weaker : (e : Date) → day_count d ≡ suc (day_count e) → (r : Option Date) → IsBefore (day_count e) n r → IsBefore (day_count d) (suc n) r
    weaker e s None l = omega (arith, s)
    weaker e s (Some x) l = (l.0, omega (arith, s, l.1))

    step : (o : Option Date) → MatchOption o (day_count d ≡ 1) (λ e. IsDate e × IsNext e d)
        → ((e : Date) → IsDate e → IsBefore (day_count e) n (days_before n e))
        → IsBefore (day_count d) (suc n) (option_and_then (days_before n) o)
    step None first more = omega (arith, first)
    step (Some e) next more = weaker e next.1.1 (days_before n e) (more e next.0)

after_later : (d : Date) (n : ℕ) (o : Option Date) → IsAfter (day_count d + n) o → MatchOption o ((e : Date) → ¬ IsDaysLater d (pos n) e) (IsDaysLater d (pos n))
after_later d n None l = λ e h. let far = number_range e h.0 in omega (arith, ints, h.1, far.1, number_of d, number_of e)
after_later d n (Some e) h = (h.0, omega (arith, ints, h.1, number_of d, number_of e))

before_later : (d : Date) (n : ℕ) (o : Option Date) → IsBefore (day_count d) (suc n) o → MatchOption o ((e : Date) → ¬ IsDaysLater d (negsuc n) e) (IsDaysLater d (negsuc n))
before_later d n None l = λ e h. let far = number_range e h.0 in omega (arith, ints, h.1, far.0, number_of d, number_of e)
before_later d n (Some e) h = (h.0, omega (arith, ints, h.1, number_of d, number_of e))

pub days_added : (d : Date) (days : ℤ) → IsDate d → MatchOption (days_later d days) ((e : Date) → ¬ IsDaysLater d days e) (IsDaysLater d days)
days_added d (pos n) h = after_later d n (days_after n d) (after_counts n d h)
days_added d (negsuc n) h = before_later d n (days_before (suc n) d) (before_counts (suc n) d h)

-- what a call gives that finds the date so many days later, or that there is none
pub later_is : (r : Option Date) (d : Date) (days : ℤ) → IsDate d → MatchOption r ((e : Date) → ¬ IsDaysLater d days e) (IsDaysLater d days) → r ≡ days_later d days
later_is r d days h m = same r (days_later d days) m (days_added d days h)
  where
    same : (r o : Option Date) → MatchOption r ((e : Date) → ¬ IsDaysLater d days e) (IsDaysLater d days)
        → MatchOption o ((e : Date) → ¬ IsDaysLater d days e) (IsDaysLater d days) → r ≡ o
    same None None m n = refl
    same None (Some e) m n = absurd (m e n)
    same (Some e) None m n = absurd (n e m)
    same (Some e) (Some f) m n = ap Some (one_date e f m.0 n.0 (m.1 ∙ sym n.1))
