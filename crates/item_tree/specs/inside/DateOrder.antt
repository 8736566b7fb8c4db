-- The order of dates and date-times.
use Rattle.std.proofs.Common.{◌≡◌, ℕ}
use Rattle.std.specs.Cmp.{IsTotalOrder, then_total, on_total}
use Rattle.std.specs.declared.cmp.Ordering.TheVariants.{Equal}
use Rattle.std.proofs.lemmas.Cmp.{nat_cmp_total}
use Rattle.std.proofs.lemmas.Map.Lookups.{exact_unsigned, exact_pairs}
use Rattle.item_tree.specs.Dates.{Date, DateTime, date_cmp, date_time_cmp}

pub date_cmp_total : IsTotalOrder date_cmp
date_cmp_total =
    then_total (on_total (λ d. d.year) nat_cmp_total)
    (then_total (on_total (λ d. d.month) nat_cmp_total) (on_total (λ d. d.day) nat_cmp_total))

pub date_time_cmp_total : IsTotalOrder date_time_cmp
date_time_cmp_total =
    then_total (on_total (λ t. t.date) date_cmp_total) (on_total (λ t. t.nanos) nat_cmp_total)

pub date_exact : (d e : Date) → date_cmp d e ≡ Equal → d ≡ e
date_exact d e h =
    let p : ℕ × (ℕ × ℕ) = (d.year, (d.month, d.day)) in
    let q : ℕ × (ℕ × ℕ) = (e.year, (e.month, e.day)) in
    let x = exact_pairs _ _ exact_unsigned (exact_pairs _ _ exact_unsigned exact_unsigned) p q h in
    λ i. record { year = (x i).0; month = (x i).1.0; day = (x i).1.1 }

pub date_time_exact : (t u : DateTime) → date_time_cmp t u ≡ Equal → t ≡ u
date_time_exact t u h =
    let p : Date × ℕ = (t.date, t.nanos) in
    let q : Date × ℕ = (u.date, u.nanos) in
    let x = exact_pairs date_cmp _ date_exact exact_unsigned p q h in
    λ i. record { date = (x i).0; nanos = (x i).1 }
