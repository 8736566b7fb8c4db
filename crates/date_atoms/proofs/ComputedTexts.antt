-- What texts say is what the functions of `Values` compute. For other crates too.
use Rattle.std.proofs.Common.{◌≡◌, ℕ, zero, suc, ◌+◌, ◌-◌, ◌*◌, ◌/◌, ◌%◌, ◌^◌, ◌<◌, ◌≤◌, ◌&&◌, if◌then◌else◌, Bool, true, false, List, [], ◌∷◌, ◌++◌, take, drop, refl, sym, ap, subst, ◌∙◌, arith, ℤ, pos, negsuc, ◌-ℤ◌, ◌*ℤ◌, ◌≤ℤ◌, ◌<ℤ◌}
use Rattle.std.specs.Prelude.{Option, Some, None, MatchOption, nat_lt, nat_le}
use Rattle.std.specs.Int.{IsInRange}
use Rattle.std.specs.List.{prefix_len}
use Rattle.std.specs.Str.{bytes_eq}
use Rattle.std.proofs.Math.Nat.{pow-succ'}
use Rattle.std.proofs.lemmas.Bool.{and_parts, and_from, ltb-true, ltb-false, lt-ltb, leb-true, le-leb}
use Rattle.std.proofs.lemmas.Slice.Eq.{bytes_eq-Decides}
use Rattle.jiff_core.proofs.SignedLemmas.{signed_arith}
use Rattle.item_tree.specs.Digits.{last_digits}
use Rattle.item_tree.specs.Dates.{Date, DateTime, IsDate, days_in_month, day_count, nanos_of_day, date_text}
use Rattle.date_atoms.specs.Texts.{IsDateText, Fraction, no_fraction, fraction, IsFraction, fraction_text, fraction_nanos, Offset, no_offset, utc, ahead, behind, IsOffset, offset_text, offset_minutes, minutes_text, Said, IsSaid, said_text, said_nanos, nanos_since, IsMomentAt, IsDateTimeText}
use Rattle.date_atoms.specs.Values.{number_from, in_range, is_date, date_at, said_date, day_after, month_end, day_before, is_fraction, is_offset, is_said, minutes_at, fraction_at, offset_at, said_at, at_nanos, moment_since, nanos_at, said_moment}
use Rattle.date_atoms.specs.Laws.{TextsCompute}
use Rattle.date_atoms.specs.inside.Fronts.{is_fraction_byte}
use Rattle.date_atoms.proofs.CivilDays.{number_range}
use Rattle.date_atoms.proofs.DayRange.{month_length, IsNext, next_day, next_first, next_january, is_last, first_is, number_of}
use Rattle.date_atoms.proofs.DigitTexts.{length_digits}
use Rattle.date_atoms.proofs.TailTexts.{tail_split, scaled}

-- ---- tests

range_is : (low high n : ℕ) → in_range low high n ≡ true → IsInRange low high n
range_is low high n h = let p = and_parts (nat_le low n) (nat_le n high) h in (leb-true low n p.0, leb-true n high p.1)

range_was : (low high n : ℕ) → IsInRange low high n → in_range low high n ≡ true
range_was low high n h = and_from (nat_le low n) (nat_le n high) (le-leb low n h.0) (le-leb n high h.1)

date_is : (d : Date) → is_date d ≡ true → IsDate d
date_is d h =
    let p = and_parts (in_range 1 9999 d.year && in_range 1 12 d.month) (in_range 1 (days_in_month d.year d.month) d.day) h in
    let q = and_parts (in_range 1 9999 d.year) (in_range 1 12 d.month) p.0 in
    (range_is 1 9999 d.year q.0, range_is 1 12 d.month q.1, range_is 1 (days_in_month d.year d.month) d.day p.1)

date_was : (d : Date) → IsDate d → is_date d ≡ true
date_was d h =
    and_from (in_range 1 9999 d.year && in_range 1 12 d.month) (in_range 1 (days_in_month d.year d.month) d.day)
    (and_from (in_range 1 9999 d.year) (in_range 1 12 d.month) (range_was 1 9999 d.year h.0) (range_was 1 12 d.month h.1))
    (range_was 1 (days_in_month d.year d.month) d.day h.2)

fraction_is : (f : Fraction) → is_fraction f ≡ true → IsFraction f
fraction_is no_fraction h = tt
fraction_is (fraction count n) h =
    let p = and_parts (in_range 1 9 count) (nat_lt n (10 ^ count)) h in (range_is 1 9 count p.0, ltb-true n (10 ^ count) p.1)

fraction_was : (f : Fraction) → IsFraction f → is_fraction f ≡ true
fraction_was no_fraction h = refl
fraction_was (fraction count n) h = and_from (in_range 1 9 count) (nat_lt n (10 ^ count)) (range_was 1 9 count h.0) (lt-ltb n (10 ^ count) h.1)

offset_is : (o : Offset) → is_offset o ≡ true → IsOffset o
offset_is no_offset h = tt
offset_is utc h = tt
offset_is (ahead m) h = ltb-true m 1440 h
offset_is (behind m) h = ltb-true m 1440 h

offset_was : (o : Offset) → IsOffset o → is_offset o ≡ true
offset_was no_offset h = refl
offset_was utc h = refl
offset_was (ahead m) h = lt-ltb m 1440 h
offset_was (behind m) h = lt-ltb m 1440 h

said_is : (s : Said) → is_said s ≡ true → IsSaid s
said_is s h =
    let p = and_parts (is_date s.date && nat_lt s.clock 86400 && is_fraction s.fraction) (is_offset s.offset) h in
    let q = and_parts (is_date s.date && nat_lt s.clock 86400) (is_fraction s.fraction) p.0 in
    let r = and_parts (is_date s.date) (nat_lt s.clock 86400) q.0 in
    (date_is s.date r.0, ltb-true s.clock 86400 r.1, fraction_is s.fraction q.1, offset_is s.offset p.1)

said_was : (s : Said) → IsSaid s → is_said s ≡ true
said_was s h =
    and_from (is_date s.date && nat_lt s.clock 86400 && is_fraction s.fraction) (is_offset s.offset)
    (and_from (is_date s.date && nat_lt s.clock 86400) (is_fraction s.fraction)
    (and_from (is_date s.date) (nat_lt s.clock 86400) (date_was s.date h.0) (lt-ltb s.clock 86400 h.1)) (fraction_was s.fraction h.2))
    (offset_was s.offset h.3)

same_text : (t w : List ℕ) → bytes_eq t w ≡ true → t ≡ w
same_text t w h = (bytes_eq-Decides t w).0 h

text_same : (t w : List ℕ) → t ≡ w → bytes_eq t w ≡ true
text_same t w h = (bytes_eq-Decides t w).1 h

-- ---- numbers

number_more : (n : ℕ) (l : List ℕ) (b : ℕ) → number_from n (l ++ b ∷ []) ≡ number_from n l * 10 + (b - 48)
number_more n [] b = refl
number_more n (x ∷ l) b = number_more (n * 10 + (x - 48)) l b

number_back : (count n : ℕ) → n < 10 ^ count → number_from 0 (last_digits count n) ≡ n
number_back zero n h = omega (arith, h)
number_back (suc count) n h =
    omega (arith, number_more 0 (last_digits count (n / 10)) (48 + n % 10), number_back count (n / 10) (omega (arith, h, pow-succ' 10 count)))

-- ---- dates

date_back : (d : Date) → IsDate d → date_at (date_text d) ≡ d
date_back d h =
    let y = number_back 4 d.year (omega (arith, h.0.1)) in
    let m = number_back 2 d.month (omega (arith, h.1.1)) in
    let k = number_back 2 d.day (omega (arith, h.2.1, (month_length d.year d.month).1)) in
    (λ i. record { year = y i; month = m i; day = k i })

date_case : (b : Bool) (t : List ℕ) → (is_date (date_at t) && bytes_eq t (date_text (date_at t))) ≡ b
    → MatchOption (if b then Some (date_at t) else None) ((d : Date) → ¬ IsDateText d t) (λ d. IsDateText d t)
date_case true t e = let p = and_parts (is_date (date_at t)) (bytes_eq t (date_text (date_at t))) e in (date_is (date_at t) p.0, same_text t (date_text (date_at t)) p.1)
date_case false t e = λ d h.
    let same : date_at t ≡ d = ap date_at h.1 ∙ date_back d h.0 in
    let there = subst (λ x. IsDateText x t) (sym same) h in
    let passes = and_from (is_date (date_at t)) (bytes_eq t (date_text (date_at t))) (date_was (date_at t) there.0) (text_same t (date_text (date_at t)) there.1) in
    cc (passes, e)

date_computed : (t : List ℕ) → MatchOption (said_date t) ((d : Date) → ¬ IsDateText d t) (λ d. IsDateText d t)
date_computed t = date_case (is_date (date_at t) && bytes_eq t (date_text (date_at t))) t refl

-- ---- the day after and the day before

after_case : (a b c : Bool) (d : Date) → IsDate d → nat_lt d.day (days_in_month d.year d.month) ≡ a → nat_lt d.month 12 ≡ b → nat_lt d.year 9999 ≡ c
    → MatchOption (if a then Some (record { year = d.year; month = d.month; day = d.day + 1 }) else if b then Some (record { year = d.year; month = d.month + 1; day = 1 }) else if c then Some (record { year = d.year + 1; month = 1; day = 1 }) else None) (day_count d ≡ 3652059) (IsNext d)
after_case true b c d h p q r = next_day d h (ltb-true _ _ p)
after_case false true c d h p q r =
    let full : d.day ≡ days_in_month d.year d.month = omega (arith, ltb-false _ _ p, h.2.1) in next_first d h full (ltb-true _ _ q)
after_case false false true d h p q r =
    let full : d.day ≡ days_in_month d.year d.month = omega (arith, ltb-false _ _ p, h.2.1) in
    let december : d.month ≡ 12 = omega (arith, ltb-false _ _ q, h.1.1) in
    next_january d h full december (ltb-true _ _ r)
after_case false false false d h p q r =
    let full : d.day ≡ days_in_month d.year d.month = omega (arith, ltb-false _ _ p, h.2.1) in
    let december : d.month ≡ 12 = omega (arith, ltb-false _ _ q, h.1.1) in
    is_last d h full december (omega (arith, ltb-false _ _ r, h.0.1))

pub after_is : (d : Date) → IsDate d → MatchOption (day_after d) (day_count d ≡ 3652059) (IsNext d)
after_is d h = after_case (nat_lt d.day (days_in_month d.year d.month)) (nat_lt d.month 12) (nat_lt d.year 9999) d h refl refl refl

-- the numbers of a date in other forms
next_same : (e d : Date) (y m k : ℕ) → IsNext e (record { year = y; month = m; day = k }) → y ≡ d.year → m ≡ d.month → k ≡ d.day → IsNext e d
next_same e d y m k h p q r = subst (λ x. IsNext e x) (λ i. record { year = p i; month = q i; day = r i }) h

before_case : (a b c : Bool) (d : Date) → IsDate d → nat_lt 1 d.day ≡ a → nat_lt 1 d.month ≡ b → nat_lt 1 d.year ≡ c
    → MatchOption (if a then Some (record { year = d.year; month = d.month; day = d.day - 1 }) else if b then Some (month_end d.year (d.month - 1)) else if c then Some (month_end (d.year - 1) 12) else None) (day_count d ≡ 1) (λ e. IsDate e × IsNext e d)
before_case true b c d h p q r =
    let e : Date = record { year = d.year; month = d.month; day = d.day - 1 } in
    let more = ltb-true _ _ p in
    let is : IsDate e = (h.0, h.1, (omega (arith, more), omega (arith, h.2.1))) in
    (is, next_same e d d.year d.month (d.day - 1 + 1) (next_day e is (omega (arith, more, h.2.1))) refl refl (omega (arith, more)))
before_case false true c d h p q r =
    let e = month_end d.year (d.month - 1) in
    let more = ltb-true _ _ q in
    let is : IsDate e = (h.0, (omega (arith, more), omega (arith, h.1.1)), (omega (arith, (month_length d.year (d.month - 1)).0), omega arith)) in
    (is, next_same e d d.year (d.month - 1 + 1) 1 (next_first e is refl (omega (arith, more, h.1.1))) refl (omega (arith, more)) (omega (arith, ltb-false _ _ p, h.2.0)))
before_case false false true d h p q r =
    let e = month_end (d.year - 1) 12 in
    let more = ltb-true _ _ r in
    let is : IsDate e = ((omega (arith, more), omega (arith, h.0.1)), (omega arith, omega arith), (omega (arith, (month_length (d.year - 1) 12).0), omega arith)) in
    (is, next_same e d (d.year - 1 + 1) 1 1 (next_january e is refl refl (omega (arith, more, h.0.1))) (omega (arith, more)) (omega (arith, ltb-false _ _ q, h.1.0)) (omega (arith, ltb-false _ _ p, h.2.0)))
before_case false false false d h p q r =
    let y : d.year ≡ 1 = omega (arith, ltb-false _ _ r, h.0.0) in
    let m : d.month ≡ 1 = omega (arith, ltb-false _ _ q, h.1.0) in
    let k : d.day ≡ 1 = omega (arith, ltb-false _ _ p, h.2.0) in
    (λ i. day_count (record { year = y i; month = m i; day = k i })) ∙ first_is

pub before_is : (d : Date) → IsDate d → MatchOption (day_before d) (day_count d ≡ 1) (λ e. IsDate e × IsNext e d)
before_is d h = before_case (nat_lt 1 d.day) (nat_lt 1 d.month) (nat_lt 1 d.year) d h refl refl refl

-- ---- moments near a midnight

-- a moment on this date, if there is one
abbrev OnDate : ℕ → ℤ → Option Date → Type 0
OnDate k z o = MatchOption o ((t : DateTime) → ¬ IsMomentAt z t) (λ e. IsDate e × (nanos_since e (pos k) ≡ z))

at_is : (o : Option Date) (k : ℕ) (z : ℤ) → k < nanos_of_day → OnDate k z o → MatchOption (at_nanos k o) ((t : DateTime) → ¬ IsMomentAt z t) (IsMomentAt z)
at_is None k z l h = h
at_is (Some e) k z l h = ((h.0, l), h.1)

after_moment : (o : Option Date) (d : Date) (n : ℕ) → nanos_of_day ≤ n → MatchOption o (day_count d ≡ 3652059) (IsNext d) → OnDate (n - nanos_of_day) (nanos_since d (pos n)) o
after_moment None d n more last = λ t h.
    let far = number_range t.date h.0.0 in
    omega (arith, signed_arith, more, h.0.1, h.1, far.1, number_of d, last)
after_moment (Some e) d n more h = (h.0, omega (arith, signed_arith, more, h.1, number_of d, number_of e))

before_moment : (o : Option Date) (d : Date) (n : ℕ) → suc n ≤ nanos_of_day → MatchOption o (day_count d ≡ 1) (λ e. IsDate e × IsNext e d) → OnDate (nanos_of_day - suc n) (nanos_since d (negsuc n)) o
before_moment None d n less first = λ t h.
    let far = number_range t.date h.0.0 in
    omega (arith, signed_arith, less, h.0.1, h.1, far.0, number_of d, first)
before_moment (Some e) d n less h = (h.0, omega (arith, signed_arith, less, h.1.1, number_of d, number_of e))

since_case : (b : Bool) (d : Date) (n : ℕ) → IsDate d → n < nanos_of_day + nanos_of_day → nat_lt n nanos_of_day ≡ b
    → MatchOption (if b then at_nanos n (Some d) else at_nanos (n - nanos_of_day) (day_after d)) ((t : DateTime) → ¬ IsMomentAt (nanos_since d (pos n)) t) (IsMomentAt (nanos_since d (pos n)))
since_case true d n h l e = ((h, ltb-true _ _ e), refl)
since_case false d n h l e =
    at_is (day_after d) (n - nanos_of_day) (nanos_since d (pos n)) (omega (arith, l)) (after_moment (day_after d) d n (ltb-false _ _ e) (after_is d h))

since_is : (d : Date) (z : ℤ) → IsDate d → (pos 0 -ℤ pos nanos_of_day) ≤ℤ z → z <ℤ pos (nanos_of_day + nanos_of_day) → MatchOption (moment_since d z) ((t : DateTime) → ¬ IsMomentAt (nanos_since d z) t) (IsMomentAt (nanos_since d z))
since_is d (pos n) h low high = since_case (nat_lt n nanos_of_day) d n h (omega (arith, signed_arith, high)) refl
since_is d (negsuc n) h low high =
    at_is (day_before d) (nanos_of_day - suc n) (nanos_since d (negsuc n)) (omega arith) (before_moment (day_before d) d n (omega (arith, signed_arith, low)) (before_is d h))

-- ---- what is said, in UTC

fraction_small : (f : Fraction) → IsFraction f → fraction_nanos f < 10 ^ 9
fraction_small no_fraction h = omega arith
fraction_small (fraction count n) h = scaled count n h.0.1 h.1

nanos_near : (clock f : ℕ) (o : Offset) → clock < 86400 → f < 10 ^ 9 → IsOffset o
    → ((pos 0 -ℤ pos nanos_of_day) ≤ℤ (pos (clock * 10 ^ 9 + f) -ℤ offset_minutes o *ℤ pos (60 * 10 ^ 9)))
    × ((pos (clock * 10 ^ 9 + f) -ℤ offset_minutes o *ℤ pos (60 * 10 ^ 9)) <ℤ pos (nanos_of_day + nanos_of_day))
nanos_near clock f no_offset h k l = (omega (arith, signed_arith, h, k), omega (arith, signed_arith, h, k))
nanos_near clock f utc h k l = (omega (arith, signed_arith, h, k), omega (arith, signed_arith, h, k))
nanos_near clock f (ahead m) h k l = (omega (arith, signed_arith, h, k, l), omega (arith, signed_arith, h, k, l))
nanos_near clock f (behind m) h k l = (omega (arith, signed_arith, h, k, l), omega (arith, signed_arith, h, k, l))

-- ---- moments

minutes_back : (m : ℕ) → m < 1440 → minutes_at (minutes_text m) ≡ m
minutes_back m h = omega (arith, number_back 2 (m / 60) (omega (arith, h)), number_back 2 (m % 60) (omega arith))

fraction_back : (f : Fraction) → IsFraction f → fraction_at (fraction_text f) ≡ f
fraction_back no_fraction h = refl
fraction_back (fraction count n) h = λ i. fraction (length_digits count n i) (number_back count n h.1 i)

offset_back : (o : Offset) → IsOffset o → offset_at (offset_text o) ≡ o
offset_back no_offset h = refl
offset_back utc h = refl
offset_back (ahead m) h = ap ahead (minutes_back m h)
offset_back (behind m) h = ap behind (minutes_back m h)

clock_back : (s : ℕ) (a b c : ℕ) → s < 86400 → a ≡ s / 3600 → b ≡ s / 60 % 60 → c ≡ s % 60 → a * 3600 + b * 60 + c ≡ s
clock_back s a b c h x y z = omega (arith, x, y, z)

said_back : (s : Said) → IsSaid s → said_at (said_text s) ≡ s
said_back s h =
    let tail = fraction_text s.fraction ++ offset_text s.offset in
    let len = prefix_len is_fraction_byte tail in
    let split = tail_split tail (take len tail) (drop len tail) len s.fraction s.offset (h.2, h.3, refl) refl refl refl in
    let d = date_back s.date h.0 in
    let k = clock_back s.clock _ _ _ h.1 (number_back 2 (s.clock / 3600) (omega (arith, h.1))) (number_back 2 (s.clock / 60 % 60) (omega arith)) (number_back 2 (s.clock % 60) (omega arith)) in
    let f : fraction_at (take len tail) ≡ s.fraction = ap fraction_at split.0.1 ∙ fraction_back s.fraction h.2 in
    let o : offset_at (drop len tail) ≡ s.offset = ap offset_at split.1.1 ∙ offset_back s.offset h.3 in
    (λ i. record { date = d i; clock = k i; fraction = f i; offset = o i })

-- what a text says is what stands at its places
said_there : (t : List ℕ) (m : DateTime) (k : IsDateTimeText m t) → said_at t ≡ k.0
said_there t m k = ap said_at k.2 ∙ said_back k.0 k.1

said_moments : (o : Option DateTime) (t : List ℕ) → IsSaid (said_at t) → t ≡ said_text (said_at t) → MatchOption o ((m : DateTime) → ¬ IsMomentAt (said_nanos (said_at t)) m) (IsMomentAt (said_nanos (said_at t))) → MatchOption o ((m : DateTime) → ¬ IsDateTimeText m t) (λ m. IsDateTimeText m t)
said_moments None t h e none = λ m k. none m (subst (λ x. IsMomentAt (said_nanos x) m) (sym (said_there t m k)) k.3)
said_moments (Some m) t h e is = (said_at t, h, e, is)

moment_case : (b : Bool) (t : List ℕ) → (is_said (said_at t) && bytes_eq t (said_text (said_at t))) ≡ b
    → MatchOption (if b then moment_since (said_at t).date (nanos_at (said_at t)) else None) ((m : DateTime) → ¬ IsDateTimeText m t) (λ m. IsDateTimeText m t)
moment_case true t e =
    let s = said_at t in
    let p = and_parts (is_said s) (bytes_eq t (said_text s)) e in
    let h = said_is s p.0 in
    let near = nanos_near s.clock (fraction_nanos s.fraction) s.offset h.1 (fraction_small s.fraction h.2) h.3 in
    said_moments (moment_since s.date (nanos_at s)) t h (same_text t (said_text s) p.1) (since_is s.date (nanos_at s) h.0 near.0 near.1)
moment_case false t e = λ m k.
    let s = said_at t in
    let same = said_there t m k in
    let h = subst (λ x. IsSaid x) (sym same) k.1 in
    let text : t ≡ said_text s = k.2 ∙ ap said_text (sym same) in
    let passes = and_from (is_said s) (bytes_eq t (said_text s)) (said_was s h) (text_same t (said_text s) text) in
    cc (passes, e)

moment_computed : (t : List ℕ) → MatchOption (said_moment t) ((m : DateTime) → ¬ IsDateTimeText m t) (λ m. IsDateTimeText m t)
moment_computed t = moment_case (is_said (said_at t) && bytes_eq t (said_text (said_at t))) t refl

-- For other crates too.
pub texts_computed : TextsCompute
texts_computed = record { date = date_computed; date_time = moment_computed }
