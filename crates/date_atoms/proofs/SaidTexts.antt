-- What a whole text says, and that it says no other.
use Rattle.std.proofs.Common.{◌≡◌, ℕ, zero, suc, ◌+◌, ◌-◌, ◌*◌, ◌/◌, ◌%◌, ◌^◌, ◌<◌, List, [], ◌∷◌, ◌++◌, length, get_or, take, drop, refl, sym, ap, subst, ◌∙◌, arith, ℤ, pos, negsuc, ◌-ℤ◌, ◌*ℤ◌, unsigned_abs}
use Rattle.std.specs.Prelude.{Option, Some, None, MatchOption}
use Rattle.std.specs.Str.{chars, IsUtf8, IsAscii}
use Rattle.std.specs.List.{prefix_len}
use Rattle.std.proofs.Math.Utf8.{encodes}
use Rattle.std.proofs.lemmas.List.{take-append-drop}
use Rattle.std.proofs.lemmas.Str.{chars-IsAscii, encodes-chars, encodes-IsAscii, IsAscii-append, IsUtf8-from_ascii}
use Rattle.std.proofs.lemmas.Str.Ascii.{IsAscii-nil, IsAscii-cons}
use Rattle.jiff_core.proofs.SignedLemmas.{signed_arith}
use Rattle.item_tree.specs.Digits.{last_digits}
use Rattle.item_tree.specs.Dates.{Date, DateTime, date_text, clock_text}
use Rattle.item_tree.proofs.AtomTexts.{digits_ascii}
use Rattle.date_atoms.specs.Texts.{IsDateText, Fraction, no_fraction, fraction, fraction_text, fraction_nanos, Offset, no_offset, utc, ahead, behind, IsOffset, offset_text, offset_minutes, minutes_text, Said, IsSaid, said_text, said_nanos, nanos_since, IsMomentAt, IsDateTimeText}
use Rattle.date_atoms.specs.inside.Fronts.{IsTriple, IsTimeFront, IsTail, IsFractionText, IsOffsetText, is_fraction_byte}
use Rattle.date_atoms.proofs.DigitTexts.{same_front, triple_same, date_triple, length_digits}
use Rattle.date_atoms.proofs.TailTexts.{tail_split}

-- ---- the texts are ASCII

joined : (mark : ℕ) (a b : List ℕ) → mark < 128 → IsAscii a → IsAscii b → IsAscii (a ++ mark ∷ b)
joined mark a b l h k = IsAscii-append a (mark ∷ b) h (IsAscii-cons mark b l k)

date_ascii : (d : Date) → IsAscii (date_text d)
date_ascii d =
    joined 45 (last_digits 4 d.year ++ 45 ∷ last_digits 2 d.month) (last_digits 2 d.day) (omega arith)
    (joined 45 (last_digits 4 d.year) (last_digits 2 d.month) (omega arith) (digits_ascii 4 d.year) (digits_ascii 2 d.month))
    (digits_ascii 2 d.day)

minutes_ascii : (m : ℕ) → IsAscii (minutes_text m)
minutes_ascii m =
    joined 58 (last_digits 2 (m / 60)) (last_digits 2 (m % 60)) (omega arith) (digits_ascii 2 (m / 60)) (digits_ascii 2 (m % 60))

clock_ascii : (s : ℕ) → IsAscii (clock_text s)
clock_ascii s =
    joined 58 (last_digits 2 (s / 3600) ++ 58 ∷ last_digits 2 (s / 60 % 60)) (last_digits 2 (s % 60)) (omega arith)
    (joined 58 (last_digits 2 (s / 3600)) (last_digits 2 (s / 60 % 60)) (omega arith) (digits_ascii 2 (s / 3600)) (digits_ascii 2 (s / 60 % 60)))
    (digits_ascii 2 (s % 60))

fraction_ascii : (f : Fraction) → IsAscii (fraction_text f)
fraction_ascii no_fraction = IsAscii-nil
fraction_ascii (fraction count n) = IsAscii-cons 46 (last_digits count n) (omega arith) (digits_ascii count n)

offset_ascii : (o : Offset) → IsAscii (offset_text o)
offset_ascii no_offset = IsAscii-nil
offset_ascii utc = IsAscii-cons 90 [] (omega arith) IsAscii-nil
offset_ascii (ahead m) = IsAscii-cons 43 (minutes_text m) (omega arith) (minutes_ascii m)
offset_ascii (behind m) = IsAscii-cons 45 (minutes_text m) (omega arith) (minutes_ascii m)

said_ascii : (s : Said) → IsAscii (said_text s)
said_ascii s =
    IsAscii-append (date_text s.date ++ 84 ∷ clock_text s.clock ++ fraction_text s.fraction) (offset_text s.offset)
    (IsAscii-append (date_text s.date ++ 84 ∷ clock_text s.clock) (fraction_text s.fraction) (joined 84 (date_text s.date) (clock_text s.clock) (omega arith) (date_ascii s.date) (clock_ascii s.clock)) (fraction_ascii s.fraction))
    (offset_ascii s.offset)

from_chars : (bytes w : List ℕ) → IsUtf8 bytes → IsAscii w → chars bytes ≡ w → bytes ≡ w
from_chars bytes w text ascii e = sym (encodes-chars bytes text) ∙ ap encodes e ∙ encodes-IsAscii w ascii

to_chars : (bytes w : List ℕ) → IsAscii w → bytes ≡ w → chars bytes ≡ w
to_chars bytes w ascii e = ap chars e ∙ chars-IsAscii w ascii

-- ---- dates

pub date_same : (bytes : List ℕ) (d e : Date) → IsDateText d bytes → IsDateText e bytes → d ≡ e
date_same bytes d e h k =
    let q = triple_same 4 45 bytes d.year d.month d.day e.year e.month e.day [] [] (date_triple bytes d h) (date_triple bytes e k) in
    (λ i. record { year = q.0 i; month = q.1 i; day = q.2 i })

pub date_said : (bytes : List ℕ) (d : Date) → IsDateText d bytes → IsDateText d (chars bytes)
date_said bytes d h = (h.0, to_chars bytes (date_text d) (date_ascii d) h.1)

pub date_unsaid : (bytes : List ℕ) (d : Date) → IsUtf8 bytes → IsDateText d (chars bytes) → IsDateText d bytes
date_unsaid bytes d text h = (h.0, from_chars bytes (date_text d) text (date_ascii d) h.1)

pub date_utf8 : (bytes : List ℕ) (d : Date) → IsDateText d bytes → IsUtf8 bytes
date_utf8 bytes d h = subst (λ l. IsUtf8 l) (sym h.1) (IsUtf8-from_ascii (date_text d) (date_ascii d))

pub moment_said : (bytes : List ℕ) (t : DateTime) → IsDateTimeText t bytes → IsDateTimeText t (chars bytes)
moment_said bytes t h = (h.0, h.1, to_chars bytes (said_text h.0) (said_ascii h.0) h.2, h.3)

pub moment_unsaid : (bytes : List ℕ) (t : DateTime) → IsUtf8 bytes → IsDateTimeText t (chars bytes) → IsDateTimeText t bytes
moment_unsaid bytes t text h = (h.0, h.1, from_chars bytes (said_text h.0) text (said_ascii h.0) h.2, h.3)

pub moment_utf8 : (bytes : List ℕ) (t : DateTime) → IsDateTimeText t bytes → IsUtf8 bytes
moment_utf8 bytes t h = subst (λ l. IsUtf8 l) (sym h.2) (IsUtf8-from_ascii (said_text h.0) (said_ascii h.0))

-- the same of what was read
pub date_read : (r : Option Date) (bytes : List ℕ) → IsUtf8 bytes → MatchOption r ((d : Date) → ¬ IsDateText d bytes) (λ d. IsDateText d bytes) → MatchOption r ((d : Date) → ¬ IsDateText d (chars bytes)) (λ d. IsDateText d (chars bytes))
date_read None bytes text h = λ d k. h d (date_unsaid bytes d text k)
date_read (Some d) bytes text h = date_said bytes d h

-- ---- the parts of a moment

fraction_same : (bytes : List ℕ) (f g : Fraction) → IsFractionText f bytes → IsFractionText g bytes → fraction_nanos f ≡ fraction_nanos g
fraction_same bytes no_fraction no_fraction h k = refl
fraction_same bytes no_fraction (fraction e m) h k = absurd (omega (arith, ap length h.1, ap length k.1))
fraction_same bytes (fraction c n) no_fraction h k = absurd (omega (arith, ap length h.1, ap length k.1))
fraction_same bytes (fraction c n) (fraction e m) h k =
    let t : last_digits c n ≡ last_digits e m = ap (λ l. drop 1 l) (sym h.1 ∙ k.1) in
    let size : e ≡ c = omega (arith, ap length t, length_digits c n, length_digits e m) in
    let same = (same_front c n m [] [] h.0.1 (subst (λ j. m < 10 ^ j) size k.0.1) (ap (λ l. l ++ []) (t ∙ ap (λ j. last_digits j m) size))).0 in
    (λ i. same i * 10 ^ (9 - sym size i))

minutes_same : (m n : ℕ) → m < 1440 → n < 1440 → minutes_text m ≡ minutes_text n → m ≡ n
minutes_same m n h k e =
    let first = same_front 2 (m / 60) (n / 60) (58 ∷ last_digits 2 (m % 60)) (58 ∷ last_digits 2 (n % 60)) (omega arith) (omega arith) e in
    let second = same_front 2 (m % 60) (n % 60) [] [] (omega arith) (omega arith) (ap (λ l. drop 1 l) first.1) in
    omega (arith, first.0, second.0)

other_sign : (r s : List ℕ) → ¬ (43 ∷ r ≡ 45 ∷ s)
other_sign r s e = omega (arith, ap (λ l. get_or l 0 0) e)

offset_same : (bytes : List ℕ) (o p : Offset) → IsOffsetText o bytes → IsOffsetText p bytes → offset_minutes o ≡ offset_minutes p
offset_same bytes no_offset no_offset h k = refl
offset_same bytes no_offset utc h k = refl
offset_same bytes no_offset (ahead m) h k = absurd (omega (arith, ap length h.1, ap length k.1))
offset_same bytes no_offset (behind m) h k = absurd (omega (arith, ap length h.1, ap length k.1))
offset_same bytes utc no_offset h k = refl
offset_same bytes utc utc h k = refl
offset_same bytes utc (ahead m) h k = absurd (omega (arith, ap length h.1, ap length k.1))
offset_same bytes utc (behind m) h k = absurd (omega (arith, ap length h.1, ap length k.1))
offset_same bytes (ahead n) no_offset h k = absurd (omega (arith, ap length h.1, ap length k.1))
offset_same bytes (ahead n) utc h k = absurd (omega (arith, ap length h.1, ap length k.1))
offset_same bytes (ahead n) (ahead m) h k = ap pos (minutes_same n m h.0 k.0 (ap (λ l. drop 1 l) (sym h.1 ∙ k.1)))
offset_same bytes (ahead n) (behind m) h k = absurd (other_sign (minutes_text n) (minutes_text m) (sym h.1 ∙ k.1))
offset_same bytes (behind n) no_offset h k = absurd (omega (arith, ap length h.1, ap length k.1))
offset_same bytes (behind n) utc h k = absurd (omega (arith, ap length h.1, ap length k.1))
offset_same bytes (behind n) (ahead m) h k = absurd (other_sign (minutes_text m) (minutes_text n) (sym k.1 ∙ h.1))
offset_same bytes (behind n) (behind m) h k = ap (λ j. pos 0 -ℤ pos j) (minutes_same n m h.0 k.0 (ap (λ l. drop 1 l) (sym h.1 ∙ k.1)))

tail_same : (bytes : List ℕ) (f g : Fraction) (o p : Offset) → IsTail f o bytes → IsTail g p bytes → (fraction_nanos f ≡ fraction_nanos g) × (offset_minutes o ≡ offset_minutes p)
tail_same bytes f g o p h k =
    let len = prefix_len is_fraction_byte bytes in
    let a = tail_split bytes (take len bytes) (drop len bytes) len f o h refl refl refl in
    let b = tail_split bytes (take len bytes) (drop len bytes) len g p k refl refl refl in
    (fraction_same (take len bytes) f g a.0 b.0, offset_same (drop len bytes) o p a.1 b.1)

clock_triple : (bytes : List ℕ) (s : ℕ) (rest : List ℕ) → s < 86400 → bytes ≡ clock_text s ++ rest → IsTriple 2 58 bytes (s / 3600) (s / 60 % 60) (s % 60) rest
clock_triple bytes s rest h e = (omega arith, omega arith, omega arith, e)

clock_same : (bytes : List ℕ) (s u : ℕ) (r t : List ℕ) → IsTimeFront bytes s r → IsTimeFront bytes u t → (s ≡ u) × (r ≡ t)
clock_same bytes s u r t h k =
    let q = triple_same 2 58 (drop 1 bytes) (s / 3600) (s / 60 % 60) (s % 60) (u / 3600) (u / 60 % 60) (u % 60) r t
    (clock_triple (drop 1 bytes) s r h.0 (ap (λ l. drop 1 l) h.1)) (clock_triple (drop 1 bytes) u t k.0 (ap (λ l. drop 1 l) k.1)) in
    (omega (arith, q.0, q.1, q.2), q.3)

-- ---- moments

abbrev behind_date : Said → List ℕ
behind_date s = 84 ∷ (clock_text s.clock ++ (fraction_text s.fraction ++ offset_text s.offset))

said_front : (s : Said) → said_text s ≡ date_text s.date ++ behind_date s
said_front s = refl

date_taken : (d : Date) (r : List ℕ) → (take 10 (date_text d ++ r) ≡ date_text d) × (drop 10 (date_text d ++ r) ≡ r)
date_taken d r = (refl, refl)

date_first : (bytes : List ℕ) (s : Said) → IsSaid s → bytes ≡ said_text s → IsDateText s.date (take 10 bytes)
date_first bytes s h e = (h.0, ap (λ l. take 10 l) (e ∙ said_front s) ∙ (date_taken s.date (behind_date s)).0)

time_behind : (bytes : List ℕ) (s : Said) → IsSaid s → bytes ≡ said_text s → IsTimeFront (drop 10 bytes) s.clock (fraction_text s.fraction ++ offset_text s.offset)
time_behind bytes s h e = (h.1, ap (λ l. drop 10 l) (e ∙ said_front s) ∙ (date_taken s.date (behind_date s)).1)

tail_is : (s : Said) → IsSaid s → IsTail s.fraction s.offset (fraction_text s.fraction ++ offset_text s.offset)
tail_is s h = (h.2, h.3, refl)

-- what a text says is one number of nanoseconds
pub nanos_same : (bytes : List ℕ) (s u : Said) → IsSaid s → IsSaid u → bytes ≡ said_text s → bytes ≡ said_text u → said_nanos s ≡ said_nanos u
nanos_same bytes s u h k e f =
    let d : s.date ≡ u.date = date_same (take 10 bytes) s.date u.date (date_first bytes s h e) (date_first bytes u k f) in
    let c = clock_same (drop 10 bytes) s.clock u.clock (fraction_text s.fraction ++ offset_text s.offset) (fraction_text u.fraction ++ offset_text u.offset) (time_behind bytes s h e) (time_behind bytes u k f) in
    let t = tail_same (fraction_text s.fraction ++ offset_text s.offset) s.fraction u.fraction s.offset u.offset (tail_is s h) (k.2, k.3, c.1) in
    (λ i. nanos_since (d i) (pos (c.0 i * 10 ^ 9 + t.0 i) -ℤ t.1 i *ℤ pos (60 * 10 ^ 9)))

pub no_moment_short : (bytes : List ℕ) → IsUtf8 bytes → length bytes < 10 → (t : DateTime) → ¬ IsDateTimeText t (chars bytes)
no_moment_short bytes text l t h =
    let s = h.0 in
    let e = from_chars bytes (said_text s) text (said_ascii s) h.2 in
    omega (arith, l, ap length e)

pub no_moment_date : (bytes date : List ℕ) → IsUtf8 bytes → date ≡ take 10 bytes → ((d : Date) → ¬ IsDateText d date) → (t : DateTime) → ¬ IsDateTimeText t (chars bytes)
no_moment_date bytes date text e none t h =
    let s = h.0 in
    none s.date (subst (λ l. IsDateText s.date l) (sym e) (date_first bytes s h.1 (from_chars bytes (said_text s) text (said_ascii s) h.2)))

pub no_moment_time : (bytes rear : List ℕ) → IsUtf8 bytes → rear ≡ drop 10 bytes → ((s : ℕ) (rest : List ℕ) → ¬ IsTimeFront rear s rest) → (t : DateTime) → ¬ IsDateTimeText t (chars bytes)
no_moment_time bytes rear text e none t h =
    let s = h.0 in
    none s.clock (fraction_text s.fraction ++ offset_text s.offset) (subst (λ l. IsTimeFront l s.clock (fraction_text s.fraction ++ offset_text s.offset)) (sym e) (time_behind bytes s h.1 (from_chars bytes (said_text s) text (said_ascii s) h.2)))

pub no_moment_tail : (bytes rear : List ℕ) (clock : ℕ) (tail : List ℕ) → IsUtf8 bytes → rear ≡ drop 10 bytes → IsTimeFront rear clock tail → ((f : Fraction) (o : Offset) → ¬ IsTail f o tail) → (t : DateTime) → ¬ IsDateTimeText t (chars bytes)
no_moment_tail bytes rear clock tail text e time none t h =
    let s = h.0 in
    let there = time_behind bytes s h.1 (from_chars bytes (said_text s) text (said_ascii s) h.2) in
    let c = clock_same rear clock s.clock tail (fraction_text s.fraction ++ offset_text s.offset) time (subst (λ l. IsTimeFront l s.clock (fraction_text s.fraction ++ offset_text s.offset)) (sym e) there) in
    none s.fraction s.offset (h.1.2, h.1.3, c.1)

-- what was read of a text
pub record IsRead (bytes date rear tail : List ℕ) (d : Date) (clock : ℕ) (f : Fraction) (o : Offset) : Type 0 where
  pub text : IsUtf8 bytes
  pub front : date ≡ take 10 bytes
  pub back : rear ≡ drop 10 bytes
  pub date_is : IsDateText d date
  pub time_is : IsTimeFront rear clock tail
  pub tail_reads : IsTail f o tail

abbrev said : Date → ℕ → Fraction → Offset → Said
said d clock f o = record { date = d; clock = clock; fraction = f; offset = o }

read_text : (bytes date rear tail : List ℕ) (d : Date) (clock : ℕ) (f : Fraction) (o : Offset) → IsRead bytes date rear tail d clock f o → bytes ≡ said_text (said d clock f o)
read_text bytes date rear tail d clock f o h =
    sym (take-append-drop 10 bytes) ∙ (λ i. sym h.front i ++ sym h.back i) ∙ (λ i. h.date_is.1 i ++ h.time_is.1 i) ∙ (λ i. date_text d ++ (84 ∷ (clock_text clock ++ h.tail_reads.2 i)))

pub moment_read : (r : Option DateTime) (bytes date rear tail : List ℕ) (d : Date) (clock : ℕ) (f : Fraction) (o : Offset) (z : ℤ) → IsRead bytes date rear tail d clock f o
    → z ≡ pos (clock * 10 ^ 9 + fraction_nanos f) -ℤ offset_minutes o *ℤ pos (60 * 10 ^ 9)
    → MatchOption r ((t : DateTime) → ¬ IsMomentAt (nanos_since d z) t) (IsMomentAt (nanos_since d z))
    → MatchOption r ((t : DateTime) → ¬ IsDateTimeText t (chars bytes)) (λ t. IsDateTimeText t (chars bytes))
moment_read None bytes date rear tail d clock f o z h e none = λ t k.
    let u = said d clock f o in
    let s = k.0 in
    let us : IsSaid u = (h.date_is.0, h.time_is.0, h.tail_reads.0, h.tail_reads.1) in
    let same = nanos_same bytes s u k.1 us (from_chars bytes (said_text s) h.text (said_ascii s) k.2) (read_text bytes date rear tail d clock f o h) in
    none t (subst (λ n. IsMomentAt n t) (same ∙ ap (λ n. nanos_since d n) (sym e)) k.3)
moment_read (Some t) bytes date rear tail d clock f o z h e is =
    let u = said d clock f o in
    (u, (h.date_is.0, h.time_is.0, h.tail_reads.0, h.tail_reads.1), to_chars bytes (said_text u) (said_ascii u) (read_text bytes date rear tail d clock f o h), subst (λ n. IsMomentAt (nanos_since d n) t) e is)

minus_small : (m : ℕ) → m < 1440 → unsigned_abs (pos 0 -ℤ pos m) < 1440
minus_small zero h = omega arith
minus_small (suc m) h = let e : (pos 0 -ℤ pos (suc m)) ≡ negsuc m = omega (arith, signed_arith) in rw e h

pub offset_small : (o : Offset) → IsOffset o → unsigned_abs (offset_minutes o) < 1440
offset_small no_offset h = omega arith
offset_small utc h = omega arith
offset_small (ahead m) h = h
offset_small (behind m) h = minus_small m h
