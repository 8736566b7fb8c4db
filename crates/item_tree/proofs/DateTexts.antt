-- The texts of dates and date-times are ASCII, so they are characters. It is meant for other crates too.
use Rattle.std.proofs.Common.{◌≡◌, ◌<◌, ◌/◌, ◌%◌, ◌^◌, ◌==◌, ℕ, Bool, true, false, List, [], ◌∷◌, ◌++◌, if◌then◌else◌, sym, ap, ◌∙◌, arith}
use Rattle.std.specs.Str.{IsAscii, all_scalars}
use Rattle.std.proofs.lemmas.Str.{IsAscii-append, IsUtf8-from_ascii, chars-IsAscii, scalars-chars}
use Rattle.std.proofs.lemmas.Str.Ascii.{IsAscii-nil, IsAscii-cons}
use Rattle.item_tree.specs.Dates.{Date, DateTime, date_text, clock_text, nanos_text, date_time_text}
use Rattle.item_tree.specs.Digits.{last_digits, without_last_zeros}
use Rattle.item_tree.proofs.AtomTexts.{digits_ascii, last_zeros_ascii}

ascii_scalars : (t : List ℕ) → IsAscii t → all_scalars t ≡ true
ascii_scalars t h = ap all_scalars (sym (chars-IsAscii t h)) ∙ scalars-chars t (IsUtf8-from_ascii t h)

-- a mark between two texts
joined : (mark : ℕ) (a b : List ℕ) → mark < 128 → IsAscii a → IsAscii b → IsAscii (a ++ mark ∷ b)
joined mark a b l h k = IsAscii-append a (mark ∷ b) h (IsAscii-cons mark b l k)

date_ascii : (d : Date) → IsAscii (date_text d)
date_ascii d =
    joined 45 (last_digits 4 d.year ++ 45 ∷ last_digits 2 d.month) (last_digits 2 d.day) (omega arith)
    (joined 45 (last_digits 4 d.year) (last_digits 2 d.month) (omega arith) (digits_ascii 4 d.year) (digits_ascii 2 d.month))
    (digits_ascii 2 d.day)

clock_ascii : (s : ℕ) → IsAscii (clock_text s)
clock_ascii s =
    joined 58 (last_digits 2 (s / 3600) ++ 58 ∷ last_digits 2 (s / 60 % 60)) (last_digits 2 (s % 60)) (omega arith)
    (joined 58 (last_digits 2 (s / 3600)) (last_digits 2 (s / 60 % 60)) (omega arith) (digits_ascii 2 (s / 3600)) (digits_ascii 2 (s / 60 % 60)))
    (digits_ascii 2 (s % 60))

nanos_ascii : (n : ℕ) → IsAscii (nanos_text n)
nanos_ascii n = by (n == 0) (IsAscii-cons 46 _ (omega arith) (last_zeros_ascii (last_digits 9 n) (digits_ascii 9 n)))
  where
    by : (b : Bool) → IsAscii (46 ∷ without_last_zeros (last_digits 9 n)) → IsAscii (if b then [] else 46 ∷ without_last_zeros (last_digits 9 n))
    by true h = IsAscii-nil
    by false h = h

date_time_ascii : (t : DateTime) → IsAscii (date_time_text t)
date_time_ascii t =
    let clock = t.nanos / 10 ^ 9 in
    let rest = t.nanos % 10 ^ 9 in
    let front = joined 84 (date_text t.date) (clock_text clock) (omega arith) (date_ascii t.date) (clock_ascii clock) in
    joined 90 ((date_text t.date ++ 84 ∷ clock_text clock) ++ nanos_text rest) [] (omega arith)
    (IsAscii-append (date_text t.date ++ 84 ∷ clock_text clock) (nanos_text rest) front (nanos_ascii rest)) IsAscii-nil

pub date_scalars : (d : Date) → all_scalars (date_text d) ≡ true
date_scalars d = ascii_scalars (date_text d) (date_ascii d)

pub date_time_scalars : (t : DateTime) → all_scalars (date_time_text t) ≡ true
date_time_scalars t = ascii_scalars (date_time_text t) (date_time_ascii t)
