-- Laws of day numbers and of texts.
use Rattle.std.specs.Prelude.{◌≡◌, ◌⊎◌, ℕ, ℤ, pos, negsuc, List, MatchOption}
use Rattle.item_tree.specs.Dates.{Date, DateTime, IsDate, IsDateTime, day_number, date_text, date_time_text}
use Rattle.date_atoms.specs.Sums.{IsDayNumber}
use Rattle.date_atoms.specs.Texts.{IsDateText, IsDateTimeText}
use Rattle.date_atoms.specs.Values.{said_date, said_moment}

abbrev pub first_date : Date
first_date = record { year = 1; month = 1; day = 1 }

abbrev pub last_date : Date
last_date = record { year = 9999; month = 12; day = 31 }

-- the ends of the range; each date has a number in it, no two dates have the same, and each number
-- in it is a date's
pub record DaysAreReached : Type 0 where
  pub first : day_number first_date ≡ negsuc 719_161
  pub last : day_number last_date ≡ pos 2_932_896
  pub within : (d : Date) → IsDate d → IsDayNumber (day_number d)
  pub apart : (d e : Date) → IsDate d → IsDate e → day_number d ≡ day_number e → d ≡ e
  pub reached : (n : ℤ) → IsDayNumber n → (d : Date) × IsDate d × (day_number d ≡ n)

pub record TextsSayOne : Type 0 where
  pub date : (d e : Date) (text : List ℕ) → IsDateText d text → IsDateText e text → d ≡ e
  pub date_time : (t u : DateTime) (text : List ℕ) → IsDateTimeText t text
      → IsDateTimeText u text → t ≡ u

pub record PrintedTextsAreRead : Type 0 where
  pub date : (d : Date) → IsDate d → IsDateText d (date_text d)
  pub date_time : (t : DateTime) → IsDateTime t → IsDateTimeText t (date_time_text t)

-- each text says a date or none, and a moment or none
pub record TextsAreDecided : Type 0 where
  pub date : (text : List ℕ) → ((d : Date) × IsDateText d text) ⊎ ((d : Date) → ¬ IsDateText d text)
  pub date_time : (text : List ℕ) → ((t : DateTime) × IsDateTimeText t text)
      ⊎ ((t : DateTime) → ¬ IsDateTimeText t text)

-- what each text says is computed: the date, or that it says none, and the moment or none
pub record TextsCompute : Type 0 where
  pub date : (text : List ℕ) → MatchOption (said_date text)
      ((d : Date) → ¬ IsDateText d text) (λ d. IsDateText d text)
  pub date_time : (text : List ℕ) → MatchOption (said_moment text)
      ((t : DateTime) → ¬ IsDateTimeText t text) (λ t. IsDateTimeText t text)
