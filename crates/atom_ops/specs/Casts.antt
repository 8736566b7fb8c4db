-- Casts of one atomic.
use Rattle.std.specs.Prelude.{ℕ, ◌-◌, ◌==◌, nat_lt, pos, Bool, true, false, ◌&&◌, ◌||◌, if◌then◌else◌, List, [], ◌∷◌, length, take, drop, codes, Option, Some, None, Result, Ok, Err}
use Rattle.std.specs.Char.{is_ascii_digit}
use Rattle.std.specs.List.{list_all, prefix_len, suffix_len}
use Rattle.std.specs.Option.{ok_or}
use Rattle.std.specs.Str.{bytes_eq, encode_utf8_all}
use Rattle.item_tree.specs.declared.code.Code.{Code}
use Rattle.item_tree.specs.declared.code.Code.TheVariants.{XPTY0004, FOAR0002, FORG0001}
use Rattle.item_tree.specs.Datum.{Datum, null, boolean, integer, decimal, text, date, date_time}
use Rattle.item_tree.specs.Dates.{Date, DateTime}
use Rattle.item_tree.specs.ItemText.{atom_text}
use Rattle.item_tree.specs.Truth.{is_not_zero}
use Rattle.num_fixed.specs.Fronts.{sign_first, fraction_of}
use Rattle.num_fixed.specs.Numeral.{Numeral}
use Rattle.num_fixed.specs.Rounding.{units_of}
use Rattle.num_fixed.specs.Scan.{behind_sign, digits_len}
use Rattle.num_fixed.specs.Values.{number_in_bounds, said, whole_of}
use Rattle.num_fixed.specs.declared.number.Number.{Number}
use Rattle.num_fixed.specs.declared.number.Number.TheVariants.{Int, Dec}
use Rattle.date_atoms.specs.Values.{said_date, said_moment}
use Rattle.seq_types.specs.declared.types.ItemType.{ItemType}
use Rattle.seq_types.specs.declared.types.ItemType.TheVariants as type
use Rattle.value_rules.specs.Operands.{and_then, one_atomic}
use Rattle.value_rules.specs.Results.{number_datum}
use Rattle.value_rules.specs.Strings.{is_blank}

-- ---- the texts of numbers

abbrev pub without_last_blanks : List ℕ → List ℕ
without_last_blanks l = take (length l - suffix_len is_blank l) l

-- a text in UTF-8 without the blanks round it
abbrev pub trimmed : List ℕ → List ℕ
trimmed l = without_last_blanks (drop (prefix_len is_blank l) l)

abbrev pub bare : List ℕ → List ℕ
bare t = trimmed (encode_utf8_all t)

-- the digits behind a point; some, where none stand before it
abbrev pub is_fraction : Bool → List ℕ → Bool
is_fraction some ds = list_all is_ascii_digit ds && (some || nat_lt 0 (length ds))

-- what may stand behind a sign and the digits before a point, where these are some: nothing, or a
-- point and digits, if there may be a point
abbrev pub ends_number : Bool → Bool → List ℕ → Bool
ends_number point some [] = some
ends_number point some (b ∷ ds) = (point && (b == 46)) && is_fraction some ds

abbrev pub digits_front : List ℕ → List ℕ
digits_front u = take (digits_len u) u

abbrev pub behind_digits : List ℕ → List ℕ
behind_digits u = drop (digits_len u) u

abbrev pub is_plain_number : Bool → List ℕ → Bool
is_plain_number point l =
    let u = behind_sign l in ends_number point (nat_lt 0 (digits_len u)) (behind_digits u)

abbrev pub plain_numeral : List ℕ → Numeral
plain_numeral l = record {
  sign = sign_first l;
  int = digits_front (behind_sign l);
  frac = fraction_of (behind_digits (behind_sign l));
  exp = None;
}

abbrev pub in_bounds_or_over : Number → Result Number Code
in_bounds_or_over x = if number_in_bounds x then Ok x else Err FOAR0002

-- the number that a text is; a decimal is the nearest unit
abbrev pub number_in : Bool → List ℕ → Result Number Code
number_in point l =
    if is_plain_number point l then in_bounds_or_over (said (plain_numeral l)) else Err FORG0001

-- ---- what an atomic is cast to

abbrev pub as_decimal : Number → Number
as_decimal (Int n) = Dec (units_of n)
as_decimal (Dec m) = Dec m

-- as an integer: a decimal without its part behind the point
abbrev pub integer_from : Datum → Result Number Code
integer_from (integer n) = Ok (Int n)
integer_from (decimal m) = Ok (Int (whole_of m))
integer_from (boolean true) = Ok (Int (pos 1))
integer_from (boolean false) = Ok (Int (pos 0))
integer_from (text t) = number_in false (bare t)
integer_from _ = Err FORG0001

abbrev pub decimal_from : Datum → Result Number Code
decimal_from (integer n) = Ok (Dec (units_of n))
decimal_from (decimal m) = Ok (Dec m)
decimal_from (boolean true) = Ok (Dec (pos 1000000))
decimal_from (boolean false) = Ok (Dec (pos 0))
decimal_from (text t) = and_then (number_in true (bare t)) (λ x. Ok (as_decimal x))
decimal_from _ = Err FORG0001

abbrev pub truth_in : List ℕ → Result Bool Code
truth_in l =
    if bytes_eq l (codes "true") || bytes_eq l (codes "1") then Ok true else
    if bytes_eq l (codes "false") || bytes_eq l (codes "0") then Ok false else Err FORG0001

abbrev pub boolean_from : Datum → Result Bool Code
boolean_from (boolean b) = Ok b
boolean_from (integer n) = Ok (is_not_zero n)
boolean_from (decimal m) = Ok (is_not_zero m)
boolean_from (text t) = truth_in (bare t)
boolean_from _ = Err FORG0001

abbrev pub null_in : List ℕ → Result Datum Code
null_in l = if bytes_eq l (codes "null") then Ok null else Err FORG0001

-- as a date: a date-time without its time of day
abbrev pub date_from : Datum → Result Date Code
date_from (date d) = Ok d
date_from (date_time t) = Ok t.date
date_from (text t) = ok_or (said_date (bare t)) FORG0001
date_from _ = Err FORG0001

-- the moment with which a date begins
abbrev pub midnight : Date → DateTime
midnight d = record { date = d; nanos = 0 }

abbrev pub moment_from : Datum → Result DateTime Code
moment_from (date d) = Ok (midnight d)
moment_from (date_time t) = Ok t
moment_from (text t) = ok_or (said_moment (bare t)) FORG0001
moment_from _ = Err FORG0001

abbrev pub null_from : Datum → Result Datum Code
null_from null = Ok null
null_from (text t) = null_in (bare t)
null_from _ = Err FORG0001

-- the types that a cast may have
abbrev pub is_cast_to : ItemType → Bool
is_cast_to type.Text = true
is_cast_to type.Integer = true
is_cast_to type.Decimal = true
is_cast_to type.Boolean = true
is_cast_to type.Null = true
is_cast_to type.Date = true
is_cast_to type.DateTime = true
is_cast_to _ = false

-- an atomic as a value of a type, where a cast may have that type
abbrev pub cast_to : ItemType → Datum → Result Datum Code
cast_to type.Text v = Ok (text (atom_text v))
cast_to type.Integer v = and_then (integer_from v) (λ x. Ok (number_datum x))
cast_to type.Decimal v = and_then (decimal_from v) (λ x. Ok (number_datum x))
cast_to type.Boolean v = and_then (boolean_from v) (λ b. Ok (boolean b))
cast_to type.Null v = null_from v
cast_to type.Date v = and_then (date_from v) (λ d. Ok (date d))
cast_to type.DateTime v = and_then (moment_from v) (λ t. Ok (date_time t))
cast_to _ v = Err FORG0001

-- ---- casts of an operand

-- where it may be empty, nothing is cast to nothing
abbrev pub cast_operand : Bool → List Datum → Result (Option Datum) Code
cast_operand optional [] = if optional then Ok None else Err XPTY0004
cast_operand optional (v ∷ vs) = and_then (one_atomic (v ∷ vs)) (λ x. Ok (Some x))

abbrev pub cast_of : ItemType → Option Datum → Result (Option Datum) Code
cast_of to None = Ok None
cast_of to (Some v) = and_then (cast_to to v) (λ w. Ok (Some w))

abbrev pub cast_value : ItemType → Bool → List Datum → Result (Option Datum) Code
cast_value to optional vs = and_then (cast_operand optional vs) (cast_of to)
