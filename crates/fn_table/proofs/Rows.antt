-- Rows of functions, as they are told in the documentation.
use Rattle.std.specs.Prelude.{◌≡◌, [], ◌∷◌, pos, negsuc, codes, Ok, Err, refl}
use Rattle.std.specs.Fmt.{digits}
use Rattle.std.specs.Str.{chars}
use lib.Utf8.{encode}
use Rattle.item_tree.specs.declared.code.Code.TheVariants.{XPTY0004, JNTY0004, FOAR0002, FOER0000}
use Rattle.item_tree.specs.declared.functions.FnId.TheVariants.{Count, Serialize, Error, YearFromDate, AddDays}
use Rattle.item_tree.specs.Datum.{null, integer, decimal, text, date, array, value, no_values}
use Rattle.fn_table.specs.Dates.{days_after, days_before}
use Rattle.fn_table.specs.Table.{function_value}

counted : function_value Count ((null ∷ null ∷ []) ∷ []) ≡ Ok (integer (pos 2) ∷ [])
counted = refl

raised : function_value Error [] ≡ Err FOER0000
raised = refl

printed : function_value Serialize ((array (value (decimal (pos 1500000)) (value (text (codes "x")) no_values)) ∷ []) ∷ []) ≡ Ok (text (codes "[1.5,\"x\"]") ∷ [])
unfolding digits encode chars
printed = refl

two_printed : function_value Serialize ((null ∷ null ∷ []) ∷ []) ≡ Err XPTY0004
two_printed = refl

a_year : function_value YearFromDate ((date (record { year = 2024; month = 2; day = 29 }) ∷ []) ∷ []) ≡ Ok (integer (pos 2024) ∷ [])
a_year = refl

no_date : function_value YearFromDate ((array no_values ∷ []) ∷ []) ≡ Err JNTY0004
no_date = refl

next_day : function_value AddDays ((date (record { year = 2024; month = 2; day = 29 }) ∷ []) ∷ (integer (pos 1) ∷ []) ∷ []) ≡ Ok (date (record { year = 2024; month = 3; day = 1 }) ∷ [])
unfolding days_after
next_day = refl

before_all : function_value AddDays ((date (record { year = 1; month = 1; day = 2 }) ∷ []) ∷ (integer (negsuc 1) ∷ []) ∷ []) ≡ Err FOAR0002
unfolding days_before
before_all = refl

checked_first : function_value AddDays ([] ∷ (null ∷ []) ∷ []) ≡ Err XPTY0004
checked_first = refl
