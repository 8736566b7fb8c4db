-- What each function gives for its arguments, or the error with which it refuses them.
use Rattle.std.specs.Prelude.{ℕ, List, [], slice_index_or, Result}
use Rattle.item_tree.specs.declared.code.Code.{Code}
use Rattle.item_tree.specs.declared.functions.FnId.{FnId}
use Rattle.item_tree.specs.declared.functions.FnId.TheVariants.{Count, Empty, Exists, Head, Tail, Reverse, Subsequence, Subsequence3, InsertBefore, Remove, DistinctValues, IndexOf, DeepEqual, Boolean, ZeroOrOne, OneOrMore, ExactlyOne, Keys, Values, Members, Size, Project, RemoveKeys, Flatten, DescendantObjects, DescendantArrays, Accumulate, Abs, Floor, Ceiling, Round, RoundHalfToEven, Sum, Avg, Min, Max, String, Concat, StringJoin, StringJoin2, StringLength, Substring, Substring3, Contains, StartsWith, EndsWith, SubstringBefore, SubstringAfter, NormalizeSpace, Tokenize, Translate, StringToCodepoints, Serialize, ParseJson, Error, YearFromDate, MonthFromDate, DayFromDate, AddDays, DaysBetween}
use Rattle.item_tree.specs.Datum.{Datum}
use Rattle.value_rules.specs.Sequences.{count, empty, exists, head, tail, reverse, subsequence, subsequence_3, insert_before, remove, distinct_values, index_of, deep_equal, boolean_of, zero_or_one, one_or_more, exactly_one}
use Rattle.value_rules.specs.Objects.{keys, values, members, size, project, remove_keys, flatten, descendant_objects, descendant_arrays, accumulate}
use Rattle.value_rules.specs.Strings.{string, concat, string_join, string_join_2, string_length, substring, substring_3, contains, starts_with, ends_with, substring_before, substring_after, normalize_space, tokenize, translate, string_to_codepoints}
use Rattle.value_rules.specs.Numbers.{abs_values, floor_values, ceiling_values, round_values, round_half_to_even_values, sum_values, avg_values, min_values, max_values}
use Rattle.fn_table.specs.Dates.{year_from_date, month_from_date, day_from_date, add_days, days_between}
use Rattle.fn_table.specs.Texts.{serialize, parse_json, error}

-- the argument at a place, counted from 0; one that is not there is empty
abbrev pub argument : ℕ → List (List Datum) → List Datum
argument i given = slice_index_or given i []

abbrev pub function_value : FnId → List (List Datum) → Result (List Datum) Code
function_value Count given = count (argument 0 given)
function_value Empty given = empty (argument 0 given)
function_value Exists given = exists (argument 0 given)
function_value Head given = head (argument 0 given)
function_value Tail given = tail (argument 0 given)
function_value Reverse given = reverse (argument 0 given)
function_value Subsequence given = subsequence (argument 0 given) (argument 1 given)
function_value Subsequence3 given =
    subsequence_3 (argument 0 given) (argument 1 given) (argument 2 given)
function_value InsertBefore given =
    insert_before (argument 0 given) (argument 1 given) (argument 2 given)
function_value Remove given = remove (argument 0 given) (argument 1 given)
function_value DistinctValues given = distinct_values (argument 0 given)
function_value IndexOf given = index_of (argument 0 given) (argument 1 given)
function_value DeepEqual given = deep_equal (argument 0 given) (argument 1 given)
function_value Boolean given = boolean_of (argument 0 given)
function_value ZeroOrOne given = zero_or_one (argument 0 given)
function_value OneOrMore given = one_or_more (argument 0 given)
function_value ExactlyOne given = exactly_one (argument 0 given)
function_value Keys given = keys (argument 0 given)
function_value Values given = values (argument 0 given)
function_value Members given = members (argument 0 given)
function_value Size given = size (argument 0 given)
function_value Project given = project (argument 0 given) (argument 1 given)
function_value RemoveKeys given = remove_keys (argument 0 given) (argument 1 given)
function_value Flatten given = flatten (argument 0 given)
function_value DescendantObjects given = descendant_objects (argument 0 given)
function_value DescendantArrays given = descendant_arrays (argument 0 given)
function_value Accumulate given = accumulate (argument 0 given)
function_value Abs given = abs_values (argument 0 given)
function_value Floor given = floor_values (argument 0 given)
function_value Ceiling given = ceiling_values (argument 0 given)
function_value Round given = round_values (argument 0 given)
function_value RoundHalfToEven given = round_half_to_even_values (argument 0 given)
function_value Sum given = sum_values (argument 0 given)
function_value Avg given = avg_values (argument 0 given)
function_value Min given = min_values (argument 0 given)
function_value Max given = max_values (argument 0 given)
function_value String given = string (argument 0 given)
function_value Concat given = concat given
function_value StringJoin given = string_join (argument 0 given)
function_value StringJoin2 given = string_join_2 (argument 0 given) (argument 1 given)
function_value StringLength given = string_length (argument 0 given)
function_value Substring given = substring (argument 0 given) (argument 1 given)
function_value Substring3 given =
    substring_3 (argument 0 given) (argument 1 given) (argument 2 given)
function_value Contains given = contains (argument 0 given) (argument 1 given)
function_value StartsWith given = starts_with (argument 0 given) (argument 1 given)
function_value EndsWith given = ends_with (argument 0 given) (argument 1 given)
function_value SubstringBefore given = substring_before (argument 0 given) (argument 1 given)
function_value SubstringAfter given = substring_after (argument 0 given) (argument 1 given)
function_value NormalizeSpace given = normalize_space (argument 0 given)
function_value Tokenize given = tokenize (argument 0 given)
function_value Translate given = translate (argument 0 given) (argument 1 given) (argument 2 given)
function_value StringToCodepoints given = string_to_codepoints (argument 0 given)
function_value Serialize given = serialize (argument 0 given)
function_value ParseJson given = parse_json (argument 0 given)
function_value Error given = error
function_value YearFromDate given = year_from_date (argument 0 given)
function_value MonthFromDate given = month_from_date (argument 0 given)
function_value DayFromDate given = day_from_date (argument 0 given)
function_value AddDays given = add_days (argument 0 given) (argument 1 given)
function_value DaysBetween given = days_between (argument 0 given) (argument 1 given)
