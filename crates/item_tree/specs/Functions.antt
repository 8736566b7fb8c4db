-- The functions of the query language.
use Rattle.std.specs.Prelude.{ℕ, Bool, ◌&&◌, ◌==◌, nat_le, Option, List, [], ◌∷◌, codes, find}
use Rattle.std.specs.Str.{bytes_eq}
use Rattle.item_tree.specs.declared.functions.Arity.{Arity}
use Rattle.item_tree.specs.declared.functions.Arity.TheVariants.{Exactly, AtLeast}
use Rattle.item_tree.specs.declared.functions.FnId.{FnId}
use Rattle.item_tree.specs.declared.functions.FnId.TheVariants.{Count, Empty, Exists, Head, Tail, Reverse, Subsequence, Subsequence3, InsertBefore, Remove, DistinctValues, IndexOf, DeepEqual, Boolean, ZeroOrOne, OneOrMore, ExactlyOne, Keys, Values, Members, Size, Project, RemoveKeys, Flatten, DescendantObjects, DescendantArrays, Accumulate, Abs, Floor, Ceiling, Round, RoundHalfToEven, Sum, Avg, Min, Max, String, Concat, StringJoin, StringJoin2, StringLength, Substring, Substring3, Contains, StartsWith, EndsWith, SubstringBefore, SubstringAfter, NormalizeSpace, Tokenize, Translate, StringToCodepoints, Serialize, ParseJson, Error, YearFromDate, MonthFromDate, DayFromDate, AddDays, DaysBetween}

-- the name of a function, and how many arguments it takes
abbrev pub signature : FnId → List ℕ × Arity
signature Count = (codes "count", Exactly 1)
signature Empty = (codes "empty", Exactly 1)
signature Exists = (codes "exists", Exactly 1)
signature Head = (codes "head", Exactly 1)
signature Tail = (codes "tail", Exactly 1)
signature Reverse = (codes "reverse", Exactly 1)
signature Subsequence = (codes "subsequence", Exactly 2)
signature Subsequence3 = (codes "subsequence", Exactly 3)
signature InsertBefore = (codes "insert-before", Exactly 3)
signature Remove = (codes "remove", Exactly 2)
signature DistinctValues = (codes "distinct-values", Exactly 1)
signature IndexOf = (codes "index-of", Exactly 2)
signature DeepEqual = (codes "deep-equal", Exactly 2)
signature Boolean = (codes "boolean", Exactly 1)
signature ZeroOrOne = (codes "zero-or-one", Exactly 1)
signature OneOrMore = (codes "one-or-more", Exactly 1)
signature ExactlyOne = (codes "exactly-one", Exactly 1)
signature Keys = (codes "keys", Exactly 1)
signature Values = (codes "values", Exactly 1)
signature Members = (codes "members", Exactly 1)
signature Size = (codes "size", Exactly 1)
signature Project = (codes "project", Exactly 2)
signature RemoveKeys = (codes "remove-keys", Exactly 2)
signature Flatten = (codes "flatten", Exactly 1)
signature DescendantObjects = (codes "descendant-objects", Exactly 1)
signature DescendantArrays = (codes "descendant-arrays", Exactly 1)
signature Accumulate = (codes "accumulate", Exactly 1)
signature Abs = (codes "abs", Exactly 1)
signature Floor = (codes "floor", Exactly 1)
signature Ceiling = (codes "ceiling", Exactly 1)
signature Round = (codes "round", Exactly 1)
signature RoundHalfToEven = (codes "round-half-to-even", Exactly 1)
signature Sum = (codes "sum", Exactly 1)
signature Avg = (codes "avg", Exactly 1)
signature Min = (codes "min", Exactly 1)
signature Max = (codes "max", Exactly 1)
signature String = (codes "string", Exactly 1)
signature Concat = (codes "concat", AtLeast 2)
signature StringJoin = (codes "string-join", Exactly 1)
signature StringJoin2 = (codes "string-join", Exactly 2)
signature StringLength = (codes "string-length", Exactly 1)
signature Substring = (codes "substring", Exactly 2)
signature Substring3 = (codes "substring", Exactly 3)
signature Contains = (codes "contains", Exactly 2)
signature StartsWith = (codes "starts-with", Exactly 2)
signature EndsWith = (codes "ends-with", Exactly 2)
signature SubstringBefore = (codes "substring-before", Exactly 2)
signature SubstringAfter = (codes "substring-after", Exactly 2)
signature NormalizeSpace = (codes "normalize-space", Exactly 1)
signature Tokenize = (codes "tokenize", Exactly 1)
signature Translate = (codes "translate", Exactly 3)
signature StringToCodepoints = (codes "string-to-codepoints", Exactly 1)
signature Serialize = (codes "serialize", Exactly 1)
signature ParseJson = (codes "parse-json", Exactly 1)
signature Error = (codes "error", Exactly 0)
signature YearFromDate = (codes "year-from-date", Exactly 1)
signature MonthFromDate = (codes "month-from-date", Exactly 1)
signature DayFromDate = (codes "day-from-date", Exactly 1)
signature AddDays = (codes "add-days", Exactly 2)
signature DaysBetween = (codes "days-between", Exactly 2)

-- all functions, in this order
abbrev pub functions : List FnId
functions =
    Count ∷ Empty ∷ Exists ∷ Head ∷ Tail ∷ Reverse ∷ Subsequence ∷ Subsequence3 ∷ InsertBefore
    ∷ Remove ∷ DistinctValues ∷ IndexOf ∷ DeepEqual ∷ Boolean ∷ ZeroOrOne ∷ OneOrMore ∷ ExactlyOne
    ∷ Keys ∷ Values ∷ Members ∷ Size ∷ Project ∷ RemoveKeys ∷ Flatten ∷ DescendantObjects
    ∷ DescendantArrays ∷ Accumulate ∷ Abs ∷ Floor ∷ Ceiling ∷ Round ∷ RoundHalfToEven ∷ Sum ∷ Avg
    ∷ Min ∷ Max ∷ String ∷ Concat ∷ StringJoin ∷ StringJoin2 ∷ StringLength ∷ Substring ∷ Substring3
    ∷ Contains ∷ StartsWith ∷ EndsWith ∷ SubstringBefore ∷ SubstringAfter ∷ NormalizeSpace
    ∷ Tokenize ∷ Translate ∷ StringToCodepoints ∷ Serialize ∷ ParseJson ∷ Error ∷ YearFromDate
    ∷ MonthFromDate ∷ DayFromDate ∷ AddDays ∷ DaysBetween ∷ []

abbrev pub name_of : FnId → List ℕ
name_of id = (signature id).0

abbrev pub allows : Arity → ℕ → Bool
allows (Exactly n) count = count == n
allows (AtLeast n) count = nat_le n count

-- whether the function takes so many arguments
abbrev pub takes_arity : FnId → ℕ → Bool
takes_arity id count = allows (signature id).1 count

abbrev pub is_called : List ℕ → ℕ → FnId → Bool
is_called name count id = bytes_eq name (name_of id) && takes_arity id count

-- the function with this name that takes so many arguments
abbrev pub function_named : List ℕ → ℕ → Option FnId
function_named name count = find (is_called name count) functions
