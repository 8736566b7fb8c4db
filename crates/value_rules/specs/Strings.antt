-- What the functions on strings give. A text is the list of its characters, and positions are
-- counted in characters, from 1.
use Rattle.std.specs.Prelude.{ℕ, suc, ◌+◌, ◌==◌, nat_eq, pos, ◌+ℤ◌, int_le, int_lt, Bool, true, false, ◌&&◌, ◌||◌, if◌then◌else◌, List, [], ◌∷◌, ◌++◌, length, take, drop, map, filter, Option, Some, None, option_map, is_some, unwrap_or, Result, Ok}
use Rattle.std.specs.List.{starts_with as begins_with, ends_with as ends_in, concat as joined, flat_map, slice_split}
use Rattle.std.specs.Option.{option_map_or}
use Rattle.item_tree.specs.declared.code.Code.{Code}
use Rattle.item_tree.specs.Datum.{Datum, boolean, integer, text}
use Rattle.item_tree.specs.ItemText.{atom_text}
use Rattle.value_rules.specs.Operands.{and_then, atomic, optional_atomic, optional_string, one_integer}
use Rattle.value_rules.specs.Sequences.{items_at}

-- ---- results of one item, and functions of strings alone

abbrev pub one_text : List ℕ → List Datum
one_text t = text t ∷ []

abbrev pub of_string : (List ℕ → List Datum) → List Datum → Result (List Datum) Code
of_string f vs = and_then (optional_string vs) (λ t. Ok (f t))

abbrev pub of_strings
    : (List ℕ → List ℕ → List Datum) → List Datum → List Datum → Result (List Datum) Code
of_strings f vs ws =
    and_then (optional_string vs) (λ t. and_then (optional_string ws) (λ u. Ok (f t u)))

-- ---- texts of atomics, put together

-- what is not there has the empty text
abbrev pub optional_text : Option Datum → List ℕ
optional_text None = []
optional_text (Some v) = atom_text v

abbrev pub string : List Datum → Result (List Datum) Code
string vs = and_then (optional_atomic vs) (λ o. Ok (one_text (optional_text o)))

-- the text of each argument, which is empty or one atomic
abbrev pub argument_texts : List (List Datum) → Result (List (List ℕ)) Code
argument_texts [] = Ok []
argument_texts (vs ∷ more) =
    and_then (optional_atomic vs) (λ o.
    and_then (argument_texts more) (λ ts. Ok (optional_text o ∷ ts)))

-- the text of each item, which is an atomic
abbrev pub atomic_texts : List Datum → Result (List (List ℕ)) Code
atomic_texts [] = Ok []
atomic_texts (v ∷ vs) =
    and_then (atomic v) (λ a. and_then (atomic_texts vs) (λ ts. Ok (atom_text a ∷ ts)))

-- the texts one after the other, with the separator before each but the first
abbrev pub joined_by : List ℕ → List (List ℕ) → List ℕ
joined_by separator [] = []
joined_by separator (t ∷ ts) = t ++ flat_map (λ u. separator ++ u) ts

abbrev pub concat : List (List Datum) → Result (List Datum) Code
concat arguments = and_then (argument_texts arguments) (λ ts. Ok (one_text (joined ts)))

abbrev pub string_join : List Datum → Result (List Datum) Code
string_join vs = and_then (atomic_texts vs) (λ ts. Ok (one_text (joined_by [] ts)))

-- the items are checked before the separator
abbrev pub string_join_2 : List Datum → List Datum → Result (List Datum) Code
string_join_2 vs ws =
    and_then (atomic_texts vs) (λ ts.
    and_then (optional_string ws) (λ separator. Ok (one_text (joined_by separator ts))))

-- ---- characters by their positions

abbrev pub string_length : List Datum → Result (List Datum) Code
string_length = of_string (λ t. integer (pos (length t)) ∷ [])

abbrev pub substring : List Datum → List Datum → Result (List Datum) Code
substring vs starts =
    and_then (optional_string vs) (λ t.
    and_then (one_integer starts) (λ start. Ok (one_text (items_at (λ p. int_le start p) t))))

abbrev pub substring_3
    : List Datum → List Datum → List Datum → Result (List Datum) Code
substring_3 vs starts lengths =
    and_then (optional_string vs) (λ t.
    and_then (one_integer starts) (λ start.
    and_then (one_integer lengths) (λ len.
    Ok (one_text (items_at (λ p. int_le start p && int_lt p (start +ℤ len)) t)))))

abbrev pub string_to_codepoints : List Datum → Result (List Datum) Code
string_to_codepoints = of_string (map (λ c. integer (pos c)))

-- ---- one text in another

-- how many characters stand before the first place at which u stands in a text
abbrev pub first_place : List ℕ → List ℕ → Option ℕ
first_place u [] = if begins_with nat_eq [] u then Some 0 else None
first_place u (c ∷ t) =
    if begins_with nat_eq (c ∷ t) u then Some 0 else option_map suc (first_place u t)

-- what stands before it and after it; nothing where there is none
abbrev pub text_before : List ℕ → List ℕ → List ℕ
text_before u t = option_map_or (λ n. take n t) (first_place u t) []

abbrev pub text_after : List ℕ → List ℕ → List ℕ
text_after u t = option_map_or (λ n. drop (n + length u) t) (first_place u t) []

abbrev pub contains : List Datum → List Datum → Result (List Datum) Code
contains = of_strings (λ t u. boolean (is_some (first_place u t)) ∷ [])

abbrev pub starts_with : List Datum → List Datum → Result (List Datum) Code
starts_with = of_strings (λ t u. boolean (begins_with nat_eq t u) ∷ [])

abbrev pub ends_with : List Datum → List Datum → Result (List Datum) Code
ends_with = of_strings (λ t u. boolean (ends_in nat_eq t u) ∷ [])

abbrev pub substring_before : List Datum → List Datum → Result (List Datum) Code
substring_before = of_strings (λ t u. one_text (text_before u t))

abbrev pub substring_after : List Datum → List Datum → Result (List Datum) Code
substring_after = of_strings (λ t u. one_text (text_after u t))

-- ---- pieces between blanks

-- a space, a tab, a carriage return or a line feed
abbrev pub is_blank : ℕ → Bool
is_blank c = (c == 32) || (c == 9) || (c == 13) || (c == 10)

abbrev pub is_not_empty : List ℕ → Bool
is_not_empty [] = false
is_not_empty (c ∷ t) = true

abbrev pub words_of : List ℕ → List (List ℕ)
words_of t = filter is_not_empty (slice_split is_blank t)

abbrev pub normalize_space : List Datum → Result (List Datum) Code
normalize_space = of_string (λ t. one_text (joined_by (32 ∷ []) (words_of t)))

abbrev pub tokenize : List Datum → Result (List Datum) Code
tokenize = of_string (λ t. map text (words_of t))

-- ---- characters for characters

-- what is put for a character that stands among some: the image at its first place there, which is
-- nothing behind the last image
abbrev pub replacement : List ℕ → List ℕ → ℕ → Option (List ℕ)
replacement [] images c = None
replacement (d ∷ characters) images c =
    if c == d then Some (take 1 images) else replacement characters (drop 1 images) c

-- another character stays
abbrev pub translated : List ℕ → List ℕ → ℕ → List ℕ
translated characters images c = unwrap_or (replacement characters images c) (c ∷ [])

abbrev pub translate
    : List Datum → List Datum → List Datum → Result (List Datum) Code
translate vs ws zs =
    and_then (optional_string vs) (λ t.
    and_then (optional_string ws) (λ characters.
    and_then (optional_string zs) (λ images.
    Ok (one_text (flat_map (translated characters images) t)))))
