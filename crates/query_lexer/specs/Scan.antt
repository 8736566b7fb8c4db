-- How the longest token at the front of a text is found. Nothing here is part of what a token is:
-- `tokens` says that it is the same.
use Rattle.std.specs.Prelude.{option_map, ℕ, ◌+◌, ◌-◌, Bool, true, false, ◌&&◌, not, ◌==◌, nat_lt, if◌then◌else◌, List, [], ◌∷◌, take, drop, length, Option, Some, None, codes}
use Rattle.std.specs.List.{prefix_len}
use Rattle.num_fixed.specs.Fronts.{fraction_len, exponent_len, fraction_of}
use Rattle.num_fixed.specs.Numeral.{none, Numeral}
use Rattle.num_fixed.specs.Scan.{digits_len}
use Rattle.item_tree.specs.declared.code.Code.TheVariants.{XPST0003, PJST0004}
use Rattle.num_fixed.specs.Values.{number_in_bounds, said}
use Rattle.json_text.specs.inside.Scan.{Part, string_at}
use Rattle.query_lexer.specs.Bytes.{is_letter, is_name_byte, is_blank, is_mark, is_double_mark, next_passes}
use Rattle.query_lexer.specs.Comments.{begins_comment, comment_rest}
use Rattle.query_lexer.specs.Lexes.{runs_on}
use Rattle.query_lexer.specs.declared.token.TokenKind.{TokenKind}
use Rattle.query_lexer.specs.declared.token.TokenKind.TheVariants as k
use Rattle.query_lexer.specs.declared.steps.Step.{Step}
use Rattle.query_lexer.specs.declared.steps.Step.TheVariants as step

-- ---- names and variables

unfoldable pub name_length : List ℕ → ℕ
name_length [] = 0
name_length (b ∷ r) = if is_letter b then 1 + prefix_len is_name_byte r else 0

abbrev pub starts_with : List ℕ → List ℕ → Bool
starts_with [] text = true
starts_with (c ∷ cs) [] = false
starts_with (c ∷ cs) (b ∷ r) = b == c && starts_with cs r

-- behind a $
unfoldable pub var_at : List ℕ → Option (TokenKind × ℕ)
var_at r =
    if starts_with (codes "err:code") r && not (next_passes is_name_byte (drop 8 r))
    then Some (k.Var, 9)
    else (if nat_lt 0 (name_length r) then Some (k.Var, 1 + name_length r)
    else (if next_passes (λ b. b == 36) r then Some (k.Context, 2) else None))

-- ---- numbers

-- what the point and its digits, and the exponent, are behind the digits at the front
unfoldable pub fraction_at : List ℕ → ℕ
fraction_at text = fraction_len (drop (digits_len text) text)

unfoldable pub exponent_at : List ℕ → ℕ
exponent_at text = exponent_len (drop (digits_len text + fraction_at text) text)

-- the kind of the number whose fraction and exponent have these lengths
abbrev pub number_kind : ℕ → ℕ → TokenKind
number_kind fraction exponent =
    if nat_lt 0 exponent then k.Double else (if nat_lt 0 fraction then k.Dec else k.Int)

-- the longest number
unfoldable pub number_at : List ℕ → Option (TokenKind × ℕ)
number_at text =
    if nat_lt 0 (digits_len text + fraction_at text)
    then Some (
      number_kind (fraction_at text) (exponent_at text),
      digits_len text + fraction_at text + exponent_at text,
    ) else None

-- the numeral of an Int or a Dec
unfoldable pub numeral_of : List ℕ → Numeral
numeral_of w = record {
  sign = none;
  int = take (digits_len w) w;
  frac = fraction_of (drop (digits_len w) w);
  exp = None;
}

abbrev pub is_out_number : List ℕ → Bool
is_out_number w = not (number_in_bounds (said (numeral_of w)))

-- a literal that is out of range
unfoldable pub is_out : TokenKind → List ℕ → Bool
is_out k.Int w = is_out_number w
is_out k.Dec w = is_out_number w
is_out _ w = false

-- ---- strings

-- the end of a string, where no character is left
abbrev pub closed_at : List ℕ → Part (List ℕ)
closed_at [] = None
closed_at (b ∷ r) = if b == 34 then Some ([], r) else None

abbrev pub behind : Part (List ℕ) → Option (List ℕ)
behind p = option_map (λ q. q.1) p

abbrev pub size_before : List ℕ → Part (List ℕ) → Option ℕ
size_before l None = None
size_before l (Some p) = Some (length l - length p.1)

-- how many bytes there are until a string ends, its closing quote included
unfoldable pub string_length : List ℕ → Option ℕ
string_length l = size_before l (string_at l)

abbrev pub text_of_length : Option ℕ → Option (TokenKind × ℕ)
text_of_length None = None
text_of_length (Some n) = Some (k.Text, 1 + n)

-- ---- marks

unfoldable pub mark_at : List ℕ → Option (TokenKind × ℕ)
mark_at [] = None
mark_at (b ∷ r) =
    if next_passes (is_double_mark b) r then Some (k.Mark, 2)
    else (if is_mark b then Some (k.Mark, 1) else None)

-- ---- any token

abbrev pub first_some : Option (TokenKind × ℕ) → Option (TokenKind × ℕ) → Option (TokenKind × ℕ)
first_some (Some x) o = Some x
first_some None o = o

-- the longest token at the front
unfoldable pub token_at : List ℕ → Option (TokenKind × ℕ)
token_at [] = None
token_at (b ∷ r) =
    if is_letter b then Some (k.Name, name_length (b ∷ r))
    else (if b == 36 then var_at r
    else (if b == 34 then text_of_length (string_length r)
    else first_some (number_at (b ∷ r)) (mark_at (b ∷ r))))

-- ---- one place

abbrev pub comment_step : Option ℕ → Step
comment_step None = step.Refuse XPST0003
comment_step (Some m) = step.Skip (2 + m)

abbrev pub word_step : List ℕ → Option (TokenKind × ℕ) → Step
word_step text None = step.Refuse XPST0003
word_step text (Some x) =
    if runs_on x.0 (drop x.1 text) then step.Refuse XPST0003
    else (if is_out x.0 (take x.1 text) then step.Refuse PJST0004 else step.Take x.0 x.1)

-- what stands at the front of a text that isn't empty
unfoldable pub step_at : List ℕ → Step
step_at text =
    if next_passes is_blank text then step.Skip 1
    else
    (if begins_comment text then comment_step (comment_rest 0 (drop 2 text))
    else word_step text (token_at text))
