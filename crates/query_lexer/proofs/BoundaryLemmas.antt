-- A token begins and ends with an ASCII byte, so a text may be cut before it and behind it.
-- For other crates too.
use Rattle.std.proofs.Common.{◌≡◌, ◌⊎◌, inl, inr, ℕ, ◌+◌, ◌-◌, ◌<◌, ◌≤◌, List, ◌∷◌, [], ◌++◌, length, length-append, length-drop, take, drop, get_or, true, Bool, nat_lt, sym, ◌∙◌, ap, subst, refl, arith, codes}
use Rattle.std.specs.Char.{is_ascii_digit}
use Rattle.std.specs.List.{list_all}
use Rattle.std.specs.Str.{IsAscii, IsUtf8, IsCharBoundary}
use Rattle.std.proofs.lemmas.Bool.{and_parts, ltb-true}
use Rattle.std.proofs.lemmas.Bool.Decides.{nat_tests}
use Rattle.std.proofs.lemmas.List.{get_or-take, get_or-drop, get_or_at, length-take-le}
use Rattle.std.proofs.lemmas.Str.{IsAscii-append, IsCharBoundary-before_ascii, IsCharBoundary-after_ascii}
use Rattle.std.proofs.lemmas.Str.Ascii.{IsAscii-nil, IsAscii-cons}
use Rattle.query_lexer.specs.Bytes.{is_letter, is_name_byte, is_mark, is_double_mark}
use Rattle.query_lexer.specs.Words.{IsName, IsVar, IsDigits, IsDec, IsSign, IsExponent, IsDouble, IsText, IsMark, Fits}
use Rattle.query_lexer.specs.declared.token.TokenKind.{TokenKind}
use Rattle.query_lexer.specs.declared.token.TokenKind.TheVariants as k
use Rattle.query_lexer.proofs.Cases.{tested}
use Rattle.query_lexer.proofs.Classes.{double_mark_first}
use Rattle.query_lexer.proofs.StringLemmas.{pieces_end}

-- ---- what is ASCII throughout

run_ascii : (p : ℕ → Bool) (w : List ℕ) → ((b : ℕ) → p b ≡ true → b < 128) → list_all p w ≡ true → IsAscii w
run_ascii p [] small h = IsAscii-nil
run_ascii p (b ∷ w) small h = let both = and_parts (p b) (list_all p w) h in IsAscii-cons b w (small b both.0) (run_ascii p w small both.1)

below : (b : ℕ) → nat_lt b 128 ≡ true → b < 128
below b h = ltb-true b 128 h

digit_below : (b : ℕ) → is_ascii_digit b ≡ true → b < 128
digit_below b h = grind (arith, nat_tests)

letter_below : (b : ℕ) → is_letter b ≡ true → b < 128
unfolding is_letter
letter_below b h = grind (arith, nat_tests)

name_below : (b : ℕ) → is_name_byte b ≡ true → b < 128
unfolding is_name_byte is_letter
name_below b h = grind (arith, nat_tests)

mark_below : (b : ℕ) → is_mark b ≡ true → b < 128
unfolding is_mark
mark_below b h = below b (tested (λ c. nat_lt c 128) (codes "()[]{},;:.!|+-*=<>#?") refl b h)

second_below : (b c : ℕ) → is_double_mark b c ≡ true → c < 128
unfolding is_double_mark
second_below b c h = grind (arith, nat_tests)

name_ascii : (w : List ℕ) → IsName w → IsAscii w
name_ascii [] h = absurd h
name_ascii (b ∷ r) h = IsAscii-cons b r (letter_below b h.0) (run_ascii is_name_byte r name_below h.1)

dollar_ascii : (b : ℕ) (r : List ℕ) → b ≡ 36 → IsAscii r → IsAscii (b ∷ r)
dollar_ascii b r e h = IsAscii-cons b r (omega arith) h

var_ascii : (w rest : List ℕ) → IsVar w rest → IsAscii w
var_ascii [] rest h = absurd h
var_ascii (b ∷ r) rest (e, inl name) = dollar_ascii b r e (name_ascii r name)
var_ascii (b ∷ r) rest (e, inr (code, ends)) = dollar_ascii b r e (subst IsAscii (sym code) (run_ascii (λ c. nat_lt c 128) (codes "err:code") below refl))

digits_ascii : (w : List ℕ) → IsDigits w → IsAscii w
digits_ascii w h = run_ascii is_ascii_digit w digit_below h.1

dec_ascii : (w : List ℕ) → IsDec w → IsAscii w
dec_ascii w (a, b, is, before, behind) = subst IsAscii (sym is) (IsAscii-append a (46 ∷ b) (run_ascii is_ascii_digit a digit_below before) (IsAscii-cons 46 b (omega arith) (digits_ascii b behind)))

sign_ascii : (w : List ℕ) → IsSign w → IsAscii w
sign_ascii [] h = IsAscii-nil
sign_ascii (b ∷ []) h = IsAscii-cons b [] (grind (arith, nat_tests)) IsAscii-nil
sign_ascii (b ∷ c ∷ r) h = absurd h

exponent_ascii : (w : List ℕ) → IsExponent w → IsAscii w
exponent_ascii w (e, s, b, is, letter, sign, digits) =
    let small : e < 128 = elim letter [ inl h ↦ omega (arith, h) | inr h ↦ omega (arith, h) ] in
    subst IsAscii (sym is) (IsAscii-cons e (s ++ b) small (IsAscii-append s b (sign_ascii s sign) (digits_ascii b digits)))

mantissa_ascii : (w : List ℕ) → IsDigits w ⊎ IsDec w → IsAscii w
mantissa_ascii w (inl h) = digits_ascii w h
mantissa_ascii w (inr h) = dec_ascii w h

double_ascii : (w : List ℕ) → IsDouble w → IsAscii w
double_ascii w (m, x, is, mantissa, exponent) = subst IsAscii (sym is) (IsAscii-append m x (mantissa_ascii m mantissa) (exponent_ascii x exponent))

mark_ascii : (w : List ℕ) → IsMark w → IsAscii w
mark_ascii [] h = absurd h
mark_ascii (b ∷ []) h = IsAscii-cons b [] (mark_below b h) IsAscii-nil
mark_ascii (b ∷ c ∷ []) h = IsAscii-cons b (c ∷ []) (mark_below b (double_mark_first b c h).0) (IsAscii-cons c [] (second_below b c h) IsAscii-nil)
mark_ascii (b ∷ c ∷ d ∷ r) h = absurd h

-- ---- the first byte and the last

pub record HasAsciiEnds (w : List ℕ) : Type 0 where
  pub first : get_or w 0 0 < 128
  pub last : get_or w (length w - 1) 0 < 128

ascii_ends : (w : List ℕ) → IsAscii w → HasAsciiEnds w
ascii_ends w h = record { first = h 0; last = h (length w - 1) }

text_ends : (w : List ℕ) → IsText w → HasAsciiEnds w
text_ends w (inside, ps, is, good) =
    let (front, seam) = pieces_end ps inside good in
    let whole : w ≡ (34 ∷ front) ++ 34 ∷ [] = is ∙ ap (λ t. 34 ∷ t) seam in
    let size : length w - 1 ≡ length (34 ∷ front) = omega (arith, ap length whole, length-append (34 ∷ front) (34 ∷ [])) in
    let at = ap (λ n. get_or w n 0) size ∙ ap (λ t. get_or t (length (34 ∷ front)) 0) whole ∙ get_or_at (34 ∷ front) 34 [] 0 (length (34 ∷ front)) refl in
    record { first = omega (arith, ap (λ t. get_or t 0 0) whole); last = omega (arith, at) }

pub token_ends : (kind : TokenKind) (w rest : List ℕ) → Fits kind w rest → HasAsciiEnds w
token_ends k.Name w rest h = ascii_ends w (name_ascii w h)
token_ends k.Var w rest h = ascii_ends w (var_ascii w rest h)
token_ends k.Context w rest h = ascii_ends w (subst IsAscii (sym h) (run_ascii (λ c. nat_lt c 128) (codes "$$") below refl))
token_ends k.Int w rest h = ascii_ends w (digits_ascii w h)
token_ends k.Dec w rest h = ascii_ends w (dec_ascii w h)
token_ends k.Double w rest h = ascii_ends w (double_ascii w h)
token_ends k.Text w rest h = text_ends w h
token_ends k.Mark w rest h = ascii_ends w (mark_ascii w h)

-- ---- where a text may be cut

pub cut_before : (text : List ℕ) (from n : ℕ) → from + n ≤ length text → 0 < n → HasAsciiEnds (take n (drop from text)) → IsCharBoundary text from
cut_before text from n within some ends =
    let place : from + 0 ≡ from = omega arith in
    let at = get_or-take n (drop from text) 0 0 some ∙ get_or-drop from text 0 0 ∙ ap (λ i. get_or text i 0) place in
    IsCharBoundary-before_ascii text from (omega arith) (omega (arith, ends.first, at))

pub cut_behind : (text : List ℕ) (from n : ℕ) → IsUtf8 text → from + n ≤ length text → 0 < n → HasAsciiEnds (take n (drop from text)) → IsCharBoundary text (from + n)
cut_behind text from n u within some ends =
    let size = length-take-le n (drop from text) (omega (arith, length-drop from text)) in
    let last : length (take n (drop from text)) - 1 ≡ n - 1 = omega (arith, size) in
    let place : from + (n - 1) ≡ from + n - 1 = omega arith in
    let at = ap (λ i. get_or (take n (drop from text)) i 0) last ∙ get_or-take n (drop from text) (n - 1) 0 (omega arith) ∙ get_or-drop from text (n - 1) 0 ∙ ap (λ i. get_or text i 0) place in
    let end : from + n - 1 + 1 ≡ from + n = omega arith in
    subst (IsCharBoundary text) end (IsCharBoundary-after_ascii text (from + n - 1) u (omega arith) (omega (arith, ends.last, at)))
