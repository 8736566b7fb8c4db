-- What token_at finds is the longest token.
use Rattle.std.proofs.Common.{◌≡◌, ◌⊎◌, inl, inr, ℕ, ◌+◌, ◌<◌, ◌≤◌, List, ◌∷◌, [], ◌++◌, length, drop, Bool, true, false, not, cond, ◌&&◌, ◌==◌, nat_lt, sym, ◌∙◌, ap, subst, refl, arith, Option, Some, None, codes}
use Rattle.std.proofs.lemmas.Bool.{cond-true, cond-false, and_parts, and_from, lt-ltb, le-ltb, ltb-true, eq-eqb, eqb-true, cases_Bool}
use Rattle.std.specs.List.{prefix_len}
use Rattle.std.specs.Char.{is_ascii_digit}
use Rattle.query_lexer.specs.Bytes.{next_passes, is_letter, is_name_byte, is_mark, is_double_mark}
use Rattle.query_lexer.specs.Scan.{name_length, fraction_at, exponent_at, number_kind, number_at, mark_at, var_at, token_at, first_some, starts_with, text_of_length, string_length}
use Rattle.num_fixed.specs.Scan.{digits_len}
use Rattle.num_fixed.specs.Fronts.{fraction_len}
use Rattle.query_lexer.specs.Words.{IsName, IsVar, IsText, IsMark, Fits}
use Rattle.query_lexer.specs.declared.token.TokenKind.{TokenKind}
use Rattle.query_lexer.specs.declared.token.TokenKind.TheVariants as k
use Rattle.query_lexer.proofs.Runs.{run_le}
use Rattle.query_lexer.proofs.Cases.{chosen, some_pair}
use Rattle.query_lexer.proofs.Classes.{Other, digit_is_other, point_is_other, mark_is_other, mark_no_digit, double_mark_first}
use Rattle.query_lexer.proofs.LongestNumbers.{int_reaches, dec_reaches, double_reaches}
use Rattle.query_lexer.proofs.StringLemmas.{string_read}
use Rattle.query_lexer.proofs.Reaching.{Reaches}

-- the four ways that the first byte decides
token_letter : (b : ℕ) (r : List ℕ) → is_letter b ≡ true → token_at (b ∷ r) ≡ Some (k.Name, name_length (b ∷ r))
unfolding token_at
token_letter b r h = cond-true _ _ _ h

token_dollar : (r : List ℕ) → token_at (36 ∷ r) ≡ var_at r
unfolding token_at is_letter
token_dollar r = refl

token_quote : (r : List ℕ) → token_at (34 ∷ r) ≡ text_of_length (string_length r)
unfolding token_at is_letter
token_quote r = refl

token_other : (b : ℕ) (r : List ℕ) → Other b → token_at (b ∷ r) ≡ first_some (number_at (b ∷ r)) (mark_at (b ∷ r))
unfolding token_at
token_other b r o = cond-false _ _ _ o.letter ∙ cond-false _ _ _ o.dollar ∙ cond-false _ _ _ o.quote

number_some : (text : List ℕ) (x : TokenKind × ℕ) → number_at text ≡ Some x → 0 < digits_len text + fraction_at text
unfolding number_at
number_some text x h = elim (chosen (nat_lt 0 (digits_len text + fraction_at text)) _ _ _ h) [
  | inl (some, is) ↦ ltb-true 0 _ some
  | inr (none, is) ↦ let never : ⊥ = cc in absurd never
]

no_digit : (b : ℕ) (r : List ℕ) → is_ascii_digit b ≡ false → digits_len (b ∷ r) ≡ 0
no_digit b r h = cond-false _ _ _ h

-- where no digit stands first there is no whole part
only_fraction : (b : ℕ) (r : List ℕ) → is_ascii_digit b ≡ false → fraction_at (b ∷ r) ≡ fraction_len (b ∷ r)
unfolding fraction_at
only_fraction b r h = ap (λ n. fraction_len (drop n (b ∷ r))) (no_digit b r h)

no_fraction : (b : ℕ) (r : List ℕ) → (b == 46) ≡ false → fraction_len (b ∷ r) ≡ 0
unfolding fraction_len
no_fraction b r h = ap (λ v. cond (v && nat_lt 0 (digits_len r)) (1 + digits_len r) 0) h

-- where a number may begin
number_begins : (b : ℕ) (r : List ℕ) (x : TokenKind × ℕ) → number_at (b ∷ r) ≡ Some x → (is_ascii_digit b ≡ true) ⊎ (b ≡ 46)
number_begins b r x h = elim (cases_Bool (is_ascii_digit b)) [
  | inl e ↦ inl e
  | inr e ↦ elim (cases_Bool (b == 46)) [
    | inl p ↦ inr (eqb-true b 46 p)
    | inr p ↦ absurd (omega (arith, number_some (b ∷ r) x h, no_digit b r e, only_fraction b r e, no_fraction b r p))
  ]
]

begins_other : (b : ℕ) (r : List ℕ) (x : TokenKind × ℕ) → number_at (b ∷ r) ≡ Some x → Other b
begins_other b r x h = elim (number_begins b r x h) [ inl d ↦ digit_is_other b d | inr p ↦ subst Other (sym p) point_is_other ]

no_number : (kind : TokenKind) (n : ℕ) → number_at [] ≡ Some (kind, n) → ⊥
unfolding number_at fraction_at fraction_len
no_number kind n h = cc

-- a number that is reached is reached as a token
number_wins : (text : List ℕ) (kind : TokenKind) (n : ℕ) → Reaches (number_at text) kind n → Reaches (token_at text) kind n
number_wins [] kind n v = absurd (no_number v.other v.long v.is)
number_wins (b ∷ r) kind n v = record {
  other = v.other;
  long = v.long;
  is = token_other b r (begins_other b r (v.other, v.long) v.is) ∙ ap (λ o. first_some o (mark_at (b ∷ r))) v.is;
  above = v.above;
  same = v.same;
}

-- names
name_long : (v rest : List ℕ) → IsName v → length v ≤ name_length (v ++ rest)
unfolding name_length
name_long [] rest h = absurd h
name_long (b ∷ v) rest h =
    let l = run_le is_name_byte v rest h.1 in
    let e = cond-true (is_letter b) (1 + prefix_len is_name_byte (v ++ rest)) 0 h.0 in
    omega arith

name_reaches : (v rest : List ℕ) → IsName v → Reaches (token_at (v ++ rest)) k.Name (length v)
name_reaches [] rest h = absurd h
name_reaches (b ∷ v) rest h = record {
  other = k.Name;
  long = name_length (b ∷ (v ++ rest));
  is = token_letter b (v ++ rest) h.0;
  above = name_long (b ∷ v) rest h;
  same = λ e. refl;
}

-- variables
pub starts : (cs text : List ℕ) → starts_with cs text ≡ true → text ≡ cs ++ drop (length cs) text
starts [] text h = refl
starts (c ∷ cs) [] h = cc
starts (c ∷ cs) (b ∷ r) h =
    let both = and_parts (b == c) (starts_with cs r) h in
    ap (λ v. v ∷ r) (eqb-true b c both.0) ∙ ap (λ t. c ∷ t) (starts cs r both.1)

starts_again : (cs rest : List ℕ) → starts_with cs (cs ++ rest) ≡ true
starts_again [] rest = refl
starts_again (c ∷ cs) rest = and_from _ _ (eq-eqb c c refl) (starts_again cs rest)

error_name : (rest : List ℕ) → name_length (codes "err:code" ++ rest) ≡ 3
unfolding name_length is_letter is_name_byte
error_name rest = refl

is_error : List ℕ → Bool
is_error r = starts_with (codes "err:code") r && not (next_passes is_name_byte (drop 8 r))

var_error : (r : List ℕ) → is_error r ≡ true → var_at r ≡ Some (k.Var, 9)
unfolding var_at is_error
var_error r h = cond-true _ _ _ h

var_name : (r : List ℕ) → is_error r ≡ false → 0 < name_length r → var_at r ≡ Some (k.Var, 1 + name_length r)
unfolding var_at is_error
var_name r h n = cond-false _ _ _ h ∙ cond-true _ _ _ (lt-ltb 0 _ n)

error_short : (r : List ℕ) → is_error r ≡ true → name_length r ≡ 3
unfolding is_error
error_short r h =
    let both = and_parts (starts_with (codes "err:code") r) (not (next_passes is_name_byte (drop 8 r))) h in
    ap name_length (starts (codes "err:code") r both.0) ∙ error_name (drop 8 r)

error_again : (rest : List ℕ) → next_passes is_name_byte rest ≡ false → is_error (codes "err:code" ++ rest) ≡ true
unfolding is_error
error_again rest h = ap not h

some_name : (v : List ℕ) → IsName v → 0 < length v
some_name [] h = absurd h
some_name (b ∷ v) h = omega arith

var_reaches : (v rest : List ℕ) → IsVar v rest → Reaches (token_at (v ++ rest)) k.Var (length v)
var_reaches [] rest h = absurd h
var_reaches (b ∷ v) rest (dollar, inl name) =
    subst (λ c. Reaches (token_at (c ∷ (v ++ rest))) k.Var (length (c ∷ v))) (sym dollar) (
    let l = name_long v rest name in
    let some = some_name v name in
    elim (cases_Bool (is_error (v ++ rest))) [
      | inl e ↦ record { other = k.Var; long = 9; is = token_dollar (v ++ rest) ∙ var_error (v ++ rest) e; above = omega (arith, l, error_short (v ++ rest) e); same = λ q. refl }
      | inr e ↦ record { other = k.Var; long = 1 + name_length (v ++ rest); is = token_dollar (v ++ rest) ∙ var_name (v ++ rest) e (omega arith); above = omega arith; same = λ q. refl }
    ])
var_reaches (b ∷ v) rest (dollar, inr (spelled, ends)) =
    subst (λ c. Reaches (token_at (c ∷ (v ++ rest))) k.Var (length (c ∷ v))) (sym dollar) (
    subst (λ u. Reaches (token_at (36 ∷ (u ++ rest))) k.Var (length (36 ∷ u))) (sym spelled)
    (record { other = k.Var; long = 9; is = token_dollar (codes "err:code" ++ rest) ∙ var_error (codes "err:code" ++ rest) (error_again rest ends); above = omega arith; same = λ q. refl }))

context_found : (rest : List ℕ) → token_at (36 ∷ 36 ∷ rest) ≡ Some (k.Context, 2)
unfolding token_at var_at name_length is_letter
context_found rest = refl

text_reaches : (v rest : List ℕ) → IsText v → Reaches (token_at (v ++ rest)) k.Text (length v)
text_reaches v rest (r, ps, is, good) =
    subst (λ t. Reaches (token_at (t ++ rest)) k.Text (length t)) (sym is)
    (record { other = k.Text; long = 1 + length r; is = token_quote (r ++ rest) ∙ ap text_of_length (string_read ps r rest good); above = omega arith; same = λ q. refl })

-- marks
mark_one : (b : ℕ) (rest : List ℕ) → is_mark b ≡ true → Reaches (mark_at (b ∷ rest)) k.Mark 1
unfolding mark_at
mark_one b rest h = elim (cases_Bool (next_passes (is_double_mark b) rest)) [
  | inl e ↦ record { other = k.Mark; long = 2; is = cond-true _ _ _ e; above = omega arith; same = λ q. refl }
  | inr e ↦ record { other = k.Mark; long = 1; is = cond-false _ _ _ e ∙ cond-true _ _ _ h; above = omega arith; same = λ q. refl }
]

mark_two : (b c : ℕ) (rest : List ℕ) → is_double_mark b c ≡ true → mark_at (b ∷ c ∷ rest) ≡ Some (k.Mark, 2)
unfolding mark_at
mark_two b c rest h = cond-true _ _ _ h

number_none : (b : ℕ) (r : List ℕ) → is_ascii_digit b ≡ false → (b == 46) ≡ false → number_at (b ∷ r) ≡ None
unfolding number_at
number_none b r d p = let none : digits_len (b ∷ r) + fraction_at (b ∷ r) ≤ 0 = omega (arith, no_digit b r d, only_fraction b r d, no_fraction b r p) in
    cond-false _ _ _ (le-ltb 0 _ none)

two_or_none : (b : ℕ) (r : List ℕ) → (fraction_len (b ∷ r) ≡ 0) ⊎ (2 ≤ fraction_len (b ∷ r))
unfolding fraction_len
two_or_none b r = elim (cases_Bool (b == 46 && nat_lt 0 (digits_len r))) [
  | inl e ↦ let v = cond-true _ (1 + digits_len r) 0 e in inr (omega (arith, ltb-true 0 (digits_len r) (and_parts (b == 46) (nat_lt 0 (digits_len r)) e).1, v))
  | inr e ↦ inl (cond-false _ (1 + digits_len r) 0 e)
]

pub option_cases : {A : Type 0} (o : Option A) → (o ≡ None) ⊎ ((x : A) × (o ≡ Some x))
option_cases None = inl refl
option_cases (Some x) = inr (x, refl)

number_size : (text : List ℕ) (kind : TokenKind) (n : ℕ) → number_at text ≡ Some (kind, n) → digits_len text + fraction_at text ≤ n
unfolding number_at
number_size text kind n h = elim (chosen (nat_lt 0 (digits_len text + fraction_at text)) _ _ _ h) [
  | inl (some, is) ↦
      let e = (some_pair {A = TokenKind} {B = ℕ} (number_kind (fraction_at text) (exponent_at text), digits_len text + fraction_at text + exponent_at text) (kind, n) is).1 in
      omega arith
  | inr (none, is) ↦ let never : ⊥ = cc in absurd never
]

number_two : (b : ℕ) (r : List ℕ) (kind : TokenKind) (n : ℕ) → is_ascii_digit b ≡ false → number_at (b ∷ r) ≡ Some (kind, n) → 2 ≤ n
number_two b r kind n d h =
    let size = number_size (b ∷ r) kind n h in
    let some = number_some (b ∷ r) (kind, n) h in
    let f = only_fraction b r d in
    let g = no_digit b r d in
    elim (two_or_none b r) [ inl e ↦ absurd (omega arith) | inr e ↦ omega arith ]

-- a mark of one byte, or a number that is longer
one_reaches : (b : ℕ) (rest : List ℕ) → is_mark b ≡ true → Reaches (token_at (b ∷ rest)) k.Mark 1
one_reaches b rest h =
    let at = token_other b rest (mark_is_other b h) in
    elim (option_cases (number_at (b ∷ rest))) [
      | inl e ↦
          let v = mark_one b rest h in
          record { other = v.other; long = v.long; is = at ∙ ap (λ o. first_some o (mark_at (b ∷ rest))) e ∙ v.is; above = v.above; same = v.same }
      | inr (x, e) ↦
          let two = number_two b rest x.0 x.1 (mark_no_digit b h) e in
          record { other = x.0; long = x.1; is = at ∙ ap (λ o. first_some o (mark_at (b ∷ rest))) e; above = omega arith; same = λ q. absurd (omega arith) }
    ]

mark_reaches : (v rest : List ℕ) → IsMark v → Reaches (token_at (v ++ rest)) k.Mark (length v)
mark_reaches [] rest h = absurd h
mark_reaches (b ∷ []) rest h = one_reaches b rest h
mark_reaches (b ∷ c ∷ []) rest h =
    let (mark, point) = double_mark_first b c h in
    record {
      other = k.Mark;
      long = 2;
      is = token_other b (c ∷ rest) (mark_is_other b mark) ∙ ap (λ o. first_some o (mark_at (b ∷ c ∷ rest))) (number_none b (c ∷ rest) (mark_no_digit b mark) point) ∙ mark_two b c rest h;
      above = omega arith;
      same = λ q. refl;
    }
mark_reaches (b ∷ c ∷ d ∷ v) rest h = absurd h

-- no token at the front is longer than what is found, and one that is as long is of its kind
pub reaches : (kind : TokenKind) (v rest : List ℕ) → Fits kind v rest → Reaches (token_at (v ++ rest)) kind (length v)
reaches k.Name v rest h = name_reaches v rest h
reaches k.Var v rest h = var_reaches v rest h
reaches k.Context v rest h =
    subst (λ t. Reaches (token_at (t ++ rest)) k.Context (length t)) (sym h)
    (record { other = k.Context; long = 2; is = context_found rest; above = omega arith; same = λ q. refl })
reaches k.Int v rest h = number_wins (v ++ rest) k.Int (length v) (int_reaches v rest h)
reaches k.Dec v rest h = number_wins (v ++ rest) k.Dec (length v) (dec_reaches v rest h)
reaches k.Double v rest h = number_wins (v ++ rest) k.Double (length v) (double_reaches v rest h)
reaches k.Text v rest h = text_reaches v rest h
reaches k.Mark v rest h = mark_reaches v rest h
