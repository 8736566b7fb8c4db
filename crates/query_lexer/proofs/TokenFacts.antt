-- What a caller knows of a token of a text. For other crates too.
use Rattle.std.proofs.Common.{◌≡◌, ◌⊎◌, inl, inr, ℕ, ◌+◌, ◌-◌, ◌<◌, ◌≤◌, List, [], length, length-drop, take, drop, false, sym, ◌∙◌, ap, subst, refl, arith, ℤ}
use Rattle.std.specs.Prelude.{Result, Ok, Err, IfOk, IfErr}
use Rattle.std.specs.Str.{IsUtf8, IsCharBoundary}
use Rattle.std.proofs.lemmas.List.{drop-drop}
use Rattle.num_fixed.specs.Bounds.{NumberInBounds}
use Rattle.num_fixed.specs.Numeral.{Numeral, IsNumeral, IsNumberText, Says, IsOutOfBounds}
use Rattle.num_fixed.specs.declared.number.Number.{Number}
use Rattle.num_fixed.specs.declared.number.Number.TheVariants.{Int, Dec}
use Rattle.num_fixed.specs.declared.number.NumFault.{NumFault}
use Rattle.num_fixed.specs.declared.number.NumFault.TheVariants.{Overflow}
use Rattle.query_lexer.specs.Lexes.{IsOut, runs_on, IsTokenOf, spelling}
use Rattle.query_lexer.specs.Scan.{numeral_of}
use Rattle.query_lexer.specs.Words.{Fits}
use Rattle.query_lexer.specs.declared.token.TokenKind.TheVariants as k
use Rattle.query_lexer.specs.declared.token.Token.{Token}
use Rattle.query_lexer.proofs.BoundaryLemmas.{token_ends, cut_before, cut_behind}
use Rattle.query_lexer.proofs.PathLemmas.{word_forward}
use Rattle.query_lexer.proofs.PlaceLemmas.{token_placed}
use Rattle.query_lexer.proofs.RangeLemmas.{number_numeral, int_said, dec_said}

-- ---- how it is spelled

pub record IsSpelled (text : List ℕ) (token : Token) : Type 0 where
  pub some : token.from < token.to
  pub within : token.to ≤ length text
  pub fits : Fits token.kind (spelling text token) (drop token.to text)
  pub apart : runs_on token.kind (drop token.to text) ≡ false
  pub inside : IsOut token.kind (spelling text token) → ⊥

pub token_spelled : (text : List ℕ) (token : Token) → IsTokenOf text token → IsSpelled text token
token_spelled text token of =
    let p = token_placed text token of in
    let tail = drop token.from text in
    let f = word_forward tail token.kind p.size p.word in
    let size : p.size ≡ token.to - token.from = omega (arith, p.to) in
    let rest : drop p.size tail ≡ drop token.to text = drop-drop p.size token.from text ∙ ap (λ n. drop n text) (sym p.to) in
    record {
      some = omega (arith, p.to, f.some);
      within = omega (arith, p.to, f.some, f.within, length-drop token.from text);
      fits = subst (λ n. Fits token.kind (take n tail) (drop token.to text)) size (subst (Fits token.kind (take p.size tail)) rest p.word.longest.fits);
      apart = ap (runs_on token.kind) (sym rest) ∙ p.apart;
      inside = λ out. p.inside (subst (λ n. IsOut token.kind (take n tail)) (sym size) out);
    }

-- ---- where it may be cut out

pub token_begins : (text : List ℕ) (token : Token) → IsTokenOf text token → IsCharBoundary text token.from
token_begins text token of =
    let s = token_spelled text token of in
    cut_before text token.from (token.to - token.from) (omega (arith, s.some, s.within)) (omega (arith, s.some)) (token_ends token.kind (spelling text token) (drop token.to text) s.fits)

pub token_stops : (text : List ℕ) (token : Token) → IsUtf8 text → IsTokenOf text token → IsCharBoundary text token.to
token_stops text token u of =
    let s = token_spelled text token of in
    let size : token.from + (token.to - token.from) ≡ token.to = omega (arith, s.some) in
    subst (IsCharBoundary text) size (cut_behind text token.from (token.to - token.from) u (omega (arith, s.some, s.within)) (omega (arith, s.some)) (token_ends token.kind (spelling text token) (drop token.to text) s.fits))

-- ---- what its number is

pub number_text : (text : List ℕ) (token : Token) → IsTokenOf text token → (token.kind ≡ k.Int) ⊎ (token.kind ≡ k.Dec) → IsNumberText (spelling text token)
number_text text token of kind =
    let w = spelling text token in
    (numeral_of w, number_numeral token.kind w (drop token.to text) kind (token_spelled text token of).fits)

-- what read_number answers, by the clauses of that call
pub record IsAnswer (w : List ℕ) (r : Result Number NumFault) : Type 0 where
  pub value : (n : Numeral) → IsNumeral n w [] → IfOk r (λ x. Says n x × NumberInBounds x)
  pub overflow : (n : Numeral) → IsNumeral n w [] → IfErr r (λ e. (e ≡ Overflow) × IsOutOfBounds n)

int_answer : (w rest : List ℕ) (r : Result Number NumFault) → Fits k.Int w rest → (IsOut k.Int w → ⊥) → IsAnswer w r → (m : ℤ) × (r ≡ Ok (Int m))
int_answer w rest (Err e) fits inside a = let n = number_numeral k.Int w rest (inl refl) fits in absurd (inside (numeral_of w, n, (a.overflow (numeral_of w) n).1))
int_answer w rest (Ok (Int m)) fits inside a = (m, refl)
int_answer w rest (Ok (Dec m)) fits inside a = absurd (int_said w m fits (a.value (numeral_of w) (number_numeral k.Int w rest (inl refl) fits)).0)

dec_answer : (w rest : List ℕ) (r : Result Number NumFault) → Fits k.Dec w rest → (IsOut k.Dec w → ⊥) → IsAnswer w r → (m : ℤ) × (r ≡ Ok (Dec m))
dec_answer w rest (Err e) fits inside a = let n = number_numeral k.Dec w rest (inr refl) fits in absurd (inside (numeral_of w, n, (a.overflow (numeral_of w) n).1))
dec_answer w rest (Ok (Int m)) fits inside a = absurd (dec_said w m fits (a.value (numeral_of w) (number_numeral k.Dec w rest (inr refl) fits)).0)
dec_answer w rest (Ok (Dec m)) fits inside a = (m, refl)

pub int_read : (text : List ℕ) (token : Token) (w : List ℕ) (r : Result Number NumFault) → IsTokenOf text token → token.kind ≡ k.Int → w ≡ spelling text token → IsAnswer w r → (m : ℤ) × (r ≡ Ok (Int m))
int_read text token w r of kind is a =
    let s = token_spelled text token of in
    let rest = drop token.to text in
    int_answer w rest r (subst (λ t. Fits k.Int t rest) (sym is) (subst (λ q. Fits q (spelling text token) rest) kind s.fits)) (subst (λ t. IsOut k.Int t → ⊥) (sym is) (subst (λ q. IsOut q (spelling text token) → ⊥) kind s.inside)) a

pub dec_read : (text : List ℕ) (token : Token) (w : List ℕ) (r : Result Number NumFault) → IsTokenOf text token → token.kind ≡ k.Dec → w ≡ spelling text token → IsAnswer w r → (m : ℤ) × (r ≡ Ok (Dec m))
dec_read text token w r of kind is a =
    let s = token_spelled text token of in
    let rest = drop token.to text in
    dec_answer w rest r (subst (λ t. Fits k.Dec t rest) (sym is) (subst (λ q. Fits q (spelling text token) rest) kind s.fits)) (subst (λ t. IsOut k.Dec t → ⊥) (sym is) (subst (λ q. IsOut q (spelling text token) → ⊥) kind s.inside)) a
