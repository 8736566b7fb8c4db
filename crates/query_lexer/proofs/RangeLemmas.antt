-- Whether a literal is out of range. For other crates too.
use Rattle.std.proofs.Common.{◌≡◌, ◌⊎◌, inl, inr, ℕ, ◌<◌, List, ◌∷◌, [], ◌++◌, length, length-append, take, drop, true, false, not, sym, ◌∙◌, ap, subst, refl, arith, append-nil, ℤ}
use Rattle.std.specs.Prelude.{Result, Ok, Err, is_err, IfOk, IfErr, is_some}
use Rattle.std.specs.List.{list_all}
use Rattle.std.specs.Char.{is_ascii_digit}
use Rattle.std.proofs.lemmas.Bool.{cases_Bool}
use Rattle.std.proofs.lemmas.List.{take_at, drop_at}
use Rattle.num_fixed.specs.Bounds.{NumberInBounds}
use Rattle.num_fixed.specs.Numeral.{IsNumeral, Says, IsOutOfBounds}
use Rattle.num_fixed.specs.declared.number.Number.{Number}
use Rattle.num_fixed.specs.declared.number.Number.TheVariants.{Int, Dec}
use Rattle.num_fixed.specs.declared.number.NumFault.{NumFault}
use Rattle.num_fixed.specs.declared.number.NumFault.TheVariants.{Overflow}
use Rattle.num_fixed.proofs.NumeralLemmas.{one_numeral}
use Rattle.num_fixed.proofs.ValueLemmas.{said_inside, said_outside}
use Rattle.query_lexer.specs.Lexes.{IsOutNumber, IsOut}
use Rattle.query_lexer.specs.Scan.{numeral_of, is_out_number, is_out}
use Rattle.num_fixed.specs.Scan.{digits_len}
use Rattle.num_fixed.specs.Fronts.{fraction_of}
use Rattle.query_lexer.specs.Words.{IsDigits, IsDec, Fits}
use Rattle.query_lexer.specs.declared.token.TokenKind.{TokenKind}
use Rattle.query_lexer.specs.declared.token.TokenKind.TheVariants as k
use Rattle.query_lexer.proofs.Runs.{run_is}

-- ---- the numeral of an Int or a Dec

digits_size : (w : List ℕ) → IsDigits w → digits_len w ≡ length w
digits_size w h = ap digits_len (sym (append-nil w)) ∙ run_is is_ascii_digit w [] h.1 refl

digits_back : (w : List ℕ) → IsDigits w → drop (digits_len w) w ≡ []
digits_back w h = ap (λ n. drop n w) (digits_size w h) ∙ ap (drop (length w)) (sym (append-nil w)) ∙ drop_at w [] (length w) refl

digits_numeral : (w : List ℕ) → IsDigits w → IsNumeral (numeral_of w) w []
unfolding numeral_of
digits_numeral w h =
    let front : take (digits_len w) w ≡ w = ap (λ n. take n w) (digits_size w h) ∙ ap (take (length w)) (sym (append-nil w)) ∙ take_at w [] (length w) refl in
    subst (λ a. IsNumeral (record (numeral_of w) { int = a }) w []) (sym front) (
    subst (λ b. IsNumeral (record (numeral_of w) { int = w; frac = fraction_of b }) w []) (sym (digits_back w h))
    (record { behind_int = []; behind_frac = []; sign = sym (append-nil w); int = h.1; frac = refl; exp = refl; some = subst (λ t. 0 < length t) (sym (append-nil w)) h.0 }))

dec_size : (a b : List ℕ) → list_all is_ascii_digit a ≡ true → digits_len (a ++ 46 ∷ b) ≡ length a
dec_size a b h = run_is is_ascii_digit a (46 ∷ b) h refl

dec_back : (a b : List ℕ) → list_all is_ascii_digit a ≡ true → drop (digits_len (a ++ 46 ∷ b)) (a ++ 46 ∷ b) ≡ 46 ∷ b
dec_back a b h = ap (λ n. drop n (a ++ 46 ∷ b)) (dec_size a b h) ∙ drop_at a (46 ∷ b) (length a) refl

dec_numeral : (w : List ℕ) → IsDec w → IsNumeral (numeral_of w) w []
unfolding numeral_of
dec_numeral w (a, b, is, ha, hb) =
    subst (λ w. IsNumeral (numeral_of w) w []) (sym is) (
    let v = a ++ 46 ∷ b in
    let front : take (digits_len v) v ≡ a = ap (λ n. take n v) (dec_size a b ha) ∙ take_at a (46 ∷ b) (length a) refl in
    subst (λ t. IsNumeral (record (numeral_of v) { int = t }) v []) (sym front) (
    subst (λ t. IsNumeral (record (numeral_of v) { int = a; frac = fraction_of t }) v []) (sym (dec_back a b ha))
    (record {
      behind_int = 46 ∷ b;
      behind_frac = [];
      sign = refl;
      int = ha;
      frac = (hb.1, ap (λ t. 46 ∷ t) (sym (append-nil b)));
      exp = refl;
      some = omega (arith, length-append a b, hb.0);
    })))

pub number_numeral : (kind : TokenKind) (w rest : List ℕ) → (kind ≡ k.Int) ⊎ (kind ≡ k.Dec) → Fits kind w rest → IsNumeral (numeral_of w) w []
number_numeral kind w rest (inl e) h = digits_numeral w (subst (λ q. Fits q w rest) e h)
number_numeral kind w rest (inr e) h = dec_numeral w (subst (λ q. Fits q w rest) e h)

-- ---- of which kind the number is that it says

pub int_said : (w : List ℕ) (m : ℤ) → IsDigits w → Says (numeral_of w) (Dec m) → ⊥
unfolding numeral_of
int_said w m h (inl frac, nearest) = let e = ap fraction_of (digits_back w h) in let never = sym (ap is_some e) ∙ frac in cc
int_said w m h (inr exp, nearest) = cc

pub dec_said : (w : List ℕ) (m : ℤ) → IsDec w → Says (numeral_of w) (Int m) → ⊥
unfolding numeral_of
dec_said w m (a, b, is, ha, hb) (frac, exp, value) = let e = ap (λ t. fraction_of (drop (digits_len t) t)) is ∙ ap fraction_of (dec_back a b ha) in cc

-- ---- whether it says a number in bounds

inside : (w : List ℕ) (x : Number) → Says (numeral_of w) x → NumberInBounds x → is_out_number w ≡ false
inside w x s h = ap not (said_inside (numeral_of w) x s h)

outside : (w : List ℕ) → IsOutOfBounds (numeral_of w) → is_out_number w ≡ true
outside w h = ap not (said_outside (numeral_of w) h)

pub read_is_out : (w : List ℕ) (r : Result Number NumFault) → IfOk r (λ x. Says (numeral_of w) x × NumberInBounds x) → IfErr r (λ e. (e ≡ Overflow) × IsOutOfBounds (numeral_of w)) → is_err r ≡ is_out_number w
read_is_out w (Ok x) a b = sym (inside w x a.0 a.1)
read_is_out w (Err e) a b = sym (outside w b.1)

number_out_is : (w : List ℕ) → IsNumeral (numeral_of w) w [] → is_out_number w ≡ true → IsOutNumber w
number_out_is w n h = (numeral_of w, n, λ x s b. let e = inside w x s b in absurd cc)

number_in_is : (w : List ℕ) → IsNumeral (numeral_of w) w [] → is_out_number w ≡ false → IsOutNumber w → ⊥
number_in_is w n h (m, of, out) =
    let e = outside w (subst IsOutOfBounds (one_numeral m (numeral_of w) w of n) out) in
    absurd cc

-- ---- a literal

pub out_is : (kind : TokenKind) (w rest : List ℕ) → Fits kind w rest → is_out kind w ≡ true → IsOut kind w
unfolding is_out
out_is k.Int w rest fits h = number_out_is w (digits_numeral w fits) h
out_is k.Dec w rest fits h = number_out_is w (dec_numeral w fits) h
out_is k.Name w rest fits h = cc
out_is k.Var w rest fits h = cc
out_is k.Context w rest fits h = cc
out_is k.Double w rest fits h = cc
out_is k.Text w rest fits h = cc
out_is k.Mark w rest fits h = cc

pub in_is : (kind : TokenKind) (w rest : List ℕ) → Fits kind w rest → is_out kind w ≡ false → IsOut kind w → ⊥
unfolding is_out
in_is k.Int w rest fits h out = number_in_is w (digits_numeral w fits) h out
in_is k.Dec w rest fits h out = number_in_is w (dec_numeral w fits) h out
in_is k.Name w rest fits h out = out
in_is k.Var w rest fits h out = out
in_is k.Context w rest fits h out = out
in_is k.Double w rest fits h out = out
in_is k.Text w rest fits h out = out
in_is k.Mark w rest fits h out = out

pub is_out_from : (kind : TokenKind) (w rest : List ℕ) → Fits kind w rest → IsOut kind w → is_out kind w ≡ true
is_out_from kind w rest fits out = elim (cases_Bool (is_out kind w)) [ inl e ↦ e | inr e ↦ absurd (in_is kind w rest fits e out) ]

pub is_in_from : (kind : TokenKind) (w rest : List ℕ) → Fits kind w rest → (IsOut kind w → ⊥) → is_out kind w ≡ false
is_in_from kind w rest fits within = elim (cases_Bool (is_out kind w)) [ inl e ↦ absurd (within (out_is kind w rest fits e)) | inr e ↦ e ]

-- the rest matters to $err:code alone
pub fits_alone : (kind : TokenKind) (w rest : List ℕ) → Fits kind w rest → Fits kind w []
fits_alone k.Name w rest h = h
fits_alone k.Var [] rest h = h
fits_alone k.Var (b ∷ r) rest (dollar, inl name) = (dollar, inl name)
fits_alone k.Var (b ∷ r) rest (dollar, inr (code, ends)) = (dollar, inr (code, refl))
fits_alone k.Context w rest h = h
fits_alone k.Int w rest h = h
fits_alone k.Dec w rest h = h
fits_alone k.Double w rest h = h
fits_alone k.Text w rest h = h
fits_alone k.Mark w rest h = h
