-- The tokens after the last `;`.
use Rattle.std.proofs.Common.{◌≡◌, ◌⊎◌, inl, inr, ◌<◌, ◌≤◌, ◌+◌, ◌-◌, ℕ, Bool, true, false, not, List, length, take, drop, get_or, refl, sym, ap, ◌∙◌, arith}
use Rattle.std.specs.List.{after_last, suffix_len}
use Rattle.std.proofs.lemmas.List.{get_or_default, take_all}
use Rattle.std.proofs.lemmas.List.Sums.{suffix_len_is}
use Rattle.std.proofs.lemmas.Bool.{cases_order}
use Rattle.query_lexer.specs.declared.token.Token.{Token}
use Rattle.module_names.specs.Heads.{closes}

-- no token from this one on is a `;`
abbrev pub NoneCloses : List ℕ → List Token → ℕ → Type 0
NoneCloses text tokens start = (k : ℕ) (d : Token) → start ≤ k → k < length tokens → not (closes text (get_or tokens k d)) ≡ true

pub none_past : (text : List ℕ) (tokens : List Token) → NoneCloses text tokens (length tokens)
none_past text tokens k d le lt = absurd (omega (arith, le, lt))

pub one_more : (text : List ℕ) (tokens : List Token) (start : ℕ) (d : Token) → 0 < start → NoneCloses text tokens start
    → closes text (get_or tokens (start - 1) d) ≡ false → NoneCloses text tokens (start - 1)
one_more text tokens start d some none is k e le lt = by (cases_order k (start - 1))
  where
    by : (k ≡ start - 1) ⊎ ((k < start - 1) ⊎ (start - 1 < k)) → not (closes text (get_or tokens k e)) ≡ true
    by (inl same) =
        ap (λ (t : Token). not (closes text t)) (get_or_default tokens k e d lt ∙ ap (λ n. get_or tokens n d) same) ∙ ap not is
    by (inr (inl less)) = absurd (omega (arith, le, less))
    by (inr (inr more)) = none k e (omega (arith, more, some)) lt

after_from : (text : List ℕ) (tokens : List Token) (start : ℕ) → start ≤ length tokens → suffix_len (λ t. not (closes text t)) tokens ≡ length tokens - start
    → drop start tokens ≡ after_last (closes text) tokens
after_from text tokens start within is =
    let place : length tokens - (length tokens - start) ≡ start = omega (arith, within) in
    sym (ap (λ n. drop (length tokens - n) tokens) is ∙ ap (λ n. drop n tokens) place)

-- there is one before this token
pub last_is : (text : List ℕ) (tokens : List Token) (start : ℕ) (d : Token) → start ≤ length tokens → NoneCloses text tokens start
    → closes text (get_or tokens (start - 1) d) ≡ true → drop start tokens ≡ after_last (closes text) tokens
last_is text tokens start d within none is =
    after_from text tokens start within
    (suffix_len_is (λ t. not (closes text t)) tokens start d within (λ k le lt. none k d le lt) (λ some. ap not is))

-- there is none
pub none_is : (text : List ℕ) (tokens : List Token) (d : Token) → NoneCloses text tokens 0 → tokens ≡ after_last (closes text) tokens
none_is text tokens d none =
    after_from text tokens 0 (omega arith)
    (suffix_len_is (λ t. not (closes text t)) tokens 0 d (omega arith) (λ k le lt. none k d le lt) (λ some. absurd (omega (arith, some))))
