-- Where the tokens of a text stand. For other crates too.
use Rattle.std.proofs.Common.{◌≡◌, ℕ, zero, suc, ◌+◌, ◌<◌, ◌≤◌, List, ◌∷◌, [], ◌++◌, length, length-drop, take, drop, get_or, false, sym, ◌∙◌, ap, subst, refl, arith, append_assoc, append-nil}
use Rattle.std.specs.List.{Contains}
use Rattle.std.proofs.lemmas.List.{drop-drop, take-append-drop}
use Rattle.std.proofs.lemmas.List.Elements.{Contains-append_left, Contains-append_right, Contains-get_or}
use Rattle.query_lexer.specs.Lexes.{IsWord, IsOut, runs_on, Stands, Leads, tokens_of, Tokens, IsTokenOf, AreTokens, AreBetween}
use Rattle.query_lexer.specs.declared.token.TokenKind.{TokenKind}
use Rattle.query_lexer.specs.declared.token.Token.{Token}
use Rattle.query_lexer.specs.declared.steps.Step.{Step}
use Rattle.query_lexer.specs.declared.steps.Step.TheVariants as step
use Rattle.query_lexer.proofs.PathLemmas.{forward}

-- ---- one token

-- the token is the longest one at its place, and neither runs on nor is out of range
pub record IsPlaced (text : List ℕ) (token : Token) : Type 0 where
  pub size : ℕ
  pub to : token.to ≡ token.from + size
  pub word : IsWord (drop token.from text) token.kind size
  pub apart : runs_on token.kind (drop size (drop token.from text)) ≡ false
  pub inside : IsOut token.kind (take size (drop token.from text)) → ⊥

here : (text : List ℕ) (kind : TokenKind) (at n : ℕ) (token : Token) → Stands (drop at text) (step.Take kind n) → record { kind = kind; from = at; to = at + n } ≡ token → IsPlaced text token
here text kind at n token (word, apart, inside) e = subst (IsPlaced text) e (record { size = n; to = refl; word = word; apart = apart; inside = inside })

on : (text : List ℕ) (ss : List Step) (at n m : ℕ) (rest : List ℕ) → n ≡ m → Leads (drop m (drop at text)) ss rest → Leads (drop (at + n) text) ss rest
on text ss at n m rest e leads = subst (λ t. Leads t ss rest) (drop-drop n at text) (subst (λ q. Leads (drop q (drop at text)) ss rest) (sym e) leads)

placed : (text : List ℕ) (ss : List Step) (at : ℕ) (rest : List ℕ) (token : Token) → Leads (drop at text) ss rest → Contains (tokens_of at ss) token → IsPlaced text token
placed text [] at rest token leads (i, inside, is) = absurd (omega (arith, inside))
placed text (step.Skip n ∷ ss) at rest token (stands, m, g, leads) has = placed text ss (at + n) rest token (on text ss at n m rest (cc) leads) has
placed text (step.Take kind n ∷ ss) at rest token (stands, m, g, leads) (zero, inside, is) = here text kind at n token stands is
placed text (step.Take kind n ∷ ss) at rest token (stands, m, g, leads) (suc i, inside, is) = placed text ss (at + n) rest token (on text ss at n m rest (cc) leads) (i, omega (arith, inside), is)
placed text (step.Refuse c ∷ ss) at rest token (stands, m, g, leads) has = cc

pub token_placed : (text : List ℕ) (token : Token) → IsTokenOf text token → IsPlaced text token
token_placed text token h =
    let (ss, leads, is) = h.whole in
    placed text ss 0 [] token leads (subst (λ l. Contains l token) (sym is) h.listed)

-- ---- tokens one after another

pub all_tokens : (text : List ℕ) (ts : List Token) → Tokens text ts → AreTokens text ts
all_tokens text ts h = record { before = []; behind = []; whole = subst (Tokens text) (sym (append-nil ts)) h }

tokens_part : (text : List ℕ) (front ts back : List Token) → AreTokens text (front ++ (ts ++ back)) → AreTokens text ts
tokens_part text front ts back h =
    let seam : h.before ++ ((front ++ (ts ++ back)) ++ h.behind) ≡ (h.before ++ front) ++ (ts ++ (back ++ h.behind)) = simp append_assoc in
    record { before = h.before ++ front; behind = back ++ h.behind; whole = subst (Tokens text) seam h.whole }

pub tokens_drop : (text : List ℕ) (n : ℕ) (ts : List Token) → AreTokens text ts → AreTokens text (drop n ts)
tokens_drop text n ts h = tokens_part text (take n ts) (drop n ts) [] (subst (AreTokens text) (sym (ap (λ l. take n ts ++ l) (append-nil (drop n ts)) ∙ take-append-drop n ts)) h)

pub tokens_take : (text : List ℕ) (n : ℕ) (ts : List Token) → AreTokens text ts → AreTokens text (take n ts)
tokens_take text n ts h = tokens_part text [] (take n ts) (drop n ts) (subst (AreTokens text) (sym (take-append-drop n ts)) h)

pub token_among : (text : List ℕ) (ts : List Token) (token : Token) → AreTokens text ts → Contains ts token → IsTokenOf text token
token_among text ts token h has = record { all = h.before ++ (ts ++ h.behind); whole = h.whole; listed = Contains-append_right h.before (ts ++ h.behind) token (Contains-append_left ts h.behind token has) }

pub token_indexed : (text : List ℕ) (ts : List Token) (i : ℕ) (d : Token) → AreTokens text ts → i < length ts → IsTokenOf text (get_or ts i d)
token_indexed text ts i d h within = token_among text ts (get_or ts i d) h (Contains-get_or ts i d within)

-- ---- their order

raised : (low at high : ℕ) (ts : List Token) → low ≤ at → AreBetween at high ts → AreBetween low high ts
raised low at high [] e h = omega (arith, h)
raised low at high (t ∷ ts) e h = (omega (arith, h.0), h.1, h.2)

between : (text : List ℕ) (ss : List Step) (at : ℕ) → at ≤ length text → Leads (drop at text) ss [] → AreBetween at (length text) (tokens_of at ss)
between text [] at within leads = within
between text (step.Skip n ∷ ss) at within (stands, m, g, leads) =
    let f = forward (drop at text) (step.Skip n) n stands refl in
    raised at (at + n) (length text) (tokens_of (at + n) ss) (omega arith) (between text ss (at + n) (omega (arith, f.within, length-drop at text)) (on text ss at n m [] (cc) leads))
between text (step.Take kind n ∷ ss) at within (stands, m, g, leads) =
    let f = forward (drop at text) (step.Take kind n) n stands refl in
    (omega arith, omega (arith, f.some), between text ss (at + n) (omega (arith, f.within, length-drop at text)) (on text ss at n m [] (cc) leads))
between text (step.Refuse c ∷ ss) at within (stands, m, g, leads) = cc

lowered : (low high : ℕ) (ts : List Token) → AreBetween low high ts → low ≤ high
lowered low high [] h = h
lowered low high (t ∷ ts) h = omega (arith, h.0, h.1, lowered t.to high ts h.2)

between_front : (low high : ℕ) (ts back : List Token) → AreBetween low high (ts ++ back) → AreBetween low high ts
between_front low high [] back h = lowered low high back h
between_front low high (t ∷ ts) back h = (h.0, h.1, between_front t.to high ts back h.2)

between_back : (low high : ℕ) (front ts : List Token) → AreBetween low high (front ++ ts) → AreBetween low high ts
between_back low high [] ts h = h
between_back low high (t ∷ front) ts h = raised low t.to high ts (omega (arith, h.0, h.1)) (between_back t.to high front ts h.2)

pub tokens_between : (text : List ℕ) (ts : List Token) → AreTokens text ts → AreBetween 0 (length text) ts
tokens_between text ts h =
    let (ss, leads, is) = h.whole in
    between_front 0 (length text) ts h.behind (between_back 0 (length text) h.before (ts ++ h.behind) (subst (AreBetween 0 (length text)) is (between text ss 0 (omega arith) leads)))
