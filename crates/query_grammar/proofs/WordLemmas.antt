-- Tokens as the grammar reads them.
use Rattle.std.proofs.Common.{◌≡◌, ◌⊎◌, ℕ, ◌+◌, ◌-◌, ◌<◌, List, [], ◌∷◌, ◌++◌, length, length-drop, get_or, take, drop, sym, subst, refl, arith}
use Rattle.std.specs.Prelude.{Result, Ok, IfOk}
use Rattle.std.proofs.lemmas.List.{take_more, length-take-le}
use Rattle.num_fixed.specs.Bounds.{NumberInBounds}
use Rattle.num_fixed.specs.Numeral.{Numeral, IsNumeral, Says}
use Rattle.num_fixed.specs.declared.number.Number.{Number}
use Rattle.num_fixed.specs.declared.number.NumFault.{NumFault}
use Rattle.query_lexer.specs.declared.token.Token.{Token}
use Rattle.query_lexer.specs.declared.token.TokenKind.TheVariants as t
use Rattle.query_lexer.specs.Lexes.{IsTokenOf, spelling}
use Rattle.query_lexer.proofs.TokenFacts.{IsAnswer, number_text, token_spelled}
use Rattle.query_lexer.proofs.BoundaryLemmas.{token_ends}
use Rattle.query_grammar.specs.declared.word.Word.{Word}
use Rattle.query_grammar.specs.Words.{IsWordOf, AreWordsAt}

-- a token begins with an ASCII byte
pub record HasAsciiFirst (w : List ℕ) : Type 0 where
  pub some : 0 < length w
  pub ascii : get_or w 0 0 < 128

pub token_first : (text : List ℕ) (token : Token) → IsTokenOf text token → HasAsciiFirst (spelling text token)
token_first text token of =
    let s = token_spelled text token of in
    record {
      some = omega (arith, s.some, length-take-le (token.to - token.from) (drop token.from text) (omega (arith, s.within, length-drop token.from text)));
      ascii = (token_ends token.kind (spelling text token) (drop token.to text) s.fits).first;
    }

-- what is read of a number's bytes is what they say, and in bounds
pub number_said : (text : List ℕ) (token : Token) (w : List ℕ) (x : Number) (r : Result Number NumFault) → IsTokenOf text token → (token.kind ≡ t.Int) ⊎ (token.kind ≡ t.Dec) → w ≡ spelling text token → IsAnswer w r → r ≡ Ok x → (n : Numeral) × IsNumeral n (spelling text token) [] × Says n x × NumberInBounds x
number_said text token w x r of kind is a e =
    let (n, h) = number_text text token of kind in
    let v = subst (λ q. IfOk q (λ y. Says n y × NumberInBounds y)) e (a.value n (subst (λ l. IsNumeral n l []) (sym is) h)) in
    (n, h, v.0, v.1)

-- one more token, and its word
words_behind : (start : ℕ) (text : List ℕ) (ts : List Token) (ws : List Word) (t : Token) (w : Word) → AreWordsAt start text ts ws → IsWordOf start text t w → AreWordsAt start text (ts ++ t ∷ []) (ws ++ w ∷ [])
words_behind start text [] [] t w h one = (one, refl)
words_behind start text [] (v ∷ ws) t w h one = cc
words_behind start text (s ∷ ts) [] t w h one = absurd h
words_behind start text (s ∷ ts) (v ∷ ws) t w h one = (h.0, words_behind start text ts ws t w h.1 one)

pub words_more : (start : ℕ) (text : List ℕ) (ts : List Token) (ws more : List Word) (i : ℕ) (d : Token) (w : Word) → i < length ts → more ≡ ws ++ w ∷ [] → AreWordsAt start text (take i ts) ws → IsWordOf start text (get_or ts i d) w → AreWordsAt start text (take (i + 1) ts) more
words_more start text ts ws more i d w within is h one = rw (is, take_more ts i d within) (words_behind start text (take i ts) ws (get_or ts i d) w h one)
