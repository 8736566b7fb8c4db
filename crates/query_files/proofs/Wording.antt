-- The tokens of a text are words: each says something.
use Rattle.std.proofs.Common.{◌≡◌, inl, inr, ℕ, zero, suc, List, [], ◌∷◌, refl, arith, drop}
use Rattle.std.specs.Str.{IsUtf8, chars}
use Rattle.std.specs.List.{Contains}
use Rattle.item_tree.specs.JsonString.{content}
use Rattle.num_fixed.specs.Numeral.{Says}
use Rattle.num_fixed.specs.declared.number.Number.{Number}
use Rattle.num_fixed.specs.declared.number.Number.TheVariants as number
use Rattle.num_fixed.proofs.NumeralLemmas.{number_said}
use Rattle.query_lexer.specs.Lexes.{Tokens, IsTokenOf, spelling}
use Rattle.query_lexer.specs.Scan.{numeral_of}
use Rattle.query_lexer.specs.Words.{Fits, IsDigits, IsDec}
use Rattle.query_lexer.specs.declared.token.Token.{Token}
use Rattle.query_lexer.specs.declared.token.TokenKind.{TokenKind}
use Rattle.query_lexer.specs.declared.token.TokenKind.TheVariants as t
use Rattle.query_lexer.proofs.RangeLemmas.{number_numeral, int_said, dec_said}
use Rattle.query_lexer.proofs.TokenFacts.{token_spelled}
use Rattle.query_lexer.proofs.ValueLemmas.{token_valued}
use Rattle.query_grammar.specs.declared.word.Word.{Word}
use Rattle.query_grammar.specs.declared.word.Kind.{Kind}
use Rattle.query_grammar.specs.declared.word.Kind.TheVariants as k
use Rattle.query_grammar.specs.declared.word.Value.{Value}
use Rattle.query_grammar.specs.declared.word.Value.TheVariants as v
use Rattle.query_grammar.specs.Words.{name_kind, mark_kind, Means, IsWordOf, AreWordsAt}

pub record HasMeaning (kind : TokenKind) (w : List ℕ) : Type 0 where
  pub of : Kind
  pub value : Value
  pub means : Means kind w of value

int_meaning : (w : List ℕ) → IsDigits w → (x : Number) → Says (numeral_of w) x → HasMeaning t.Int w
int_meaning w fits (number.Int m) says = record { of = k.Int; value = v.Int m; means = (refl, numeral_of w, m, refl, number_numeral t.Int w [] (inl refl) fits, says) }
int_meaning w fits (number.Dec m) says = absurd (int_said w m fits says)

dec_meaning : (w : List ℕ) → IsDec w → (x : Number) → Says (numeral_of w) x → HasMeaning t.Dec w
dec_meaning w fits (number.Int m) says = absurd (dec_said w m fits says)
dec_meaning w fits (number.Dec m) says = record { of = k.Dec; value = v.Dec m; means = (refl, numeral_of w, m, refl, number_numeral t.Dec w [] (inr refl) fits, says) }

meaning : (text : List ℕ) (token : Token) → IsUtf8 text → IsTokenOf text token → (kind : TokenKind) → token.kind ≡ kind → Fits kind (spelling text token) (drop token.to text) → HasMeaning kind (spelling text token)
meaning text token u of t.Name is fits = record { of = name_kind (spelling text token); value = v.Text (chars (spelling text token)); means = (refl, refl) }
meaning text token u of t.Var is fits = record { of = k.Var; value = v.Text (chars (drop 1 (spelling text token))); means = (refl, refl) }
meaning text token u of t.Context is fits = record { of = k.Context; value = v.Nothing; means = (refl, refl) }
meaning text token u of t.Int is fits = let s : (x : Number) × Says (numeral_of (spelling text token)) x = number_said (numeral_of (spelling text token)) in int_meaning (spelling text token) fits s.0 s.1
meaning text token u of t.Dec is fits = let s : (x : Number) × Says (numeral_of (spelling text token)) x = number_said (numeral_of (spelling text token)) in dec_meaning (spelling text token) fits s.0 s.1
meaning text token u of t.Double is fits = record { of = k.Double; value = v.Nothing; means = (refl, refl) }
meaning text token u of t.Text is fits = let s = token_valued text token u of is in record { of = k.Text; value = v.Text (chars (content s.pieces)); means = (refl, chars (content s.pieces), refl, s.string) }
meaning text token u of t.Mark is fits = record { of = mark_kind (spelling text token); value = v.Nothing; means = (refl, refl) }

word_of : (text : List ℕ) (token : Token) → IsUtf8 text → IsTokenOf text token → (w : Word) × IsWordOf 0 text token w
word_of text token u of =
    let m = meaning text token u of token.kind refl (token_spelled text token of).fits in
    (record { kind = m.of; place = token.from; value = m.value }, record { place = omega arith; means = m.means })

words_of : (text : List ℕ) (tokens : List Token) → IsUtf8 text → ((token : Token) → Contains tokens token → IsTokenOf text token) → (ws : List Word) × AreWordsAt 0 text tokens ws
words_of text [] u of = ([], refl)
words_of text (token ∷ tokens) u of =
    let first = word_of text token u (of token (zero, omega arith, refl)) in
    let rest = words_of text tokens u (λ t (i, within, is). of t (suc i, omega (arith, within), is)) in
    (first.0 ∷ rest.0, (first.1, rest.1))

-- the tokens of a text are words
pub words_of_text : (text : List ℕ) (tokens : List Token) → IsUtf8 text → Tokens text tokens → (ws : List Word) × AreWordsAt 0 text tokens ws
words_of_text text tokens u whole = words_of text tokens u (λ token c. record { all = tokens; whole = whole; listed = c })
