-- The tokens of a text are the words of at most one list, wherever the text begins. For other crates too.
use Rattle.std.proofs.Common.{◌≡◌, ℕ, List, [], ◌∷◌, Option, Some, None, refl, sym, ◌∙◌, ap, subst}
use Rattle.std.specs.Str.{chars}
use Rattle.num_fixed.specs.Numeral.{Numeral, IsNumeral, Says}
use Rattle.num_fixed.specs.declared.number.Number.{Number}
use Rattle.num_fixed.specs.declared.number.Number.TheVariants as number
use Rattle.num_fixed.proofs.NumeralLemmas.{one_numeral, one_number_said}
use Rattle.item_tree.specs.JsonString.{Piece, content, IsString}
use Rattle.json_text.specs.inside.Scan.{plain, pieces_at}
use Rattle.json_text.proofs.StringLemmas.{string_taken}
use Rattle.query_lexer.specs.declared.token.Token.{Token}
use Rattle.query_lexer.specs.declared.token.TokenKind.{TokenKind}
use Rattle.query_lexer.specs.declared.token.TokenKind.TheVariants as t
use Rattle.query_grammar.specs.declared.word.Word.{Word}
use Rattle.query_grammar.specs.declared.word.Kind.{Kind}
use Rattle.query_grammar.specs.declared.word.Value.{Value}
use Rattle.query_grammar.specs.declared.word.Value.TheVariants as v
use Rattle.query_grammar.specs.Words.{Means, IsWordOf}
use Rattle.query_grammar.specs.Laws.{HasOneReading}

abbrev pieces_of : Option (List Piece × List ℕ) → List Piece
pieces_of None = []
pieces_of (Some p) = p.0

one_string : (cs ds l : List ℕ) → IsString cs l [] → IsString ds l [] → cs ≡ ds
one_string cs ds l h k =
    let p = string_taken cs l [] h in
    let q = string_taken ds l [] k in
    let opened : 34 ∷ p.inside ≡ 34 ∷ q.inside = sym p.opened ∙ q.opened in
    let inside : p.inside ≡ q.inside = cc in
    let pieces : p.pieces ≡ q.pieces = ap pieces_of (sym p.found ∙ ap (pieces_at plain) inside ∙ q.found) in
    sym p.characters ∙ ap (λ ps. chars (content ps)) pieces ∙ q.characters

one_number : (w : List ℕ) (m n : Numeral) (x y : Number) → IsNumeral m w [] → IsNumeral n w [] → Says m x → Says n y → x ≡ y
one_number w m n x y h k s r = one_number_said n x y (subst (λ z. Says z x) (one_numeral m n w h k) s) r

one_meaning : (kind : TokenKind) (w : List ℕ) (k l : Kind) (a b : Value) → Means kind w k a → Means kind w l b → (k ≡ l) × (a ≡ b)
one_meaning t.Name w k l a b h g = (h.0 ∙ sym g.0, h.1 ∙ sym g.1)
one_meaning t.Var w k l a b h g = (h.0 ∙ sym g.0, h.1 ∙ sym g.1)
one_meaning t.Context w k l a b h g = (h.0 ∙ sym g.0, h.1 ∙ sym g.1)
one_meaning t.Int w k l a b (e, m, x, is, numeral, says) (f, n, y, same, other, said) =
    let one : number.Int x ≡ number.Int y = one_number w m n (number.Int x) (number.Int y) numeral other says said in
    let value : x ≡ y = cc in
    (e ∙ sym f, is ∙ ap v.Int value ∙ sym same)
one_meaning t.Dec w k l a b (e, m, x, is, numeral, says) (f, n, y, same, other, said) =
    let one : number.Dec x ≡ number.Dec y = one_number w m n (number.Dec x) (number.Dec y) numeral other says said in
    let value : x ≡ y = cc in
    (e ∙ sym f, is ∙ ap v.Dec value ∙ sym same)
one_meaning t.Double w k l a b h g = (h.0 ∙ sym g.0, h.1 ∙ sym g.1)
one_meaning t.Text w k l a b (e, cs, is, string) (f, ds, same, other) = (e ∙ sym f, is ∙ ap v.Text (one_string cs ds w string other) ∙ sym same)
one_meaning t.Mark w k l a b h g = (h.0 ∙ sym g.0, h.1 ∙ sym g.1)

one_word : (start : ℕ) (text : List ℕ) (token : Token) (w other : Word) → IsWordOf start text token w → IsWordOf start text token other → w ≡ other
one_word start text token w other h g =
    let same = one_meaning token.kind _ w.kind other.kind w.value other.value h.means g.means in
    let kinds : w ≡ record { kind = other.kind; place = w.place; value = w.value } = ap (λ k. record { kind = k; place = w.place; value = w.value }) same.0 in
    let places : record { kind = other.kind; place = w.place; value = w.value } ≡ record { kind = other.kind; place = other.place; value = w.value } = ap (λ p. record { kind = other.kind; place = p; value = w.value }) (h.place ∙ sym g.place) in
    kinds ∙ places ∙ ap (λ x. record { kind = other.kind; place = other.place; value = x }) same.1

pub one_reading : (start : ℕ) (text : List ℕ) (tokens : List Token) → HasOneReading start text tokens
one_reading start text [] ws os h g = h ∙ sym g
one_reading start text (t ∷ ts) [] os h g = absurd h
one_reading start text (t ∷ ts) (w ∷ ws) [] h g = absurd g
one_reading start text (t ∷ ts) (w ∷ ws) (o ∷ os) h g = let e = one_word start text t w o h.0 g.0 in let f = one_reading start text ts ws os h.1 g.1 in rw (e, f) refl
