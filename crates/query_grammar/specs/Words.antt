-- What the tokens of a query are to the grammar: its keywords and marks, and what each token says.
use Rattle.std.specs.Prelude.{◌≡◌, ℕ, ◌+◌, ℤ, List, [], ◌∷◌, drop, codes, if◌then◌else◌}
use Rattle.std.specs.Str.{bytes_eq, chars}
use Rattle.num_fixed.specs.Numeral.{Numeral, IsNumeral, Says}
use Rattle.num_fixed.specs.declared.number.Number.TheVariants as number
use Rattle.item_tree.specs.JsonString.{IsString}
use Rattle.query_lexer.specs.declared.token.Token.{Token}
use Rattle.query_lexer.specs.declared.token.TokenKind.{TokenKind}
use Rattle.query_lexer.specs.declared.token.TokenKind.TheVariants as t
use Rattle.query_lexer.specs.Lexes.{spelling}
use Rattle.query_grammar.specs.declared.word.Word.{Word}
use Rattle.query_grammar.specs.declared.word.Kind.{Kind}
use Rattle.query_grammar.specs.declared.word.Kind.TheVariants as k
use Rattle.query_grammar.specs.declared.word.Value.{Value}
use Rattle.query_grammar.specs.declared.word.Value.TheVariants as v

-- a spelling, and the kind of the tokens that are spelled so
pub record Row : Type 0 where
  pub spelled : List ℕ
  pub kind : Kind

abbrev pub row : List ℕ → Kind → Row
row spelled kind = record { spelled = spelled; kind = kind }

-- the keywords of declarations, types and literals
abbrev pub declaration_keywords : List Row
declaration_keywords =
    row (codes "declare") k.Declare ∷
    row (codes "variable") k.Variable ∷
    row (codes "function") k.Function ∷
    row (codes "as") k.As ∷
    row (codes "of") k.Of ∷
    row (codes "instance") k.Instance ∷
    row (codes "treat") k.Treat ∷
    row (codes "castable") k.Castable ∷
    row (codes "cast") k.Cast ∷
    row (codes "true") k.True ∷
    row (codes "false") k.False ∷
    row (codes "null") k.Null ∷
    row (codes "empty-sequence") k.EmptySequence ∷
    []

-- the keywords of clauses
abbrev pub clause_keywords : List Row
clause_keywords =
    row (codes "return") k.Return ∷
    row (codes "for") k.For ∷
    row (codes "allowing") k.Allowing ∷
    row (codes "empty") k.Empty ∷
    row (codes "at") k.At ∷
    row (codes "in") k.In ∷
    row (codes "let") k.Let ∷
    row (codes "where") k.Where ∷
    row (codes "group") k.Group ∷
    row (codes "by") k.By ∷
    row (codes "stable") k.Stable ∷
    row (codes "order") k.Order ∷
    row (codes "ascending") k.Ascending ∷
    row (codes "descending") k.Descending ∷
    row (codes "least") k.Least ∷
    row (codes "greatest") k.Greatest ∷
    row (codes "count") k.Count ∷
    row (codes "tumbling") k.Tumbling ∷
    row (codes "sliding") k.Sliding ∷
    []

-- the keywords of statements
abbrev pub statement_keywords : List Row
statement_keywords =
    row (codes "some") k.Some ∷
    row (codes "every") k.Every ∷
    row (codes "satisfies") k.Satisfies ∷
    row (codes "switch") k.Switch ∷
    row (codes "case") k.Case ∷
    row (codes "default") k.Default ∷
    row (codes "typeswitch") k.Typeswitch ∷
    row (codes "if") k.If ∷
    row (codes "then") k.Then ∷
    row (codes "else") k.Else ∷
    row (codes "try") k.Try ∷
    row (codes "catch") k.Catch ∷
    []

-- the operators that are words
abbrev pub operator_keywords : List Row
operator_keywords =
    row (codes "or") k.Or ∷
    row (codes "and") k.And ∷
    row (codes "not") k.Not ∷
    row (codes "eq") k.Eq ∷
    row (codes "ne") k.Ne ∷
    row (codes "lt") k.Lt ∷
    row (codes "le") k.Le ∷
    row (codes "gt") k.Gt ∷
    row (codes "ge") k.Ge ∷
    row (codes "to") k.To ∷
    row (codes "div") k.Div ∷
    row (codes "idiv") k.Idiv ∷
    row (codes "mod") k.Mod ∷
    []

abbrev pub marks : List Row
marks =
    row (codes "{|") k.OpenMerge ∷
    row (codes "|}") k.CloseMerge ∷
    row (codes "||") k.Bars ∷
    row (codes ":=") k.Assign ∷
    row (codes "!=") k.Differs ∷
    row (codes "<=") k.AtMost ∷
    row (codes ">=") k.AtLeast ∷
    row (codes "(") k.OpenParen ∷
    row (codes ")") k.CloseParen ∷
    row (codes "[") k.OpenBracket ∷
    row (codes "]") k.CloseBracket ∷
    row (codes "{") k.OpenBrace ∷
    row (codes "}") k.CloseBrace ∷
    row (codes ",") k.Comma ∷
    row (codes ";") k.Semicolon ∷
    row (codes ":") k.Colon ∷
    row (codes ".") k.Dot ∷
    row (codes "!") k.Bang ∷
    row (codes "|") k.Bar ∷
    row (codes "+") k.Plus ∷
    row (codes "-") k.Minus ∷
    row (codes "*") k.Star ∷
    row (codes "=") k.Equals ∷
    row (codes "<") k.Less ∷
    row (codes ">") k.Greater ∷
    row (codes "#") k.Hash ∷
    row (codes "?") k.Question ∷
    []

-- the kind of the row that is spelled so, or else another kind
abbrev pub kind_in : List Row → Kind → List ℕ → Kind
kind_in [] other w = other
kind_in (r ∷ rows) other w = if bytes_eq w r.spelled then r.kind else kind_in rows other w

abbrev pub name_kind : List ℕ → Kind
name_kind w =
    kind_in declaration_keywords
    (kind_in clause_keywords (kind_in statement_keywords (kind_in operator_keywords k.Name w) w) w)
    w

abbrev pub mark_kind : List ℕ → Kind
mark_kind w = kind_in marks k.Question w

-- what a token of this kind with these bytes is, and what it says
abbrev pub Means : TokenKind → List ℕ → Kind → Value → Type 0
Means t.Name w kind value = (kind ≡ name_kind w) × (value ≡ v.Text (chars w))
Means t.Var w kind value = (kind ≡ k.Var) × (value ≡ v.Text (chars (drop 1 w)))
Means t.Context w kind value = (kind ≡ k.Context) × (value ≡ v.Nothing)
Means t.Int w kind value =
    (kind ≡ k.Int) × (n : Numeral) × (m : ℤ) × (value ≡ v.Int m) × IsNumeral n w []
    × Says n (number.Int m)
Means t.Dec w kind value =
    (kind ≡ k.Dec) × (n : Numeral) × (m : ℤ) × (value ≡ v.Dec m) × IsNumeral n w []
    × Says n (number.Dec m)
Means t.Double w kind value = (kind ≡ k.Double) × (value ≡ v.Nothing)
Means t.Text w kind value = (kind ≡ k.Text) × (cs : List ℕ) × (value ≡ v.Text cs) × IsString cs w []
Means t.Mark w kind value = (kind ≡ mark_kind w) × (value ≡ v.Nothing)

-- a token of a text that stands behind so many other bytes, as the grammar reads it: its place
-- counts from the first of these
pub record IsWordOf (start : ℕ) (text : List ℕ) (token : Token) (word : Word) : Type 0 where
  pub place : word.place ≡ start + token.from
  pub means : Means token.kind (spelling text token) word.kind word.value

-- the tokens in their order, as the grammar reads them
abbrev pub AreWordsAt : ℕ → List ℕ → List Token → List Word → Type 0
AreWordsAt start text [] words = words ≡ []
AreWordsAt start text (token ∷ tokens) [] = ⊥
AreWordsAt start text (token ∷ tokens) (word ∷ words) =
    IsWordOf start text token word × AreWordsAt start text tokens words
