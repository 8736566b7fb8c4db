-- The lexical rules: what stands at each place of a text, where the next place is, and so the
-- tokens of a text or the first refusal in it.
use Rattle.std.specs.Prelude.{◌≡◌, ◌⊎◌, ◌<◌, ◌≤◌, ℕ, ◌+◌, ◌-◌, Bool, true, false, ◌&&◌, List, [], ◌∷◌, ◌++◌, length, take, drop, Option, Some, None}
use Rattle.std.specs.List.{Contains}
use Rattle.num_fixed.specs.Numeral.{Numeral, IsNumeral, IsOutOfBounds}
use Rattle.item_tree.specs.declared.code.Code.{Code}
use Rattle.item_tree.specs.declared.code.Code.TheVariants.{XPST0003, PJST0004}
use Rattle.query_lexer.specs.Bytes.{is_letter, is_blank, next_passes}
use Rattle.query_lexer.specs.Comments.{begins_comment, IsComment, IsUnclosed}
use Rattle.query_lexer.specs.Words.{Fits}
use Rattle.query_lexer.specs.declared.token.TokenKind.{TokenKind}
use Rattle.query_lexer.specs.declared.token.TokenKind.TheVariants as k
use Rattle.query_lexer.specs.declared.token.Token.{Token}
use Rattle.query_lexer.specs.declared.token.LexFault.{LexFault}
use Rattle.query_lexer.specs.declared.token.LexFault.TheVariants as fault
use Rattle.query_lexer.specs.declared.steps.Step.{Step}
use Rattle.query_lexer.specs.declared.steps.Step.TheVariants as step

-- ---- one place

-- the first n bytes are a token of this kind, and no longer token begins there
pub record IsLongest (text : List ℕ) (kind : TokenKind) (n : ℕ) : Type 0 where
  pub within : n ≤ length text
  pub fits : Fits kind (take n text) (drop n text)
  pub longest : (other : TokenKind) (w rest : List ℕ) → text ≡ w ++ rest → Fits other w rest
      → length w ≤ n

abbrev pub NoToken : List ℕ → Type 0
NoToken text = (kind : TokenKind) (w rest : List ℕ) → text ≡ w ++ rest → Fits kind w rest → ⊥

-- neither whitespace nor a comment, and not the end
pub record IsDark (text : List ℕ) : Type 0 where
  pub some : 0 < length text
  pub blank : next_passes is_blank text ≡ false
  pub comment : begins_comment text ≡ false

-- a token stands there, the longest
pub record IsWord (text : List ℕ) (kind : TokenKind) (n : ℕ) : Type 0 where
  pub dark : IsDark text
  pub longest : IsLongest text kind n

abbrev pub is_number : TokenKind → Bool
is_number k.Int = true
is_number k.Dec = true
is_number k.Double = true
is_number _ = false

-- a number that a letter or _ directly follows
unfoldable pub runs_on : TokenKind → List ℕ → Bool
runs_on kind rest = is_number kind && next_passes is_letter rest

-- it says no number in bounds
abbrev pub IsOutNumber : List ℕ → Type 0
IsOutNumber w = (n : Numeral) × IsNumeral n w [] × IsOutOfBounds n

-- a literal out of range: an Int that isn't below 10^20, or a Dec whose nearest unit isn't in
-- bounds
abbrev pub IsOut : TokenKind → List ℕ → Type 0
IsOut k.Int w = IsOutNumber w
IsOut k.Dec w = IsOutNumber w
IsOut _ w = ⊥

-- a comment that isn't closed, what begins no token, or a number that runs on
abbrev pub IsMalformed : List ℕ → Type 0
IsMalformed text =
    IsUnclosed text
    ⊎
    ((IsDark text × NoToken text)
    ⊎ ((kind : TokenKind) × (n : ℕ) × IsWord text kind n × (runs_on kind (drop n text) ≡ true)))

-- a literal out of range, which doesn't run on
abbrev pub IsOutOfRange : List ℕ → Type 0
IsOutOfRange text =
    (kind : TokenKind) × (n : ℕ) × IsWord text kind n × (runs_on kind (drop n text) ≡ false)
    × IsOut kind (take n text)

abbrev pub Refuses : List ℕ → Code → Type 0
Refuses text c = ((c ≡ XPST0003) × IsMalformed text) ⊎ ((c ≡ PJST0004) × IsOutOfRange text)

-- what stands at the front of a text
abbrev pub Stands : List ℕ → Step → Type 0
Stands text (step.Skip n) = ((next_passes is_blank text ≡ true) × (n ≡ 1)) ⊎ IsComment text n
Stands text (step.Take kind n) =
    IsWord text kind n × (runs_on kind (drop n text) ≡ false) × (¬ IsOut kind (take n text))
Stands text (step.Refuse c) = Refuses text c

-- ---- from place to place

-- how far the next place is, where there is one
abbrev pub goes : Step → Option ℕ
goes (step.Skip n) = Some n
goes (step.Take kind n) = Some n
goes (step.Refuse c) = None

-- these steps lead from the front of a text to its rest
abbrev pub Leads : List ℕ → List Step → List ℕ → Type 0
Leads text [] rest = text ≡ rest
Leads text (s ∷ ss) rest = Stands text s × (n : ℕ) × (goes s ≡ Some n) × Leads (drop n text) ss rest

-- the tokens among the steps, the first of which is taken at this place
abbrev pub tokens_of : ℕ → List Step → List Token
tokens_of at [] = []
tokens_of at (step.Skip n ∷ ss) = tokens_of (at + n) ss
tokens_of at (step.Take kind n ∷ ss) =
    record { kind = kind; from = at; to = at + n } ∷ tokens_of (at + n) ss
tokens_of at (step.Refuse c ∷ ss) = tokens_of at ss

-- ---- a text

-- the text has these tokens
abbrev pub Tokens : List ℕ → List Token → Type 0
Tokens text ts = (ss : List Step) × Leads text ss [] × (tokens_of 0 ss ≡ ts)

-- the first lexical refusal in the text
abbrev pub Refused : List ℕ → Code → ℕ → Type 0
Refused text c place =
    (ss : List Step) × (rest : List ℕ) × Leads text ss rest × Refuses rest c
    × (place + length rest ≡ length text)

abbrev pub IsFault : List ℕ → LexFault → Type 0
IsFault text (fault.Refused c place) = Refused text c place
IsFault text fault.NoMemory = Unit {0}

-- a fault that tells of this refusal, or that memory ran out
abbrev pub IsTold : Code → ℕ → LexFault → Type 0
IsTold c place (fault.Refused d p) = (c ≡ d) × (place ≡ p)
IsTold c place fault.NoMemory = Unit {0}

-- one of the tokens that the text has
pub record IsTokenOf (text : List ℕ) (token : Token) : Type 0 where
  pub all : List Token
  pub whole : Tokens text all
  pub listed : Contains all token

-- these stand one after another among the tokens of the text
pub record AreTokens (text : List ℕ) (ts : List Token) : Type 0 where
  pub before : List Token
  pub behind : List Token
  pub whole : Tokens text (before ++ (ts ++ behind))

-- each token begins no sooner than the one before it ends, and none is empty: all are between
-- these places
abbrev pub AreBetween : ℕ → ℕ → List Token → Type 0
AreBetween low high [] = low ≤ high
AreBetween low high (t ∷ ts) = (low ≤ t.from) × (t.from < t.to) × AreBetween t.to high ts

-- the bytes of a token
abbrev pub spelling : List ℕ → Token → List ℕ
spelling text token = take (token.to - token.from) (drop token.from text)
