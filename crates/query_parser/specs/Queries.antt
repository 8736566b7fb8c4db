-- What the tokens of a text are as a query.
use Rattle.std.specs.Prelude.{ℕ, ◌+◌, List, length}
use Rattle.query_lexer.specs.declared.token.Token.{Token}
use Rattle.query_grammar.specs.declared.word.Word.{Word}
use Rattle.query_grammar.specs.Nodes.{Module}
use Rattle.query_grammar.specs.Words.{AreWordsAt}
use Rattle.query_grammar.specs.Texts.{Derives, IsRefused}
use Rattle.query_parser.specs.declared.reading.ParseFault.{ParseFault}
use Rattle.query_parser.specs.declared.reading.ParseFault.TheVariants as fault

-- the words of the tokens of a text behind so many other bytes derive this module
abbrev pub IsQueryAt : ℕ → List ℕ → List Token → Module → Type 0
IsQueryAt start text tokens tree =
    (words : List Word) × AreWordsAt start text tokens words × Derives words tree

-- the words of a text's tokens derive this module
abbrev pub IsQuery : List ℕ → List Token → Module → Type 0
IsQuery text tokens tree = IsQueryAt 0 text tokens tree

-- words are refused so, where the text ends at this place
abbrev pub AreRefused : List Word → ℕ → ParseFault → Type 0
AreRefused words end fault.NoMemory = Unit {0}
AreRefused words end (fault.Refused code place) = IsRefused words end code place

-- the words of the tokens of a text behind so many other bytes are refused so
abbrev pub IsFaultAt : ℕ → List ℕ → List Token → ParseFault → Type 0
IsFaultAt start text tokens fault.NoMemory = Unit {0}
IsFaultAt start text tokens (fault.Refused code place) =
    (words : List Word) × AreWordsAt start text tokens words
    × IsRefused words (start + length text) code place

-- the words of a text's tokens are refused so
abbrev pub IsFault : List ℕ → List Token → ParseFault → Type 0
IsFault text tokens f = IsFaultAt 0 text tokens f
