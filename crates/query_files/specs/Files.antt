-- The files of a world as queries and libraries: what each comes to that is read alone.
use Rattle.std.specs.Prelude.{◌≡◌, ◌⊎◌, ◌<◌, ◌≤◌, ◌+◌, ℕ, List, [], ◌∷◌, length, take, drop, Result, Ok, Err}
use Rattle.std.specs.Str.{IsUtf8}
use Rattle.item_tree.specs.declared.code.Code.{Code}
use Rattle.item_tree.specs.declared.code.Code.TheVariants.{XPST0003, PJST0005}
use Rattle.item_reader.specs.Lines.{without_mark}
use Rattle.outside.specs.World.{World}
use Rattle.query_lexer.specs.Lexes.{Tokens, Refused}
use Rattle.query_lexer.specs.declared.token.Token.{Token}
use Rattle.query_grammar.specs.Nodes.{Module}
use Rattle.query_grammar.specs.Texts.{Derives, IsRefused}
use Rattle.query_grammar.specs.Words.{AreWordsAt}
use Rattle.query_grammar.specs.declared.word.Word.{Word}
use Rattle.query_files.specs.declared.parser.Underived.{Underived}
use Rattle.query_files.specs.declared.parser.Underived.TheVariants as parser
use Rattle.module_names.specs.Alone.{max_length, with_contents}
use Rattle.module_names.specs.Bodies.{other_body}
use Rattle.module_names.specs.Heads.{head_of, IsHead}
use Rattle.module_names.specs.Loading.{Source, Unread, Sources}
use Rattle.module_names.specs.declared.file_bytes.Kept.{Kept}
use Rattle.module_names.specs.declared.head.Import.{Import}

-- what a file comes to that is read alone: its imports, and where its body stands if that is not
-- `()`; or its first refusal, at a place that counts behind a byte order mark
abbrev pub Reading : Type 0
Reading = Result (Source (Unit {0})) Unread

abbrev pub unread : Code → ℕ → Reading
unread code place = Err (record { code = code; place = place })

abbrev pub with_imports : List Import → List ℕ → List Token → Reading
with_imports imports text tokens =
    Ok (record { imports = imports; body = other_body text tokens; rest = tt })

-- ---- the grammar

-- the words of the tokens of a text after so many other bytes derive this module
abbrev pub IsTreeAt : ℕ → List ℕ → List Token → Module → Type 0
IsTreeAt start text tokens tree =
    (words : List Word) × AreWordsAt start text tokens words × Derives words tree

-- they are refused so
abbrev pub IsRefusedAt : ℕ → List ℕ → List Token → Code → ℕ → Type 0
IsRefusedAt start text tokens code place =
    (words : List Word) × AreWordsAt start text tokens words
    × IsRefused words (start + length text) code place

abbrev pub IsUnderived : ℕ → List ℕ → List Token → Underived → Type 0
IsUnderived start text tokens parser.NoMemory = Unit {0}
IsUnderived start text tokens (parser.Refused code place) =
    IsRefusedAt start text tokens code place

-- ---- a file that is read alone

-- the tokens after the head are refused by the grammar, or derive a query
abbrev pub IsReadAfter : List ℕ → List Import → List Token → Reading → Type 0
IsReadAfter text imports tokens reading =
    ((code : Code) × (place : ℕ) × IsRefusedAt 0 text tokens code place
    × (reading ≡ unread code place))
    ⊎ ((query : Module) × IsTreeAt 0 text tokens query
    × (reading ≡ with_imports imports text tokens))

-- tokens are refused in their head, or have one, with these imports
abbrev pub AreRead : List ℕ → List Token → Reading → Type 0
AreRead text tokens reading =
    ((place : ℕ) × (head_of text tokens ≡ Err place) × (reading ≡ unread XPST0003 place))
    ⊎ ((imports : List Import) × (count : ℕ) × IsHead text tokens imports count
    × IsReadAfter text imports (drop count tokens) reading)

-- a text is refused by the lexical rules, or has tokens
abbrev pub IsReadText : List ℕ → Reading → Type 0
IsReadText text reading =
    ((code : Code) × (place : ℕ) × Refused text code place × (reading ≡ unread code place))
    ⊎ ((tokens : List Token) × Tokens text tokens × AreRead text tokens reading)

-- the first so many bytes are the longest beginning that is UTF-8, and more bytes follow: the
-- first of them is part of no character
pub record BreaksAt (bytes : List ℕ) (place : ℕ) : Type 0 where
  pub short : place < length bytes
  pub before : IsUtf8 (take place bytes)
  pub longest : (more : ℕ) → place < more → IsUtf8 (take more bytes) → ⊥

-- bytes behind the mark are refused where they are no UTF-8, or are a text
abbrev pub IsReadBehindMark : List ℕ → Reading → Type 0
IsReadBehindMark bytes reading =
    ((place : ℕ) × BreaksAt bytes place × (reading ≡ unread XPST0003 place))
    ⊎ (IsUtf8 bytes × IsReadText bytes reading)

-- a file is refused where it is too long; else its bytes behind a byte order mark decide
abbrev pub IsReading : List ℕ → Reading → Type 0
IsReading bytes reading =
    ((max_length < length bytes) × (reading ≡ unread PJST0005 0))
    ⊎ ((length bytes ≤ max_length) × IsReadBehindMark (without_mark bytes) reading)

-- a reading beside the bytes of its file
abbrev pub kept_reading : List ℕ → Reading → Result (Source (Kept (Unit {0}))) Unread
kept_reading bytes (Ok source) = Ok (with_contents bytes source)
kept_reading bytes (Err refusal) = Err refusal

-- what the files of a world come to, each read alone
abbrev pub AreReadings : World → Sources (Kept (Unit {0})) → Type 0
AreReadings [] sources = sources ≡ []
AreReadings (f ∷ fs) sources =
    (reading : Reading) × (rest : Sources (Kept (Unit {0})))
    × IsReading f.1 reading × AreReadings fs rest
    × (sources ≡ (f.0, kept_reading f.1 reading) ∷ rest)

-- the module that a text is as a file, where its first byte has this place
pub record IsModuleAt (start : ℕ) (text : List ℕ) (tree : Module) : Type 0 where
  pub tokens : List Token
  pub imports : List Import
  pub count : ℕ
  pub lexed : Tokens text tokens
  pub head : IsHead text tokens imports count
  pub parsed : IsTreeAt start text (drop count tokens) tree

-- the words after the head of a text are refused where its first byte has this place
pub record IsRefusedFrom (start : ℕ) (text : List ℕ) (code : Code) (place : ℕ) : Type 0 where
  pub tokens : List Token
  pub imports : List Import
  pub count : ℕ
  pub lexed : Tokens text tokens
  pub head : IsHead text tokens imports count
  pub refused : IsRefusedAt start text (drop count tokens) code place
