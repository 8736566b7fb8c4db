-- The front of a query: the compiled query that its bytes come to, or why they are refused and
-- where.
use Rattle.std.specs.Prelude.{◌≡◌, ◌⊎◌, ◌<◌, ◌≤◌, ℕ, List, Option, Some, None, length, take, Result, Ok, Err}
use Rattle.std.specs.Str.{IsUtf8}
use Rattle.item_tree.specs.declared.code.Code.{Code}
use Rattle.item_tree.specs.declared.code.Code.TheVariants.{XPST0003, PJST0005}
use Rattle.item_tree.specs.declared.fault.Fault.{Fault}
use Rattle.item_tree.specs.Faults.{fault_at}
use Rattle.item_reader.specs.Lines.{without_mark}
use Rattle.query_lexer.specs.Lexes.{Tokens, Refused}
use Rattle.query_lexer.specs.declared.token.Token.{Token}
use Rattle.query_tree.specs.Compiled.{BoundTrees}
use Rattle.query_grammar.specs.Nodes.{Module}
use Rattle.query_parser.specs.Queries.{IsQuery, IsFault}
use Rattle.query_parser.specs.declared.reading.ParseFault.TheVariants as fault
use Rattle.static_rules.specs.Compiling.{compiled_query, query_width}
use Rattle.static_rules.specs.Refusals.{refusal}
use Rattle.static_rules.specs.Rules.{code_of}
use Rattle.static_rules.specs.declared.rules.Refusal.{Refusal}

-- how many bytes a query may have, with a byte order mark
abbrev pub max_length : ℕ
max_length = 1048576

-- a compiled query, whose frames have this width
pub record Executable : Type 0 where
  pub trees : BoundTrees
  pub width : ℕ

abbrev pub Front : Type 0
Front = Result Executable Fault

abbrev pub refused_at : Code → ℕ → Front
refused_at code place = Err (fault_at code place)

-- the first so many bytes are the longest beginning that is UTF-8, and more bytes follow: the
-- first of them is part of no character
pub record BreaksAt (bytes : List ℕ) (place : ℕ) : Type 0 where
  pub short : place < length bytes
  pub before : IsUtf8 (take place bytes)
  pub longest : (more : ℕ) → place < more → IsUtf8 (take more bytes) → ⊥

-- what a query comes to that has this static refusal
abbrev pub front_by : Module → Option Refusal → Front
front_by query (Some r) = refused_at (code_of r.rule) r.place
front_by query None =
    Ok (record { trees = compiled_query query; width = query_width query })

-- what a query comes to: it is refused where it breaks a static rule, and else compiled
unfoldable pub static_front : Module → Front
static_front query = front_by query (refusal query)

-- tokens are refused by the grammar, or derive a query
abbrev pub IsFrontOfTokens : List ℕ → List Token → Front → Type 0
IsFrontOfTokens text tokens front =
    ((code : Code) × (place : ℕ) × IsFault text tokens (fault.Refused code place)
    × (front ≡ refused_at code place))
    ⊎ ((query : Module) × IsQuery text tokens query × (front ≡ static_front query))

-- a text is refused by the lexical rules, or has tokens
abbrev pub IsFrontOfText : List ℕ → Front → Type 0
IsFrontOfText text front =
    ((code : Code) × (place : ℕ) × Refused text code place × (front ≡ refused_at code place))
    ⊎ ((tokens : List Token) × Tokens text tokens × IsFrontOfTokens text tokens front)

-- bytes behind the mark are refused where they are no UTF-8, or are a text
abbrev pub IsFrontBehindMark : List ℕ → Front → Type 0
IsFrontBehindMark bytes front =
    ((place : ℕ) × BreaksAt bytes place × (front ≡ refused_at XPST0003 place))
    ⊎ (IsUtf8 bytes × IsFrontOfText bytes front)

-- a query is refused where it is too long; else its bytes behind a byte order mark decide, and
-- places count in them
abbrev pub IsFront : List ℕ → Front → Type 0
IsFront query front =
    ((max_length < length query) × (front ≡ refused_at PJST0005 0))
    ⊎ ((length query ≤ max_length) × IsFrontBehindMark (without_mark query) front)
