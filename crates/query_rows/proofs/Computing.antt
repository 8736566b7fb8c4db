-- The words of a query are read, compiled and evaluated, and what they come to is told.
use Rattle.std.proofs.Common.{◌≡◌, ℕ, ◌+◌, pos, List, [], ◌∷◌, ◌++◌, Option, Some, None, Result, Ok, Err, codes}
use Rattle.std.specs.Fmt.{decimal}
use Rattle.item_tree.specs.Codes.{code_text}
use Rattle.item_tree.specs.Datum.{Datum}
use Rattle.item_tree.specs.ItemText.{item_text}
use Rattle.item_tree.specs.declared.fault.Fault.{Fault}
use Rattle.item_tree.specs.declared.fault.Spot.{Spot}
use Rattle.query_grammar.specs.Nodes.{Module}
use Rattle.query_grammar.specs.Texts.{query}
use Rattle.query_grammar.specs.declared.word.Kind.{Kind}
use Rattle.query_grammar.specs.declared.word.Value.TheVariants as v
use Rattle.query_grammar.specs.declared.word.Word.{Word}
use Rattle.static_rules.specs.Compiling.{compiled_query, query_width}
use Rattle.static_rules.specs.Refusals.{refusal}
use Rattle.static_rules.specs.declared.rules.Refusal.{Refusal}
use Rattle.query_meaning.specs.Library.{Library}
use Rattle.query_meaning.specs.Outcome.{Outcome}
use Rattle.query_meaning.specs.Queries.{query_value}

abbrev pub mark : Kind → ℕ → Word
mark kind place = record { kind = kind; place = place; value = v.Nothing }

abbrev pub name : Kind → ℕ → List ℕ → Word
name kind place text = record { kind = kind; place = place; value = v.Text text }

abbrev pub whole : Kind → ℕ → ℕ → Word
whole kind place n = record { kind = kind; place = place; value = v.Int (pos n) }

abbrev pub units : Kind → ℕ → ℕ → Word
units kind place n = record { kind = kind; place = place; value = v.Dec (pos n) }

-- ---- what is told of an outcome: the text of each item, with a stroke behind it, or the fault with
-- its column and its spot

abbrev items_told : List Datum → List ℕ
items_told [] = []
items_told (x ∷ xs) = item_text x ++ 47 ∷ items_told xs

abbrev spot_told : Option Spot → List ℕ
spot_told None = []
spot_told (Some s) = (codes " clause " ++ decimal s.clause) ++ (codes " tuple " ++ decimal s.tuple)

abbrev fault_told : Fault → List ℕ
fault_told f = ((code_text f.code ++ codes " at ") ++ decimal (f.place + 1)) ++ spot_told f.spot

abbrev told : Outcome → List ℕ
told (Ok items) = items_told items
told (Err fault) = fault_told fault

-- a query that a static rule refuses comes to nothing
abbrev told_unless : Option Refusal → Module → Library → List ℕ
told_unless (Some broken) m library = codes "refused"
told_unless None m library = told (query_value (query_width m) (compiled_query m) library)

abbrev told_of : {E : Type 0} → Library → Result (Module × List Word) E → List ℕ
told_of library (Err refused) = codes "refused"
told_of library (Ok (m, w ∷ rest)) = codes "refused"
told_of library (Ok (m, [])) = told_unless (refusal m) m library

abbrev pub Gives : List Word → Library → List ℕ → Type 0
Gives words library expected = told_of library (query.read words) ≡ expected
