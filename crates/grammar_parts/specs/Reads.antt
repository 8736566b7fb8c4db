-- What a function that reads ensures.
use Rattle.std.specs.Prelude.{◌≡◌, List, Result, Ok, Err}
use Rattle.grammar_parts.specs.declared.cursor.Stop.{Stop}
use Rattle.grammar_parts.specs.declared.cursor.Stop.TheVariants as stop
use Rattle.grammar_parts.specs.Readers.{Outcome}

-- The outcome of reading, unless memory ran out; a refusal is at the first of the tokens that are
-- left. The value is seen as `view` shows it.
abbrev pub ReadsAs : {T A R : Type 0} → (R → A) → Outcome T A → Result R Stop → List T → Type 0
ReadsAs view outcome (Ok x) rest = outcome ≡ Ok (view x, rest)
ReadsAs view outcome (Err stop.Refused) rest = outcome ≡ Err rest
ReadsAs view outcome (Err stop.NoMemory) rest = Unit {0}

abbrev pub Reads : {T A : Type 0} → Outcome T A → Result A Stop → List T → Type 0
Reads outcome result rest = ReadsAs (λ x. x) outcome result rest
