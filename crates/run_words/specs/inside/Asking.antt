-- The command of words that are of the table.
use Rattle.std.specs.Prelude.{List, [], ◌∷◌, Option, None, Some, option_and_then, is_some, if◌then◌else◌}
use Rattle.run_words.specs.Table.{Text, verb_of}
use Rattle.run_words.specs.Given.{given}
use Rattle.run_words.specs.declared.table.Verb.{Verb}

abbrev pub verb_asked : List Text → Option Verb
verb_asked [] = None
verb_asked (first ∷ rest) =
    option_and_then (λ verb. if is_some (given verb rest) then Some verb else None) (verb_of first)
