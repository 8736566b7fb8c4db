-- What a command line asks for.
use Rattle.std.specs.Prelude.{◌≤◌, ◌<◌, ◌^◌, ℕ, Bool, false, List, [], ◌∷◌, Option, None, Some, option_map, option_and_then, unwrap_or, codes}
use Rattle.std.specs.Str.{bytes_eq, chars}
use Rattle.run_words.specs.Table.{Text, verb_of, number_of}
use Rattle.run_words.specs.Given.{given, has, value_of}
use Rattle.run_words.specs.declared.table.Verb.{Verb}
use Rattle.run_words.specs.declared.table.Verb.TheVariants as verb
use Rattle.run_words.specs.declared.table.Name.{Name}
use Rattle.run_words.specs.declared.table.Name.TheVariants.{Workers, Partition, Mode, Stats, Query, Number, Lines}
use Rattle.run_words.specs.declared.task.Task.{Task}
use Rattle.run_words.specs.declared.task.Task.TheVariants.{Run, Check, Explain, Trial}

abbrev pub number_or : ℕ → Option Text → ℕ
number_or default None = default
number_or default (Some text) = number_of text

abbrev pub is_text : Text → Option Text → Bool
is_text text None = false
is_text text (Some other) = bytes_eq other text

-- the characters of the query's name
abbrev pub query_of : (Name → Option Text) → List ℕ
query_of value = chars (unwrap_or (value Query) [])

abbrev pub workers_of : (Name → Option Text) → ℕ
workers_of value = number_or 4 (value Workers)

abbrev pub size_of : (Name → Option Text) → ℕ
size_of value = number_or 1048576 (value Partition)

-- by the value of each name, and whether the statistics are asked for
abbrev pub task_from : Verb → (Name → Option Text) → Bool → Task
task_from verb.Run value stats =
    Run (query_of value) (workers_of value) (size_of value) (is_text (codes "local") (value Mode))
    stats
task_from verb.Check value stats = Check (query_of value)
task_from verb.Explain value stats = Explain (query_of value)
task_from verb.Trial value stats =
    Trial (number_or 0 (value Number)) (number_or 0 (value Lines)) (workers_of value)
    (size_of value)

-- what the words after the first one ask for
abbrev pub task_of : Verb → List Text → Option Task
task_of verb words =
    option_map (λ uses. task_from verb (λ n. value_of n uses) (has Stats uses)) (given verb words)

-- what all words ask for, where they are of the table
abbrev pub asked : List Text → Option Task
asked [] = None
asked (first ∷ rest) = option_and_then (λ verb. task_of verb rest) (verb_of first)

-- the bounds of the options that a run and a trial have
pub record WorksWithin (workers size : ℕ) : Type 0 where
  pub some : 1 ≤ workers
  pub most : workers ≤ 64
  pub smallest : 1 ≤ size
  pub largest : size ≤ 2 ^ 30

-- the bounds of a task's numbers
abbrev pub IsWithin : Task → Type 0
IsWithin (Run query workers size local stats) = WorksWithin workers size
IsWithin (Check query) = Unit {0}
IsWithin (Explain query) = Unit {0}
IsWithin (Trial number lines workers size) =
    (number < 2 ^ 31) × (lines ≤ 1000000) × WorksWithin workers size
