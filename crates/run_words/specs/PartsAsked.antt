-- What the words of a run ask for whose result is written as numbered parts:
-- `parts QUERY COUNT [--workers N] [--partition N]`.
use Rattle.std.specs.Prelude.{◌≤◌, ◌+◌, ◌^◌, ℕ, Bool, false, List, [], ◌∷◌, Option, None, Some, IfSome, option_map, option_and_then, unwrap_or, is_some, slice_get, if◌then◌else◌, codes}
use Rattle.std.specs.Str.{bytes_eq, chars}
use Rattle.run_words.specs.Table.{Text, is_number_in, number_of}
use Rattle.run_words.specs.Given.{after, is_dashed, is_settled}
use Rattle.run_words.specs.Asked.{WorksWithin}
use Rattle.run_words.specs.declared.given.Phase.{Phase}
use Rattle.run_words.specs.declared.given.Phase.TheVariants.{Free, Waits, Over}
use Rattle.run_words.specs.declared.parts.PartsRead.{PartsRead}
use Rattle.run_words.specs.declared.table.Name.{Name}
use Rattle.run_words.specs.declared.table.Name.TheVariants.{Workers, Partition}
use Rattle.run_words.specs.declared.task.PartsTask.{PartsTask}

-- the number of a text within these bounds
abbrev pub number_in : ℕ → ℕ → Text → Option ℕ
number_in low high text = if is_number_in low high text then Some (number_of text) else None

-- the value of an option, which is given once
abbrev pub workers_given : PartsRead → Text → Option PartsRead
workers_given r value = if is_some r.workers then None
    else option_map (λ n. record r { phase = Free; workers = Some n }) (number_in 1 64 value)

abbrev pub size_given : PartsRead → Text → Option PartsRead
size_given r value = if is_some r.size then None
    else option_map (λ n. record r { phase = Free; size = Some n }) (number_in 1 (2 ^ 30) value)

-- the first argument is the query, and the second the number of parts
abbrev pub argument_given : PartsRead → ℕ → Text → Option PartsRead
argument_given r at word = if is_some r.query
    then (if is_some r.count then None
    else option_map (λ n. record r { count = Some n }) (number_in 1 1000 word))
    else Some (record r { query = Some at })

-- an option with its value in one word, by what stands behind `--workers=` or `--partition=`
abbrev pub joined_given : PartsRead → Option Text → Option Text → Option PartsRead
joined_given r (Some value) size = workers_given r value
joined_given r None (Some value) = size_given r value
joined_given r None None = None

-- a word that begins with `-`
abbrev pub option_given : PartsRead → Text → Option PartsRead
option_given r word =
    if bytes_eq word (codes "--") then Some (record r { phase = Over })
    else (if bytes_eq word (codes "--workers") then Some (record r { phase = Waits Workers })
    else (if bytes_eq word (codes "--partition") then Some (record r { phase = Waits Partition })
    else joined_given r (after (codes "--workers=") word) (after (codes "--partition=") word)))

-- the value of the option before it
abbrev pub value_given : PartsRead → Name → Text → Option PartsRead
value_given r Workers word = workers_given r word
value_given r Partition word = size_given r word
value_given r name word = None

-- the word at this place, by where the reading stands
abbrev pub word_given : Phase → PartsRead → ℕ → Text → Option PartsRead
word_given Over r at word = argument_given r at word
word_given (Waits name) r at word = if is_dashed word then None else value_given r name word
word_given Free r at word =
    if is_dashed word then option_given r word else argument_given r at word

-- the words from this place on
abbrev pub words_given : PartsRead → ℕ → List Text → Option PartsRead
words_given r at [] = Some r
words_given r at (word ∷ words) =
    option_and_then (λ next. words_given next (at + 1) words) (word_given r.phase r at word)

-- nothing is given yet
abbrev pub none_given : PartsRead
none_given = record { phase = Free; workers = None; size = None; query = None; count = None }

abbrev pub task_of_parts : PartsRead → Text → ℕ → PartsTask
task_of_parts r query count = record {
  query = chars query;
  count = count;
  workers = unwrap_or r.workers 4;
  size = unwrap_or r.size 1048576;
}

-- what is given comes to a task where no option lacks its value and both arguments are there
abbrev pub task_given : List Text → PartsRead → Option PartsTask
task_given words r = if is_settled r.phase
    then option_and_then (λ at. option_and_then (λ count.
    option_map (λ query. task_of_parts r query count) (slice_get words at)) r.count) r.query
    else None

-- the words behind the first one
abbrev pub rest_asked : List Text → Option PartsTask
rest_asked words = option_and_then (task_given words) (words_given none_given 0 words)

-- the first word is `parts`
abbrev pub begins_parts : List Text → Bool
begins_parts [] = false
begins_parts (first ∷ rest) = bytes_eq first (codes "parts")

-- what all words ask for
abbrev pub parts_asked : List Text → Option PartsTask
parts_asked [] = None
parts_asked (first ∷ rest) = if bytes_eq first (codes "parts") then rest_asked rest else None

-- the bounds of what is given so far
pub record InBounds (r : PartsRead) : Type 0 where
  pub workers : IfSome r.workers (λ n. (1 ≤ n) × (n ≤ 64))
  pub size : IfSome r.size (λ n. (1 ≤ n) × (n ≤ 2 ^ 30))
  pub count : IfSome r.count (λ n. (1 ≤ n) × (n ≤ 1000))

-- the bounds of a task's numbers
pub record PartsWithin (t : PartsTask) : Type 0 where
  pub some : 1 ≤ t.count
  pub most : t.count ≤ 1000
  pub works : WorksWithin t.workers t.size
