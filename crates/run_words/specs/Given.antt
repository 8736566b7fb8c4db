-- What the words after the first one give, read one after another.
use Rattle.std.specs.Prelude.{◌==◌, ◌&&◌, Bool, true, false, List, [], ◌∷◌, ◌++◌, Option, Some, None, option_map, option_and_then, if◌then◌else◌, codes, find}
use Rattle.std.specs.List.{list_any}
use Rattle.std.specs.Option.{option_or}
use Rattle.std.specs.Str.{bytes_eq}
use Rattle.run_words.specs.Table.{Text, has_option, next_of, last_of, id_of, fits}
use Rattle.run_words.specs.declared.given.Phase.{Phase}
use Rattle.run_words.specs.declared.given.Phase.TheVariants.{Free, Waits, Over}
use Rattle.run_words.specs.declared.table.Verb.{Verb}
use Rattle.run_words.specs.declared.table.Name.{Name}
use Rattle.run_words.specs.declared.table.Name.TheVariants.{Workers, Partition, Mode, Stats, Number}

-- one option or argument, with its value
pub record Use : Type 0 where
  pub name : Name
  pub value : Text

-- whether a name is given, and the value that is given
abbrev pub has : Name → List Use → Bool
has name uses = list_any (λ u. bytes_eq (id_of u.name) (id_of name)) uses

abbrev pub value_of : Name → List Use → Option Text
value_of name uses =
    option_map (λ u. u.value) (find (λ u. bytes_eq (id_of u.name) (id_of name)) uses)

-- where the reading stands: before `--` (Free), before the value of an option (Waits), or behind
-- `--` (Over); and what is given so far, in order
pub record Read : Type 0 where
  pub phase : Phase
  pub uses : List Use

abbrev pub read_at : Phase → List Use → Read
read_at phase uses = record { phase = phase; uses = uses }

-- the word begins with `-`
abbrev pub is_dashed : Text → Bool
is_dashed [] = false
is_dashed (x ∷ xs) = x == 45

-- what follows a beginning of the word
abbrev pub after : Text → Text → Option Text
after [] word = Some word
after (p ∷ ps) [] = None
after (p ∷ ps) (x ∷ xs) = if x == p then after ps xs else None

abbrev pub exactly : {X : Type 0} → Text → Text → Option X → Option X
exactly text word x = if bytes_eq word text then x else None

-- one more use of a name that isn't given yet
abbrev pub used : Phase → Name → Text → List Use → Option Read
used phase name value uses = if has name uses then None
    else (if fits name value then
    Some (read_at phase (uses ++ record { name = name; value = value } ∷ [])) else None)

-- `--name`, and `--name=`
abbrev pub alone : Name → Text
alone name = 45 ∷ 45 ∷ id_of name

abbrev pub joined : Name → Text
joined name = alone name ++ 61 ∷ []

-- an option that takes a value, in one word or with the next one
abbrev pub valued : Name → Text → List Use → Option Read
valued name word uses =
    option_or (exactly (alone name) word (Some (read_at (Waits name) uses)))
    (option_and_then (λ value. used Free name value uses) (after (joined name) word))

-- only where the command has this option
abbrev pub offered : {X : Type 0} → Verb → Name → Option X → Option X
offered verb name x = if has_option verb name then x else None

-- a word that begins with `-`
abbrev pub option_met : Verb → Text → List Use → Option Read
option_met verb word uses =
    option_or (exactly (45 ∷ 45 ∷ []) word (Some (read_at Over uses)))
    (option_or (offered verb Stats
    (exactly (alone Stats) word (used Free Stats (codes "true") uses)))
    (option_or (offered verb Workers (valued Workers word uses))
    (option_or (offered verb Partition (valued Partition word uses))
    (offered verb Mode (valued Mode word uses)))))

abbrev pub argument_met : Verb → Phase → Text → List Use → Option Read
argument_met verb phase word uses = used phase (next_of verb (has Number uses)) word uses

abbrev pub met_at : Verb → Phase → List Use → Text → Option Read
met_at verb Over uses word = argument_met verb Over word uses
met_at verb (Waits name) uses word = if is_dashed word then None else used Free name word uses
met_at verb Free uses word =
    if is_dashed word then option_met verb word uses else argument_met verb Free word uses

-- the next word
abbrev pub met : Verb → Read → Text → Option Read
met verb r word = met_at verb r.phase r.uses word

-- the words from here on
abbrev pub reads : Verb → Read → List Text → Option Read
reads verb r [] = Some r
reads verb r (word ∷ rest) = option_and_then (λ n. reads verb n rest) (met verb r word)

abbrev pub is_settled : Phase → Bool
is_settled (Waits name) = false
is_settled _ = true

-- no option lacks its value, and the last argument is there
abbrev pub whole : Verb → Read → Option (List Use)
whole verb r = if is_settled r.phase && has (last_of verb) r.uses then Some r.uses else None

abbrev pub start : Read
start = record { phase = Free; uses = [] }

-- what the words after the first one give, where they are of the table
abbrev pub given : Verb → List Text → Option (List Use)
given verb words = option_and_then (whole verb) (reads verb start words)
