-- The reading of the words, where it is kept only which names are given.
use Rattle.std.specs.Prelude.{Bool, true, List, [], ◌∷◌, Option, Some, None, option_and_then, if◌then◌else◌, codes}
use Rattle.std.specs.Option.{option_or}
use Rattle.run_words.specs.Table.{Text, next_of, fits}
use Rattle.run_words.specs.Given.{Use, has, exactly, alone, joined, after, is_dashed, offered}
use Rattle.run_words.specs.declared.given.Phase.{Phase}
use Rattle.run_words.specs.declared.given.Phase.TheVariants.{Free, Waits, Over}
use Rattle.run_words.specs.declared.given.Seen.{Seen}
use Rattle.run_words.specs.declared.table.Verb.{Verb}
use Rattle.run_words.specs.declared.table.Name.{Name}
use Rattle.run_words.specs.declared.table.Name.TheVariants.{Workers, Partition, Mode, Stats, Query, Number, Lines}

abbrev pub marks_of : List Use → Seen
marks_of uses = record {
  workers = has Workers uses;
  partition = has Partition uses;
  mode = has Mode uses;
  stats = has Stats uses;
  query = has Query uses;
  number = has Number uses;
  lines = has Lines uses;
}

abbrev pub is_marked : Name → Seen → Bool
is_marked Workers s = s.workers
is_marked Partition s = s.partition
is_marked Mode s = s.mode
is_marked Stats s = s.stats
is_marked Query s = s.query
is_marked Number s = s.number
is_marked Lines s = s.lines

abbrev pub marked : Name → Seen → Seen
marked Workers s = record s { workers = true }
marked Partition s = record s { partition = true }
marked Mode s = record s { mode = true }
marked Stats s = record s { stats = true }
marked Query s = record s { query = true }
marked Number s = record s { number = true }
marked Lines s = record s { lines = true }

abbrev pub At : Type 0
At = Phase × Seen

abbrev pub taken : Phase → Name → Text → Seen → Option At
taken phase name value s = if is_marked name s then None
    else (if fits name value then Some (phase, marked name s) else None)

abbrev pub valued_marks : Name → Text → Seen → Option At
valued_marks name word s =
    option_or (exactly (alone name) word (Some (Waits name, s)))
    (option_and_then (λ value. taken Free name value s) (after (joined name) word))

abbrev pub option_marks : Verb → Text → Seen → Option At
option_marks verb word s = option_or (exactly (45 ∷ 45 ∷ []) word (Some (Over, s)))
    (option_or (offered verb Stats (exactly (alone Stats) word (taken Free Stats (codes "true") s)))
    (option_or (offered verb Workers (valued_marks Workers word s))
    (option_or (offered verb Partition (valued_marks Partition word s))
    (offered verb Mode (valued_marks Mode word s)))))

abbrev pub argument_marks : Verb → Phase → Text → Seen → Option At
argument_marks verb phase word s = taken phase (next_of verb s.number) word s

abbrev pub met_marks : Verb → Phase → Seen → Text → Option At
met_marks verb Over s word = argument_marks verb Over word s
met_marks verb (Waits name) s word = if is_dashed word then None else taken Free name word s
met_marks verb Free s word =
    if is_dashed word then option_marks verb word s else argument_marks verb Free word s

abbrev pub reads_marks : Verb → At → List Text → Option At
reads_marks verb a [] = Some a
reads_marks verb a (word ∷ rest) =
    option_and_then (λ n. reads_marks verb n rest) (met_marks verb a.0 a.1 word)
