-- What the words after the first one give, piece by piece, as the table writes them.
use Rattle.std.specs.Prelude.{◌≡◌, ◌⊎◌, Bool, true, false, List, [], ◌∷◌, ◌++◌, Some, codes}
use Rattle.run_words.specs.Table.{Text, has_option, next_of, last_of, fits}
use Rattle.run_words.specs.Given.{Use, has, is_dashed, alone, joined, given}
use Rattle.run_words.specs.declared.table.Verb.{Verb}
use Rattle.run_words.specs.declared.table.Name.{Name}
use Rattle.run_words.specs.declared.table.Name.TheVariants.{Workers, Partition, Mode, Stats, Number}

abbrev pub takes_value : Name → Bool
takes_value Workers = true
takes_value Partition = true
takes_value Mode = true
takes_value _ = false

-- its name isn't given yet, and its value fits
abbrev pub IsNew : List Use → Use → Type 0
IsNew before u = (has u.name before ≡ false) × (fits u.name u.value ≡ true)

-- an option of the command: without a value, with it in one word, or with it in the next word
abbrev pub SpellsOption : Verb → Use → List Text → List Text → Type 0
SpellsOption verb u words rest =
    (has_option verb u.name ≡ true)
    × (((u.name ≡ Stats) × (u.value ≡ codes "true") × (words ≡ alone Stats ∷ rest))
    ⊎ (((takes_value u.name ≡ true) × (words ≡ (joined u.name ++ u.value) ∷ rest))
    ⊎ ((takes_value u.name ≡ true) × (is_dashed u.value ≡ false)
    × (words ≡ alone u.name ∷ u.value ∷ rest))))

-- the argument that comes next
abbrev pub IsNext : Verb → List Use → Use → Type 0
IsNext verb before u = u.name ≡ next_of verb (has Number before)

abbrev pub SpellsArgument : Verb → List Use → Use → List Text → List Text → Type 0
SpellsArgument verb before u words rest =
    IsNext verb before u × (is_dashed u.value ≡ false) × (words ≡ u.value ∷ rest)

-- words that are all arguments
abbrev pub Follow : Verb → List Use → List Use → List Text → Type 0
Follow verb before [] words = words ≡ []
Follow verb before (u ∷ us) words =
    (rest : List Text) × IsNew before u × IsNext verb before u × (words ≡ u.value ∷ rest)
    × Follow verb (before ++ u ∷ []) us rest

-- options and arguments, and behind a word `--` arguments alone
abbrev pub Spell : Verb → List Use → List Use → List Text → Type 0
Spell verb before [] words = (words ≡ []) ⊎ (words ≡ (45 ∷ 45 ∷ []) ∷ [])
Spell verb before (u ∷ us) words =
    ((rest : List Text) × IsNew before u
    × (SpellsOption verb u words rest ⊎ SpellsArgument verb before u words rest)
    × Spell verb (before ++ u ∷ []) us rest)
    ⊎ ((rest : List Text) × (words ≡ (45 ∷ 45 ∷ []) ∷ rest) × Follow verb before (u ∷ us) rest)

-- the words are spelled so, and the last argument is there
abbrev pub AreGiven : Verb → List Text → List Use → Type 0
AreGiven verb words uses = Spell verb [] uses words × (has (last_of verb) uses ≡ true)

-- what is read of words is what they are spelled to give
pub record ReadsAsSpelled (verb : Verb) (words : List Text) (uses : List Use) : Type 0 where
  pub read : given verb words ≡ Some uses → AreGiven verb words uses
  pub all : AreGiven verb words uses → given verb words ≡ Some uses
