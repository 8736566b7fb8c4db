-- What a list of words is as a whole query: the tree that it derives, or where and why it is
-- refused.
use Rattle.std.specs.Prelude.{◌≡◌, ◌⊎◌, ℕ, suc, Bool, true, false, List, [], ◌∷◌, ◌++◌}
use Rattle.item_tree.specs.declared.code.Code.{Code}
use Rattle.item_tree.specs.declared.code.Code.TheVariants as c
use Rattle.grammar_parts.specs.Parts.{Part}
use Rattle.grammar_parts.specs.Levels.{mode_at, level}
use Rattle.grammar_parts.specs.Refusals.{RefusedAt, BeginsUnbounded}
use Rattle.query_grammar.specs.declared.word.Word.{Word}
use Rattle.query_grammar.specs.Nodes.{Module}
use Rattle.query_grammar.specs.Grammar.{forms, module_part}

-- how many forms may stand inside one another
abbrev pub max_nesting : ℕ
max_nesting = 100

-- a module where so many forms may nest, in the grammar or, if `wide`, in the wider one, which
-- has the forms too that are refused by a code of their own
abbrev pub part_of : Bool → ℕ → Part Word Module
part_of wide n = module_part (mode_at wide (suc n)) (level forms wide n)

-- a module as the language has it
abbrev pub query : Part Word Module
query = part_of false max_nesting

abbrev pub Derives : List Word → Module → Type 0
Derives words tree = query.whole words tree

-- where at most so many forms may nest, and where any number may
abbrev pub DerivesWithin : ℕ → List Word → Module → Type 0
DerivesWithin n words tree = (part_of false n).whole words tree

abbrev pub DerivesWithoutBound : List Word → Module → Type 0
DerivesWithoutBound words tree = (n : ℕ) × DerivesWithin n words tree

abbrev pub Begins : Bool → ℕ → List Word → Type 0
Begins wide n words = (part_of wide n).begun words

abbrev pub BeginsWithoutBound : Bool → List Word → Type 0
BeginsWithoutBound wide words = BeginsUnbounded (part_of wide) words

-- why the last of these words goes on with no beginning: a form stands too deep, or it is of the
-- wider grammar alone, or of neither
abbrev pub IsCodeOf : Code → List Word → Type 0
IsCodeOf code words =
    ((code ≡ c.PJST0003) × BeginsWithoutBound false words)
    ⊎ (((code ≡ c.PJST0001) × (BeginsWithoutBound false words → ⊥) × BeginsWithoutBound true words)
    ⊎
    ((code ≡ c.XPST0003) × (BeginsWithoutBound false words → ⊥)
    × (BeginsWithoutBound true words → ⊥)))

-- the first word such that the words up to and with it begin no module
pub record IsRefusedAt (words : List Word) (code : Code) (place : ℕ) : Type 0 where
  pub front : List Word
  pub word : Word
  pub rest : List Word
  pub refused : RefusedAt query words front word rest
  pub at : place ≡ word.place
  pub is_code : IsCodeOf code (front ++ word ∷ [])

-- there is no such word: the words end too soon
pub record IsRefusedAtEnd (words : List Word) (end : ℕ) (code : Code) (place : ℕ) : Type 0 where
  pub begins : Begins false max_nesting words
  pub at : place ≡ end
  pub is_code : code ≡ c.XPST0003

-- the words of a text that ends at this place derive nothing, and are refused so
pub record IsRefused (words : List Word) (end : ℕ) (code : Code) (place : ℕ) : Type 0 where
  pub derives_none : (tree : Module) → Derives words tree → ⊥
  pub place_is : IsRefusedAt words code place ⊎ IsRefusedAtEnd words end code place
