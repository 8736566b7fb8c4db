-- Laws of the grammar and of its words.
use Rattle.std.specs.Prelude.{◌≡◌, ◌≤◌, ◌⊎◌, ◌↔◌, ℕ, true, List, [], ◌∷◌}
use Rattle.item_tree.specs.declared.code.Code.{Code}
use Rattle.query_lexer.specs.declared.token.Token.{Token}
use Rattle.query_grammar.specs.declared.word.Word.{Word}
use Rattle.query_grammar.specs.Nodes.{Module}
use Rattle.query_grammar.specs.Words.{AreWordsAt}
use Rattle.query_tree.specs.Nesting.{module_nesting}
use Rattle.query_tree.specs.Spines.{commas_apart}
use Rattle.query_grammar.specs.Texts.{Derives, DerivesWithin, DerivesWithoutBound, IsRefused, max_nesting}

abbrev pub HasOneTree : List Word → Type 0
HasOneTree words = (tree other : Module) → Derives words tree → Derives words other → tree ≡ other

abbrev pub IsDecided : List Word → ℕ → Type 0
IsDecided words end =
    ((tree : Module) × Derives words tree)
    ⊎ ((code : Code) × (place : ℕ) × IsRefused words end code place)

abbrev pub HasOneRefusal : List Word → ℕ → Type 0
HasOneRefusal words end =
    (code other : Code) (place elsewhere : ℕ) → IsRefused words end code place
    → IsRefused words end other elsewhere → (code ≡ other) × (place ≡ elsewhere)

abbrev pub IsNeverBoth : List Word → ℕ → Type 0
IsNeverBoth words end =
    (tree : Module) (code : Code) (place : ℕ) → Derives words tree
    → IsRefused words end code place → ⊥

abbrev pub HasOneReading : ℕ → List ℕ → List Token → Type 0
HasOneReading start text tokens =
    (words others : List Word) → AreWordsAt start text tokens words
    → AreWordsAt start text tokens others → words ≡ others

-- Where at most n forms may nest, the words derive exactly the trees that they derive without a
-- bound and that are nested no deeper than n.
abbrev pub IsBoundedByNesting : ℕ → List Word → Module → Type 0
IsBoundedByNesting n words tree =
    DerivesWithin n words tree ↔ (DerivesWithoutBound words tree × (module_nesting tree ≤ n))

-- The expressions of a query are nested no deeper than the bound.
abbrev pub HasTreesInBounds : List Word → Type 0
HasTreesInBounds words = (tree : Module) → Derives words tree → module_nesting tree ≤ max_nesting

-- the property holds of each element of a list
abbrev pub Each : {A : Type 0} → (A → Type 0) → List A → Type 0
Each P [] = Unit {0}
Each P (x ∷ xs) = P x × Each P xs

-- No operand of a comma on the spine of a module's expressions is itself a comma.
pub record CommasStandApart (tree : Module) : Type 0 where
  pub variables : Each (λ x. commas_apart x.value ≡ true) tree.variables
  pub functions : Each (λ f. commas_apart f.body ≡ true) tree.functions
  pub body : commas_apart tree.body ≡ true

-- It is so in a query.
abbrev pub HasCommasApart : List Word → Type 0
HasCommasApart words = (tree : Module) → Derives words tree → CommasStandApart tree
