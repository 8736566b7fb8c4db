-- What a line reads as.
use Rattle.std.specs.Prelude.{◌≡◌, ◌⊎◌, ℕ, Bool, true, false, ◌||◌, ◌==◌, List, Ok, Err}
use Rattle.std.specs.List.{list_all}
use Rattle.item_tree.specs.Datum.{Datum}
use Rattle.item_tree.specs.declared.code.Code.{Code}
use Rattle.item_tree.specs.declared.code.Code.TheVariants.{JNDY0021, PJDY0002, PJDY0004}
use Rattle.json_text.specs.Raw.{Raw}
use Rattle.json_text.specs.Json.{Json}
use Rattle.json_text.specs.Meaning.{Trouble, number_out, too_deep, Gives}

-- space, tab and CR
abbrev pub is_line_space : ℕ → Bool
is_line_space b = b == 32 || b == 9 || b == 13

abbrev pub is_blank : List ℕ → Bool
is_blank line = list_all is_line_space line

-- nothing, an item, or the code of a fault
pub data Reading : Type 0 where
  blank : Reading
  item : Datum → Reading
  fault : Code → Reading

abbrev pub code_of : Trouble → Code
code_of number_out = PJDY0004
code_of too_deep = PJDY0002

-- neither blank nor a text
pub record IsNoText (line : List ℕ) : Type 0 where
  pub some : is_blank line ≡ false
  pub none : (v : Raw) → ¬ Json line v

-- a text with a trouble of this code, and none before it
pub record IsTroubled (line : List ℕ) (c : Code) : Type 0 where
  pub raw : Raw
  pub first : Trouble
  pub text : Json line raw
  pub gives : Gives 0 raw (Err first)
  pub code : c ≡ code_of first

-- a text of this item
pub record IsText (line : List ℕ) (x : Datum) : Type 0 where
  pub raw : Raw
  pub text : Json line raw
  pub gives : Gives 0 raw (Ok x)

abbrev pub ReadsAs : List ℕ → Reading → Type 0
ReadsAs line blank = is_blank line ≡ true
ReadsAs line (item x) = IsText line x
ReadsAs line (fault c) = ((c ≡ JNDY0021) × IsNoText line) ⊎ IsTroubled line c
