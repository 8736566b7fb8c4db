-- A text that stands in a buffer.
use Rattle.std.specs.Prelude.{◌≡◌, ℕ, ◌≤◌, Bool, true, false, List, [], ◌∷◌, length}
use Rattle.std.specs.List.{slice_range}

-- the text stands from this place of the bytes on, up to the other
pub record Stands (text bytes : List ℕ) (start end : ℕ) : Type 0 where
  pub ordered : start ≤ end
  pub inside : end ≤ length bytes
  pub spelled : slice_range bytes start end ≡ text

-- the sign of a number that is negative, or is not
abbrev pub sign_text : Bool → List ℕ
sign_text true = 45 ∷ []
sign_text false = []
