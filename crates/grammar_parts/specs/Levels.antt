-- Levels of a grammar, by the number of forms that may still nest.
use Rattle.std.specs.Prelude.{ℕ, zero, suc, Bool, true, false}
use Rattle.grammar_parts.specs.Parts.{Part, none}

-- What the parts depend on: whether the forms of the wider grammar are taken, whether a form may
-- nest here, and whether one may nest inside such a form.
pub record Mode : Type 0 where
  pub wide : Bool
  pub room : Bool
  pub room_in : Bool

abbrev pub has_room : ℕ → Bool
has_room zero = false
has_room (suc n) = true

abbrev pub pred_of : ℕ → ℕ
pred_of zero = zero
pred_of (suc n) = n

-- whether a form may nest inside one that nests here
abbrev pub room_in : ℕ → Bool
room_in n = has_room (pred_of n)

-- the mode where so many forms may nest
abbrev pub mode_at : Bool → ℕ → Mode
mode_at wide n = record { wide = wide; room = has_room n; room_in = room_in n }

-- The parts that stand inside forms, by their names `I`, all with values of one type. A grammar
-- makes them from those with one form less.
abbrev pub Inner : Type 0 → Type 0 → Type 0 → Type 1
Inner T I A = I → Part T A

abbrev pub Step : Type 0 → Type 0 → Type 0 → Type 1
Step T I A = Mode → Inner T I A → Inner T I A

-- what stands inside a form, where so many may nest
unfoldable pub inside : {T I A : Type 0} → Step T I A → Bool → ℕ → Inner T I A
inside step wide zero = λ i. none
inside step wide (suc n) = step (mode_at wide n) (inside step wide n)

-- a production where so many forms may nest
abbrev pub at : {T I A B : Type 0} → Step T I A → (Mode → Inner T I A → Part T B) → Bool → ℕ
    → Part T B
at step production wide n = production (mode_at wide n) (inside step wide n)

-- the parts where so many forms may nest
abbrev pub level : {T I A : Type 0} → Step T I A → Bool → ℕ → Inner T I A
level step wide n = step (mode_at wide n) (inside step wide n)
