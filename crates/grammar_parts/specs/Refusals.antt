-- Where a list of tokens is refused, and what is begun without a bound.
use Rattle.std.specs.Prelude.{◌≡◌, ◌≤◌, ℕ, List, [], ◌∷◌, ◌++◌, Option, Some, None, Ok, Err}
use Rattle.grammar_parts.specs.Readers.{Outcome}
use Rattle.grammar_parts.specs.Parts.{Part}
use Rattle.grammar_parts.specs.Good.{Stuck}

-- what is left behind the longest beginning
pub record Reached {T A : Type 0} (g : Part T A) (tokens rest : List T) : Type 0 where
  pub front : List T
  pub parts : tokens ≡ front ++ rest
  pub begins : g.begun front
  pub stuck : Stuck g front rest

-- The first token such that the tokens up to and with it begin nothing.
pub record RefusedAt {T A : Type 0} (g : Part T A) (tokens front : List T) (token : T)
    (rest : List T) : Type 0 where
  pub parts : tokens ≡ front ++ token ∷ rest
  pub begins : g.begun front
  pub first : g.begun (front ++ token ∷ []) → ⊥

-- The tokens begin the part with any number of forms inside one another, from some number on.
abbrev pub BeginsUnbounded : {T A : Type 0} → (ℕ → Part T A) → List T → Type 0
BeginsUnbounded parts tokens = (n : ℕ) × ((k : ℕ) → n ≤ k → (parts k).begun tokens)

-- a value, if one was read, and what is left
abbrev pub outcome_of : {T A R : Type 0} → (R → A) → Option R → List T → Outcome T A
outcome_of view (Some x) rest = Ok (view x, rest)
outcome_of view None rest = Err rest
