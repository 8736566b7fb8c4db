-- What ties the reader of a part to what the part derives and what begins it.
use Rattle.std.specs.Prelude.{◌≡◌, Bool, true, List, [], ◌∷◌, ◌++◌, Ok, Err}
use Rattle.grammar_parts.specs.Tokens.{Class}
use Rattle.grammar_parts.specs.Readers.{Outcome}
use Rattle.grammar_parts.specs.Parts.{Part}

-- A beginning that no further token of the rest goes on with.
abbrev pub Stuck : {T A : Type 0} → Part T A → List T → List T → Type 0
Stuck g u r = (t : _) (r2 : List _) → r ≡ t ∷ r2 → g.begun (u ++ t ∷ []) → ⊥

-- Reading takes the longest beginning of what is there, and answers a value only if that is whole.
abbrev pub Judge : {T A : Type 0} → Part T A → List T → Outcome T A → Type 0
Judge g s (Ok x) = (u : List _) × (s ≡ u ++ x.1) × g.whole u x.0 × Stuck g u x.1
Judge g s (Err r) = (u : List _) × (s ≡ u ++ r) × g.begun u × Stuck g u r

-- No kind is in both classes.
abbrev pub Apart : {T : Type 0} → Class T → Class T → Type 0
Apart c d = (t : _) → c t ≡ true → d t ≡ true → ⊥

-- The first class has exactly the first tokens of the part, the second each that can go on with a
-- whole one; the flag is true if the part may be empty.
pub record Good {T A : Type 0} (g : Part T A) (first ext : Class T) (empty : Bool) : Type 0 where
  pub none : g.begun []
  pub closed : (u v : List T) → g.begun (u ++ v) → g.begun u
  pub is_begun : (u : List T) (x : A) → g.whole u x → g.begun u
  pub starts : (t : T) (u : List T) → g.begun (t ∷ u) → first t ≡ true
  pub exact : (t : T) → first t ≡ true → g.begun (t ∷ [])
  pub is_empty : (x : A) → g.whole [] x → empty ≡ true
  pub empties : empty ≡ true → (x : A) × g.whole [] x
  pub extends : (u : List T) (x : A) (t : T) → g.whole u x → g.begun (u ++ t ∷ []) → ext t ≡ true
  pub judge : (s : List T) → Judge g s (g.read s)
  pub complete : (u r : List T) (x : A) → g.whole u x → Stuck g u r → g.read (u ++ r) ≡ Ok (x, r)
