-- Stages: steps one after the other, each on the whole list that the one before it gives.
use Rattle.std.specs.Prelude.{ℕ, ◌==◌, if◌then◌else◌, List, [], length, Option, Result, Ok, Err}
use Rattle.stage_laws.specs.Runs.{Met, ◌>>=◌, each_from, each_read, keyed_from}

-- A stage, by what its steps make of a whole list, and by how many tuples of that list the step of
-- each number takes in. It takes in `A`, and `B` comes out of it as a whole.
pub record Stage (A B K F : Type 0) : Type 0 where
  pub run : List A → Result B (Met K F)
  pub into : ℕ → List A → ℕ

-- how many tuples a later step takes in, where the list that comes to it is there
abbrev pub into_next : {A B K F : Type 0} → Stage A B K F → ℕ → Result (List A) (Met K F) → ℕ
into_next rest c (Ok xs) = rest.into c xs
into_next rest c (Err e) = 0

-- the step of this number, which takes in so many of a list, and the stage behind it
abbrev pub followed : {A M B K F : Type 0} → ℕ → (List A → Result (List M) (Met K F)) → (List A → ℕ)
    → Stage M B K F → Stage A B K F
followed number step takes rest = record {
  run = λ xs. step xs >>= rest.run;
  into = λ c xs. if c == number then takes xs else into_next rest c (step xs);
}

-- no step is left: what comes in comes out
abbrev pub ended : {A K F : Type 0} → Stage A (List A) K F
ended = record { run = λ xs. Ok xs; into = λ c xs. 0 }

-- a step that looks at one tuple at a time, and not at its place, and the stage behind it
abbrev pub narrow : {A M B K F : Type 0} → (number : ℕ) → (A → Result (List M) F) → Stage M B K F
    → Stage A B K F
narrow number f rest = followed number (each_from number f 1) length rest

-- a step of a driver, for which the lines that it reads are no tuples, and the stage behind it
abbrev pub driver : {A M B K F : Type 0} → (number : ℕ) → (A → Result (List M) F) → Stage M B K F
    → Stage A B K F
driver number f rest = followed number (each_read number f) (λ xs. 0) rest

-- an order step, which stands last: each tuple with its keys, none of which clash
abbrev pub ordered : {A K F : Type 0} → (number : ℕ) → (A → Result K F) → (List K → K → Option F)
    → Stage A (List (K × A)) K F
ordered number keys clash = record {
  run = λ xs. keyed_from number keys clash [] 1 xs;
  into = λ c xs. if c == number then length xs else 0;
}

-- ---- what is kept of what comes out

-- what comes out, looked at in this way; a fault stays
abbrev pub viewed : {B W K F : Type 0} → (B → W) → Result B (Met K F) → Result W (Met K F)
viewed view (Ok x) = Ok (view x)
viewed view (Err e) = Err e

-- the same steps, where something else is kept of what comes out, as its sum or a table of its
-- groups
abbrev pub kept_as : {A B W K F : Type 0} → (B → W) → Stage A B K F → Stage A W K F
kept_as view s = record { run = λ xs. viewed view (s.run xs); into = s.into }
