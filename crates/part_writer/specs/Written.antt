-- What stands of the parts, by how their writing ended.
use Rattle.std.specs.Prelude.{◌≡◌, ◌<◌, ◌⊎◌, ◌++◌, ℕ, List, [], ◌∷◌, Option, None, Some, Result, Ok, Err, length, take}
use Rattle.outside.specs.Outputs.{Made}
use Rattle.outside.specs.declared.outputs.CreateFault.{CreateFault}
use Rattle.outside.specs.declared.outputs.CreateFault.TheVariants.{Failed, NoMemory}

-- what is told once these were made too
abbrev pub made_with : Option Made → Made → Option Made
made_with None parts = None
made_with (Some made) parts = Some (made ++ parts)

-- nothing of this part was made, or a prefix of it that lacks a byte
abbrev pub CutPart : Made → ℕ × List ℕ → Option Made → Option Made → Type 0
CutPart whole part before after =
    (after ≡ made_with before whole)
    ⊎ ((n : ℕ) × (n < length part.1)
    × (after ≡ made_with before (whole ++ (part.0, take n part.1) ∷ [])))

-- one part: made; or cut short, or, where memory was short, not begun
abbrev pub PartBy : {T : Type 0} → Result T CreateFault → ℕ × List ℕ → Option Made → Option Made
    → Type 0
PartBy (Ok t) part before after = after ≡ made_with before (part ∷ [])
PartBy (Err Failed) part before after = CutPart [] part before after
PartBy (Err NoMemory) part before after = after ≡ made_with before []

-- the parts before some part were made whole, none behind it, and it was cut short
abbrev pub StopAtFault : Made → Option Made → Option Made → Type 0
StopAtFault parts before after =
    (whole : Made) × (part : ℕ × List ℕ) × (later : Made)
    × (parts ≡ whole ++ part ∷ later) × CutPart whole part before after

-- the parts before some part were made whole, and no others
abbrev pub StopForMemory : Made → Option Made → Option Made → Type 0
StopForMemory parts before after =
    (whole : Made) × (part : ℕ × List ℕ) × (later : Made)
    × (parts ≡ whole ++ part ∷ later) × (after ≡ made_with before whole)

-- all parts: made in order; or some of the first
abbrev pub PartsBy : {T : Type 0} → Result T CreateFault → Made → Option Made → Option Made
    → Type 0
PartsBy (Ok t) parts before after = after ≡ made_with before parts
PartsBy (Err Failed) parts before after = StopAtFault parts before after
PartsBy (Err NoMemory) parts before after = StopForMemory parts before after
