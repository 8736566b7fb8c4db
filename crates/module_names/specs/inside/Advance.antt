-- What a step of loading comes to, and the steps from some files on.
use Rattle.std.specs.Prelude.{◌≡◌, ◌≤◌, ◌+◌, ℕ, List, [], ◌∷◌, map, length, Result, Ok, Err}
use Rattle.item_tree.specs.declared.code.Code.{Code}
use Rattle.outside.specs.Opens.{InputCounts}
use Rattle.outside.specs.World.{World}
use Rattle.module_names.specs.declared.file_bytes.Kept.{Kept}
use Rattle.module_names.specs.declared.load_fault.LoadFault.{LoadFault}
use Rattle.module_names.specs.declared.load_fault.LoadFault.TheVariants.{Refused, NoQuery, NoMemory}
use Rattle.module_names.specs.Answers.{Answered, AreHeld, IsHeldOf}
use Rattle.module_names.specs.Counts.{OpenedAtMost, OpenedJust}
use Rattle.module_names.specs.Loading.{Sources, Files, most_files}
use Rattle.module_names.specs.Remaining.{UnderWay, State, Remains, done_file, refusal_of}

-- the innermost file is refused at this place
pub record RefusesFile {T : Type 0} (inner : UnderWay (Kept T)) (code : Code) (place opened : ℕ)
    (fault : LoadFault) : Type 0 where
  pub is : fault
      ≡ Refused (record { file = inner.name; code = code; place = place; opened = opened })
      inner.source.rest.contents

abbrev pub RefusesTop : {T : Type 0} → List (UnderWay (Kept T)) → Code → ℕ → ℕ → LoadFault
    → Type 0
RefusesTop [] code place opened fault = fault ≡ NoMemory
RefusesTop (inner ∷ outer) code place opened fault = RefusesFile inner code place opened fault

-- what remains after is what remained before, or it is this refusal
abbrev pub StepsTo : {T A : Type 0} → Sources (Kept T) → State (Kept T) → State (Kept T)
    → Result A LoadFault → Type 0
StepsTo {T} sources before after (Ok x) =
    (end_ : Result (Files (Kept T)) _) → Remains sources after.path after.done end_
    → Remains sources before.path before.done end_
StepsTo sources before after (Err (Refused r contents)) =
    Remains sources before.path before.done (Err (refusal_of r))
StepsTo sources before after (Err NoQuery) = ⊥
StepsTo sources before after (Err _) = Unit {0}

-- the files that are read have the bytes of this world, or the one that is refused has
abbrev pub StaysHeld : {T A : Type 0} → World → Files (Kept T) → Result A LoadFault → Type 0
StaysHeld world files (Ok x) = AreHeld world files
StaysHeld world files (Err (Refused r contents)) = IsHeldOf world r contents
StaysHeld world files (Err _) = Unit {0}

-- how many files were opened, where there were so many before and are so many after
abbrev pub OpensStep : {A : Type 0} → ℕ → ℕ → Result A LoadFault → InputCounts → InputCounts
    → Type 0
OpensStep old new (Ok x) before after =
    (k : ℕ) × (new ≡ old + k) × (new ≤ most_files) × OpenedJust k before after
OpensStep old new (Err (Refused r contents)) before after =
    (k : ℕ) × (r.opened ≡ old + k) × (r.opened ≤ most_files) × OpenedJust k before after
OpensStep old new (Err NoQuery) before after = ⊥
OpensStep old new (Err _) before after =
    (k : ℕ) × (old + k ≤ most_files) × OpenedAtMost k before after

-- the steps from some files on come to these files, or to this refusal
abbrev pub EndsAs : {T : Type 0} → Sources (Kept T) → State (Kept T) → Answered T → Type 0
EndsAs sources before (Ok files) =
    Remains sources before.path before.done (Ok (map done_file files.items))
EndsAs sources before (Err (Refused r contents)) =
    Remains sources before.path before.done (Err (refusal_of r))
EndsAs sources before (Err NoQuery) = ⊥
EndsAs sources before (Err _) = Unit {0}

-- how many files they open, where there were so many before
abbrev pub OpensRest : {T : Type 0} → ℕ → Answered T → InputCounts → InputCounts → Type 0
OpensRest old (Ok files) before after =
    (k : ℕ) × (length files.items ≡ old + k) × (length files.items ≤ most_files)
    × OpenedJust k before after
OpensRest old (Err (Refused r contents)) before after =
    (k : ℕ) × (r.opened ≡ old + k) × (r.opened ≤ most_files) × OpenedJust k before after
OpensRest old (Err NoQuery) before after = ⊥
OpensRest old (Err _) before after =
    (k : ℕ) × (old + k ≤ most_files) × OpenedAtMost k before after
