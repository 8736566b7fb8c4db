-- What loading a query answers.
use Rattle.std.specs.Prelude.{◌≡◌, ◌<◌, ◌≤◌, ℕ, List, [], ◌∷◌, map, length, None, Some, Result, Ok, Err}
use Rattle.outside.specs.Opens.{InputCounts}
use Rattle.outside.specs.World.{World, LacksName, file_of}
use Rattle.std.specs.declared.alloc.Global.{Global}
use Rattle.std.specs.declared.vec.Vec.{Vec}
use Rattle.module_names.specs.declared.file_bytes.Kept.{Kept}
use Rattle.module_names.specs.declared.load_fault.LoadFault.{LoadFault}
use Rattle.module_names.specs.declared.load_fault.LoadFault.TheVariants.{Refused, NoQuery, ReadFault, NoMemory}
use Rattle.module_names.specs.declared.order.File.{File}
use Rattle.module_names.specs.declared.order.Refused as told
use Rattle.module_names.specs.Alone.{AreKept}
use Rattle.module_names.specs.Counts.{OpenedAtMost, OpenedJust}
use Rattle.module_names.specs.Loading.{Name, Sources, Files, most_files, loaded}
use Rattle.module_names.specs.Remaining.{done_file, refusal_of}

-- files, or why there are none
abbrev pub Answered : Type 0 → Type 0
Answered T = Result (Vec (File (Kept T)) Global) LoadFault

-- the files that are loaded in the order in which they are done, or the first refusal; unless
-- reading failed or memory ran out
abbrev pub IsLoaded : {T : Type 0} → Sources (Kept T) → Name → Answered T → Type 0
IsLoaded sources query (Ok files) =
    loaded sources query ≡ Some (Ok (map done_file files.items))
IsLoaded sources query (Err (Refused r contents)) = loaded sources query ≡ Some (Err (refusal_of r))
IsLoaded sources query (Err NoQuery) = loaded sources query ≡ None
IsLoaded sources query (Err ReadFault) = Unit {0}
IsLoaded sources query (Err NoMemory) = Unit {0}

-- each file has the bytes that it holds in this world
abbrev pub AreHeld : {T : Type 0} → World → Files (Kept T) → Type 0
AreHeld world [] = Unit {0}
AreHeld world (f ∷ fs) = (file_of world f.0 ≡ Some f.1.rest.contents) × AreHeld world fs

-- a file of this world is refused so, of which these bytes are kept
abbrev pub IsHeldOf : World → told.Refused → List ℕ → Type 0
IsHeldOf world r contents =
    (bytes : List ℕ) × (file_of world r.file ≡ Some bytes)
    × AreKept r.code r.place bytes contents

-- so has each file that is answered; of a refused one they are those that are kept
abbrev pub HasContents : {T : Type 0} → World → Answered T → Type 0
HasContents world (Ok files) = AreHeld world (map done_file files.items)
HasContents world (Err (Refused r contents)) = IsHeldOf world r contents
HasContents world (Err _) = Unit {0}

-- that there is no query is answered only where it is so
abbrev pub IsMissing : {T : Type 0} → World → Name → Answered T → Type 0
IsMissing world query (Err NoQuery) = LacksName world query
IsMissing world query _ = Unit {0}

-- as many files were opened as are answered, and with a refusal as many as it says; without a query
-- none
abbrev pub OpensLoaded : {T : Type 0} → Answered T → InputCounts → InputCounts → Type 0
OpensLoaded (Ok files) before after =
    (length files.items ≤ most_files) × OpenedJust (length files.items) before after
OpensLoaded (Err (Refused r contents)) before after =
    (0 < r.opened) × (r.opened ≤ most_files) × OpenedJust r.opened before after
OpensLoaded (Err NoQuery) before after = after.opened ≡ before.opened
OpensLoaded (Err _) before after = OpenedAtMost most_files before after
