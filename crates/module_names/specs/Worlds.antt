-- Each world has its sources, by a reader that answers each text in one way.
use Rattle.std.specs.Prelude.{◌≡◌, ℕ, List, Result, Ok, Err}
use Rattle.outside.specs.World.{World}
use Rattle.module_names.specs.declared.alone.Unread.TheVariants as fault
use Rattle.module_names.specs.declared.file_bytes.Kept.{Kept}
use Rattle.module_names.specs.Alone.{Answer, Reader, AreSources}
use Rattle.module_names.specs.Loading.{Source, Unread, Sources}
use Rattle.module_names.specs.Remaining.{source_view}

-- the answer says this, unless memory ran out
abbrev pub Says : {T : Type 0} → Answer T → Result (Source T) Unread → Type 0
Says (Ok source) end_ = end_ ≡ Ok (source_view source)
Says (Err (fault.Refused code place)) end_ = end_ ≡ Err (record { code = code; place = place })
Says (Err fault.NoMemory) end_ = Unit {0}

-- whatever the reader answers to a text says what is given for it
abbrev pub Gives : {T : Type 0} → Reader T → (List ℕ → Result (Source T) Unread) → Type 0
Gives {T} reads given = (text : List ℕ) (answer : Answer T) → reads text answer
    → Says answer (given text)

abbrev pub HasSources : {T : Type 0} → Reader T → World → Type 0
HasSources {T} reads world =
    (sources : Sources (Kept T)) × AreSources reads world sources
