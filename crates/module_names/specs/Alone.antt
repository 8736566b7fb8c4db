-- A file that is read alone: what its bytes come to, by what its reader makes of its text.
use Rattle.std.specs.Prelude.{◌≡◌, ◌⊎◌, ◌<◌, ◌≤◌, ◌+◌, ℕ, List, length, take, None, Some, Result, Ok, Err}
use Rattle.std.specs.Str.{IsUtf8, IsValidUpTo}
use Rattle.item_tree.specs.declared.code.Code.{Code}
use Rattle.item_tree.specs.declared.code.Code.TheVariants.{XPST0003, PJST0005}
use Rattle.item_reader.specs.Lines.{without_mark}
use Rattle.outside.specs.World.{World, file_of}
use Rattle.module_names.specs.declared.alone.Unread as code_fault
use Rattle.module_names.specs.declared.alone.Unread.TheVariants as fault
use Rattle.module_names.specs.declared.file_bytes.Kept.{Kept}
use Rattle.module_names.specs.declared.order.Source as code
use Rattle.module_names.specs.Loading.{Name, Source, Unread, Sources, source_of}
use Rattle.module_names.specs.Remaining.{source_view}

-- how many bytes a file may have, with a byte order mark
abbrev pub max_length : ℕ
max_length = 1048576

-- how many bytes of a file are read at most: one more than it may have shows that it is too long
unfoldable pub most_read : ℕ
most_read = max_length + 1

-- what a reader answers
abbrev pub Answer : Type 0 → Type 0
Answer T = Result (code.Source T) code_fault.Unread

-- what a reader may answer to a text
abbrev pub Reader : Type 0 → Type 1
Reader T = List ℕ → Answer T → Type 0

-- the text of a file is refused where it is no UTF-8; else the reader answers
abbrev pub IsTextRead : {T : Type 0} → Reader T → List ℕ → Answer T → Type 0
IsTextRead reads text answer =
    ((place : ℕ) × IsValidUpTo text place × (answer ≡ Err (fault.Refused XPST0003 place)))
    ⊎ (IsUtf8 text × reads text answer)

-- a file is refused where it is too long; else its text, which stands after a byte order mark, is
-- read, and places count in it
abbrev pub IsRead : {T : Type 0} → Reader T → List ℕ → Answer T → Type 0
IsRead reads bytes answer =
    ((max_length < length bytes) × (answer ≡ Err (fault.Refused PJST0005 0)))
    ⊎ ((length bytes ≤ max_length) × IsTextRead reads (without_mark bytes) answer)

-- the bytes that are kept of a file with this refusal: all of them; or the first ones, where it is
-- refused for its length
abbrev pub AreKept : Code → ℕ → List ℕ → List ℕ → Type 0
AreKept code place bytes kept =
    (kept ≡ bytes)
    ⊎ ((max_length < length bytes) × (code ≡ PJST0005) × (place ≡ 0)
    × (kept ≡ take most_read bytes))

-- a source beside the bytes of its file
abbrev pub with_contents : {T : Type 0} → List ℕ → Source T → Source (Kept T)
with_contents bytes source = record {
  imports = source.imports;
  body = source.body;
  rest = record { contents = bytes; rest = source.rest };
}

-- what a file with these bytes comes to, by its reader's answer
abbrev pub ComesTo : {T : Type 0} → List ℕ → Answer T → Result (Source (Kept T)) Unread → Type 0
ComesTo bytes (Ok source) end_ = end_ ≡ Ok (with_contents bytes (source_view source))
ComesTo bytes (Err (fault.Refused code place)) end_ =
    end_ ≡ Err (record { code = code; place = place })
ComesTo bytes (Err fault.NoMemory) end_ = ⊥

-- the sources are what the files of this world come to, whatever the reader answers
pub record AreSources {T : Type 0} (reads : Reader T) (world : World) (sources : Sources (Kept T))
    : Type 0 where
  pub missing : (name : Name) → file_of world name ≡ None → source_of sources name ≡ None
  pub read : (name : Name) (bytes : List ℕ) (answer : Answer T)
      (end_ : Result (Source (Kept T)) Unread) → file_of world name ≡ Some bytes
      → IsRead reads bytes answer → ComesTo bytes answer end_
      → source_of sources name ≡ Some end_
