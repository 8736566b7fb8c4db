-- What a query comes to in a world: it is loaded with its libraries, and put together.
use Rattle.std.specs.Prelude.{◌≡◌, ◌⊎◌, ℕ, List, [], map, Option, Some, None, length, Result, Ok, Err, if◌then◌else◌}
use Rattle.std.specs.Str.{bytes_eq}
use Rattle.item_tree.specs.declared.code.Code.{Code}
use Rattle.item_tree.specs.declared.code.Code.TheVariants.{PJST0007}
use Rattle.item_reader.specs.Lines.{without_mark}
use Rattle.outside.specs.World.{World, file_of}
use Rattle.query_grammar.specs.Nodes.{Module}
use Rattle.module_names.specs.Loading.{Refusal, Source, Sources, Files, loaded}
use Rattle.module_names.specs.Remaining.{done_file}
use Rattle.module_names.specs.declared.file_bytes.Kept.{Kept}
use Rattle.module_names.specs.declared.order.File.{File}
use Rattle.query_files.specs.Files.{AreReadings}
use Rattle.query_files.specs.Merged.{Texts, Place, IsMerged, AreRefusedFrom, place_in, where_text}

-- there is no such file; or it is not loaded, with this code and where it stands, after so many
-- files were opened; or it is put together from these texts to this tree
pub data Found : Type 0 where
  no_query : Found
  unloaded : Code → List ℕ → ℕ → Found
  together : Texts → Module → Found

-- the name of a file that is loaded, and its text behind a byte order mark
abbrev pub text_of : List ℕ × Source (Kept (Unit {0})) → List ℕ × List ℕ
text_of f = (f.0, without_mark f.1.rest.contents)

abbrev pub texts_of : Files (Kept (Unit {0})) → Texts
texts_of files = map text_of files

abbrev pub file_texts : List (File (Kept (Unit {0}))) → Texts
file_texts files = texts_of (map done_file files)

-- the bytes of the file of this name
abbrev pub bytes_of : Option (List ℕ) → List ℕ
bytes_of None = []
bytes_of (Some bytes) = bytes

abbrev pub bytes_in : World → List ℕ → List ℕ
bytes_in world name = bytes_of (file_of world name)

-- a name, where it is not the query's
abbrev pub library_named : List ℕ → List ℕ → Option (List ℕ)
library_named query name = if bytes_eq name query then None else Some name

-- the place of a refusal, in a file with these bytes
abbrev pub refusal_place : List ℕ → Refusal → List ℕ → Place
refusal_place query r bytes = record {
  library = library_named query r.file;
  text = without_mark bytes;
  at = r.place;
}

-- the tree that texts are put together to
abbrev pub IsWhole : Texts → Found → Type 0
IsWhole texts found =
    (whole : Module) × IsMerged texts whole × (found ≡ together texts whole)

-- the first of the texts that is refused where it stands
abbrev pub IsMisplaced : Texts → Found → Type 0
IsMisplaced texts found =
    (code : Code) × (place : ℕ) × AreRefusedFrom 0 texts code place
    × (found ≡ unloaded code (where_text (place_in texts place)) (length texts))

-- what texts come to that are put together
abbrev pub IsTogether : Texts → Found → Type 0
IsTogether texts found = IsWhole texts found ⊎ IsMisplaced texts found

-- what loading comes to
abbrev pub IsFoundBy : World → List ℕ
    → Option (Result (Files (Kept (Unit {0}))) Refusal) → Found → Type 0
IsFoundBy world name None found = found ≡ no_query
IsFoundBy world name (Some (Err r)) found =
    found ≡ unloaded r.code (where_text (refusal_place name r (bytes_in world r.file))) r.opened
IsFoundBy world name (Some (Ok files)) found = IsTogether (texts_of files) found

-- the query of this name, in a world
abbrev pub IsFoundIn : World → List ℕ → Found → Type 0
IsFoundIn world name found =
    (sources : Sources (Kept (Unit {0}))) × AreReadings world sources
    × IsFoundBy world name (loaded sources name) found

-- ---- the files that are looked for

-- how many files loading opens, and how many names there are of which it finds none
pub record Loads : Type 0 where
  pub opened : ℕ
  pub missed : ℕ

abbrev pub no_loads : Loads
no_loads = record { opened = 0; missed = 0 }

abbrev pub missed_by : Code → ℕ
missed_by PJST0007 = 1
missed_by _ = 0

abbrev pub loads_of : Found → Loads
loads_of no_query = record { opened = 0; missed = 1 }
loads_of (unloaded code where_ opened) =
    record { opened = opened; missed = missed_by code }
loads_of (together texts whole) =
    record { opened = length texts; missed = 0 }
