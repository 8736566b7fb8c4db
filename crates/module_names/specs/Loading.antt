-- Loading a query with the libraries that it imports: which files are loaded, and in which order
-- they are done.
use Rattle.std.specs.Prelude.{ℕ, zero, suc, ◌+◌, Bool, List, [], ◌∷◌, ◌++◌, map, length, nat_lt, Option, Some, None, option_map, Result, Ok, Err, if◌then◌else◌}
use Rattle.std.specs.List.{list_any}
use Rattle.std.specs.Str.{bytes_eq}
use Rattle.item_tree.specs.declared.code.Code.{Code}
use Rattle.item_tree.specs.declared.code.Code.TheVariants.{PJST0006, PJST0007, PJST0008, PJST0009}
use Rattle.query_tree.specs.NamedViews.{NamedQuery}
use Rattle.module_names.specs.declared.head.Import.{Import}

abbrev pub Name : Type 0
Name = List ℕ

-- why a file is not loaded, at a place of its own text; and how many files were opened until then
pub record Refusal : Type 0 where
  pub file : Name
  pub code : Code
  pub place : ℕ
  pub opened : ℕ

-- what a file comes to that is read alone: its imports, and where its body stands if that is not
-- `()`; whatever else it is, is of type T
pub record Source (T : Type 0) : Type 0 where
  pub imports : List Import
  pub body : Option ℕ
  pub rest : T

-- the first refusal of a file that is read alone: its length, its bytes, its tokens, its head, its
-- grammar
pub record Unread : Type 0 where
  pub code : Code
  pub place : ℕ

-- what the files of a world come to, by their names
abbrev pub Sources : Type 0 → Type 0
Sources T = List (Name × Result (Source T) Unread)

-- files in the order in which they are done
abbrev pub Files : Type 0 → Type 0
Files T = List (Name × Source T)

abbrev pub has_name : Name → List Name → Bool
has_name name list = list_any (bytes_eq name) list

abbrev pub refused : {A : Type 0} → Name → Code → ℕ → ℕ → Result A Refusal
refused file code place opened =
    Err (record { file = file; code = code; place = place; opened = opened })

abbrev pub and_then : {A B : Type 0} → Result A Refusal → (A → Result B Refusal)
    → Result B Refusal
and_then (Ok a) f = f a
and_then (Err e) f = Err e

-- how many files may be loaded, the query counted
abbrev pub most_files : ℕ
most_files = 64

-- how a file goes on that was read: with its name, the files on the path to it, and the files that
-- are done
abbrev pub Onward : Type 0 → Type 0
Onward T = Name → List Name → Source T → Files T → Result (Files T) Refusal

module _ {T : Type 0} where
  abbrev pub names_of : Files T → List Name
  names_of fs = map (λ f. f.0) fs

  -- how many files were opened: those under way, and those that are done
  abbrev pub so_far : List Name → Files T → ℕ
  so_far path done = length path + length done

  -- the first file of this name
  abbrev pub source_of : Sources T → Name → Option (Result (Source T) Unread)
  source_of [] name = None
  source_of (s ∷ ss) name = if bytes_eq s.0 name then Some s.1 else source_of ss name

  -- a library has the body `()`
  abbrev pub library_of : Onward T → Name → List Name → Source T → Option ℕ → Files T
      → Result (Files T) Refusal
  library_of onward name path source (Some place) done =
      refused name PJST0009 place (so_far path done + 1)
  library_of onward name path source None done = onward name path source done

  -- a file that an import of another file names, where it is to be loaded
  abbrev pub opened : Onward T → Name → List Name → Import
      → Option (Result (Source T) Unread) → Files T → Result (Files T) Refusal
  opened onward file path i None done = refused file PJST0007 i.place (so_far (file ∷ path) done)
  opened onward file path i (Some (Err u)) done =
      refused i.name u.code u.place (so_far (file ∷ path) done + 1)
  opened onward file path i (Some (Ok source)) done =
      library_of onward i.name (file ∷ path) source source.body done

  module _ (sources : Sources T) where
    -- one import of a file: it names no file on the path, that one included; a file that is done
    -- is passed over; and there is room for a file more
    abbrev pub import_one : Onward T → Name → List Name → Import → Files T
        → Result (Files T) Refusal
    import_one onward file path i done =
        if has_name i.name (file ∷ path)
        then refused file PJST0006 i.place (so_far (file ∷ path) done)
        else
        (if has_name i.name (names_of done) then Ok done
        else
        (if nat_lt (so_far (file ∷ path) done) most_files
        then opened onward file path i (source_of sources i.name) done
        else refused file PJST0008 i.place (so_far (file ∷ path) done)))

    -- the imports of a file in order
    abbrev pub import_all : Onward T → Name → List Name → List Import → Files T
        → Result (Files T) Refusal
    import_all onward file path [] done = Ok done
    import_all onward file path (i ∷ is) done =
        and_then (import_one onward file path i done) (import_all onward file path is)

    -- a file that was read: its imports are taken, and then it is done; below so many files of a
    -- path there is room for none
    abbrev pub load_below : ℕ → Onward T
    load_below zero file path source done = Ok done
    load_below (suc room) file path source done =
        and_then (import_all (load_below room) file path source.imports done)
        (λ fs. Ok (fs ++ (file, source) ∷ []))

    abbrev pub loaded_query : Name → Result (Source T) Unread → Result (Files T) Refusal
    loaded_query query (Err u) = refused query u.code u.place 1
    loaded_query query (Ok source) = load_below most_files query [] source []

    -- the files of a query in the order in which they are done, or the first refusal; nothing
    -- where there is no query
    abbrev pub loaded : Name → Option (Result (Files T) Refusal)
    loaded query = option_map (loaded_query query) (source_of sources query)

-- the declarations of all files in order, and the body of the last, which is the query
abbrev pub merged : List NamedQuery → NamedQuery → NamedQuery
merged [] query = query
merged (m ∷ ms) query = record {
  variables = m.variables ++ (merged ms query).variables;
  functions = m.functions ++ (merged ms query).functions;
  body = (merged ms query).body;
}
