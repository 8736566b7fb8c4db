-- The rules of loading, one by one. By a law they say what loading is.
use Rattle.std.specs.Prelude.{◌≡◌, ℕ, ◌+◌, ◌<◌, ◌≤◌, true, false, List, [], ◌∷◌, ◌++◌, Option, Some, None, Result, Ok, Err}
use Rattle.item_tree.specs.declared.code.Code.TheVariants.{PJST0006, PJST0007, PJST0008, PJST0009}
use Rattle.query_tree.specs.NamedViews.{NamedQuery}
use Rattle.module_names.specs.declared.head.Import.{Import}
use Rattle.module_names.specs.Loading.{Name, Refusal, Source, Unread, Sources, Files, has_name, refused, most_files, names_of, so_far, source_of, loaded}

-- an import that names neither this file nor one on the path to it, and none that is done
pub record IsNew {T : Type 0} (file : Name) (path : List Name) (i : Import) (done : Files T)
    : Type 0 where
  pub off : has_name i.name (file ∷ path) ≡ false
  pub open_ : has_name i.name (names_of done) ≡ false

-- the same, where there is room for one file more
pub record IsWanted {T : Type 0} (file : Name) (path : List Name) (i : Import) (done : Files T)
    : Type 0 where
  pub new : IsNew file path i done
  pub room : so_far (file ∷ path) done < most_files

-- a library: a file that was read, with the body `()`
pub record IsLibrary {T : Type 0} (sources : Sources T) (name : Name) (source : Source T)
    : Type 0 where
  pub read : source_of sources name ≡ Some (Ok source)
  pub body : source.body ≡ None

-- the files that are done once these imports of a file are taken in order, or the first refusal
pub data Takes {T : Type 0} (sources : Sources T)
    : Name → List Name → List Import → Files T → Result (Files T) Refusal → Type 0 where
  none : (file : Name) (path : List Name) (done : Files T)
      → Takes sources file path [] done (Ok done)
  circle : (file : Name) (path : List Name) (i : Import) (is : List Import) (done : Files T)
      → has_name i.name (file ∷ path) ≡ true
      → Takes sources file path (i ∷ is) done
      (refused file PJST0006 i.place (so_far (file ∷ path) done))
  again : (file : Name) (path : List Name) (i : Import) (is : List Import) (done : Files T)
      (end_ : Result (Files T) Refusal)
      → has_name i.name (file ∷ path) ≡ false → has_name i.name (names_of done) ≡ true
      → Takes sources file path is done end_ → Takes sources file path (i ∷ is) done end_
  full : (file : Name) (path : List Name) (i : Import) (is : List Import) (done : Files T)
      → IsNew file path i done → most_files ≤ so_far (file ∷ path) done
      → Takes sources file path (i ∷ is) done
      (refused file PJST0008 i.place (so_far (file ∷ path) done))
  missing : (file : Name) (path : List Name) (i : Import) (is : List Import) (done : Files T)
      → IsWanted file path i done → source_of sources i.name ≡ None
      → Takes sources file path (i ∷ is) done
      (refused file PJST0007 i.place (so_far (file ∷ path) done))
  unread : (file : Name) (path : List Name) (i : Import) (is : List Import) (done : Files T)
      (u : Unread)
      → IsWanted file path i done → source_of sources i.name ≡ Some (Err u)
      → Takes sources file path (i ∷ is) done
      (refused i.name u.code u.place (so_far (file ∷ path) done + 1))
  body : (file : Name) (path : List Name) (i : Import) (is : List Import) (done : Files T)
      (source : Source T) (place : ℕ)
      → IsWanted file path i done → source_of sources i.name ≡ Some (Ok source)
      → source.body ≡ Some place
      → Takes sources file path (i ∷ is) done
      (refused i.name PJST0009 place (so_far (file ∷ path) done + 1))
  stopped : (file : Name) (path : List Name) (i : Import) (is : List Import) (done : Files T)
      (source : Source T) (r : Refusal)
      → IsWanted file path i done → IsLibrary sources i.name source
      → Takes sources i.name (file ∷ path) source.imports done (Err r)
      → Takes sources file path (i ∷ is) done (Err r)
  library : (file : Name) (path : List Name) (i : Import) (is : List Import) (done : Files T)
      (source : Source T) (fs : Files T) (end_ : Result (Files T) Refusal)
      → IsWanted file path i done → IsLibrary sources i.name source
      → Takes sources i.name (file ∷ path) source.imports done (Ok fs)
      → Takes sources file path is (fs ++ (i.name, source) ∷ []) end_
      → Takes sources file path (i ∷ is) done end_

-- what a query comes to: nothing where there is none
pub data Loads {T : Type 0} (sources : Sources T) (query : Name)
    : Option (Result (Files T) Refusal) → Type 0 where
  no_query : source_of sources query ≡ None → Loads sources query None
  query_unread : (u : Unread) → source_of sources query ≡ Some (Err u)
      → Loads sources query (Some (refused query u.code u.place 1))
  query_stopped : (source : Source T) (r : Refusal) → source_of sources query ≡ Some (Ok source)
      → Takes sources query [] source.imports [] (Err r) → Loads sources query (Some (Err r))
  query_done : (source : Source T) (fs : Files T) → source_of sources query ≡ Some (Ok source)
      → Takes sources query [] source.imports [] (Ok fs)
      → Loads sources query (Some (Ok (fs ++ (query, source) ∷ [])))

-- what is loaded is what the rules say, and they say nothing else
pub record RulesSayLoading : Type 0 where
  pub said : (sources : Sources NamedQuery) (query : Name)
      → Loads sources query (loaded sources query)
  pub only : (sources : Sources NamedQuery) (query : Name)
      (end_ : Option (Result (Files NamedQuery) Refusal))
      → Loads sources query end_ → loaded sources query ≡ end_
