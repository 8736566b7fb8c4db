-- What loading comes to: which files are loaded, that each is once, and in which order.
use Rattle.std.specs.Prelude.{◌≡◌, ◌≤◌, true, false, List, [], ◌∷◌, ◌++◌, length, Some, None, Ok}
use Rattle.query_tree.specs.NamedViews.{NamedQuery}
use Rattle.module_names.specs.declared.head.Import.{Import}
use Rattle.module_names.specs.Loading.{Name, Source, Sources, Files, has_name, source_of, most_files, loaded}

-- the query is reached, and whatever a file imports that is reached
pub data Reached {T : Type 0} (sources : Sources T) (query : Name) : Name → Type 0 where
  here : Reached sources query query
  imported : (file : Name) (source : Source T) (before behind : List Import) (i : Import)
      → source_of sources file ≡ Some (Ok source) → source.imports ≡ before ++ i ∷ behind
      → Reached sources query file → Reached sources query i.name

abbrev pub AllNamed : List Name → List Import → Type 0
AllNamed names [] = Unit {0}
AllNamed names (i ∷ is) = (has_name i.name names ≡ true) × AllNamed names is

-- a file that is reached, is none of those before it, and imports those alone
pub record IsFile {T : Type 0} (sources : Sources T) (query : Name) (before : List Name)
    (f : Name × Source T) : Type 0 where
  pub own : source_of sources f.0 ≡ Some (Ok f.1)
  pub reached : Reached sources query f.0
  pub once : has_name f.0 before ≡ false
  pub imports : AllNamed before f.1.imports

abbrev pub InOrder : {T : Type 0} → Sources T → Name → List Name → Files T → Type 0
InOrder sources query before [] = Unit {0}
InOrder sources query before (f ∷ fs) =
    IsFile sources query before f × InOrder sources query (before ++ f.0 ∷ []) fs

-- their bodies are `()`
abbrev pub AreLibraries : {T : Type 0} → Files T → Type 0
AreLibraries [] = Unit {0}
AreLibraries (f ∷ fs) = (f.1.body ≡ None) × AreLibraries fs

-- what the query reaches, each file once and behind all that it imports, and last the query
pub record AreLoaded {T : Type 0} (sources : Sources T) (query : Name) (fs : Files T)
    : Type 0 where
  pub libraries : Files T
  pub source : Source T
  pub last : fs ≡ libraries ++ (query, source) ∷ []
  pub bodies : AreLibraries libraries
  pub in_order : InOrder sources query [] fs
  pub few : length fs ≤ most_files

abbrev pub FilesStandOnce : Type 0
FilesStandOnce = (sources : Sources NamedQuery) (query : Name) (fs : Files NamedQuery)
    → loaded sources query ≡ Some (Ok fs) → AreLoaded sources query fs
