-- What remains of loading while files are under way.
use Rattle.std.specs.Prelude.{◌≡◌, ◌⊎◌, ◌+◌, ℕ, List, [], ◌∷◌, ◌++◌, length, map, reverse, drop, Some, None, Result, Ok, Err}
use Rattle.item_tree.specs.declared.code.Code.TheVariants.{PJST0006, PJST0007, PJST0008, PJST0009}
use Rattle.module_names.specs.declared.head.Import.{Import}
use Rattle.module_names.specs.declared.order.Source as code
use Rattle.module_names.specs.declared.order.File.{File}
use Rattle.module_names.specs.declared.order.Loading.{Loading}
use Rattle.module_names.specs.declared.order.Refused as told
use Rattle.module_names.specs.declared.order.Step.{Step}
use Rattle.module_names.specs.declared.order.Step.TheVariants as step
use Rattle.module_names.specs.Loading.{Name, Refusal, Source, Unread, Sources, Files, refused, so_far, source_of, loaded}
use Rattle.module_names.specs.Rules.{IsWanted, IsLibrary, Takes}

-- a file under way: its name, what it was read as, and its imports that are left
pub record UnderWay (T : Type 0) : Type 0 where
  pub name : Name
  pub source : Source T
  pub left : List Import

-- files under way, the innermost first, and files that are done
pub record State (T : Type 0) : Type 0 where
  pub path : List (UnderWay T)
  pub done : Files T

-- a file of which no import was taken yet
abbrev pub begun : {T : Type 0} → Name → Source T → UnderWay T
begun name source = record { name = name; source = source; left = source.imports }

-- all files that were read, in the order in which they are done if no further one is wanted
abbrev pub files_in : {T : Type 0} → State T → Files T
files_in s = s.done ++ map (λ f. (f.name, f.source)) s.path

abbrev pub path_names : {T : Type 0} → List (UnderWay T) → List Name
path_names path = map (λ f. f.name) path

-- what the rules say of the rest of the imports of all files under way
pub data Remains {T : Type 0} (sources : Sources T)
    : List (UnderWay T) → Files T → Result (Files T) Refusal → Type 0 where
  no_more : (done : Files T) → Remains sources [] done (Ok done)
  stops : (f : UnderWay T) (path : List (UnderWay T)) (done : Files T) (r : Refusal)
      → Takes sources f.name (path_names path) f.left done (Err r)
      → Remains sources (f ∷ path) done (Err r)
  goes_on :
      (f : UnderWay T) (path : List (UnderWay T)) (done fs : Files T)
      (end_ : Result (Files T) Refusal)
      → Takes sources f.name (path_names path) f.left done (Ok fs)
      → Remains sources path (fs ++ (f.name, f.source) ∷ []) end_
      → Remains sources (f ∷ path) done end_

-- ---- of the code

abbrev pub source_view : {T : Type 0} → code.Source T → Source T
source_view s = record { imports = s.imports.items; body = s.body; rest = s.rest }

abbrev pub under_way : {T : Type 0} → File T → UnderWay T
under_way f = record {
  name = f.name;
  source = source_view f.source;
  left = drop f.taken f.source.imports.items;
}

abbrev pub done_file : {T : Type 0} → File T → Name × Source T
done_file f = (f.name, source_view f.source)

abbrev pub state_of : {T : Type 0} → Loading T → State T
state_of s = record {
  path = reverse (map under_way s.path.items);
  done = map done_file s.done.items;
}

abbrev pub refusal_of : told.Refused → Refusal
refusal_of r =
    record { file = r.file; code = r.code; place = r.place; opened = r.opened }

-- an import was taken from the innermost file: that file is to be loaded
pub record Asks {T : Type 0} (old new : State T) (i : Import) : Type 0 where
  pub file : Name
  pub source : Source T
  pub left : List Import
  pub outer : List (UnderWay T)
  pub before : old.path ≡ record { name = file; source = source; left = i ∷ left } ∷ outer
  pub after : new.path ≡ record { name = file; source = source; left = left } ∷ outer
  pub same : new.done ≡ old.done
  pub wanted : IsWanted file (path_names outer) i old.done

-- what a step does, by its answer
abbrev pub IsStep : {T : Type 0} → State T → State T → Step → Type 0
IsStep old new step.Done = (old.path ≡ []) × (new ≡ old)
IsStep {T} old new step.Taken = (sources : Sources T) (end_ : Result (Files T) Refusal)
    → Remains sources new.path new.done end_ → Remains sources old.path old.done end_
IsStep old new (step.Wanted i) = Asks old new i
IsStep {T} old new (step.Refused r) = (sources : Sources T)
    → Remains sources old.path old.done (Err (refusal_of r))

-- a refusal is of the innermost file, for one of two reasons
pub record RefusesInnermost {T : Type 0} (s : State T) (r : told.Refused) : Type 0 where
  pub inner : UnderWay T
  pub outer : List (UnderWay T)
  pub path : s.path ≡ inner ∷ outer
  pub file : r.file ≡ inner.name
  pub code : (r.code ≡ PJST0006) ⊎ (r.code ≡ PJST0008)
  pub opened : r.opened ≡ length (files_in s)

abbrev pub IsOfInnermost : {T : Type 0} → State T → Step → Type 0
IsOfInnermost s (step.Refused r) = RefusesInnermost s r
IsOfInnermost s _ = Unit {0}

-- ---- what is done about an import that was taken, and where loading begins and ends

pub record AsksAreAnswered (T : Type 0) : Type 0 where
  pub library : (sources : Sources T) (old new : State T) (i : Import) (source : Source T)
      (end_ : Result (Files T) Refusal)
      → Asks old new i → IsLibrary sources i.name source
      → Remains sources (begun i.name source ∷ new.path) new.done end_
      → Remains sources old.path old.done end_
  pub missing : (sources : Sources T) (old new : State T) (i : Import) (asks : Asks old new i)
      → source_of sources i.name ≡ None
      → Remains sources old.path old.done
      (refused asks.file PJST0007 i.place (so_far (asks.file ∷ path_names asks.outer) old.done))
  pub unread : (sources : Sources T) (old new : State T) (i : Import) (u : Unread)
      (asks : Asks old new i) → source_of sources i.name ≡ Some (Err u)
      → Remains sources old.path old.done
      (refused i.name u.code u.place (so_far (asks.file ∷ path_names asks.outer) old.done + 1))
  pub other_body : (sources : Sources T) (old new : State T) (i : Import) (source : Source T)
      (place : ℕ) (asks : Asks old new i) → source_of sources i.name ≡ Some (Ok source)
      → source.body ≡ Some place
      → Remains sources old.path old.done
      (refused i.name PJST0009 place (so_far (asks.file ∷ path_names asks.outer) old.done + 1))
  pub begins : (sources : Sources T) (query : Name) (source : Source T)
      (end_ : Result (Files T) Refusal) → source_of sources query ≡ Some (Ok source)
      → Remains sources (begun query source ∷ []) [] end_ → loaded sources query ≡ Some end_
  pub ends : (sources : Sources T) (s : State T) → s.path ≡ []
      → Remains sources s.path s.done (Ok s.done)
