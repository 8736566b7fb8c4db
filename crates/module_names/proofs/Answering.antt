-- What is done about an import that was taken.
use Rattle.std.proofs.Common.{◌≡◌, ◌+◌, List, [], ◌∷◌, ◌++◌, Some, Result, Ok, Err, sym, subst}
use Rattle.item_tree.specs.declared.code.Code.TheVariants.{PJST0007, PJST0009}
use Rattle.module_names.specs.declared.head.Import.{Import}
use Rattle.module_names.specs.Loading.{Name, Refusal, Source, Sources, Files, so_far, source_of, loaded}
use Rattle.module_names.specs.Rules.{IsWanted, IsLibrary, Takes, missing, unread, body, stopped, library, query_stopped, query_done}
use Rattle.module_names.specs.Remaining.{UnderWay, State, path_names, begun, Remains, no_more, stops, goes_on, Asks, AsksAreAnswered}
use Rattle.module_names.proofs.LoadingRules as rules

module _ {T : Type 0} (sources : Sources T) where
  -- a refusal at the import
  refused_there : (old new : State T) (i : Import) (r : Refusal) (asks : Asks old new i)
      → Takes sources asks.file (path_names asks.outer) (i ∷ asks.left) old.done (Err r) → Remains sources old.path old.done (Err r)
  refused_there old new i r asks t =
      subst (λ (us : List (UnderWay T)). Remains sources us old.done (Err r)) (sym asks.before)
      (stops (record { name = asks.file; source = asks.source; left = i ∷ asks.left }) asks.outer old.done r t)

  library_more : (name : Name) (own : Source T) (left : List Import) (outer : List (UnderWay T)) (done : Files T) (i : Import) (source : Source T)
      (fs : Files T) (end_ : Result (Files T) Refusal) → IsWanted name (path_names outer) i done → IsLibrary sources i.name source
      → Takes sources i.name (name ∷ path_names outer) source.imports done (Ok fs)
      → Remains sources (record { name = name; source = own; left = left } ∷ outer) (fs ++ (i.name, source) ∷ []) end_
      → Remains sources (record { name = name; source = own; left = i ∷ left } ∷ outer) done end_
  library_more name own left outer done i source fs _ w l t (stops _ _ _ r more) =
      stops (record { name = name; source = own; left = i ∷ left }) outer done r
      (library name (path_names outer) i left done source fs (Err r) w l t more)
  library_more name own left outer done i source fs end_ w l t (goes_on _ _ _ gs _ more rest) =
      goes_on (record { name = name; source = own; left = i ∷ left }) outer done gs end_
      (library name (path_names outer) i left done source fs (Ok gs) w l t more) rest

  library_case : (name : Name) (own : Source T) (left : List Import) (outer : List (UnderWay T)) (done : Files T) (i : Import) (source : Source T)
      (end_ : Result (Files T) Refusal) → IsWanted name (path_names outer) i done → IsLibrary sources i.name source
      → Remains sources (begun i.name source ∷ (record { name = name; source = own; left = left } ∷ outer)) done end_
      → Remains sources (record { name = name; source = own; left = i ∷ left } ∷ outer) done end_
  library_case name own left outer done i source _ w l (stops _ _ _ r t) =
      stops (record { name = name; source = own; left = i ∷ left }) outer done r (stopped name (path_names outer) i left done source r w l t)
  library_case name own left outer done i source end_ w l (goes_on _ _ _ fs _ t rest) =
      library_more name own left outer done i source fs end_ w l t rest

  added : (old new : State T) (i : Import) (source : Source T) (end_ : Result (Files T) Refusal) → Asks old new i → IsLibrary sources i.name source
      → Remains sources (begun i.name source ∷ new.path) new.done end_ → Remains sources old.path old.done end_
  added old new i source end_ asks l m =
      subst (λ (us : List (UnderWay T)). Remains sources us old.done end_) (sym asks.before)
      (library_case asks.file asks.source asks.left asks.outer old.done i source end_ asks.wanted l
      (subst (λ (us : List (UnderWay T)). Remains sources (begun i.name source ∷ us) old.done end_) asks.after
      (subst (λ (fs : Files T). Remains sources (begun i.name source ∷ new.path) fs end_) asks.same m)))

  last_file : (query : Name) (source : Source T) (fs : Files T) (end_ : Result (Files T) Refusal) → source_of sources query ≡ Some (Ok source)
      → Takes sources query [] source.imports [] (Ok fs) → Remains sources [] (fs ++ (query, source) ∷ []) end_ → loaded sources query ≡ Some end_
  last_file query source fs _ h t (no_more _) = rules.only sources query (Some (Ok (fs ++ (query, source) ∷ []))) (query_done source fs h t)

  begins : (query : Name) (source : Source T) (end_ : Result (Files T) Refusal) → source_of sources query ≡ Some (Ok source)
      → Remains sources (begun query source ∷ []) [] end_ → loaded sources query ≡ Some end_
  begins query source _ h (stops _ _ _ r t) = rules.only sources query (Some (Err r)) (query_stopped source r h t)
  begins query source end_ h (goes_on _ _ _ fs _ t rest) = last_file query source fs end_ h t rest

pub answered : (T : Type 0) → AsksAreAnswered T
answered T = record {
  library = added;
  missing = λ sources old new i asks h.
      refused_there sources old new i (record { file = asks.file; code = PJST0007; place = i.place; opened = so_far (asks.file ∷ path_names asks.outer) old.done }) asks
      (missing asks.file (path_names asks.outer) i asks.left old.done asks.wanted h);
  unread = λ sources old new i u asks h.
      refused_there sources old new i (record { file = i.name; code = u.code; place = u.place; opened = so_far (asks.file ∷ path_names asks.outer) old.done + 1 }) asks
      (unread asks.file (path_names asks.outer) i asks.left old.done u asks.wanted h);
  other_body = λ sources old new i source place asks h b.
      refused_there sources old new i (record { file = i.name; code = PJST0009; place = place; opened = so_far (asks.file ∷ path_names asks.outer) old.done + 1 }) asks
      (body asks.file (path_names asks.outer) i asks.left old.done source place asks.wanted h b);
  begins = begins;
  ends = λ sources s e. subst (λ (us : List (UnderWay T)). Remains sources us s.done (Ok s.done)) (sym e) (no_more s.done);
}
