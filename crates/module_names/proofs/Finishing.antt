-- All steps of loading, to their end.
use Rattle.std.proofs.Common.{◌≡◌, inl, inr, ◌<◌, ◌≤◌, ◌+◌, ℕ, List, [], ◌∷◌, ◌++◌, map, length, Some, Result, Ok, Err, Vec, Global, refl, sym, ap, ◌∙◌, subst, arith}
use Rattle.std.proofs.lemmas.List.{length-map}
use Rattle.item_tree.specs.declared.code.Code.{Code}
use Rattle.outside.specs.Counted.{RoseByOne}
use Rattle.outside.specs.Opens.{InputCounts}
use Rattle.outside.specs.World.{World}
use Rattle.module_names.specs.declared.alone.Unread.TheVariants as unread
use Rattle.module_names.specs.declared.file_bytes.Kept.{Kept}
use Rattle.module_names.specs.declared.load_fault.LoadFault.{LoadFault}
use Rattle.module_names.specs.declared.load_fault.LoadFault.TheVariants.{Refused, NoQuery, ReadFault, NoMemory}
use Rattle.module_names.specs.declared.order.File.{File}
use Rattle.module_names.specs.declared.order.Refused as told
use Rattle.module_names.specs.declared.order.Source as code
use Rattle.module_names.specs.declared.wanted.Found.TheVariants as found
use Rattle.module_names.specs.Alone.{Reader, AreSources}
use Rattle.module_names.specs.Answers.{Answered, IsLoaded, AreHeld, HasContents, IsMissing, OpensLoaded}
use Rattle.module_names.specs.Counts.{NoCountFalls, LeavesLoad}
use Rattle.module_names.specs.Loading.{Name, Sources, Files, source_of, loaded_query}
use Rattle.std.specs.Prelude.{option_map}
use Rattle.module_names.specs.Remaining.{State, Remains, begun, files_in, done_file, refusal_of, source_view}
use Rattle.module_names.specs.inside.Advance.{StepsTo, StaysHeld, OpensStep, EndsAs, OpensRest}
use Rattle.module_names.specs.inside.Wanted.{IsFound, LeavesFound}
use Rattle.module_names.proofs.Answering.{answered}
use Rattle.module_names.proofs.Stepping.{then_counts}
use Rattle.module_names.proofs.Steps.{count_files}

-- ---- another value beside the same counts

pub other_ok : {T A B : Type 0} (reads : Reader T) (x : A) (y : B) (before after : InputCounts) → LeavesLoad reads (Ok x) before after
    → LeavesLoad reads (Ok y) before after
other_ok reads x y before after h = record { faults = h.faults; misses = h.misses; falls = h.falls; balanced = h.balanced }

pub other_err : {T : Type 0} (A B : Type 0) (reads : Reader T) (fault : LoadFault) (before after : InputCounts) → LeavesLoad {A = A} reads (Err fault) before after
    → LeavesLoad {A = B} reads (Err fault) before after
other_err A B reads (Refused r contents) before after h = record { faults = h.faults; misses = h.misses; falls = h.falls; balanced = h.balanced }
other_err A B reads NoQuery before after h = record { faults = h.faults; misses = h.misses; falls = h.falls; balanced = h.balanced }
other_err A B reads ReadFault before after h = record { faults = h.faults; misses = h.misses; falls = h.falls; balanced = h.balanced }
other_err A B reads NoMemory before after h = record { faults = h.faults; misses = h.misses; falls = h.falls; balanced = h.balanced }

pub no_steps : {T A : Type 0} (reads : Reader T) (x : A) (counts : InputCounts) → LeavesLoad reads (Ok x) counts counts
no_steps reads x counts = record {
  faults = refl;
  misses = refl;
  falls = record { faults = omega arith; misses = omega arith; opened = omega arith; closed = omega arith };
  balanced = record { same = λ o c. refl };
}

pub none_opened : {A : Type 0} (n : ℕ) (x : A) (counts : InputCounts) → n ≤ 64 → OpensStep n n (Ok x) counts counts
none_opened n x counts few = (0, omega arith, few, (omega arith, λ small. omega arith))

-- ---- where no file is under way

pub done_told : {T A : Type 0} (old s : State (Kept T)) (x : A) (files : Vec (File (Kept T)) Global) (sources : Sources (Kept T))
    → map done_file files.items ≡ s.done → s.path ≡ [] → StepsTo sources old s (Ok x) → EndsAs sources old (Ok files)
done_told {T} old s x files sources is none steps =
    steps (Ok (map done_file files.items))
    (subst (λ (fs : Files (Kept T)). Remains sources s.path s.done (Ok fs)) (sym is) ((answered (Kept T)).ends sources s none))

pub held_front : {T : Type 0} (w : World) (fs gs : Files (Kept T)) → AreHeld w (fs ++ gs) → AreHeld w fs
held_front w [] gs h = tt
held_front w (f ∷ fs) gs h = (h.0, held_front w fs gs h.1)

pub done_opened : {T A : Type 0} (n : ℕ) (s : State (Kept T)) (x : A) (files : Vec (File (Kept T)) Global) (before after : InputCounts)
    → map done_file files.items ≡ s.done → s.path ≡ [] → OpensStep n (length (files_in s)) (Ok x) before after → OpensRest n (Ok files) before after
done_opened n s x files before after is none (k, e, few, just) =
    let all : length (files_in s) ≡ length s.done + length s.path = count_files s in
    let nothing : length s.path ≡ 0 = ap length none in
    let same : length files.items ≡ length s.done = sym (length-map files.items done_file) ∙ ap length is in
    (k, omega (arith, all, nothing, same, e), omega (arith, all, nothing, same, few), just)

-- ---- where a step has failed

module _ {T : Type 0} (A : Type 0) where
  pub err_told : (sources : Sources (Kept T)) (old new : State (Kept T)) (fault : LoadFault) → StepsTo {A = A} sources old new (Err fault) → EndsAs sources old (Err fault)
  err_told sources old new (Refused r contents) h = h
  err_told sources old new NoQuery h = h
  err_told sources old new ReadFault h = tt
  err_told sources old new NoMemory h = tt

  pub err_held : (w : World) (files : Files (Kept T)) (fault : LoadFault) → StaysHeld {T = T} {A = A} w files (Err fault) → HasContents {T = T} w (Err fault)
  err_held w files (Refused r contents) h = h
  err_held w files NoQuery h = tt
  err_held w files ReadFault h = tt
  err_held w files NoMemory h = tt

pub err_opened : (T A : Type 0) (old new : ℕ) (fault : LoadFault) (before after : InputCounts) → OpensStep {A = A} old new (Err fault) before after
    → OpensRest {T = T} old (Err fault) before after
err_opened T A old new (Refused r contents) before after h = h
err_opened T A old new NoQuery before after h = h
err_opened T A old new ReadFault before after h = h
err_opened T A old new NoMemory before after h = h

pub out_of_steps : (T : Type 0) {A : Type 0} (old new : ℕ) (x : A) (before after : InputCounts) → OpensStep old new (Ok x) before after → OpensRest {T = T} old (Err NoMemory) before after
out_of_steps T old new x before after (k, e, few, just) = (k, omega (arith, e, few), just.0)

-- ---- from the query's file on

most_opened : (k before now after : ℕ) → RoseByOne before now → after ≤ now + k → 1 + k ≤ 64 → after ≤ before + 64
most_opened k before now after (inl (lt, is)) le few = omega (arith, is, le, few)
most_opened k before now after (inr (full, is)) le few = omega (arith, is, le, few)

just_opened : (n k before now after : ℕ) → RoseByOne before now → now ≤ after → n ≡ 1 + k → after ≤ now + k
    → (after < 18446744073709551615 → after ≡ now + k) → (after ≤ before + n) × (after < 18446744073709551615 → after ≡ before + n)
just_opened n k before now after (inl (lt, is)) up e le exact = (omega (arith, is, e, le), λ small. let more = exact small in omega (arith, is, e, more))
just_opened n k before now after (inr (full, is)) up e le exact = (omega (arith, is, e, le), λ small. absurd (omega (arith, full, is, up, small)))

opened_by : {T : Type 0} (result : Answered T) (before now after : InputCounts) → RoseByOne before.opened now.opened → NoCountFalls now after
    → OpensRest 1 result now after → OpensLoaded result before after
opened_by (Ok files) before now after rose falls (k, e, few, just) =
    (few, just_opened (length files.items) k before.opened now.opened after.opened rose falls.opened e just.0 just.1)
opened_by (Err (Refused r contents)) before now after rose falls (k, e, few, just) =
    (omega (arith, e), few, just_opened r.opened k before.opened now.opened after.opened rose falls.opened e just.0 just.1)
opened_by (Err NoQuery) before now after rose falls h = absurd h
opened_by (Err ReadFault) before now after rose falls (k, few, most) = most_opened k before.opened now.opened after.opened rose most few
opened_by (Err NoMemory) before now after rose falls (k, few, most) = most_opened k before.opened now.opened after.opened rose most few

module _ {T : Type 0} (reads : Reader T) (name : Name) where
  pub query_unread : (w : World) (fault : LoadFault) (c : Code) (place : ℕ) (contents : List ℕ)
      → fault ≡ Refused (record { file = name; code = c; place = place; opened = 1 }) contents → IsFound reads w name (found.Refused c place contents)
      → (sources : Sources (Kept T)) → AreSources reads w sources → IsLoaded sources name (Err fault)
  query_unread w fault c place contents is (bytes, there, kept, read) sources are =
      let own : source_of sources name ≡ Some (Err (record { code = c; place = place })) =
      are.read name bytes (Err (unread.Refused c place)) (Err (record { code = c; place = place })) there read refl in
      subst (λ (f : LoadFault). IsLoaded sources name (Err f)) (sym is) (ap (option_map (loaded_query sources name)) own)

  pub query_kept : (w : World) (fault : LoadFault) (c : Code) (place : ℕ) (contents : List ℕ)
      → fault ≡ Refused (record { file = name; code = c; place = place; opened = 1 }) contents → IsFound reads w name (found.Refused c place contents)
      → HasContents {T = T} w (Err fault)
  query_kept w fault c place contents is (bytes, there, kept, read) =
      subst (λ (f : LoadFault). HasContents {T = T} w (Err f)) (sym is) (bytes, there, kept)

  loaded_by : (sources : Sources (Kept T)) (kept : code.Source (Kept T)) (result : Answered T) → source_of sources name ≡ Some (Ok (source_view kept))
      → EndsAs sources (record { path = begun name (source_view kept) ∷ []; done = [] }) result → IsLoaded sources name result
  loaded_by sources kept (Ok files) own m = (answered (Kept T)).begins sources name (source_view kept) (Ok (map done_file files.items)) own m
  loaded_by sources kept (Err (Refused r contents)) own m = (answered (Kept T)).begins sources name (source_view kept) (Err (refusal_of r)) own m
  loaded_by sources kept (Err NoQuery) own m = absurd m
  loaded_by sources kept (Err ReadFault) own m = tt
  loaded_by sources kept (Err NoMemory) own m = tt

  pub query_told : (w : World) (s : State (Kept T)) (kept : code.Source (Kept T)) (result : Answered T)
      → s ≡ record { path = begun name (source_view kept) ∷ []; done = [] } → IsFound reads w name (found.Read kept)
      → ((sources : Sources (Kept T)) → AreSources reads w sources → EndsAs sources s result)
      → (sources : Sources (Kept T)) → AreSources reads w sources → IsLoaded sources name result
  query_told w s kept result is (there, k) ends sources are =
      let (source, read, view) = k in
      loaded_by sources kept result (are.read name kept.rest.contents (Ok source) (Ok (source_view kept)) there read (ap Ok view))
      (subst (λ (t : State (Kept T)). EndsAs sources t result) is (ends sources are))

  pub query_held : (w : World) (s : State (Kept T)) (kept : code.Source (Kept T)) (result : Answered T)
      → s ≡ record { path = begun name (source_view kept) ∷ []; done = [] } → IsFound reads w name (found.Read kept)
      → (AreHeld w (files_in s) → HasContents w result) → HasContents w result
  query_held w s kept result is (there, k) h = h (subst (λ (t : State (Kept T)). AreHeld w (files_in t)) (sym is) (there, tt))

  pub query_opened : (s : State (Kept T)) (kept : code.Source (Kept T)) (result : Answered T) (before now after : InputCounts)
      → s ≡ record { path = begun name (source_view kept) ∷ []; done = [] } → RoseByOne before.opened now.opened → NoCountFalls now after
      → OpensRest (length (files_in s)) result now after → OpensLoaded result before after
  query_opened s kept result before now after is rose falls h =
      opened_by result before now after rose falls (subst (λ (t : State (Kept T)). OpensRest (length (files_in t)) result now after) is h)

-- what the query's file leaves, and then all steps
pub found_then : {T A : Type 0} (reads : Reader T) (kept : code.Source (Kept T)) (result : Result A LoadFault) (start now after : InputCounts)
    → LeavesFound reads (Ok (found.Read kept)) start now → LeavesLoad reads result now after → LeavesLoad reads result start after
found_then reads kept result start now after g h =
    then_counts kept reads result start now after (record { faults = g.faults; misses = g.misses; falls = g.falls; balanced = g.balanced }) h

-- after the query's file it is not missing
pub not_missing : {T : Type 0} (n : ℕ) (w : World) (name : Name) (result : Answered T) (before after : InputCounts) → OpensRest n result before after
    → IsMissing w name result
not_missing n w name (Ok files) before after h = tt
not_missing n w name (Err (Refused r contents)) before after h = tt
not_missing n w name (Err NoQuery) before after h = absurd h
not_missing n w name (Err ReadFault) before after h = tt
not_missing n w name (Err NoMemory) before after h = tt

-- the query's file alone was opened
pub query_refused : (T : Type 0) (r : told.Refused) (contents : List ℕ) (fault : LoadFault) (before after : InputCounts) → fault ≡ Refused r contents → r.opened ≡ 1
    → RoseByOne before.opened after.opened → OpensLoaded {T = T} (Err fault) before after
query_refused T r contents fault before after is one rose =
    subst (λ (f : LoadFault). OpensLoaded {T = T} (Err f) before after) (sym is)
    (omega (arith, one), omega (arith, one), just_opened r.opened 0 before.opened after.opened after.opened rose (omega arith) (omega (arith, one)) (omega arith) (λ small. omega arith))
