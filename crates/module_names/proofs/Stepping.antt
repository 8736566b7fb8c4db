-- Steps of loading: what each answer comes to, and one step after others.
use Rattle.std.proofs.Common.{◌≡◌, ◌⊎◌, inl, inr, ◌<◌, ◌≤◌, ◌+◌, ℕ, suc, List, [], ◌∷◌, ◌++◌, map, length, Option, Some, None, Result, Ok, Err, refl, sym, ap, ◌∙◌, subst, arith}
use Rattle.std.specs.Prelude.{IfSome}
use Rattle.std.proofs.lemmas.List.{length-map}
use Rattle.item_tree.specs.declared.code.Code.{Code}
use Rattle.item_tree.specs.declared.code.Code.TheVariants.{PJST0006, PJST0007, PJST0008, PJST0009}
use Rattle.line_pieces.specs.declared.fault.PieceFault.{PieceFault}
use Rattle.line_pieces.specs.declared.fault.PieceFault.TheVariants as piece
use Rattle.outside.specs.Counted.{RoseByOne}
use Rattle.outside.specs.Opens.{InputCounts}
use Rattle.outside.specs.World.{World, file_of}
use Rattle.module_names.specs.declared.alone.Unread.TheVariants as unread
use Rattle.module_names.specs.declared.file_bytes.Kept.{Kept}
use Rattle.module_names.specs.declared.head.Import.{Import}
use Rattle.module_names.specs.declared.load_fault.LoadFault.{LoadFault}
use Rattle.module_names.specs.declared.load_fault.LoadFault.TheVariants.{Refused, NoQuery, ReadFault, NoMemory}
use Rattle.module_names.specs.declared.order.Refused as told
use Rattle.module_names.specs.declared.order.Source as code
use Rattle.module_names.specs.declared.wanted.Found.TheVariants as found
use Rattle.module_names.specs.Alone.{Reader, AreSources}
use Rattle.module_names.specs.Answers.{AreHeld}
use Rattle.module_names.specs.Counts.{NoCountFalls, IsBalanced, OpenedAtMost, OtherCause, circle, full, body, FaultsBy, MissesBy, LeavesLoad}
use Rattle.module_names.specs.Loading.{Name, Source, Sources, Files, so_far}
use Rattle.module_names.specs.Remaining.{UnderWay, State, Remains, path_names, Asks, begun, files_in, refusal_of, source_view, RefusesInnermost}
use Rattle.module_names.specs.inside.Advance.{RefusesFile, RefusesTop, StepsTo, StaysHeld, OpensStep}
use Rattle.module_names.specs.inside.Faults.{fault_of}
use Rattle.module_names.specs.inside.Wanted.{IsFound, LeavesFound}
use Rattle.module_names.proofs.Answering.{answered}
use Rattle.module_names.proofs.Steps.{count_files}

-- ---- of a told world

pub told_from : {P Q : World → Type 0} (world : Option World) → ((w : World) → P w → Q w) → IfSome world P → IfSome world Q
told_from None f h = tt
told_from (Some w) f h = f w h

pub told_from_two : {P Q R : World → Type 0} (world : Option World) → ((w : World) → P w → Q w → R w) → IfSome world P → IfSome world Q → IfSome world R
told_from_two None f g h = tt
told_from_two (Some w) f g h = f w g h

pub told_all : {P : World → Type 0} (world : Option World) → ((w : World) → P w) → IfSome world P
told_all None f = tt
told_all (Some w) f = f w

-- ---- the import is answered

asks_count : {T : Type 0} (before s : State T) (i : Import) (asks : Asks before s i) → so_far (asks.file ∷ path_names asks.outer) before.done ≡ length (files_in s)
asks_count before s i asks =
    let all : length (files_in s) ≡ length s.done + length s.path = count_files s in
    let deep : length s.path ≡ suc (length asks.outer) = ap length asks.after in
    let names : length (path_names asks.outer) ≡ length asks.outer = length-map asks.outer (λ f. f.name) in
    let wide : length s.done ≡ length before.done = ap length asks.same in
    omega (arith, all, deep, names, wide)

module _ {T : Type 0} (A : Type 0) (reads : Reader T) (w : World) (before s new : State (Kept T)) (i : Import) where
  -- a library is missing
  missing_there : (sources : Sources (Kept T)) (n : ℕ) (fault : LoadFault) → n ≡ length (files_in s) → RefusesTop s.path PJST0007 i.place n fault
      → file_of w i.name ≡ None
      → AreSources reads w sources → Asks before s i → StepsTo {A = A} sources before new (Err fault)
  missing_there sources n fault count top none are asks =
      let at : RefusesFile (record { name = asks.file; source = asks.source; left = asks.left }) PJST0007 i.place n fault =
      subst (λ (us : List (UnderWay (Kept T))). RefusesTop us PJST0007 i.place n fault) asks.after top in
      subst (λ (f : LoadFault). StepsTo {A = A} sources before new (Err f)) (sym at.is)
      (subst (λ (k : ℕ). Remains sources before.path before.done (Err (record { file = asks.file; code = PJST0007; place = i.place; opened = k })))
      (asks_count before s i asks ∙ sym count) ((answered (Kept T)).missing sources before s i asks (are.missing i.name none)))

  pub missing_told : (n : ℕ) (fault : LoadFault) → n ≡ length (files_in s) → RefusesTop s.path PJST0007 i.place n fault → IsFound reads w i.name found.Missing
      → (sources : Sources (Kept T)) → AreSources reads w sources → Asks before s i → StepsTo {A = A} sources before new (Err fault)
  missing_told n fault count top none sources are asks = missing_there sources n fault count top none are asks

  -- a library is refused that is read alone
  pub unread_told : (fault : LoadFault) (c : Code) (place n : ℕ) (contents : List ℕ) → n ≡ length (files_in s)
      → fault ≡ Refused (record { file = i.name; code = c; place = place; opened = n + 1 }) contents → IsFound reads w i.name (found.Refused c place contents)
      → (sources : Sources (Kept T)) → AreSources reads w sources → Asks before s i → StepsTo {A = A} sources before new (Err fault)
  unread_told fault c place n contents count is (bytes, there, kept, read) sources are asks =
      subst (λ (f : LoadFault). StepsTo {A = A} sources before new (Err f)) (sym is)
      (subst (λ (k : ℕ). Remains sources before.path before.done (Err (record { file = i.name; code = c; place = place; opened = k + 1 })))
      (asks_count before s i asks ∙ sym count)
      ((answered (Kept T)).unread sources before s i (record { code = c; place = place }) asks
      (are.read i.name bytes (Err (unread.Refused c place)) (Err (record { code = c; place = place })) there read refl)))

  -- a library has a body that is not `()`
  pub body_told : (fault : LoadFault) (kept : code.Source (Kept T)) (place n : ℕ) → n ≡ length (files_in s)
      → fault ≡ Refused (record { file = i.name; code = PJST0009; place = place; opened = n + 1 }) kept.rest.contents → kept.body ≡ Some place
      → IsFound reads w i.name (found.Read kept)
      → (sources : Sources (Kept T)) → AreSources reads w sources → Asks before s i → StepsTo {A = A} sources before new (Err fault)
  body_told fault kept place n count is b (there, k) sources are asks =
      let (source, read, view) = k in
      subst (λ (f : LoadFault). StepsTo {A = A} sources before new (Err f)) (sym is)
      (subst (λ (m : ℕ). Remains sources before.path before.done (Err (record { file = i.name; code = PJST0009; place = place; opened = m + 1 })))
      (asks_count before s i asks ∙ sym count)
      ((answered (Kept T)).other_body sources before s i (source_view kept) place asks
      (are.read i.name kept.rest.contents (Ok source) (Ok (source_view kept)) there read (ap Ok view)) b))

  -- a library goes under way
  pub library_told : (x : A) (kept : code.Source (Kept T)) → kept.body ≡ None → IsFound reads w i.name (found.Read kept)
      → new ≡ record { path = begun i.name (source_view kept) ∷ s.path; done = s.done }
      → (sources : Sources (Kept T)) → AreSources reads w sources → Asks before s i → StepsTo sources before new (Ok x)
  library_told x kept b (there, k) is sources are asks =
      let (source, read, view) = k in
      subst (λ (n : State (Kept T)). StepsTo sources before n (Ok x)) (sym is)
      (λ end_ m. (answered (Kept T)).library sources before s i (source_view kept) end_ asks
      (record { read = are.read i.name kept.rest.contents (Ok source) (Ok (source_view kept)) there read (ap Ok view); body = b }) m)

-- ---- the bytes that files hold

held_among : {T : Type 0} (w : World) (done : Files (Kept T)) (f : Name × Source (Kept T)) (more : Files (Kept T)) → AreHeld w (done ++ f ∷ more)
    → file_of w f.0 ≡ Some f.1.rest.contents
held_among w [] f more h = h.0
held_among w (d ∷ done) f more h = held_among w done f more h.1

held_with : {T : Type 0} (w : World) (done : Files (Kept T)) (f : Name × Source (Kept T)) (more : Files (Kept T))
    → file_of w f.0 ≡ Some f.1.rest.contents → AreHeld w (done ++ more) → AreHeld w (done ++ f ∷ more)
held_with w [] f more own h = (own, h)
held_with w (d ∷ done) f more own h = (h.0, held_with w done f more own h.1)

held_at : {T : Type 0} (A : Type 0) (w : World) (done : Files (Kept T)) (path : List (UnderWay (Kept T))) (files : Files (Kept T)) (c : Code) (place n : ℕ) (fault : LoadFault)
    → RefusesTop path c place n fault → AreHeld w (done ++ map (λ f. (f.name, f.source)) path) → StaysHeld {T = T} {A = A} w files (Err fault)
held_at {T} A w done [] files c place n fault is h = subst (λ (f : LoadFault). StaysHeld {T = T} {A = A} w files (Err f)) (sym is) tt
held_at {T} A w done (u ∷ us) files c place n fault r h =
    subst (λ (f : LoadFault). StaysHeld {T = T} {A = A} w files (Err f)) (sym r.is)
    (u.source.rest.contents, held_among w done (u.name, u.source) (map (λ f. (f.name, f.source)) us) h, inl refl)

pub refused_held : {T : Type 0} (A : Type 0) (w : World) (s : State (Kept T)) (files : Files (Kept T)) (c : Code) (place n : ℕ) (fault : LoadFault)
    → RefusesTop s.path c place n fault → AreHeld w (files_in s) → StaysHeld {T = T} {A = A} w files (Err fault)
refused_held A w s files c place n fault top h = held_at A w s.done s.path files c place n fault top h

-- a file that is refused alone
pub found_held : {T : Type 0} (A : Type 0) (reads : Reader T) (w : World) (files : Files (Kept T)) (fault : LoadFault) (name : Name) (c : Code) (place n : ℕ) (contents : List ℕ)
    → fault ≡ Refused (record { file = name; code = c; place = place; opened = n }) contents → IsFound reads w name (found.Refused c place contents)
    → StaysHeld {T = T} {A = A} w files (Err fault)
found_held {T} A reads w files fault name c place n contents is (bytes, there, kept, read) =
    subst (λ (f : LoadFault). StaysHeld {T = T} {A = A} w files (Err f)) (sym is) (bytes, there, kept)

pub library_held : {T : Type 0} (reads : Reader T) (w : World) (s new : State (Kept T)) (name : Name) (kept : code.Source (Kept T))
    → IsFound reads w name (found.Read kept) → new ≡ record { path = begun name (source_view kept) ∷ s.path; done = s.done }
    → AreHeld w (files_in s) → AreHeld w (files_in new)
library_held reads w s new name kept (there, k) is h =
    subst (λ (n : State (Kept _)). AreHeld w (files_in n)) (sym is)
    (held_with w s.done (name, source_view kept) (map (λ f. (f.name, f.source)) s.path) there h)

-- ---- the counts

module _ {T : Type 0} (A : Type 0) (reads : Reader T) where
  no_memory : (start after : InputCounts) → after.misses ≤ start.misses + 1 → NoCountFalls start after → IsBalanced start after → LeavesLoad {A = A} reads (Err NoMemory) start after
  no_memory start after misses falls balanced = record { faults = tt; misses = misses; falls = falls; balanced = balanced }

  one_missed : (n m : ℕ) → RoseByOne n m → m ≤ n + 1
  one_missed n m (inl (lt, is)) = omega (arith, is)
  one_missed n m (inr (top, is)) = omega (arith, is)

  pub missing_counts : (path : List (UnderWay (Kept T))) (place n : ℕ) (fault : LoadFault) (start after : InputCounts)
      → RefusesTop path PJST0007 place n fault → LeavesFound reads (Ok found.Missing) start after → LeavesLoad {A = A} reads (Err fault) start after
  missing_counts [] place n fault start after is h =
      subst (λ (f : LoadFault). LeavesLoad {A = A} reads (Err f) start after) (sym is) (no_memory start after (one_missed start.misses after.misses h.misses) h.falls h.balanced)
  missing_counts (u ∷ us) place n fault start after r h =
      subst (λ (f : LoadFault). LeavesLoad {A = A} reads (Err f) start after) (sym r.is)
      (record { faults = h.faults; misses = inr (refl, h.misses); falls = h.falls; balanced = h.balanced })

  pub unread_counts : (file : told.Refused) (place : ℕ) (contents : List ℕ) (fault : LoadFault) (start after : InputCounts)
      → fault ≡ Refused file contents → LeavesFound reads (Ok (found.Refused file.code place contents)) start after → LeavesLoad {A = A} reads (Err fault) start after
  unread_counts file place contents fault start after is h =
      subst (λ (f : LoadFault). LeavesLoad {A = A} reads (Err f) start after) (sym is)
      (record { faults = h.faults; misses = inl h.misses; falls = h.falls; balanced = h.balanced })

  pub body_counts : (kept : code.Source (Kept T)) (file : told.Refused) (contents : List ℕ) (fault : LoadFault) (start after : InputCounts)
      → fault ≡ Refused file contents → file.code ≡ PJST0009 → LeavesFound reads (Ok (found.Read kept)) start after
      → LeavesLoad {A = A} reads (Err fault) start after
  body_counts kept file contents fault start after is c h =
      subst (λ (f : LoadFault). LeavesLoad {A = A} reads (Err f) start after) (sym is)
      (record { faults = h.faults; misses = inl (subst (λ (d : Code). OtherCause reads d) (sym c) body, h.misses); falls = h.falls; balanced = h.balanced })

  other_code : (r : told.Refused) → (r.code ≡ PJST0006) ⊎ (r.code ≡ PJST0008) → OtherCause reads r.code
  other_code r (inl e) = subst (λ (d : Code). OtherCause reads d) (sym e) circle
  other_code r (inr e) = subst (λ (d : Code). OtherCause reads d) (sym e) full

  pub refused_counts : (s : State (Kept T)) (path : List (UnderWay (Kept T))) (r : told.Refused) (place n : ℕ) (fault : LoadFault) (counts : InputCounts)
      → RefusesTop path r.code place n fault → RefusesInnermost s r → LeavesLoad {A = A} reads (Err fault) counts counts
  refused_counts s [] r place n fault counts is inner =
      subst (λ (f : LoadFault). LeavesLoad {A = A} reads (Err f) counts counts) (sym is)
      (no_memory counts counts (omega arith)
      (record { faults = omega arith; misses = omega arith; opened = omega arith; closed = omega arith })
      (record { same = λ o c. refl }))
  refused_counts s (u ∷ us) r place n fault counts top inner =
      subst (λ (f : LoadFault). LeavesLoad {A = A} reads (Err f) counts counts) (sym top.is)
      (record {
        faults = refl;
        misses = inl (other_code r inner.code, refl);
        falls = record { faults = omega arith; misses = omega arith; opened = omega arith; closed = omega arith };
        balanced = record { same = λ o c. refl };
      })

-- one file more, and a step that fails after it
rose_most : (before after : ℕ) → RoseByOne before after → after ≤ before + 1
rose_most before after (inl (lt, is)) = omega (arith, is)
rose_most before after (inr (le, is)) = omega (arith, is)

rose_just : (before after : ℕ) → RoseByOne before after → after < 18446744073709551615 → after ≡ before + 1
rose_just before after (inl (lt, is)) small = is
rose_just before after (inr (le, is)) small = absurd (omega (arith, le, is, small))

pub opened_fault : (A : Type 0) (old new : ℕ) (f : PieceFault) (before after : InputCounts) → old < 64 → after.opened ≤ before.opened + 1
    → OpensStep {A = A} old new (Err (fault_of f)) before after
opened_fault A old new piece.ReadFault before after lt most = (1, omega (arith, lt), most)
opened_fault A old new piece.NoMemory before after lt most = (1, omega (arith, lt), most)

pub opened_short : (A : Type 0) (old new : ℕ) (before after : InputCounts) → old < 64 → RoseByOne before.opened after.opened
    → OpensStep {A = A} old new (Err NoMemory) before after
opened_short A old new before after lt rose = (1, omega (arith, lt), rose_most before.opened after.opened rose)

pub opened_refused : (A : Type 0) (old new : ℕ) (r : told.Refused) (contents : List ℕ) (fault : LoadFault) (before after : InputCounts) → old < 64
    → fault ≡ Refused r contents → r.opened ≡ old + 1 → RoseByOne before.opened after.opened → OpensStep {A = A} old new (Err fault) before after
opened_refused A old new r contents fault before after lt is count rose =
    subst (λ (f : LoadFault). OpensStep {A = A} old new (Err f) before after) (sym is)
    (1, count, omega (arith, lt, count), (rose_most before.opened after.opened rose, rose_just before.opened after.opened rose))

-- the innermost file is refused, and no further one was opened
pub opened_top : {T : Type 0} (A : Type 0) (path : List (UnderWay (Kept T))) (c : Code) (place n old new : ℕ) (fault : LoadFault) (before after : InputCounts)
    → RefusesTop path c place n fault → n ≡ old → old ≤ 64 → after.opened ≡ before.opened → OpensStep {A = A} old new (Err fault) before after
opened_top A [] c place n old new fault before after is count few same =
    subst (λ (f : LoadFault). OpensStep {A = A} old new (Err f) before after) (sym is) (0, omega (arith, few), omega (arith, same))
opened_top A (u ∷ us) c place n old new fault before after top count few same =
    subst (λ (f : LoadFault). OpensStep {A = A} old new (Err f) before after) (sym top.is)
    (0, omega (arith, count), omega (arith, count, few), (omega (arith, same), λ small. omega (arith, same)))

pub library_opened : {T A : Type 0} (x : A) (s new : State (Kept T)) (name : Name) (source : Source (Kept T)) (before after : InputCounts)
    → length (files_in s) < 64 → new ≡ record { path = begun name source ∷ s.path; done = s.done } → RoseByOne before.opened after.opened
    → OpensStep (length (files_in s)) (length (files_in new)) (Ok x) before after
library_opened {T} x s new name source before after lt is rose =
    let old : length (files_in s) ≡ length s.done + length s.path = count_files s in
    let now : length (files_in new) ≡ length s.done + suc (length s.path) =
    ap (λ (n : State (Kept T)). length (files_in n)) is ∙ count_files (record { path = begun name source ∷ s.path; done = s.done }) in
    let most : length (files_in new) ≡ length (files_in s) + 1 = omega (arith, old, now) in
    (1, most, omega (arith, most, lt), (rose_most before.opened after.opened rose, rose_just before.opened after.opened rose))

opened_more : {A : Type 0} (x : A) (a b k : ℕ) (start now after : InputCounts) → OpensStep a b (Ok x) start now → b + k ≤ 64 → OpenedAtMost k now after
    → (j : ℕ) × (a + j ≤ 64) × OpenedAtMost j start after
opened_more x a b k start now after (j, e, few, just) le most = (j + k, omega (arith, e, le), omega (arith, just.0, most))

-- ---- one step after others

module _ {A B : Type 0} (x : A) where
  pub then_told : {T : Type 0} (sources : Sources (Kept T)) (old mid new : State (Kept T)) (result : Result B LoadFault) → StepsTo sources old mid (Ok x)
      → StepsTo sources mid new result → StepsTo sources old new result
  then_told sources old mid new (Ok y) f h = λ end_ m. f end_ (h end_ m)
  then_told sources old mid new (Err (Refused r contents)) f h = f (Err (refusal_of r)) h
  then_told sources old mid new (Err NoQuery) f h = h
  then_told sources old mid new (Err ReadFault) f h = tt
  then_told sources old mid new (Err NoMemory) f h = tt

  pub then_counts : {T : Type 0} (reads : Reader T) (result : Result B LoadFault) (start now after : InputCounts) → LeavesLoad reads (Ok x) start now
      → LeavesLoad reads result now after → LeavesLoad reads result start after
  then_counts reads result start now after g h = record {
    faults = subst (λ n. FaultsBy result n after.faults) g.faults h.faults;
    misses = subst (λ n. MissesBy reads result n after.misses) g.misses h.misses;
    falls = record {
      faults = omega (arith, g.falls.faults, h.falls.faults);
      misses = omega (arith, g.falls.misses, h.falls.misses);
      opened = omega (arith, g.falls.opened, h.falls.opened);
      closed = omega (arith, g.falls.closed, h.falls.closed);
    };
    balanced = record {
      same = λ o c.
          let late = h.balanced.same o c in
          let early = g.balanced.same (omega (arith, h.falls.opened, o)) (omega (arith, h.falls.closed, c)) in
          omega (arith, early, late);
    };
  }

  pub then_opened : (a b c : ℕ) (result : Result B LoadFault) (start now after : InputCounts) → NoCountFalls now after → OpensStep a b (Ok x) start now
      → OpensStep b c result now after → OpensStep a c result start after
  then_opened a b c (Ok y) start now after falls (j, e, few, just) (k, d, most, only) = (
    j + k,
    omega (arith, e, d),
    most,
    (
      omega (arith, just.0, only.0),
      λ small.
          let last = only.1 small in
          let mid = just.1 (omega (arith, falls.opened, small)) in
          omega (arith, last, mid),
    ),
  )
  then_opened a b c (Err (Refused r contents)) start now after falls (j, e, few, just) (k, d, most, only) = (
    j + k,
    omega (arith, e, d),
    most,
    (
      omega (arith, just.0, only.0),
      λ small.
          let last = only.1 small in
          let mid = just.1 (omega (arith, falls.opened, small)) in
          omega (arith, last, mid),
    ),
  )
  then_opened a b c (Err NoQuery) start now after falls g h = h
  then_opened a b c (Err ReadFault) start now after falls g (k, le, most) = opened_more x a b k start now after g le most
  then_opened a b c (Err NoMemory) start now after falls g (k, le, most) = opened_more x a b k start now after g le most
