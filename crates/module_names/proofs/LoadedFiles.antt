-- The files that are loaded: what the query reaches, each once and behind all that it imports.
use Rattle.std.proofs.Common.{◌≡◌, ℕ, zero, suc, ◌+◌, ◌<◌, ◌≤◌, Bool, true, false, ◌||◌, nat_lt, if◌then◌else◌, List, [], ◌∷◌, ◌++◌, length, Option, Some, None, option_map, Result, Ok, Err, refl, sym, ap, ◌∙◌, subst, arith, append_assoc, append-nil, length-append}
use Rattle.std.specs.Str.{bytes_eq}
use Rattle.std.proofs.lemmas.Bool.{ltb-true}
use Rattle.std.proofs.lemmas.Slice.Eq.{bytes_eq-Decides}
use Rattle.item_tree.specs.declared.code.Code.TheVariants.{PJST0006, PJST0008}
use Rattle.module_names.specs.declared.head.Import.{Import}
use Rattle.module_names.specs.Loading.{Name, Refusal, Source, Unread, Sources, Files, has_name, refused, and_then, most_files, Onward, names_of, so_far, source_of, library_of, opened, import_one, import_all, load_below, loaded_query, loaded}
use Rattle.module_names.specs.Loaded.{Reached, here, imported, AllNamed, IsFile, InOrder, AreLibraries, AreLoaded}

-- names
or_false : (b : Bool) → (b || false) ≡ b
or_false true = refl
or_false false = refl

or_both : (a b c : Bool) → (a || (b || c)) ≡ ((a || b) || c)
or_both true b c = refl
or_both false b c = refl

pub has_more : (n : Name) (ns : List Name) (m : Name) → has_name n (ns ++ m ∷ []) ≡ (has_name n ns || bytes_eq n m)
has_more n [] m = or_false (bytes_eq n m)
has_more n (k ∷ ns) m = ap (λ (b : Bool). bytes_eq n k || b) (has_more n ns m) ∙ or_both (bytes_eq n k) (has_name n ns) (bytes_eq n m)

or_true : (a b : Bool) → a ≡ true → (a || b) ≡ true
or_true true b h = refl
or_true false b h = absurd cc

or_last : (a b : Bool) → b ≡ true → (a || b) ≡ true
or_last true b h = refl
or_last false b h = h

pub or_none : (a b : Bool) → a ≡ false → b ≡ false → (a || b) ≡ false
or_none true b h k = h
or_none false b h k = k

left_false : (a b : Bool) → (a || b) ≡ false → a ≡ false
left_false true b h = h
left_false false b h = refl

right_false : (a b : Bool) → (a || b) ≡ false → b ≡ false
right_false true b h = absurd cc
right_false false b h = h

self_same : (n : Name) → bytes_eq n n ≡ true
self_same n = (bytes_eq-Decides n n).1 refl

other_case : (n m : Name) (b : Bool) → bytes_eq m n ≡ b → bytes_eq n m ≡ false → bytes_eq m n ≡ false
other_case n m true e h = let same : m ≡ n = (bytes_eq-Decides m n).0 e in absurd (let own : bytes_eq n m ≡ true = (bytes_eq-Decides n m).1 (sym same) in cc)
other_case n m false e h = e

other : (n m : Name) → bytes_eq n m ≡ false → bytes_eq m n ≡ false
other n m h = other_case n m (bytes_eq m n) refl h

-- results
then_ok : {A B : Type 0} (r : Result A Refusal) (f : A → Result B Refusal) (b : B) → and_then r f ≡ Ok b
    → (a : A) × (r ≡ Ok a) × (f a ≡ Ok b)
then_ok (Ok a) f b h = (a, refl, h)
then_ok (Err e) f b h = absurd cc

module _ {T : Type 0} (sources : Sources T) (query : Name) where
  abbrev names : Files T → List Name
  names fs = names_of fs

  names_more : (fs : Files T) (f : Name × Source T) → names (fs ++ f ∷ []) ≡ names fs ++ f.0 ∷ []
  names_more [] f = refl
  names_more (g ∷ fs) f = ap (λ (ns : List Name). g.0 ∷ ns) (names_more fs f)

  order_more : (before : List Name) (fs : Files T) (f : Name × Source T) → InOrder sources query before fs
      → IsFile sources query (before ++ names fs) f → InOrder sources query before (fs ++ f ∷ [])
  order_more before [] f a is = (subst (λ (ns : List Name). IsFile sources query ns f) (append-nil before) is, tt)
  order_more before (g ∷ fs) f a is = (
    a.0,
    order_more (before ++ g.0 ∷ []) fs f (a.1)
        (subst (λ (ns : List Name). IsFile sources query ns f) (sym (append_assoc before (g.0 ∷ []) (names fs))) is),
  )

  libraries_more : (fs : Files T) (f : Name × Source T) → AreLibraries fs → f.1.body ≡ None → AreLibraries (fs ++ f ∷ [])
  libraries_more [] f a h = (h, tt)
  libraries_more (g ∷ fs) f a h = (a.0, libraries_more fs f (a.1) h)

  abbrev Apart : List Name → Files T → Type 0
  Apart [] fs = Unit {0}
  Apart (n ∷ ns) fs = (has_name n (names fs) ≡ false) × Apart ns fs

  abbrev Grows : Files T → Files T → Type 0
  Grows old new = (n : Name) → has_name n (names old) ≡ true → has_name n (names new) ≡ true

  has_file : (fs : Files T) (f : Name × Source T) (n : Name) → has_name n (names (fs ++ f ∷ [])) ≡ (has_name n (names fs) || bytes_eq n f.0)
  has_file fs f n = ap (has_name n) (names_more fs f) ∙ has_more n (names fs) f.0

  apart_more : (path : List Name) (fs : Files T) (f : Name × Source T) → has_name f.0 path ≡ false → Apart path fs → Apart path (fs ++ f ∷ [])
  apart_more [] fs f h a = tt
  apart_more (n ∷ ns) fs f h a = (
    has_file fs f n
        ∙ or_none (has_name n (names fs)) (bytes_eq n f.0) (a.0) (other f.0 n (left_false (bytes_eq f.0 n) (has_name f.0 ns) h)),
    apart_more ns fs f (right_false (bytes_eq f.0 n) (has_name f.0 ns) h) (a.1),
  )

  -- what is kept while the files on a path are under way
  record Kept (path : List Name) (fs : Files T) : Type 0 where
    in_order : InOrder sources query [] fs
    bodies : AreLibraries fs
    apart : Apart path fs
    room : length path + length fs ≤ 64

  record Begun (file : Name) (path : List Name) (source : Source T) (done : Files T) : Type 0 where
    kept : Kept (file ∷ path) done
    off : has_name file path ≡ false
    own : source_of sources file ≡ Some (Ok source)
    reached : Reached sources query file

  record Ended (file : Name) (path : List Name) (source : Source T) (done fs : Files T) : Type 0 where
    others : Files T
    whole : fs ≡ others ++ (file, source) ∷ []
    bodies : AreLibraries others
    in_order : InOrder sources query [] fs
    apart : Apart path fs
    room : length path + length fs ≤ 64
    grows : Grows done fs
    there : has_name file (names fs) ≡ true

  record Taken (path : List Name) (is : List Import) (done fs : Files T) : Type 0 where
    kept : Kept path fs
    grows : Grows done fs
    there : AllNamed (names fs) is

  abbrev GoesOn : Onward T → List Name → Type 0
  GoesOn onward path = (file : Name) (source : Source T) (done fs : Files T) → Begun file path source done
      → onward file path source done ≡ Ok fs → Ended file path source done fs

  library_case : (onward : Onward T) (file : Name) (path : List Name) → GoesOn onward (file ∷ path) → (i : Import) (done fs : Files T)
      → Kept (file ∷ path) done → Reached sources query i.name → has_name i.name (file ∷ path) ≡ false
      → has_name i.name (names done) ≡ false → length (file ∷ path) + length done < 64 → (source : Source T)
      → source_of sources i.name ≡ Some (Ok source) → (o : Option ℕ) → source.body ≡ o
      → library_of onward i.name (file ∷ path) source o done ≡ Ok fs → Taken (file ∷ path) (i ∷ []) done fs
  library_case onward file path goes i done fs kept reached off new room source own (Some place) b h = absurd cc
  library_case onward file path goes i done fs kept reached off new room source own None b h =
      let begun : Begun i.name (file ∷ path) source done = record {
        kept = record { in_order = kept.in_order; bodies = kept.bodies; apart = (new, kept.apart); room = omega arith };
        off = off;
        own = own;
        reached = reached;
      } in
      let ended : Ended i.name (file ∷ path) source done fs = goes i.name source done fs begun h in
      record {
        kept = record {
          in_order = ended.in_order;
          bodies = subst AreLibraries (sym ended.whole) (libraries_more ended.others (i.name, source) ended.bodies b);
          apart = ended.apart;
          room = ended.room;
        };
        grows = ended.grows;
        there = (ended.there, tt);
      }

  opened_case : (onward : Onward T) (file : Name) (path : List Name) → GoesOn onward (file ∷ path) → (i : Import) (done fs : Files T)
      → Kept (file ∷ path) done → Reached sources query i.name → has_name i.name (file ∷ path) ≡ false
      → has_name i.name (names done) ≡ false → length (file ∷ path) + length done < 64
      → (o : Option (Result (Source T) Unread)) → source_of sources i.name ≡ o → opened onward file path i o done ≡ Ok fs
      → Taken (file ∷ path) (i ∷ []) done fs
  opened_case onward file path goes i done fs kept reached off new room None e h = absurd cc
  opened_case onward file path goes i done fs kept reached off new room (Some (Err u)) e h = absurd cc
  opened_case onward file path goes i done fs kept reached off new room (Some (Ok source)) e h =
      library_case onward file path goes i done fs kept reached off new room source e source.body refl h

  room_case : (onward : Onward T) (file : Name) (path : List Name) → GoesOn onward (file ∷ path) → (i : Import) (done fs : Files T)
      → Kept (file ∷ path) done → Reached sources query i.name → has_name i.name (file ∷ path) ≡ false
      → has_name i.name (names done) ≡ false → (b : Bool) → nat_lt (length (file ∷ path) + length done) most_files ≡ b
      → (if b then opened onward file path i (source_of sources i.name) done else refused file PJST0008 i.place (so_far (file ∷ path) done)) ≡ Ok fs
      → Taken (file ∷ path) (i ∷ []) done fs
  room_case onward file path goes i done fs kept reached off new true e h =
      opened_case onward file path goes i done fs kept reached off new (ltb-true (length (file ∷ path) + length done) 64 e)
      (source_of sources i.name) refl h
  room_case onward file path goes i done fs kept reached off new false e h = absurd cc

  done_case : (onward : Onward T) (file : Name) (path : List Name) → GoesOn onward (file ∷ path) → (i : Import) (done fs : Files T)
      → Kept (file ∷ path) done → Reached sources query i.name → has_name i.name (file ∷ path) ≡ false
      → (b : Bool) → has_name i.name (names done) ≡ b
      → (if b then Ok done else
      (if nat_lt (length (file ∷ path) + length done) most_files
      then opened onward file path i (source_of sources i.name) done else refused file PJST0008 i.place (so_far (file ∷ path) done))) ≡ Ok fs
      → Taken (file ∷ path) (i ∷ []) done fs
  done_case onward file path goes i done fs kept reached off true e h =
      let same : done ≡ fs = cc in
      record {
        kept = subst (Kept (file ∷ path)) same kept;
        grows = λ n m. subst (λ (gs : Files T). has_name n (names gs) ≡ true) same m;
        there = (subst (λ (gs : Files T). has_name i.name (names gs) ≡ true) same e, tt);
      }
  done_case onward file path goes i done fs kept reached off false e h =
      room_case onward file path goes i done fs kept reached off e (nat_lt (length (file ∷ path) + length done) most_files) refl h

  path_case : (onward : Onward T) (file : Name) (path : List Name) → GoesOn onward (file ∷ path) → (i : Import) (done fs : Files T)
      → Kept (file ∷ path) done → Reached sources query i.name → (b : Bool) → has_name i.name (file ∷ path) ≡ b
      → (if b then refused file PJST0006 i.place (so_far (file ∷ path) done) else
      (if has_name i.name (names done) then Ok done else
      (if nat_lt (length (file ∷ path) + length done) most_files
      then opened onward file path i (source_of sources i.name) done else refused file PJST0008 i.place (so_far (file ∷ path) done)))) ≡ Ok fs
      → Taken (file ∷ path) (i ∷ []) done fs
  path_case onward file path goes i done fs kept reached true e h = absurd cc
  path_case onward file path goes i done fs kept reached false e h =
      done_case onward file path goes i done fs kept reached e (has_name i.name (names done)) refl h

  abbrev AllReached : List Import → Type 0
  AllReached [] = Unit {0}
  AllReached (i ∷ is) = Reached sources query i.name × AllReached is

  all_taken : (onward : Onward T) (file : Name) (path : List Name) → GoesOn onward (file ∷ path) → (is : List Import) (done fs : Files T)
      → Kept (file ∷ path) done → AllReached is → import_all sources onward file path is done ≡ Ok fs → Taken (file ∷ path) is done fs
  all_taken onward file path goes [] done fs kept reached h =
      let same : done ≡ fs = cc in
      record {
        kept = subst (Kept (file ∷ path)) same kept;
        grows = λ n m. subst (λ (gs : Files T). has_name n (names gs) ≡ true) same m;
        there = tt;
      }
  all_taken onward file path goes (i ∷ is) done fs kept reached h =
      let (mid, one, more) = then_ok (import_one sources onward file path i done) (import_all sources onward file path is) fs h in
      let first : Taken (file ∷ path) (i ∷ []) done mid =
      path_case onward file path goes i done mid kept (reached.0) (has_name i.name (file ∷ path)) refl one in
      let rest : Taken (file ∷ path) is mid fs = all_taken onward file path goes is mid fs first.kept (reached.1) more in
      record {
        kept = rest.kept;
        grows = λ n m. rest.grows n (first.grows n m);
        there = (rest.grows i.name (first.there.0), rest.there);
      }

  all_reached : (file : Name) (source : Source T) → source_of sources file ≡ Some (Ok source) → Reached sources query file
      → (front back : List Import) → source.imports ≡ front ++ back → AllReached back
  all_reached file source own reached front [] e = tt
  all_reached file source own reached front (i ∷ back) e = (
    imported file source front back i own e reached,
    all_reached file source own reached (front ++ i ∷ []) back (e ∙ sym (append_assoc front (i ∷ []) back)),
  )

  goes_below : (room : ℕ) (path : List Name) → room + length path ≡ 64 → GoesOn (load_below sources room) path
  goes_below zero path e = λ file source done fs begun h.
      let full : suc (length path) + length done ≤ 64 = begun.kept.room in
      absurd (omega arith)
  goes_below (suc room) path e = λ file source done fs begun h.
      let (mid, taken, whole) =
      then_ok (import_all sources (load_below sources room) file path source.imports done)
      (λ (gs : Files T). Ok (gs ++ (file, source) ∷ [])) fs h in
      let below : room + length (file ∷ path) ≡ 64 = omega arith in
      let all : Taken (file ∷ path) source.imports done mid =
      all_taken (load_below sources room) file path (goes_below room (file ∷ path) below) source.imports done mid begun.kept
      (all_reached file source begun.own begun.reached [] source.imports refl) taken in
      let is : mid ++ (file, source) ∷ [] ≡ fs = cc in
      let long : length (mid ++ (file, source) ∷ []) ≡ length mid + 1 = length-append mid ((file, source) ∷ []) in
      let full : suc (length path) + length mid ≤ 64 = all.kept.room in
      let room' : length path + length (mid ++ (file, source) ∷ []) ≤ 64 = omega arith in
      let standing : has_name file (names (mid ++ (file, source) ∷ [])) ≡ true =
      has_file mid (file, source) file ∙ or_last (has_name file (names mid)) (bytes_eq file file) (self_same file) in
      record {
        others = mid;
        whole = sym is;
        bodies = all.kept.bodies;
        in_order = subst (InOrder sources query []) is (order_more [] mid (file, source) all.kept.in_order (record {
          own = begun.own;
          reached = begun.reached;
          once = all.kept.apart.0;
          imports = all.there;
        }));
        apart = subst (Apart path) is (apart_more path mid (file, source) begun.off (all.kept.apart.1));
        room = subst (λ (gs : Files T). length path + length gs ≤ 64) is room';
        grows = λ n m.
            subst (λ (gs : Files T). has_name n (names gs) ≡ true) is
            (has_file mid (file, source) n ∙ or_true (has_name n (names mid)) (bytes_eq n file) (all.grows n m));
        there = subst (λ (gs : Files T). has_name file (names gs) ≡ true) is standing;
      }

  query_case : (o : Option (Result (Source T) Unread)) → source_of sources query ≡ o → (fs : Files T)
      → option_map (loaded_query sources query) o ≡ Some (Ok fs) → AreLoaded sources query fs
  query_case None e fs h = absurd cc
  query_case (Some (Err u)) e fs h = absurd cc
  query_case (Some (Ok source)) e fs h =
      let is : load_below sources 64 query [] source [] ≡ Ok fs = cc in
      let ended : Ended query [] source [] fs =
      goes_below 64 [] refl query source [] fs
      (record {
        kept = record { in_order = tt; bodies = tt; apart = (refl, tt); room = omega arith };
        off = refl;
        own = e;
        reached = here;
      }) is in
      record {
        libraries = ended.others;
        source = source;
        last = ended.whole;
        bodies = ended.bodies;
        in_order = ended.in_order;
        few = omega (arith, ended.room);
      }

  pub files_are_loaded : (fs : Files T) → loaded sources query ≡ Some (Ok fs) → AreLoaded sources query fs
  files_are_loaded fs h = query_case (source_of sources query) refl fs h
