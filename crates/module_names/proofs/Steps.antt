-- What remains of loading, step by step.
use Rattle.std.proofs.Common.{◌≡◌, ◌⊎◌, inl, inr, ℕ, ◌+◌, ◌<◌, ◌≤◌, Bool, true, false, ◌||◌, List, [], ◌∷◌, ◌++◌, map, reverse, length, drop, get_or, Result, Ok, Err, refl, sym, ap, ◌∙◌, subst, arith}
use Rattle.std.specs.Str.{bytes_eq}
use Rattle.std.proofs.lemmas.List.{map-append, reverse-append, length-append, length-map, length-reverse, drop_more, drop_all}
use Rattle.item_tree.specs.declared.code.Code.{Code}
use Rattle.item_tree.specs.declared.code.Code.TheVariants.{PJST0006, PJST0008}
use Rattle.module_names.specs.declared.head.Import.{Import}
use Rattle.module_names.specs.Loading.{Name, Refusal, Sources, Files, has_name, most_files, names_of, so_far}
use Rattle.module_names.specs.Rules.{Takes, none, circle, again, full}
use Rattle.module_names.specs.Remaining.{UnderWay, path_names, Remains, stops, goes_on, under_way, done_file, refusal_of, files_in, Asks, State, RefusesInnermost}
use Rattle.module_names.specs.declared.order.File.{File}
use Rattle.module_names.specs.declared.order.Refused.{Refused}
use Rattle.module_names.specs.inside.Order.{file_names}
use Rattle.module_names.proofs.LoadedFiles.{has_more, or_none}

module _ {T : Type 0} (sources : Sources T) where
  -- a file with no import left is done
  pub file_done : (f : UnderWay T) (path : List (UnderWay T)) (done : Files T) (end_ : Result (Files T) Refusal) → f.left ≡ []
      → Remains sources path (done ++ (f.name, f.source) ∷ []) end_ → Remains sources (f ∷ path) done end_
  file_done f path done end_ h m =
      goes_on f path done done end_ (subst (λ (is : List Import). Takes sources f.name (path_names path) is done (Ok done)) (sym h) (none f.name (path_names path) done)) m

  -- an import of a file that is done is passed over
  pub import_again : (f : UnderWay T) (i : Import) (is : List Import) (path : List (UnderWay T)) (done : Files T) (end_ : Result (Files T) Refusal)
      → f.left ≡ i ∷ is → has_name i.name (f.name ∷ path_names path) ≡ false → has_name i.name (names_of done) ≡ true
      → Remains sources (record f { left = is } ∷ path) done end_ → Remains sources (f ∷ path) done end_
  import_again f i is path done _ h off there (stops _ _ _ r t) =
      stops f path done r
      (subst (λ (ls : List Import). Takes sources f.name (path_names path) ls done (Err r)) (sym h) (again f.name (path_names path) i is done (Err r) off there t))
  import_again f i is path done end_ h off there (goes_on _ _ _ fs _ t m) =
      goes_on f path done fs end_
      (subst (λ (ls : List Import). Takes sources f.name (path_names path) ls done (Ok fs)) (sym h) (again f.name (path_names path) i is done (Ok fs) off there t)) m

  pub import_circles : (f : UnderWay T) (i : Import) (is : List Import) (path : List (UnderWay T)) (done : Files T) → f.left ≡ i ∷ is
      → has_name i.name (f.name ∷ path_names path) ≡ true
      → Remains sources (f ∷ path) done (Err (record { file = f.name; code = PJST0006; place = i.place; opened = so_far (f.name ∷ path_names path) done }))
  import_circles f i is path done h on =
      stops f path done (record { file = f.name; code = PJST0006; place = i.place; opened = so_far (f.name ∷ path_names path) done })
      (subst (λ (ls : List Import). Takes sources f.name (path_names path) ls done (Err (record { file = f.name; code = PJST0006; place = i.place; opened = so_far (f.name ∷ path_names path) done }))) (sym h)
      (circle f.name (path_names path) i is done on))

  pub import_overflows : (f : UnderWay T) (i : Import) (is : List Import) (path : List (UnderWay T)) (done : Files T) → f.left ≡ i ∷ is
      → has_name i.name (f.name ∷ path_names path) ≡ false → has_name i.name (names_of done) ≡ false
      → most_files ≤ length (f.name ∷ path_names path) + length done
      → Remains sources (f ∷ path) done (Err (record { file = f.name; code = PJST0008; place = i.place; opened = so_far (f.name ∷ path_names path) done }))
  import_overflows f i is path done h off new most =
      stops f path done (record { file = f.name; code = PJST0008; place = i.place; opened = so_far (f.name ∷ path_names path) done })
      (subst (λ (ls : List Import). Takes sources f.name (path_names path) ls done (Err (record { file = f.name; code = PJST0008; place = i.place; opened = so_far (f.name ∷ path_names path) done }))) (sym h)
      (full f.name (path_names path) i is done (record { off = off; open_ = new }) most))

-- ---- of the code

abbrev pub turned : {T : Type 0} → List (File T) → List (UnderWay T)
turned fs = reverse (map under_way fs)

abbrev pub files_of : {T : Type 0} → List (File T) → Files T
files_of fs = map done_file fs

pub top_first : {T : Type 0} (old rest : List (File T)) (file : File T) → old ≡ rest ++ file ∷ [] → turned old ≡ under_way file ∷ turned rest
top_first old rest file e =
    ap turned e ∙ ap reverse (map-append under_way rest (file ∷ [])) ∙ reverse-append (map under_way rest) (under_way file ∷ [])

pub or_first : (a b : Bool) → a ≡ true → (a || b) ≡ true
or_first true b h = refl
or_first false b h = absurd cc

pub or_second : (a b : Bool) → b ≡ true → (a || b) ≡ true
or_second true b h = refl
or_second false b h = h

or_turns : (a b : Bool) → (a || b) ≡ (b || a)
or_turns true true = refl
or_turns true false = refl
or_turns false true = refl
or_turns false false = refl

turned_names : {T : Type 0} (n : Name) (rest : List (File T)) → has_name n (path_names (turned rest)) ≡ has_name n (file_names rest)
turned_names {T} n [] = refl
turned_names {T} n (f ∷ rest) =
    ap (λ (us : List (UnderWay T)). has_name n (path_names us)) (reverse-append (under_way f ∷ []) (map under_way rest))
    ∙ ap (has_name n) (map-append (λ (u : UnderWay T). u.name) (turned rest) (under_way f ∷ []))
    ∙ has_more n (path_names (turned rest)) f.name
    ∙ ap (λ (b : Bool). b || bytes_eq n f.name) (turned_names n rest)
    ∙ or_turns (has_name n (file_names rest)) (bytes_eq n f.name)

done_names : {T : Type 0} (n : Name) (ds : List (File T)) → has_name n (names_of (files_of ds)) ≡ has_name n (file_names ds)
done_names n [] = refl
done_names n (d ∷ ds) = ap (λ (b : Bool). bytes_eq n d.name || b) (done_names n ds)

path_length : {T : Type 0} (rest : List (File T)) → length (path_names (turned rest)) ≡ length rest
path_length {T} rest = length-map (turned rest) (λ (u : UnderWay T). u.name) ∙ length-reverse (map under_way rest) ∙ length-map rest under_way

-- the next import of a file
pub record IsNext {T : Type 0} (old rest : List (File T)) (file : File T) (i : Import) : Type 0 where
  top : old ≡ rest ++ file ∷ []
  within : file.taken < length file.source.imports.items
  next : i ≡ get_or file.source.imports.items file.taken i

pub is_next : {T : Type 0} (old rest : List (File T)) (file : File T) (i : Import) → old ≡ rest ++ file ∷ [] → file.taken < length file.source.imports.items
    → i ≡ get_or file.source.imports.items file.taken i → IsNext old rest file i
is_next old rest file i e lt is = record { top = e; within = lt; next = is }

left_is : {T : Type 0} (old rest : List (File T)) (file : File T) (i : Import) → IsNext old rest file i
    → (under_way file).left ≡ i ∷ drop (file.taken + 1) file.source.imports.items
left_is old rest file i n =
    drop_more file.source.imports.items file.taken i n.within
    ∙ ap (λ (j : Import). j ∷ drop (file.taken + 1) file.source.imports.items) (sym n.next)

-- so many files were opened
counted : {T : Type 0} (rest ds : List (File T)) (file : File T) (n : ℕ) → n ≡ length rest + length ds + 1
    → so_far (file.name ∷ path_names (turned rest)) (files_of ds) ≡ n
counted rest ds file n is =
    let deep : length (path_names (turned rest)) ≡ length rest = path_length rest in
    let wide : length (files_of ds) ≡ length ds = length-map ds done_file in
    omega (arith, deep, wide, is)

module _ {T : Type 0} (sources : Sources T) (old rest ds : List (File T)) (file : File T) where
  pub code_done : (new : List (File T)) (end_ : Result (Files T) Refusal) → old ≡ rest ++ file ∷ [] → length file.source.imports.items ≤ file.taken
      → new ≡ ds ++ file ∷ [] → Remains sources (turned rest) (files_of new) end_ → Remains sources (turned old) (files_of ds) end_
  code_done new end_ e le n m =
      subst (λ (us : List (UnderWay T)). Remains sources us (files_of ds) end_) (sym (top_first old rest file e))
      (file_done sources (under_way file) (turned rest) (files_of ds) end_ (drop_all file.taken file.source.imports.items le)
      (subst (λ (fs : Files T). Remains sources (turned rest) fs end_) (ap files_of n ∙ map-append done_file ds (file ∷ [])) m))

  pub code_again : (i : Import) (next : File T) (new : List (File T)) (end_ : Result (Files T) Refusal) → IsNext old rest file i
      → next ≡ record file { taken = file.taken + 1 } → new ≡ rest ++ next ∷ []
      → bytes_eq i.name file.name ≡ false → has_name i.name (file_names rest) ≡ false → has_name i.name (file_names ds) ≡ true
      → Remains sources (turned new) (files_of ds) end_ → Remains sources (turned old) (files_of ds) end_
  code_again i next new end_ n step e own far there m =
      subst (λ (us : List (UnderWay T)). Remains sources us (files_of ds) end_) (sym (top_first old rest file n.top))
      (import_again sources (under_way file) i (drop (file.taken + 1) file.source.imports.items) (turned rest) (files_of ds) end_
      (left_is old rest file i n) (or_none (bytes_eq i.name file.name) (has_name i.name (path_names (turned rest))) own (turned_names i.name rest ∙ far))
      (done_names i.name ds ∙ there)
      (subst (λ (us : List (UnderWay T)). Remains sources us (files_of ds) end_)
      (top_first new rest next e ∙ ap (λ (f : File T). under_way f ∷ turned rest) step) m))

  pub code_circle : (i : Import) (r : Refused) (n : ℕ) → n ≡ length rest + length ds + 1 → IsNext old rest file i
      → r ≡ record { file = file.name; code = PJST0006; place = i.place; opened = n }
      → (bytes_eq i.name file.name || has_name i.name (file_names rest)) ≡ true
      → Remains sources (turned old) (files_of ds) (Err (refusal_of r))
  code_circle i r m count n told on =
      subst (λ (us : List (UnderWay T)). Remains sources us (files_of ds) (Err (refusal_of r))) (sym (top_first old rest file n.top))
      (subst (λ (q : Refused). Remains sources (under_way file ∷ turned rest) (files_of ds) (Err (refusal_of q))) (sym told)
      (subst (λ (k : ℕ). Remains sources (under_way file ∷ turned rest) (files_of ds) (Err (record { file = file.name; code = PJST0006; place = i.place; opened = k })))
      (counted rest ds file m count)
      (import_circles sources (under_way file) i (drop (file.taken + 1) file.source.imports.items) (turned rest) (files_of ds)
      (left_is old rest file i n) (ap (λ (b : Bool). bytes_eq i.name file.name || b) (turned_names i.name rest) ∙ on))))

  pub code_full : (i : Import) (r : Refused) (n : ℕ) → n ≡ length rest + length ds + 1 → IsNext old rest file i
      → r ≡ record { file = file.name; code = PJST0008; place = i.place; opened = n }
      → bytes_eq i.name file.name ≡ false → has_name i.name (file_names rest) ≡ false → has_name i.name (file_names ds) ≡ false
      → 64 ≤ length rest + length ds + 1
      → Remains sources (turned old) (files_of ds) (Err (refusal_of r))
  code_full i r m count n told own far new most =
      let deep : length (path_names (turned rest)) ≡ length rest = path_length rest in
      let wide : length (files_of ds) ≡ length ds = length-map ds done_file in
      subst (λ (us : List (UnderWay T)). Remains sources us (files_of ds) (Err (refusal_of r))) (sym (top_first old rest file n.top))
      (subst (λ (q : Refused). Remains sources (under_way file ∷ turned rest) (files_of ds) (Err (refusal_of q))) (sym told)
      (subst (λ (k : ℕ). Remains sources (under_way file ∷ turned rest) (files_of ds) (Err (record { file = file.name; code = PJST0008; place = i.place; opened = k })))
      (counted rest ds file m count)
      (import_overflows sources (under_way file) i (drop (file.taken + 1) file.source.imports.items) (turned rest) (files_of ds)
      (left_is old rest file i n) (or_none (bytes_eq i.name file.name) (has_name i.name (path_names (turned rest))) own (turned_names i.name rest ∙ far))
      (done_names i.name ds ∙ new) (omega arith))))

pub code_asks : {T : Type 0} (old rest ds : List (File T)) (file : File T) (i : Import) (next : File T) (new : List (File T)) → IsNext old rest file i
    → next ≡ record file { taken = file.taken + 1 } → new ≡ rest ++ next ∷ []
    → bytes_eq i.name file.name ≡ false → has_name i.name (file_names rest) ≡ false → has_name i.name (file_names ds) ≡ false
    → length rest + length ds + 1 < 64
    → Asks (record { path = turned old; done = files_of ds }) (record { path = turned new; done = files_of ds }) i
code_asks {T} old rest ds file i next new n step e own far none_ room =
    let deep : length (path_names (turned rest)) ≡ length rest = path_length rest in
    let wide : length (files_of ds) ≡ length ds = length-map ds done_file in
    record {
      file = file.name;
      source = (under_way file).source;
      left = drop (file.taken + 1) file.source.imports.items;
      outer = turned rest;
      before =
          top_first old rest file n.top
          ∙ ap (λ (ls : List Import). record { name = file.name; source = (under_way file).source; left = ls } ∷ turned rest) (left_is old rest file i n);
      after = top_first new rest next e ∙ ap (λ (f : File T). under_way f ∷ turned rest) step;
      same = refl;
      wanted = record {
        new = record {
          off = or_none (bytes_eq i.name file.name) (has_name i.name (path_names (turned rest))) own (turned_names i.name rest ∙ far);
          open_ = done_names i.name ds ∙ none_;
        };
        room = omega arith;
      };
    }

-- how many files there are
pub count_files : {T : Type 0} (s : State T) → length (files_in s) ≡ length s.done + length s.path
count_files s = length-append s.done (map (λ f. (f.name, f.source)) s.path) ∙ ap (λ n. length s.done + n) (length-map s.path (λ f. (f.name, f.source)))

-- so many files the code has
pub count_code : {T : Type 0} (path done : List (File T)) (n : ℕ) → n ≡ length path + length done
    → n ≡ length (files_in (record { path = turned path; done = files_of done }))
count_code path done n is =
    let all : length (files_in (record { path = turned path; done = files_of done })) ≡ length (files_of done) + length (turned path) =
    count_files (record { path = turned path; done = files_of done }) in
    let deep : length (turned path) ≡ length path = length-reverse (map under_way path) ∙ length-map path under_way in
    let wide : length (files_of done) ≡ length done = length-map done done_file in
    omega (arith, all, deep, wide, is)

-- the innermost file is refused, and stays where it was
pub refuses_first : {T : Type 0} (old rest : List (File T)) (file : File T) (r : Refused) (s : State T) (ds : List (File T)) → old ≡ rest ++ file ∷ []
    → (code : Code) (place n : ℕ) → n ≡ length rest + length ds + 1 → r ≡ record { file = file.name; code = code; place = place; opened = n } → (code ≡ PJST0006) ⊎ (code ≡ PJST0008)
    → s.path ≡ turned (rest ++ file ∷ []) → s.done ≡ files_of ds → RefusesInnermost s r
refuses_first old rest file r s ds e code place n count told one back same_done = record {
  inner = under_way file;
  outer = turned rest;
  path = back ∙ top_first (rest ++ file ∷ []) rest file refl;
  file = ap (λ (q : Refused). q.file) told;
  code = by one;
  opened = ap (λ (q : Refused). q.opened) told ∙ many;
}
  where
    same : r.code ≡ code
    same = ap (λ (q : Refused). q.code) told

    many : n ≡ length (files_in s)
    many =
        let all : length (files_in s) ≡ length s.done + length s.path = count_files s in
        let deep : length s.path ≡ length (rest ++ file ∷ []) = ap length back ∙ length-reverse (map under_way (rest ++ file ∷ [])) ∙ length-map (rest ++ file ∷ []) under_way in
        let longer : length (rest ++ file ∷ []) ≡ length rest + 1 = length-append rest (file ∷ []) in
        let wide : length s.done ≡ length ds = ap length same_done ∙ length-map ds done_file in
        omega (arith, all, deep, longer, wide, count)

    by : (code ≡ PJST0006) ⊎ (code ≡ PJST0008) → (r.code ≡ PJST0006) ⊎ (r.code ≡ PJST0008)
    by (inl is) = inl (same ∙ is)
    by (inr is) = inr (same ∙ is)
