-- Loading is what its rules say.
use Rattle.std.proofs.Common.{◌≡◌, ℕ, zero, suc, ◌+◌, ◌<◌, ◌≤◌, Bool, true, false, nat_lt, if◌then◌else◌, List, [], ◌∷◌, ◌++◌, length, Option, Some, None, option_map, Result, Ok, Err, refl, ap, ◌∙◌, arith, length-append}
use Rattle.std.proofs.lemmas.Bool.{ltb-true, ltb-false, lt-ltb, le-ltb}
use Rattle.item_tree.specs.declared.code.Code.TheVariants.{PJST0006, PJST0008}
use Rattle.module_names.specs.declared.head.Import.{Import}
use Rattle.module_names.specs.Loading.{Name, Refusal, Source, Unread, Sources, Files, has_name, refused, and_then, most_files, Onward, names_of, so_far, source_of, library_of, opened, import_one, import_all, load_below, loaded_query, loaded}
use Rattle.module_names.specs.Rules.{IsNew, IsWanted, IsLibrary, Takes, none, circle, again, full, missing, unread, body, stopped, library, Loads, no_query, query_unread, query_stopped, query_done}

module _ {T : Type 0} (sources : Sources T) where
  abbrev End : Type 0
  End = Result (Files T) Refusal

  -- one import by the answers to its tests
  abbrev by_room : Onward T → Name → List Name → Import → Files T → Bool → Option (Result (Source T) Unread) → End
  by_room onward file path i done b o = if b then opened onward file path i o done else refused file PJST0008 i.place (so_far (file ∷ path) done)

  abbrev by_done : Onward T → Name → List Name → Import → Files T → Bool → Bool → Option (Result (Source T) Unread) → End
  by_done onward file path i done d b o = if d then Ok done else by_room onward file path i done b o

  abbrev by_tests : Onward T → Name → List Name → Import → Files T → Bool → Bool → Bool → Option (Result (Source T) Unread) → End
  by_tests onward file path i done p d b o = if p then refused file PJST0006 i.place (so_far (file ∷ path) done) else by_done onward file path i done d b o

  abbrev has_room : List Name → Files T → Bool
  has_room path done = nat_lt (length path + length done) most_files

  new_is : (onward : Onward T) (file : Name) (path : List Name) (i : Import) (done : Files T) → IsNew file path i done
      → import_one sources onward file path i done
      ≡ by_room onward file path i done (has_room (file ∷ path) done) (source_of sources i.name)
  new_is onward file path i done n =
      ap (λ (p : Bool). by_tests onward file path i done p (has_name i.name (names_of done)) (has_room (file ∷ path) done) (source_of sources i.name)) n.off
      ∙ ap (λ (d : Bool). by_done onward file path i done d (has_room (file ∷ path) done) (source_of sources i.name)) n.open_

  wanted_is : (onward : Onward T) (file : Name) (path : List Name) (i : Import) (done : Files T) → IsWanted file path i done
      → import_one sources onward file path i done ≡ opened onward file path i (source_of sources i.name) done
  wanted_is onward file path i done w =
      new_is onward file path i done w.new
      ∙ ap (λ (b : Bool). by_room onward file path i done b (source_of sources i.name)) (lt-ltb (length (file ∷ path) + length done) most_files w.room)

  library_is : (onward : Onward T) (file : Name) (path : List Name) (i : Import) (done : Files T) (source : Source T) → IsWanted file path i done
      → IsLibrary sources i.name source
      → import_one sources onward file path i done ≡ onward i.name (file ∷ path) source done
  library_is onward file path i done source w l =
      wanted_is onward file path i done w
      ∙ ap (λ (o : Option (Result (Source T) Unread)). opened onward file path i o done) l.read
      ∙ ap (λ (o : Option ℕ). library_of onward i.name (file ∷ path) source o done) l.body

  -- there is room for what is done
  abbrev Within : ℕ → End → Type 0
  Within n (Ok fs) = n + length fs ≤ 64
  Within n (Err r) = Unit {0}

  record Computes (room : ℕ) (file : Name) (path : List Name) (is : List Import) (done : Files T) (end_ : End) : Type 0 where
    is_ : import_all sources (load_below sources room) file path is done ≡ end_
    within : Within (suc (length path)) end_

  abbrev goes_on : ℕ → Name → List Name → List Import → End → End
  goes_on room file path is r = and_then r (import_all sources (load_below sources room) file path is)

  stopped_below : (room : ℕ) (name : Name) (path : List Name) (source : Source T) (done : Files T) (r : Refusal)
      → import_all sources (load_below sources room) name path source.imports done ≡ Err r
      → load_below sources (suc room) name path source done ≡ Err r
  stopped_below room name path source done r h = ap (λ (e : End). and_then e (λ fs. Ok (fs ++ (name, source) ∷ []))) h

  done_below : (room : ℕ) (name : Name) (path : List Name) (source : Source T) (done fs : Files T)
      → import_all sources (load_below sources room) name path source.imports done ≡ Ok fs
      → load_below sources (suc room) name path source done ≡ Ok (fs ++ (name, source) ∷ [])
  done_below room name path source done fs h = ap (λ (e : End). and_then e (λ gs. Ok (gs ++ (name, source) ∷ []))) h

  -- what the rules say is computed
  computes : (room : ℕ) (file : Name) (path : List Name) (is : List Import) (done : Files T) (end_ : End)
      → Takes sources file path is done end_ → room + suc (length path) ≡ 64 → suc (length path) + length done ≤ 64
      → Computes room file path is done end_
  computes room _ _ _ _ _ (none file path done) e le = record { is_ = refl; within = le }
  computes room _ _ _ _ _ (circle file path i is done h) e le = record {
    is_ = ap (λ (p : Bool). goes_on room file path is (by_tests (load_below sources room) file path i done p (has_name i.name (names_of done)) (has_room (file ∷ path) done) (source_of sources i.name))) h;
    within = tt;
  }
  computes room _ _ _ _ _ (again file path i is done end_ off there more) e le =
      let rest : Computes room file path is done end_ = computes room file path is done end_ more e le in
      record {
        is_ =
            ap (λ (p : Bool). goes_on room file path is (by_tests (load_below sources room) file path i done p (has_name i.name (names_of done)) (has_room (file ∷ path) done) (source_of sources i.name))) off
            ∙ ap (λ (d : Bool). goes_on room file path is (by_done (load_below sources room) file path i done d (has_room (file ∷ path) done) (source_of sources i.name))) there
            ∙ rest.is_;
        within = rest.within;
      }
  computes room _ _ _ _ _ (full file path i is done new most) e le = record {
    is_ =
        ap (goes_on room file path is)
        (new_is (load_below sources room) file path i done new
        ∙ ap (λ (b : Bool). by_room (load_below sources room) file path i done b (source_of sources i.name)) (le-ltb (length (file ∷ path) + length done) most_files most));
    within = tt;
  }
  computes room _ _ _ _ _ (missing file path i is done w h) e le = record {
    is_ =
        ap (goes_on room file path is)
        (wanted_is (load_below sources room) file path i done w
        ∙ ap (λ (o : Option (Result (Source T) Unread)). opened (load_below sources room) file path i o done) h);
    within = tt;
  }
  computes room _ _ _ _ _ (unread file path i is done u w h) e le = record {
    is_ =
        ap (goes_on room file path is)
        (wanted_is (load_below sources room) file path i done w
        ∙ ap (λ (o : Option (Result (Source T) Unread)). opened (load_below sources room) file path i o done) h);
    within = tt;
  }
  computes room _ _ _ _ _ (body file path i is done source place w h b) e le = record {
    is_ =
        ap (goes_on room file path is)
        (wanted_is (load_below sources room) file path i done w
        ∙ ap (λ (o : Option (Result (Source T) Unread)). opened (load_below sources room) file path i o done) h
        ∙ ap (λ (o : Option ℕ). library_of (load_below sources room) i.name (file ∷ path) source o done) b);
    within = tt;
  }
  computes zero _ _ _ _ _ (stopped file path i is done source r w l below) e le =
      let room : suc (length path) + length done < 64 = w.room in absurd (omega arith)
  computes (suc room) _ _ _ _ _ (stopped file path i is done source r w l below) e le =
      let lt : suc (length path) + length done < 64 = w.room in
      let deeper : room + suc (length (file ∷ path)) ≡ 64 = omega arith in
      let fits : suc (length (file ∷ path)) + length done ≤ 64 = omega arith in
      let inner : Computes room i.name (file ∷ path) source.imports done (Err r) =
      computes room i.name (file ∷ path) source.imports done (Err r) below deeper fits in
      record {
        is_ =
            ap (goes_on (suc room) file path is)
            (library_is (load_below sources (suc room)) file path i done source w l
            ∙ stopped_below room i.name (file ∷ path) source done r inner.is_);
        within = tt;
      }
  computes zero _ _ _ _ _ (library file path i is done source fs end_ w l below more) e le =
      let room : suc (length path) + length done < 64 = w.room in absurd (omega arith)
  computes (suc room) _ _ _ _ _ (library file path i is done source fs end_ w l below more) e le =
      let lt : suc (length path) + length done < 64 = w.room in
      let deeper : room + suc (length (file ∷ path)) ≡ 64 = omega arith in
      let fits : suc (length (file ∷ path)) + length done ≤ 64 = omega arith in
      let inner : Computes room i.name (file ∷ path) source.imports done (Ok fs) =
      computes room i.name (file ∷ path) source.imports done (Ok fs) below deeper fits in
      let inside : suc (suc (length path)) + length fs ≤ 64 = inner.within in
      let long : length (fs ++ (i.name, source) ∷ []) ≡ length fs + 1 = length-append fs ((i.name, source) ∷ []) in
      let after : suc (length path) + length (fs ++ (i.name, source) ∷ []) ≤ 64 = omega arith in
      let rest : Computes (suc room) file path is (fs ++ (i.name, source) ∷ []) end_ =
      computes (suc room) file path is (fs ++ (i.name, source) ∷ []) end_ more e after in
      record {
        is_ =
            ap (goes_on (suc room) file path is)
            (library_is (load_below sources (suc room)) file path i done source w l
            ∙ done_below room i.name (file ∷ path) source done fs inner.is_)
            ∙ rest.is_;
        within = rest.within;
      }

  -- what was done leaves room
  stays : (file : Name) (path : List Name) (is : List Import) (done : Files T) (end_ : End) → Takes sources file path is done end_
      → suc (length path) + length done ≤ 64 → Within (suc (length path)) end_
  stays _ _ _ _ _ (none file path done) le = le
  stays _ _ _ _ _ (circle file path i is done h) le = tt
  stays _ _ _ _ _ (again file path i is done end_ off there more) le = stays file path is done end_ more le
  stays _ _ _ _ _ (full file path i is done new most) le = tt
  stays _ _ _ _ _ (missing file path i is done w h) le = tt
  stays _ _ _ _ _ (unread file path i is done u w h) le = tt
  stays _ _ _ _ _ (body file path i is done source place w h b) le = tt
  stays _ _ _ _ _ (stopped file path i is done source r w l below) le = tt
  stays _ _ _ _ _ (library file path i is done source fs end_ w l below more) le =
      let lt : suc (length path) + length done < 64 = w.room in
      let fits : suc (length (file ∷ path)) + length done ≤ 64 = omega arith in
      let inside : suc (suc (length path)) + length fs ≤ 64 = stays i.name (file ∷ path) source.imports done (Ok fs) below fits in
      let long : length (fs ++ (i.name, source) ∷ []) ≡ length fs + 1 = length-append fs ((i.name, source) ∷ []) in
      stays file path is (fs ++ (i.name, source) ∷ []) end_ more (omega arith)

  -- a file whose imports were taken
  data Ends (name : Name) (path : List Name) (source : Source T) (done : Files T) : End → Type 0 where
    halts : (r : Refusal) → Takes sources name path source.imports done (Err r) → Ends name path source done (Err r)
    ends : (fs : Files T) → Takes sources name path source.imports done (Ok fs) → Ends name path source done (Ok (fs ++ (name, source) ∷ []))

  ended : (name : Name) (path : List Name) (source : Source T) (done : Files T) (e : End) → Takes sources name path source.imports done e
      → Ends name path source done (and_then e (λ fs. Ok (fs ++ (name, source) ∷ [])))
  ended name path source done (Ok fs) t = ends fs t
  ended name path source done (Err r) t = halts r t

  abbrev Deeper : ℕ → Type 0
  Deeper room = (name : Name) (path : List Name) (source : Source T) (done : Files T) → room + length path ≡ 64
      → suc (length path) + length done ≤ 64 → Ends name path source done (load_below sources room name path source done)

  -- what is computed is what the rules say
  module _ (room : ℕ) (deeper : Deeper room) (file : Name) (path : List Name) (e : room + suc (length path) ≡ 64) where
    abbrev Rest : List Import → Type 0
    Rest is = (gs : Files T) → suc (length path) + length gs ≤ 64
        → Takes sources file path is gs (import_all sources (load_below sources room) file path is gs)

    abbrev Said : Import → List Import → Files T → End → Type 0
    Said i is done one = Takes sources file path (i ∷ is) done (goes_on room file path is one)

    ends_case : (i : Import) (is : List Import) (done : Files T) (source : Source T) → IsWanted file path i done → IsLibrary sources i.name source
        → Rest is → (one : End) → Ends i.name (file ∷ path) source done one → Said i is done one
    ends_case i is done source w l rest _ (halts r t) = stopped file path i is done source r w l t
    ends_case i is done source w l rest _ (ends fs t) =
        let lt : suc (length path) + length done < 64 = w.room in
        let fits : suc (length (file ∷ path)) + length done ≤ 64 = omega arith in
        let inside : suc (suc (length path)) + length fs ≤ 64 = stays i.name (file ∷ path) source.imports done (Ok fs) t fits in
        let long : length (fs ++ (i.name, source) ∷ []) ≡ length fs + 1 = length-append fs ((i.name, source) ∷ []) in
        library file path i is done source fs (import_all sources (load_below sources room) file path is (fs ++ (i.name, source) ∷ []))
        w l t (rest (fs ++ (i.name, source) ∷ []) (omega arith))

    body_case : (i : Import) (is : List Import) (done : Files T) (source : Source T) → IsWanted file path i done
        → source_of sources i.name ≡ Some (Ok source) → Rest is → (o : Option ℕ) → source.body ≡ o
        → Said i is done (library_of (load_below sources room) i.name (file ∷ path) source o done)
    body_case i is done source w read rest (Some place) b = body file path i is done source place w read b
    body_case i is done source w read rest None b =
        let lt : suc (length path) + length done < 64 = w.room in
        let fits : suc (length (file ∷ path)) + length done ≤ 64 = omega arith in
        ends_case i is done source w (record { read = read; body = b }) rest (load_below sources room i.name (file ∷ path) source done)
        (deeper i.name (file ∷ path) source done e fits)

    read_case : (i : Import) (is : List Import) (done : Files T) → IsWanted file path i done → Rest is
        → (o : Option (Result (Source T) Unread)) → source_of sources i.name ≡ o
        → Said i is done (opened (load_below sources room) file path i o done)
    read_case i is done w rest None h = missing file path i is done w h
    read_case i is done w rest (Some (Err u)) h = unread file path i is done u w h
    read_case i is done w rest (Some (Ok source)) h = body_case i is done source w h rest source.body refl

    room_case : (i : Import) (is : List Import) (done : Files T) → IsNew file path i done → Rest is
        → (b : Bool) → has_room (file ∷ path) done ≡ b
        → Said i is done (by_room (load_below sources room) file path i done b (source_of sources i.name))
    room_case i is done new rest true h =
        read_case i is done (record { new = new; room = ltb-true (length (file ∷ path) + length done) most_files h }) rest (source_of sources i.name) refl
    room_case i is done new rest false h = full file path i is done new (ltb-false (length (file ∷ path) + length done) most_files h)

    done_case : (i : Import) (is : List Import) (done : Files T) → suc (length path) + length done ≤ 64 → Rest is
        → has_name i.name (file ∷ path) ≡ false → (d : Bool) → has_name i.name (names_of done) ≡ d
        → Said i is done (by_done (load_below sources room) file path i done d (has_room (file ∷ path) done) (source_of sources i.name))
    done_case i is done le rest off true h =
        again file path i is done (import_all sources (load_below sources room) file path is done) off h (rest done le)
    done_case i is done le rest off false h =
        room_case i is done (record { off = off; open_ = h }) rest (has_room (file ∷ path) done) refl

    path_case : (i : Import) (is : List Import) (done : Files T) → suc (length path) + length done ≤ 64 → Rest is
        → (p : Bool) → has_name i.name (file ∷ path) ≡ p
        → Said i is done (by_tests (load_below sources room) file path i done p (has_name i.name (names_of done)) (has_room (file ∷ path) done) (source_of sources i.name))
    path_case i is done le rest true h = circle file path i is done h
    path_case i is done le rest false h = done_case i is done le rest h (has_name i.name (names_of done)) refl

    said_all : (is : List Import) → Rest is
    said_all [] = λ done le. none file path done
    said_all (i ∷ is) = λ done le. path_case i is done le (said_all is) (has_name i.name (file ∷ path)) refl

  deeper_at : (room : ℕ) → Deeper room
  deeper_at zero = λ name path source done e le. absurd (omega arith)
  deeper_at (suc room) = λ name path source done e le.
      let below : room + suc (length path) ≡ 64 = omega arith in
      ended name path source done (import_all sources (load_below sources room) name path source.imports done)
      (said_all room (deeper_at room) name path below source.imports done le)

  module _ (query : Name) where
    loads_ends : (source : Source T) → source_of sources query ≡ Some (Ok source) → (one : End) → Ends query [] source [] one
        → Loads sources query (Some one)
    loads_ends source h _ (halts r t) = query_stopped source r h t
    loads_ends source h _ (ends fs t) = query_done source fs h t

    loads_case : (o : Option (Result (Source T) Unread)) → source_of sources query ≡ o
        → Loads sources query (option_map (loaded_query sources query) o)
    loads_case None h = no_query h
    loads_case (Some (Err u)) h = query_unread u h
    loads_case (Some (Ok source)) h =
        loads_ends source h (load_below sources 64 query [] source []) (deeper_at 64 query [] source [] refl (omega arith))

    pub said : Loads sources query (loaded sources query)
    said = loads_case (source_of sources query) refl

    pub only : (end_ : Option End) → Loads sources query end_ → loaded sources query ≡ end_
    only _ (no_query h) = ap (option_map (loaded_query sources query)) h
    only _ (query_unread u h) = ap (option_map (loaded_query sources query)) h
    only _ (query_stopped source r h t) =
        ap (option_map (loaded_query sources query)) h
        ∙ ap (λ (one : End). Some one)
        (stopped_below 63 query [] source [] r (computes 63 query [] source.imports [] (Err r) t refl (omega arith)).is_)
    only _ (query_done source fs h t) =
        ap (option_map (loaded_query sources query)) h
        ∙ ap (λ (one : End). Some one)
        (done_below 63 query [] source [] fs (computes 63 query [] source.imports [] (Ok fs) t refl (omega arith)).is_)
