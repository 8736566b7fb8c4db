-- Cuts of tables.
use Rattle.std.proofs.Common.{◌≡◌, ◌≢◌, ℕ, zero, suc, ◌<◌, ◌≤◌, List, [], ◌∷◌, ◌++◌, length, take, drop, Result, Ok, Err, Vec, refl, sym, ap, ◌∙◌, subst, append-nil, append_assoc, arith, length-drop, length-append, ◌+◌}
use Rattle.std.proofs.lemmas.List.{take_all, drop_all, take-append-le, drop-append-le, take-append-drop, map-append, length-map}
use Rattle.std.specs.Result.{IfOk}
use Rattle.std.specs.declared.alloc.Global.{Global}
use Rattle.item_tree.specs.declared.fault.NoMemory.{NoMemory}
use Rattle.tuple_rows.specs.declared.tuple.Tuple.{Tuple}
use Rattle.tuple_rows.specs.Tuples.{Row, Table, AllOfWidth, sequences, row_list}
use Rattle.tuple_rows.specs.Cuts.{IsCut, EndsCut, all_tuples, CutsAreWhole}

cut_within : (width size n : ℕ) (ts : List Row) → 0 < size → length ts ≤ n
    → (ps : List Table) × IsCut width size ts ps
cut_within width size n [] lt le = ([], refl)
cut_within width size zero (t ∷ ts) lt le = absurd (omega arith)
cut_within width size (suc n) (t ∷ ts) lt le =
    let rest = cut_within width size n (drop size (t ∷ ts)) lt (omega (arith, length-drop size (t ∷ ts))) in
    (record { width = width; tuples = take size (t ∷ ts) } ∷ rest.0, ((λ e. absurd cc), refl, rest.1))

only : (width size : ℕ) (ts : List Row) (ps qs : List Table) → IsCut width size ts ps
    → IsCut width size ts qs → ps ≡ qs
only width size ts [] [] a b = refl
only width size ts [] (q ∷ qs) a b = absurd (b.0 a)
only width size ts (p ∷ ps) [] a b = absurd (a.0 b)
only width size ts (p ∷ ps) (q ∷ qs) a b =
    let tail = only width size (drop size ts) ps qs (a.2) (b.2) in
    (λ i. (a.1 ∙ sym (b.1)) i ∷ tail i)

whole : (width size : ℕ) (ts : List Row) (ps : List Table) → IsCut width size ts ps → all_tuples ps ≡ ts
whole width size ts [] a = sym a
whole width size ts (p ∷ ps) a =
    ap (λ (t : Table). t.tuples ++ all_tuples ps) (a.1)
    ∙ ap (λ (us : List Row). take size ts ++ us) (whole width size (drop size ts) ps (a.2))
    ∙ take-append-drop size ts

pub cuts_whole : CutsAreWhole
cuts_whole = record {
  exists = λ width size ts lt. cut_within width size (length ts) ts lt (omega arith);
  only = only;
  whole = whole;
}

-- what is left to be cut, behind the tables that are whole
abbrev pub CutsOn : (width size : ℕ) → List Row → List Table → List Row → Type 0
CutsOn width size all tables left = (ps : List Table) → IsCut width size left ps → IsCut width size all (tables ++ ps)

full_front : (size : ℕ) (front back : List Row) → length front ≡ size → take size (front ++ back) ≡ front
full_front size front back e = take-append-le size front back (omega arith) ∙ take_all size front (omega arith)

full_back : (size : ℕ) (front back : List Row) → length front ≡ size → drop size (front ++ back) ≡ back
full_back size front back e =
    drop-append-le size front back (omega arith) ∙ ap (λ (us : List Row). us ++ back) (drop_all size front (omega arith))

some_front : (front back : List Row) → 0 < length front → front ++ back ≢ []
some_front [] back lt e = absurd (omega arith)
some_front (t ∷ front) back lt e = absurd cc

-- one more table is whole
pub one_whole : (width size : ℕ) (all : List Row) (tables : List Table) (front back : List Row) → 0 < size
    → length front ≡ size → CutsOn width size all tables (front ++ back)
    → CutsOn width size all (tables ++ record { width = width; tuples = front } ∷ []) back
one_whole width size all tables front back lt e on ps cut =
    let t : Table = record { width = width; tuples = front } in
    subst (λ (us : List Table). IsCut width size all us) (sym (append_assoc tables (t ∷ []) ps))
    (on (t ∷ ps) (
      some_front front back (omega arith),
      ap (λ (us : List Row). record { width = width; tuples = us }) (sym (full_front size front back e)),
      subst (λ (us : List Row). IsCut width size us ps) (sym (full_back size front back e)) cut,
    ))

-- nothing is left but a piece that is not full
pub ended : (width size : ℕ) (all piece : List Row) (tables result : List Table) → length piece ≤ size
    → CutsOn width size all tables (piece ++ []) → EndsCut width piece tables result
    → IsCut width size all result
ended width size all [] tables result le on end =
    subst (λ (us : List Table). IsCut width size all us) (append-nil tables ∙ sym end) (on [] refl)
ended width size all (t ∷ ts) tables result le on end =
    let p : Table = record { width = width; tuples = t ∷ ts } in
    subst (λ (us : List Table). IsCut width size all us) (sym end)
    (on (p ∷ []) (
      (λ e. absurd cc),
      ap (λ (us : List Row). record { width = width; tuples = us })
          (sym (ap (take size) (append-nil (t ∷ ts)) ∙ take_all size (t ∷ ts) le)),
      ap (drop size) (append-nil (t ∷ ts)) ∙ drop_all size (t ∷ ts) le,
    ))

-- widths along lists
pub width-append : (width : ℕ) (ts us : List Row) → AllOfWidth width ts → AllOfWidth width us
    → AllOfWidth width (ts ++ us)
width-append width [] us a b = b
width-append width (t ∷ ts) us a b = (a.0, width-append width ts us (a.1) b)

pub width_front : (width : ℕ) (ts us : List Row) → AllOfWidth width (ts ++ us) → AllOfWidth width ts
width_front width [] us a = tt
width_front width (t ∷ ts) us a = (a.0, width_front width ts us (a.1))

pub width_back : (width : ℕ) (ts us : List Row) → AllOfWidth width (ts ++ us) → AllOfWidth width us
width_back width [] us a = a
width_back width (t ∷ ts) us a = width_back width ts us (a.1)

-- one tuple more, and more tuples
pub width_pushed : (width : ℕ) (old new : List Tuple) (t : Tuple) → new ≡ old ++ t ∷ []
    → AllOfWidth width (row_list old) → length (sequences t) ≡ width → AllOfWidth width (row_list new)
width_pushed width old new t e a l =
    subst (λ (us : List Row). AllOfWidth width us) (sym (ap row_list e ∙ map-append sequences old (t ∷ [])))
    (width-append width (row_list old) (sequences t ∷ []) a (l, tt))

pub width_appended : (width : ℕ) (old more new : List Tuple) → new ≡ old ++ more
    → AllOfWidth width (row_list old) → AllOfWidth width (row_list more) → AllOfWidth width (row_list new)
width_appended width old more new e a b =
    subst (λ (us : List Row). AllOfWidth width us) (sym (ap row_list e ∙ map-append sequences old more))
    (width-append width (row_list old) (row_list more) a b)

-- a loop that cuts: the tables that are whole, the piece that is not, and what is still to come
pub record Cutting (width size : ℕ) (all : List Row) (whole : List Table) (piece left : List Tuple) : Type 0 where
  pub on : CutsOn width size all whole (row_list piece ++ row_list left)
  pub room : length piece < size
  pub piece_width : AllOfWidth width (row_list piece)
  pub left_width : AllOfWidth width (row_list left)

pub cut_starts : (width size : ℕ) (all left piece : List Tuple) (whole : List Table) → 0 < size → all ≡ left → piece ≡ [] → whole ≡ []
    → AllOfWidth width (row_list all) → Cutting width size (row_list all) whole piece left
cut_starts width size all left piece whole lt e p w a = record {
  on = λ ps cut. subst (λ (us : List Table). IsCut width size (row_list all) (us ++ ps)) (sym w)
      (subst (λ (us : List Row). IsCut width size us ps) (ap (λ (us : List Tuple). row_list us ++ row_list left) p ∙ ap row_list (sym e)) cut);
  room = subst (λ (us : List Tuple). length us < size) (sym p) lt;
  piece_width = subst (λ (us : List Tuple). AllOfWidth width (row_list us)) (sym p) tt;
  left_width = subst (λ (us : List Tuple). AllOfWidth width (row_list us)) e a;
}

-- one tuple goes into the piece
one_put : (width size : ℕ) (all : List Row) (whole : List Table) (piece next left rest : List Tuple) (t : Tuple)
    → Cutting width size all whole piece left → left ≡ t ∷ rest → next ≡ piece ++ t ∷ []
    → CutsOn width size all whole (row_list next ++ row_list rest) × AllOfWidth width (row_list next) × AllOfWidth width (row_list rest)
one_put width size all whole piece next left rest t c e n =
    let widths : AllOfWidth width (row_list (t ∷ rest)) = subst (λ (us : List Tuple). AllOfWidth width (row_list us)) e (c.left_width) in (
      (λ ps cut. c.on ps (subst (λ (us : List Row). IsCut width size us ps)
          (ap (λ (us : List Tuple). row_list us ++ row_list rest) n
          ∙ ap (λ (us : List Row). us ++ row_list rest) (map-append sequences piece (t ∷ []))
          ∙ append_assoc (row_list piece) (sequences t ∷ []) (row_list rest)
          ∙ ap (λ (us : List Tuple). row_list piece ++ row_list us) (sym e)) cut)),
      width_pushed width piece next t n (c.piece_width) (widths.0),
      widths.1,
    )

pub cut_stays : (width size : ℕ) (all : List Row) (whole : List Table) (piece next left rest : List Tuple) (t : Tuple)
    → Cutting width size all whole piece left → left ≡ t ∷ rest → next ≡ piece ++ t ∷ [] → length next ≢ size
    → Cutting width size all whole next rest
cut_stays width size all whole piece next left rest t c e n d =
    let put = one_put width size all whole piece next left rest t c e n in
    let l : length next ≡ length piece + 1 = ap length n ∙ length-append piece (t ∷ []) in
    let below : length piece < size = c.room in
    record { on = put.0; room = omega arith; piece_width = put.1; left_width = put.2 }

pub cut_fills : (width size : ℕ) (all : List Row) (whole tables : List Table) (piece next empty left rest : List Tuple) (t : Tuple)
    → 0 < size → Cutting width size all whole piece left → left ≡ t ∷ rest → next ≡ piece ++ t ∷ [] → length next ≡ size
    → tables ≡ whole ++ record { width = width; tuples = row_list next } ∷ [] → empty ≡ []
    → Cutting width size all tables empty rest
cut_fills width size all whole tables piece next empty left rest t lt c e n l w m =
    let put = one_put width size all whole piece next left rest t c e n in
    record {
      on = subst (λ (us : List Table). CutsOn width size all us (row_list empty ++ row_list rest)) (sym w)
          (subst (λ (us : List Tuple). CutsOn width size all (whole ++ record { width = width; tuples = row_list next } ∷ []) (row_list us ++ row_list rest)) (sym m)
          (one_whole width size all whole (row_list next) (row_list rest) lt (length-map next sequences ∙ l) (put.0)));
      room = subst (λ (us : List Tuple). length us < size) (sym m) lt;
      piece_width = subst (λ (us : List Tuple). AllOfWidth width (row_list us)) (sym m) tt;
      left_width = put.2;
    }

pub cut_ends : (width size : ℕ) (all : List Row) (whole result : List Table) (piece left : List Tuple)
    → Cutting width size all whole piece left → left ≡ [] → EndsCut width (row_list piece) whole result
    → IsCut width size all result
cut_ends width size all whole result piece left c e end =
    let below : length piece < size = c.room in
    ended width size all (row_list piece) whole result (omega (arith, length-map piece sequences))
    (subst (λ (us : List Tuple). CutsOn width size all whole (row_list piece ++ row_list us)) e (c.on)) end

pub put_width : (width size : ℕ) (all : List Row) (whole : List Table) (piece next left rest : List Tuple) (t : Tuple)
    → Cutting width size all whole piece left → left ≡ t ∷ rest → next ≡ piece ++ t ∷ []
    → AllOfWidth width (row_list next)
put_width width size all whole piece next left rest t c e n = (one_put width size all whole piece next left rest t c e n).1

pub cut_result : (width size : ℕ) (all : List Row) (whole : List Table) (piece left : List Tuple) (r : Result (Vec Table Global) NoMemory)
    → Cutting width size all whole piece left → left ≡ [] → IfOk r (λ v. EndsCut width (row_list piece) whole v.items)
    → IfOk r (λ v. IsCut width size all v.items)
cut_result width size all whole piece left (Ok v) c e end = cut_ends width size all whole v.items piece left c e end
cut_result width size all whole piece left (Err e') c e end = tt
