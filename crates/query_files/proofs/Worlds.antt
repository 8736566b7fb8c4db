-- The files of a world, each read alone: they have one reading, and it is what any reader says.
use Rattle.std.proofs.Common.{◌≡◌, inl, inr, ℕ, List, [], ◌∷◌, Bool, true, false, None, Some, Result, Ok, Err, refl, sym, ap, ap₂, ◌∙◌, subst, cond, rules}
use Rattle.std.specs.Prelude.{IfSome}
use Rattle.std.specs.Str.{IsValidUpTo, bytes_eq}
use Rattle.item_tree.specs.declared.code.Code.TheVariants.{XPST0003, PJST0005}
use Rattle.item_reader.specs.Lines.{without_mark}
use Rattle.outside.specs.World.{World, file_of}
use Rattle.module_names.specs.Alone.{Answer, Reader, IsRead, ComesTo, AreSources}
use Rattle.module_names.specs.Loading.{Name, Source, Unread, Sources, source_of}
use Rattle.module_names.specs.Remaining.{source_view}
use Rattle.module_names.specs.declared.alone.Unread.TheVariants as alone
use Rattle.module_names.specs.declared.file_bytes.Kept.{Kept}
use Rattle.query_files.specs.Files.{Reading, unread, IsReadText, BreaksAt, IsReading, AreReadings, kept_reading}
use Rattle.query_files.specs.Seen.{reading_of}
use Rattle.query_files.proofs.Readings.{reading_is, only_reading}

-- ---- there are readings, and no others

pub readings_are : (world : World) → (sources : Sources (Kept (Unit {0}))) × AreReadings world sources
readings_are [] = ([], refl)
readings_are (f ∷ fs) =
    let own = reading_is f.1 in
    let rest = readings_are fs in
    ((f.0, kept_reading f.1 own.0) ∷ rest.0, (own.0, rest.0, own.1, rest.1, refl))

pub only_readings : (world : World) (sources others : Sources (Kept (Unit {0}))) → AreReadings world sources → AreReadings world others → sources ≡ others
only_readings [] sources others e f = e ∙ sym f
only_readings (w ∷ ws) sources others (r, rest, is, are, e) (s, more, it, were, f) =
    e
    ∙ ap₂ (λ (x : Reading) (xs : Sources (Kept (Unit {0}))). (w.0, kept_reading w.1 x) ∷ xs) (only_reading w.1 r s is it) (only_readings ws rest more are were)
    ∙ sym f

-- what a file comes to is the reading of some bytes beside them
pub source_of_reading : (world : World) (sources : Sources (Kept (Unit {0}))) → AreReadings world sources → (name : Name) (end_ : Result (Source (Kept (Unit {0}))) Unread)
    → source_of sources name ≡ Some end_ → (bytes : List ℕ) × (r : Reading) × IsReading bytes r × (end_ ≡ kept_reading bytes r)
source_of_reading [] sources are name end_ there = absurd (none_there (sym (ap (λ (ss : Sources (Kept (Unit {0}))). source_of ss name) are) ∙ there))
  where
    none_there : None ≡ Some end_ → ⊥
    none_there e = search rules
source_of_reading (w ∷ ws) sources (r, rest, is, are, e) name end_ there =
    by (bytes_eq w.0 name) (source_of_reading ws rest are name end_) (sym (ap (λ (ss : Sources (Kept (Unit {0}))). source_of ss name) e) ∙ there)
  where
    by : (b : Bool) → (source_of rest name ≡ Some end_ → (bytes : List ℕ) × (s : Reading) × IsReading bytes s × (end_ ≡ kept_reading bytes s))
        → cond b (Some (kept_reading w.1 r)) (source_of rest name) ≡ Some end_
        → (bytes : List ℕ) × (s : Reading) × IsReading bytes s × (end_ ≡ kept_reading bytes s)
    by true more own = (w.1, r, is, same)
      where
        same : end_ ≡ kept_reading w.1 r
        same = cc
    by false more own = more own

-- ---- what a reader says

module _ (reads : Reader (Unit {0})) (says : (text : List ℕ) (answer : Answer (Unit {0})) → reads text answer → IfSome (reading_of answer) (λ r. IsReadText text r)) where
  -- bytes that are no UTF-8 at a place
  broken : (bytes : List ℕ) (place : ℕ) → IsValidUpTo bytes place → BreaksAt bytes place
  broken bytes place v = record { short = v.short; before = v.front; longest = v.longest }

  -- an answer that is no want of memory is the reading
  reading_said : (bytes : List ℕ) (answer : Answer (Unit {0})) (r : Reading) → reading_of answer ≡ Some r → IsRead reads bytes answer → IsReading bytes r
  reading_said bytes answer r is (inl (long, e)) =
      inl (long, same)
    where
      same : r ≡ unread PJST0005 0
      same = let s : Some r ≡ Some (unread PJST0005 0) = sym is ∙ ap reading_of e in cc
  reading_said bytes answer r is (inr (short, inl (place, v, e))) =
      inr (short, inl (place, broken (without_mark bytes) place v, same))
    where
      same : r ≡ unread XPST0003 place
      same = let s : Some r ≡ Some (unread XPST0003 place) = sym is ∙ ap reading_of e in cc
  reading_said bytes answer r is (inr (short, inr (u, told))) =
      inr (short, inr (u, subst (λ o. IfSome o (λ q. IsReadText (without_mark bytes) q)) is (says (without_mark bytes) answer told)))

  -- what it comes to is the reading beside the bytes
  end_said : (bytes : List ℕ) (answer : Answer (Unit {0})) (end_ : Result (Source (Kept (Unit {0}))) Unread) → IsRead reads bytes answer → ComesTo bytes answer end_
      → (r : Reading) × IsReading bytes r × (end_ ≡ kept_reading bytes r)
  end_said bytes (Ok source) end_ is e = (Ok (source_view source), reading_said bytes (Ok source) (Ok (source_view source)) refl is, e)
  end_said bytes (Err (alone.Refused code place)) end_ is e =
      (unread code place, reading_said bytes (Err (alone.Refused code place)) (unread code place) refl is, e)
  end_said bytes (Err alone.NoMemory) end_ is e = absurd e

  missing_there : (world : World) (sources : Sources (Kept (Unit {0}))) → AreReadings world sources → (name : Name) → file_of world name ≡ None → source_of sources name ≡ None
  missing_there [] sources are name none = ap (λ (ss : Sources (Kept (Unit {0}))). source_of ss name) are
  missing_there (w ∷ ws) sources (r, rest, is, are, e) name none =
      ap (λ (ss : Sources (Kept (Unit {0}))). source_of ss name) e
      ∙ by (bytes_eq w.0 name) (missing_there ws rest are name) none
    where
      by : (b : Bool) → (file_of ws name ≡ None → source_of rest name ≡ None) → cond b (Some w.1) (file_of ws name) ≡ None
          → cond b (Some (kept_reading w.1 r)) (source_of rest name) ≡ None
      by true more e = absurd cc
      by false more e = more e

  pub source_there : (world : World) (sources : Sources (Kept (Unit {0}))) → AreReadings world sources → (name : Name) (bytes : List ℕ) → file_of world name ≡ Some bytes
      → (r : Reading) × IsReading bytes r × (source_of sources name ≡ Some (kept_reading bytes r))
  source_there [] sources are name bytes there = absurd cc
  source_there (w ∷ ws) sources (r, rest, is, are, e) name bytes there =
      by (bytes_eq w.0 name) refl (λ own. source_there ws rest are name bytes own) there
    where
      by : (b : Bool) → bytes_eq w.0 name ≡ b
          → (file_of ws name ≡ Some bytes → (s : Reading) × IsReading bytes s × (source_of rest name ≡ Some (kept_reading bytes s)))
          → cond b (Some w.1) (file_of ws name) ≡ Some bytes
          → (s : Reading) × IsReading bytes s × (source_of sources name ≡ Some (kept_reading bytes s))
      by true test more own =
          let same : w.1 ≡ bytes = cc in (
            r,
            subst (λ (bs : List ℕ). IsReading bs r) same is,
            ap (λ (ss : Sources (Kept (Unit {0}))). source_of ss name) e
                ∙ ap (λ (b : Bool). cond b (Some (kept_reading w.1 r)) (source_of rest name)) test
                ∙ ap (λ (bs : List ℕ). Some (kept_reading bs r)) same,
          )
      by false test more own =
          let (s, it, found) = more own in (
            s,
            it,
            ap (λ (ss : Sources (Kept (Unit {0}))). source_of ss name) e
                ∙ ap (λ (b : Bool). cond b (Some (kept_reading w.1 r)) (source_of rest name)) test
                ∙ found,
          )

  pub are_sources : (world : World) (sources : Sources (Kept (Unit {0}))) → AreReadings world sources → AreSources reads world sources
  are_sources world sources are = record {
    missing = missing_there world sources are;
    read = λ name bytes answer end_ there is comes.
        let (r, own, found) = source_there world sources are name bytes there in
        let (s, it, e) = end_said bytes answer end_ is comes in
        found ∙ ap (λ (x : Reading). Some (kept_reading bytes x)) (only_reading bytes r s own it) ∙ ap Some (sym e);
  }
