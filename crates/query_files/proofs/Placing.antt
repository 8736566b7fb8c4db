-- Where a place of all texts stands.
use Rattle.std.proofs.Common.{◌≡◌, ◌<◌, ◌≤◌, ◌+◌, ◌-◌, ℕ, zero, suc, nat_lt, Bool, true, false, List, [], ◌∷◌, length, map, get_or, Option, None, Some, refl, sym, ap, ◌∙◌, subst, arith, cond}
use Rattle.std.proofs.lemmas.Bool.Decides.{nat_tests}
use Rattle.item_reader.specs.Lines.{without_mark}
use Rattle.module_names.specs.Places.{start_of}
use Rattle.module_names.specs.declared.file_bytes.Kept.{Kept}
use Rattle.module_names.specs.declared.order.File.{File}
use Rattle.query_files.specs.Merged.{Place, query_text, place_in}
use Rattle.query_files.specs.inside.Places.{text_length, library_at, place_at}
use Rattle.query_files.specs.Found.{file_texts}

abbrev Files : Type 0
Files = List (File (Kept (Unit {0})))

pub query_is_last : (files : Files) (d : File (Kept (Unit {0}))) → 0 < length files → query_text (file_texts files) ≡ without_mark (get_or files (length files - 1) d).source.rest.contents
query_is_last [] d some = absurd (omega (arith, some))
query_is_last (f ∷ []) d some = refl
query_is_last (f ∷ g ∷ fs) d some =
    let place : length (f ∷ g ∷ fs) - 1 ≡ suc (length (g ∷ fs) - 1) = omega arith in
    query_is_last (g ∷ fs) d (omega arith)
    ∙ ap (λ (n : ℕ). without_mark (get_or (f ∷ g ∷ fs) n d).source.rest.contents) (sym place)

pub last_is : (files : Files) (text : List ℕ) → 0 < length files
    → ((d : File (Kept (Unit {0}))) → text ≡ without_mark (get_or files (length files - 1) d).source.rest.contents) → text ≡ query_text (file_texts files)
last_is [] text some h = absurd (omega (arith, some))
last_is (f ∷ fs) text some h = h f ∙ sym (query_is_last (f ∷ fs) f some)

pub library_is : (files : Files) (i : ℕ) (d : File (Kept (Unit {0}))) → i + 1 < length files → library_at files i ≡ Some (get_or files i d).name
library_is [] i d lt = absurd (omega (arith, lt))
library_is (f ∷ []) i d lt = absurd (omega (arith, lt))
library_is (f ∷ g ∷ fs) zero d lt = refl
library_is (f ∷ g ∷ fs) (suc i) d lt = library_is (g ∷ fs) i d (omega (arith, lt))

pub library_none : (files : Files) (i : ℕ) → i < length files → length files ≤ i + 1 → library_at files i ≡ None
library_none [] i lt le = refl
library_none (f ∷ []) i lt le = refl
library_none (f ∷ g ∷ fs) zero lt le = absurd (omega (arith, le))
library_none (f ∷ g ∷ fs) (suc i) lt le = library_none (g ∷ fs) i (omega (arith, lt)) (omega (arith, le))

abbrev there : Option (List ℕ) → List ℕ → ℕ → Place
there library text p = record { library = library; text = text; at = p }

in_first : (b : Bool) (x y : Place) → b ≡ true → cond b x y ≡ x
in_first true x y e = refl
in_first false x y e = absurd cc

in_later : (b : Bool) (x y : Place) → b ≡ false → cond b x y ≡ y
in_later true x y e = absurd cc
in_later false x y e = refl

located_is : (files : Files) (i p place : ℕ) (d : File (Kept (Unit {0}))) → i < length files
    → start_of (map text_length files) i + p ≡ place
    → ((j : ℕ) → i < j → j < length (map text_length files) → place < start_of (map text_length files) j)
    → place_at files i p d ≡ place_in (file_texts files) place
located_is [] i p place d within start last = absurd (omega (arith, within))
located_is (f ∷ []) zero p place d within start last =
    let same : p ≡ place = omega (arith, start) in
    ap (there None (without_mark f.source.rest.contents)) same
located_is (f ∷ []) (suc i) p place d within start last = absurd (omega (arith, within))
located_is (f ∷ g ∷ fs) zero p place d within start last =
    let below : place < text_length f + 0 = last 1 (omega arith) (omega arith) in
    let test : nat_lt place (text_length f) ≡ true = grind (arith, nat_tests, below) in
    let same : p ≡ place = omega (arith, start) in
    ap (there (Some f.name) (without_mark f.source.rest.contents)) same
    ∙ sym (in_first (nat_lt place (text_length f)) (there (Some f.name) (without_mark f.source.rest.contents) place) (place_in (file_texts (g ∷ fs)) (place - text_length f)) test)
located_is (f ∷ g ∷ fs) (suc i) p place d within start last =
    let test : nat_lt place (text_length f) ≡ false = grind (arith, nat_tests, start) in
    located_is (g ∷ fs) i p (place - text_length f) d (omega (arith, within)) (omega (arith, start))
    (λ j lt small. let far = last (suc j) (omega (arith, lt)) (omega (arith, small)) in omega (arith, far, start))
    ∙ sym (in_later (nat_lt place (text_length f)) (there (Some f.name) (without_mark f.source.rest.contents) place) (place_in (file_texts (g ∷ fs)) (place - text_length f)) test)

pub located_by : (files : Files) (lengths : List ℕ) (i p place : ℕ) (x : Place) → 0 < length files → ((d : File (Kept (Unit {0}))) → x ≡ place_at files i p d)
    → lengths ≡ map text_length files → i < length files → start_of lengths i + p ≡ place → ((j : ℕ) → i < j → j < length lengths → place < start_of lengths j)
    → x ≡ place_in (file_texts files) place
located_by [] lengths i p place x some is e within start last = absurd (omega (arith, some))
located_by (f ∷ fs) lengths i p place x some is e within start last =
    is f
    ∙ located_is (f ∷ fs) i p place f within (subst (λ (ls : List ℕ). start_of ls i + p ≡ place) e start)
    (subst (λ (ls : List ℕ). (j : ℕ) → i < j → j < length ls → place < start_of ls j) e last)
