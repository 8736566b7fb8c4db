-- What a driver opens, over a world whose files are told.
use Rattle.std.proofs.Common.{◌≡◌, ◌<◌, ◌≤◌, ◌+◌, ◌*◌, ℕ, suc, List, [], ◌∷◌, length, map, Option, None, Some, refl, sym, ap, ap₂, ◌∙◌, subst, arith}
use Rattle.std.specs.Prelude.{IfSome}
use Rattle.std.proofs.Math.Nat.{mul-suc, le-mul_of_pos_right}
use Rattle.outside.specs.World.{World, file_of}
use Rattle.line_pieces.specs.Cuts.{HaveLengths, size_used, pieces_of}
use Rattle.driver_files.specs.Driver.{told_files}
use Rattle.driver_files.specs.Seats.{and_files, cutting_of, driver_opens, files_of, found_before, one_more, opens_of, opens_or, pieces_in_all, seats_of}

-- each of these names is there, and these are the lengths of the files
pub record AllThere (w : World) (names : List (List ℕ)) (lengths : List ℕ) : Type 0 where
  pub files : List (List ℕ)
  pub there : files_of w names ≡ Some files
  pub are : lengths ≡ map length files

there_step : (w : World) (name : List ℕ) (names : List (List ℕ)) (n : ℕ) (ns : List ℕ) (file : Option (List ℕ)) → file_of w name ≡ file
    → one_more file (found_before w names) ≡ length (name ∷ names) → IfSome file (λ b. n ≡ length b) → (found_before w names ≡ length names → AllThere w names ns)
    → AllThere w (name ∷ names) (n ∷ ns)
there_step w name names n ns None is f l rest = absurd (omega arith)
there_step w name names n ns (Some b) is f l rest =
    let all = rest (omega arith) in
    record {
      files = b ∷ all.files;
      there = ap₂ and_files is all.there;
      are = ap₂ (λ (m : ℕ) (ms : List ℕ). m ∷ ms) l all.are;
    }

pub all_there : (w : World) (names : List (List ℕ)) (lengths : List ℕ) → found_before w names ≡ length names → HaveLengths lengths (told_files (Some w) names)
    → AllThere w names lengths
all_there w [] [] e h = record { files = []; there = refl; are = refl }
all_there w [] (n ∷ ns) e h = absurd h
all_there w (name ∷ names) [] e h = absurd h
all_there w (name ∷ names) (n ∷ ns) e h = there_step w name names n ns (file_of w name) refl e h.0 (λ found. all_there w names ns found h.1)

gone_step : (w : World) (name : List ℕ) (names : List (List ℕ)) (file : Option (List ℕ)) → file_of w name ≡ file → one_more file (found_before w names) < length (name ∷ names)
    → (found_before w names < length names → files_of w names ≡ None) → files_of w (name ∷ names) ≡ None
gone_step w name names None is f rest = ap (λ o. and_files o (files_of w names)) is
gone_step w name names (Some b) is f rest = ap₂ and_files is (rest (omega arith))

-- a name is missing
pub some_gone : (w : World) (names : List (List ℕ)) → found_before w names < length names → files_of w names ≡ None
some_gone w [] h = absurd (omega arith)
some_gone w (name ∷ names) h = gone_step w name names (file_of w name) refl h (λ less. some_gone w names less)

record Found (w : World) (names files : List (List ℕ)) : Type 0 where
  pub found : found_before w names ≡ length names
  pub long : length files ≡ length names

none_found : (w : World) (files : List (List ℕ)) → Some [] ≡ Some files → Found w [] files
none_found w [] e = record { found = refl; long = refl }
none_found w (f ∷ fs) e = absurd cc

found_more : (w : World) (name : List ℕ) (names : List (List ℕ)) (b : List ℕ) (rest files : List (List ℕ)) → file_of w name ≡ Some b → Found w names rest → Some (b ∷ rest) ≡ Some files
    → Found w (name ∷ names) files
found_more w name names b rest [] is f e = absurd cc
found_more w name names b rest (g ∷ gs) is f e =
    let same : rest ≡ gs = cc in
    let long : length gs ≡ length names = subst (λ fs. length fs ≡ length names) same f.long in
    let first : one_more (file_of w name) (found_before w names) ≡ 1 + found_before w names = ap (λ o. one_more o (found_before w names)) is in
    let found = f.found in
    record { found = omega arith; long = omega arith }

found_step : (w : World) (name : List ℕ) (names files : List (List ℕ)) (file : Option (List ℕ)) (rest : Option (List (List ℕ))) → file_of w name ≡ file → and_files file rest ≡ Some files
    → ((fs : List (List ℕ)) → rest ≡ Some fs → Found w names fs) → Found w (name ∷ names) files
found_step w name names files None rest is e all = absurd cc
found_step w name names files (Some b) None is e all = absurd cc
found_step w name names files (Some b) (Some rest) is e all = found_more w name names b rest files is (all rest refl) e

found_whole : (w : World) (names files : List (List ℕ)) → files_of w names ≡ Some files → Found w names files
found_whole w [] files e = none_found w files e
found_whole w (name ∷ names) files e = found_step w name names files (file_of w name) (files_of w names) refl e (λ fs all. found_whole w names fs all)

opens_there : (w : World) (names files : List (List ℕ)) (workers wanted : ℕ) → files_of w names ≡ Some files → driver_opens w workers wanted names ≡ opens_of workers wanted files
unfolding driver_opens
opens_there w names files workers wanted e = ap (opens_or workers wanted (found_before w names)) e

opens_gone : (w : World) (names : List (List ℕ)) (workers wanted : ℕ) → files_of w names ≡ None → driver_opens w workers wanted names ≡ found_before w names
unfolding driver_opens
opens_gone w names workers wanted e = ap (opens_or workers wanted (found_before w names)) e

-- where a name is missing, the files before it are opened
pub gone_opens : (w : World) (names : List (List ℕ)) (workers wanted : ℕ) → found_before w names < length names → driver_opens w workers wanted names ≡ found_before w names
gone_opens w names workers wanted h = opens_gone w names workers wanted (some_gone w names h)

-- where all are there, a file of each for each set
pub count_opens : (w : World) (names : List (List ℕ)) (workers wanted : ℕ) (lengths : List ℕ) → AllThere w names lengths
    → driver_opens w workers wanted names ≡ length names * seats_of workers (pieces_of (size_used lengths wanted) lengths) (length names)
count_opens w names workers wanted lengths t =
    let f = found_whole w names t.files t.there in
    opens_there w names t.files workers wanted t.there
    ∙ ap (λ k. k * seats_of workers (pieces_in_all (cutting_of t.files wanted)) k) f.long
    ∙ ap (λ ls. length names * seats_of workers (pieces_of (size_used ls wanted) ls) (length names)) (sym t.are)

-- no fewer are opened than come before the first that is missing
pub found_opens : (w : World) (names : List (List ℕ)) (workers wanted : ℕ) → found_before w names ≤ driver_opens w workers wanted names
found_opens w names workers wanted = by (files_of w names) refl
  where
    by : (files : Option (List (List ℕ))) → files_of w names ≡ files → found_before w names ≤ driver_opens w workers wanted names
    by None e = let same = opens_gone w names workers wanted e in omega arith
    by (Some files) e =
        let f = found_whole w names files e in
        let found = f.found in
        let long = f.long in
        let same = opens_there w names files workers wanted e in
        let some : 0 < seats_of workers (pieces_in_all (cutting_of files wanted)) (length files) = omega arith in
        let more = le-mul_of_pos_right (length files) some in
        omega arith

pub mul_next : (k i : ℕ) → k * (1 + i) ≡ k + k * i
mul_next k i =
    let one : 1 + i ≡ suc i = omega arith in
    let next : k * (1 + i) ≡ k * i + k = ap (λ j. k * j) one ∙ mul-suc k i in
    omega arith
