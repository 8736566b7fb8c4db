-- All pieces in order are the lines of the files.
use Rattle.std.proofs.Common.{◌≡◌, ◌≤◌, ◌<◌, ◌+◌, ◌-◌, ◌*◌, ◌++◌, ℕ, zero, suc, List, [], ◌∷◌, Bool, true, false, cond, None, Some, length, map, get_or, filter, flat_map, refl, sym, ap, ap₂, ◌∙◌, arith, nat_lt, nat_le, add-one, mul-le-mul_right}
use Rattle.std.specs.List.{range_with_len}
use Rattle.std.proofs.lemmas.Bool.Decides.{nat_tests}
use Rattle.std.proofs.lemmas.Grind.{div_ceil_times, flat_map-append}
use Rattle.std.proofs.lemmas.List.Sums.{sum_by-cons}
use Rattle.item_reader.specs.Lines.{Line, lines}
use Rattle.line_pieces.specs.Cuts.{pieces_in, pieces_of, place_of}
use Rattle.line_pieces.specs.Pieces.{begins_within, lines_in, piece_of}
use Rattle.line_pieces.specs.Laws.{PiecesAreWhole, PiecesAreTold}
use Rattle.line_pieces.proofs.Placed.{Ascends, below_more}
use Rattle.line_pieces.proofs.Windows.{none_behind, all_within}
use Rattle.line_pieces.proofs.Kept.{lines_ascend, lines_below}
use Rattle.line_pieces.proofs.Places.{place_first, place_later, place_is}

-- where no line begins before b, a window may begin there as well as before it
same_above : (a b c o : ℕ) (ls : List Line) → a ≤ b → b ≤ o → Ascends o ls
    → filter (begins_within b c) ls ≡ filter (begins_within a c) ls
same_above a b c o [] h i p = refl
same_above a b c o (l ∷ ls) h i p =
    let low : o ≤ l.at = p.0 in
    let test : nat_le b l.at ≡ true = grind (arith, nat_tests) in
    let same : nat_le a l.at ≡ true = grind (arith, nat_tests) in
    rw (test, same) (ap (λ (r : List Line). cond (nat_lt l.at c) (l ∷ r) r) (same_above a b c l.at ls h (omega arith) p.1))

-- the lines of a window and then those of the next one
two_windows : (a b c o : ℕ) (ls : List Line) → a ≤ b → b ≤ c → Ascends o ls
    → filter (begins_within a b) ls ++ filter (begins_within b c) ls ≡ filter (begins_within a c) ls
two_windows a b c o [] h i p = refl
two_windows a b c o (l ∷ ls) h i p =
    by (nat_le a l.at) (nat_lt l.at b) refl refl (two_windows a b c l.at ls h i p.1)
  where
    by : (s t : Bool) → nat_le a l.at ≡ s → nat_lt l.at b ≡ t
        → filter (begins_within a b) ls ++ filter (begins_within b c) ls ≡ filter (begins_within a c) ls
        → filter (begins_within a b) (l ∷ ls) ++ filter (begins_within b c) (l ∷ ls)
        ≡ filter (begins_within a c) (l ∷ ls)
    by false t d e f =
        let later : nat_le b l.at ≡ false = grind (arith, nat_tests) in
        rw (d, later) f
    by true true d e f =
        let later : nat_le b l.at ≡ false = grind (arith, nat_tests) in
        let inside : nat_lt l.at c ≡ true = grind (arith, nat_tests) in
        rw (d, e, later, inside) (ap (λ (r : List Line). l ∷ r) f)
    by true false d e f =
        let high : b ≤ l.at = grind (arith, nat_tests) in
        ap (λ (r : List Line). r ++ filter (begins_within b c) (l ∷ ls)) (none_behind a b b (l ∷ ls) (omega arith) (high, p.1))
        ∙ same_above a b c b (l ∷ ls) h (omega arith) (high, p.1)

-- the windows of n pieces from one on
windows : (size k n : ℕ) (ls : List Line) → Ascends 0 ls
    → flat_map (λ q. filter (begins_within (q * size) ((q + 1) * size)) ls) (range_with_len k n)
    ≡ filter (begins_within (k * size) ((k + n) * size)) ls
windows size k zero ls p = sym (none (k * size) ((k + 0) * size) ls (grind arith))
  where
    none : (a b : ℕ) (ls : List Line) → b ≤ a → filter (begins_within a b) ls ≡ []
    none a b [] h = refl
    none a b (l ∷ ls) h =
        let test : begins_within a b l ≡ false = grind (arith, nat_tests) in
        rw test (none a b ls h)
windows size k (suc n) ls p =
    ap (λ (r : List Line). filter (begins_within (k * size) ((k + 1) * size)) ls ++ r) (windows size (k + 1) n ls p)
    ∙ two_windows (k * size) ((k + 1) * size) ((k + 1 + n) * size) 0 ls (mul-le-mul_right size (omega arith)) (mul-le-mul_right size (omega arith)) p
    ∙ ap (λ m. filter (begins_within (k * size) (m * size)) ls) (omega arith)

-- the pieces of one file
one_file : (size : ℕ) (b : List ℕ) → 0 < size
    → flat_map (λ q. lines_in size q b) (range_with_len 0 (pieces_in size (length b))) ≡ lines b
one_file size b h =
    let enough : length b ≤ pieces_in size (length b) * size = (div_ceil_times (length b) size h).0 in
    windows size 0 (pieces_in size (length b)) (lines b) (lines_ascend b)
    ∙ all_within (0 * size) ((0 + pieces_in size (length b)) * size) 0 (lines b) (omega arith) (lines_ascend b)
    (below_more (length b) _ (lines b) (grind (arith, enough)) (lines_below b))

-- two functions that give the same, one of them further on
same_along : (f g : ℕ → List Line) (a c n : ℕ) → ((i : ℕ) → i < n → f (a + i) ≡ g (c + i))
    → flat_map f (range_with_len a n) ≡ flat_map g (range_with_len c n)
same_along f g a c zero h = refl
same_along f g a c (suc n) h =
    ap₂ (λ (ks ls : List Line). ks ++ ls)
    (ap f (omega arith) ∙ h 0 (omega arith) ∙ ap g (omega arith))
    (same_along f g (a + 1) (c + 1) n
    (λ i low. ap f (omega arith) ∙ h (i + 1) (omega arith) ∙ ap g (omega arith)))

range_append : (a n m : ℕ) → range_with_len a (n + m) ≡ range_with_len a n ++ range_with_len (a + n) m
range_append a zero m =
    let number : 0 + m ≡ m = omega arith in
    let begin : a ≡ a + 0 = omega arith in
    ap (λ k. range_with_len a k) number ∙ ap (λ k. range_with_len k m) begin
range_append a (suc n) m =
    let number : suc n + m ≡ suc (n + m) = omega arith in
    let begin : a + 1 + n ≡ a + suc n = omega arith in
    ap (λ k. range_with_len a k) number
    ∙ ap (λ (r : List ℕ). a ∷ r) (range_append (a + 1) n m
    ∙ ap (λ k. range_with_len (a + 1) n ++ range_with_len k m) begin)

get_next : (b : List ℕ) (bs : List (List ℕ)) (i : ℕ) → get_or (b ∷ bs) (i + 1) [] ≡ get_or bs i []
get_next b bs i = rw add-one refl

pub pieces_are_whole : PiecesAreWhole
pieces_are_whole size [] h = refl
pieces_are_whole size (b ∷ bs) h =
    ap (λ k. flat_map (piece_of size (b ∷ bs)) (range_with_len 0 k)) (sum_by-cons (pieces_in size) (length b) (map length bs))
    ∙ ap (flat_map (piece_of size (b ∷ bs))) (range_append 0 (pieces_in size (length b)) (pieces_of size (map length bs)))
    ∙ flat_map-append (piece_of size (b ∷ bs)) (range_with_len 0 (pieces_in size (length b))) (range_with_len (0 + pieces_in size (length b)) (pieces_of size (map length bs)))
    ∙ ap₂ (λ (ks ls : List Line). ks ++ ls)
    (same_along (piece_of size (b ∷ bs)) (λ q. lines_in size q b) 0 0 (pieces_in size (length b)) first
    ∙ one_file size b h)
    (same_along (piece_of size (b ∷ bs)) (piece_of size bs) (0 + pieces_in size (length b)) 0 (pieces_of size (map length bs)) later
    ∙ pieces_are_whole size bs h)
  where
    first : (i : ℕ) → i < pieces_in size (length b) → piece_of size (b ∷ bs) (0 + i) ≡ lines_in size (0 + i) b
    first i low = ap (λ (p : ℕ × ℕ). lines_in size p.1 (get_or (b ∷ bs) p.0 [])) (place_first size (length b) (map length bs) (0 + i) (omega arith))

    later : (i : ℕ) → i < pieces_of size (map length bs)
        → piece_of size (b ∷ bs) (0 + pieces_in size (length b) + i) ≡ piece_of size bs (0 + i)
    later i low =
        let back : 0 + pieces_in size (length b) + i - pieces_in size (length b) ≡ 0 + i = omega arith in
        ap (λ (p : ℕ × ℕ). lines_in size p.1 (get_or (b ∷ bs) p.0 [])) (place_later size (length b) (map length bs) (0 + pieces_in size (length b) + i) (omega arith))
        ∙ ap (λ k. lines_in size (place_of size (map length bs) k).1 (get_or (b ∷ bs) ((place_of size (map length bs) k).0 + 1) [])) back
        ∙ ap (lines_in size (place_of size (map length bs) (0 + i)).1) (get_next b bs (place_of size (map length bs) (0 + i)).0)

told_at : (files : List (List ℕ)) (i : ℕ) → i < length files
    → get_or (map Some files) i None ≡ Some (get_or files i [])
told_at [] i h = absurd (omega arith)
told_at (f ∷ fs) zero h = refl
told_at (f ∷ fs) (suc i) h = told_at fs i (omega arith)

length-lengths : (files : List (List ℕ)) → length (map length files) ≡ length files
length-lengths [] = refl
length-lengths (f ∷ fs) = ap suc (length-lengths fs)

pub pieces_are_told : PiecesAreTold
pieces_are_told size files piece h =
    let inside = (place_is size (map length files) piece h).file in
    rw (told_at files (place_of size (map length files) piece).0 (grind (arith, inside, length-lengths))) refl
