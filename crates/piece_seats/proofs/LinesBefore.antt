-- The sums of the counts of lines are how many lines stand before each piece.
use Rattle.std.proofs.Common.{◌≡◌, ℕ, zero, suc, ◌+◌, ◌<◌, List, [], ◌∷◌, ◌++◌, flat_map, get_or, length, length-append, map, slice_get, Option, None, Some, IfSome, refl, ap, ◌∙◌, arith}
use Rattle.std.specs.List.{range_with_len}
use Rattle.fault_merge.specs.declared.done.Done.{Done}
use Rattle.item_reader.specs.Lines.{Line}
use Rattle.line_pieces.specs.Cuts.{Cutting, pieces_of}
use Rattle.line_pieces.specs.Pieces.{told_piece}
use Rattle.board_core.specs.declared.event.CoreEvent.{CoreEvent}
use Rattle.piece_board.specs.Whole.{IsWhole}
use Rattle.piece_seats.specs.Counting.{AreLinesBefore, lines_before}
use Rattle.piece_seats.specs.inside.Sums.{IsCountOf, sums_from}

sums_length : (n : ℕ) (xs : List ℕ) → length (sums_from n xs) ≡ length xs
sums_length n [] = refl
sums_length n (x ∷ xs) = let k = sums_length (n + x) xs in omega arith

map_length : {X Y : Type 0} (f : X → Y) (xs : List X) → length (map f xs) ≡ length xs
map_length f [] = refl
map_length f (x ∷ xs) = let k = map_length f xs in omega arith

-- the sum before a place, where the numbers before it are the lengths of these lists
sum_at : {Y : Type 0} (lists : ℕ → List Y) (k n : ℕ) (xs : List ℕ) (p : ℕ) → p < length xs
    → ((q : ℕ) → q < p → get_or xs q 0 ≡ length (lists (k + q)))
    → get_or (sums_from n xs) p 0 ≡ n + length (flat_map lists (range_with_len k p))
sum_at lists k n [] p low h = absurd (omega (arith, low))
sum_at lists k n (x ∷ xs) zero low h = omega arith
sum_at lists k n (x ∷ xs) (suc p) low h =
    let rest = flat_map lists (range_with_len (k + 1) p) in
    let first : x ≡ length (lists k) = h 0 (omega arith) ∙ ap (λ (i : ℕ). length (lists i)) (omega arith) in
    let later = sum_at lists (k + 1) (n + x) xs p (omega (arith, low)) (λ q l. h (suc q) (omega (arith, l)) ∙ ap (λ (i : ℕ). length (lists i)) (omega arith)) in
    let both : length (lists k ++ rest) ≡ length (lists k) + length rest = length-append (lists k) rest in
    omega (arith, first, later, both)

-- each output is at its place, with what it gives
out_at : {O : Type 0} (ds : List (Done O)) (q : ℕ) → q < length ds
    → (d : Done O) × (slice_get ds q ≡ Some d)
out_at [] q low = absurd (omega (arith, low))
out_at (d ∷ ds) zero low = (d, refl)
out_at (d ∷ ds) (suc q) low = out_at ds q (omega (arith, low))

number_at : (ds : List (Done ℕ)) (q : ℕ) (d : Done ℕ) → slice_get ds q ≡ Some d
    → get_or (map (λ (e : Done ℕ). e.out) ds) q 0 ≡ d.out
number_at [] q d e = absurd cc
number_at (c ∷ ds) zero d e = let same : c ≡ d = cc in ap (λ (e : Done ℕ). e.out) same
number_at (c ∷ ds) (suc q) d e = number_at ds q d e

of_told : (o : Option (List Line)) (count : ℕ) (lines : List Line) → o ≡ Some lines
    → IfSome o (λ ls. count ≡ length ls) → count ≡ length lines
of_told None count lines e h = absurd cc
of_told (Some ls) count lines e h = let same : ls ≡ lines = cc in h ∙ ap (λ (l : List Line). length l) same

pub sums_are_lines : (cut : Cutting) (told : List (Option (List ℕ))) (tells : ℕ → Option ℕ) (total full : ℕ) (done : List (Done ℕ)) (events : List CoreEvent) (before : List ℕ)
    → IsWhole tells (λ p limit out. IsCountOf cut told p out) total full done events
    → total ≡ pieces_of cut.size cut.lengths
    → before ≡ sums_from 0 (map (λ (d : Done ℕ). d.out) done) → AreLinesBefore cut told before
sums_are_lines cut told tells total full done events before w t e =
    let outs = map (λ (d : Done ℕ). d.out) done in
    let many : length outs ≡ length done = map_length (λ (d : Done ℕ). d.out) done in
    let long : length before ≡ length outs = ap (λ (xs : List ℕ). length xs) e ∙ sums_length 0 outs in
    record {
      count = long ∙ many ∙ w.count ∙ t;
      sums = λ lists p low h.
          let sum : get_or (sums_from 0 outs) p 0 ≡ 0 + lines_before lists p =
          sum_at lists 0 0 outs p (omega (arith, low, long))
          (λ q l.
          let d = out_at done q (omega (arith, low, long, many, l)) in
          number_at done q d.0 d.1
          ∙ of_told (told_piece cut told q) d.0.out (lists q) (h q l) (w.each q d.0 d.1).is_good
          ∙ ap (λ (i : ℕ). length (lists i)) (omega arith)) in
          ap (λ (xs : List ℕ). get_or xs p 0) e ∙ sum ∙ omega arith;
    }
