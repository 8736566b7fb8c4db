-- Lines that are numbered piece by piece.
use Rattle.std.proofs.Common.{◌≡◌, ℕ, zero, suc, ◌+◌, List, ◌++◌, length, flat_map, append-nil, append_assoc, length-append, refl, sym, ap, ◌∙◌, arith}
use Rattle.std.specs.List.{range_with_len}
use Rattle.item_reader.specs.Lines.{Line}
use Rattle.stage_laws.proofs.Ends.{numbers_go_on}
use Rattle.clause_stages.specs.Drivers.{numbered_lines}
use Rattle.piece_run.specs.Gathering.{lines_before, numbered_piece, PiecesAreNumbered}

one_more : (lists : ℕ → List Line) (a k : ℕ) → flat_map lists (range_with_len a (suc k)) ≡ flat_map lists (range_with_len a k) ++ lists (a + k)
one_more lists a zero = append-nil (lists a) ∙ ap lists (omega arith)
one_more lists a (suc k) =
    let rest = flat_map lists (range_with_len (a + 1) k) in
    let place : a + 1 + k ≡ a + suc k = omega arith in
    ap (λ (ls : List Line). lists a ++ ls) (one_more lists (a + 1) k ∙ ap (λ (n : ℕ). rest ++ lists n) place)
    ∙ sym (append_assoc (lists a) rest (lists (a + suc k)))

numbered_at : (lists : ℕ → List Line) (k n : ℕ) → flat_map (numbered_piece lists) (range_with_len k n) ≡ numbered_lines (lines_before lists k + 1) (flat_map lists (range_with_len k n))
numbered_at lists k zero = refl
numbered_at lists k (suc n) =
    let rest = flat_map lists (range_with_len (k + 1) n) in
    let next : k + 1 ≡ suc k = omega arith in
    let here : 0 + k ≡ k = omega arith in
    let more = one_more lists 0 k ∙ ap (λ (i : ℕ). flat_map lists (range_with_len 0 k) ++ lists i) here in
    let many : lines_before lists (k + 1) ≡ lines_before lists k + length (lists k) =
    ap (λ (i : ℕ). lines_before lists i) next ∙ ap (λ (ls : List Line). length ls) more ∙ length-append (flat_map lists (range_with_len 0 k)) (lists k) in
    let first : lines_before lists (k + 1) + 1 ≡ lines_before lists k + 1 + length (lists k) = omega (arith, many) in
    ap (λ (ls : List (ℕ × Line)). numbered_piece lists k ++ ls) (numbered_at lists (k + 1) n ∙ ap (λ (i : ℕ). numbered_lines i rest) first)
    ∙ sym (numbers_go_on Line (ℕ × Line) (λ i l. (i, l)) (lines_before lists k + 1) (lists k) rest)

pub pieces_are_numbered : PiecesAreNumbered
pieces_are_numbered lists total = numbered_at lists 0 total
