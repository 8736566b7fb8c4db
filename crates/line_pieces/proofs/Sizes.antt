-- How many pieces lengths make.
use Rattle.std.proofs.Common.{◌≤◌, ◌<◌, ◌+◌, ◌*◌, ◌^◌, ℕ, List, [], ◌∷◌, length, sum, arith, mul-le-mul_right, le_of_mul-le-mul_right}
use Rattle.std.proofs.lemmas.Grind.{div_ceil_times}
use Rattle.std.proofs.lemmas.List.Sums.{sum_by-cons}
use Rattle.line_pieces.specs.Cuts.{pieces_in, pieces_of, CanCut}

-- the pieces of all files are not many more bytes than the files
pieces_times : (size : ℕ) (ns : List ℕ) → 0 < size
    → pieces_of size ns * size ≤ sum ns + length ns * size
pieces_times size [] h = omega arith
pieces_times size (n ∷ ns) h =
    let one = (div_ceil_times n size h).1 in
    let rest = pieces_times size ns h in
    rw (sum_by-cons (pieces_in size) n ns, sum_by-cons (λ x. x) n ns) (grind (arith, one, rest))

-- of a cut
pub few_pieces : (size : ℕ) (ns : List ℕ) → CanCut ns size → pieces_of size ns ≤ 2 ^ 20 + 64
few_pieces size ns can =
    let few : length ns * size ≤ 64 * size = mul-le-mul_right size can.few in
    let most : pieces_of size ns * size ≤ (2 ^ 20 + 64) * size =
    grind (arith, pieces_times size ns can.some, few, can.large) in
    le_of_mul-le-mul_right most can.some
