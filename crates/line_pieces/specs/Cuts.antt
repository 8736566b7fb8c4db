-- How the bytes of an input of some files are cut into pieces. The files are seen by their lengths.
use Rattle.std.specs.Prelude.{◌≡◌, ◌≤◌, ◌<◌, ℕ, ◌+◌, ◌-◌, ◌*◌, ◌^◌, max, List, [], ◌∷◌, Option, length, sum, sum_by, IfSome, nat_lt, if◌then◌else◌}
use Rattle.std.specs.Int.{div_ceil}

-- the lengths of files, and how many bytes a piece has
pub record Cutting : Type 0 where
  pub lengths : List ℕ
  pub size : ℕ

-- the size of pieces: the wanted one, or, if that is more, a 2^20th of all bytes, rounded up
abbrev pub size_used : List ℕ → ℕ → ℕ
size_used lengths wanted = max wanted (div_ceil (sum lengths) (2 ^ 20))

-- how many pieces a file of this length has: none where it is empty
abbrev pub pieces_in : ℕ → ℕ → ℕ
pieces_in size n = div_ceil n size

-- how many pieces all files have
abbrev pub pieces_of : ℕ → List ℕ → ℕ
pieces_of size lengths = sum_by (pieces_in size) lengths

-- a place where one more file stands before it
abbrev pub behind_file : ℕ × ℕ → ℕ × ℕ
behind_file place = (place.0 + 1, place.1)

-- the file that a piece is of, and its number there: pieces are numbered from 0, file after file,
-- and those of one file are numbered from 0 too
abbrev pub place_of : ℕ → List ℕ → ℕ → ℕ × ℕ
place_of size [] piece = (0, piece)
place_of size (n ∷ ns) piece =
    if nat_lt piece (pieces_in size n) then (0, piece)
    else behind_file (place_of size ns (piece - pieces_in size n))

-- the position of the file that a piece is of
abbrev pub file_of_piece : Cutting → ℕ → ℕ
file_of_piece cut piece = (place_of cut.size cut.lengths piece).0

-- there are as many files as lengths, and a file that tells its bytes has so many
abbrev pub HaveLengths : List ℕ → List (Option (List ℕ)) → Type 0
HaveLengths [] [] = Unit {0}
HaveLengths [] (f ∷ fs) = ⊥
HaveLengths (n ∷ ns) [] = ⊥
HaveLengths (n ∷ ns) (f ∷ fs) = IfSome f (λ bytes. n ≡ length bytes) × HaveLengths ns fs

-- there are at most 64 files, and about 2^20 pieces of this size at most
pub record CanCut (lengths : List ℕ) (size : ℕ) : Type 0 where
  pub few : length lengths ≤ 64
  pub some : 0 < size
  pub large : sum lengths ≤ size * 2 ^ 20
