-- The definitions at fixed values.
use Rattle.std.proofs.Common.{◌≡◌, ◌++◌, ℕ, List, [], ◌∷◌, codes, map, length, refl}
use Rattle.item_reader.specs.Lines.{Line}
use Rattle.line_pieces.specs.Cuts.{size_used, pieces_of, place_of}
use Rattle.line_pieces.specs.Pieces.{piece_of, all_pieces, bytes_sum}

line : ℕ → List ℕ → Line
line at bytes = record { at = at; bytes = bytes }

-- a mark, `1`, CR, LF, a blank, LF, `2`
abbrev marked : List ℕ
marked = 239 ∷ 187 ∷ 191 ∷ 49 ∷ 13 ∷ 10 ∷ 32 ∷ 10 ∷ 50 ∷ []

marked_size : size_used (9 ∷ []) 1 ≡ 1
marked_size = refl

marked_number : pieces_of 1 (9 ∷ []) ≡ 9
marked_number = refl

marked_first : piece_of 1 (marked ∷ []) 0 ≡ line 0 (49 ∷ 13 ∷ []) ∷ []
unfolding line
marked_first = refl

marked_last : piece_of 1 (marked ∷ []) 8 ≡ line 8 (50 ∷ []) ∷ []
unfolding line
marked_last = refl

marked_all : all_pieces 1 (marked ∷ []) ≡ line 0 (49 ∷ 13 ∷ []) ∷ line 8 (50 ∷ []) ∷ []
unfolding line
marked_all = refl

marked_sum : bytes_sum (all_pieces 1 (marked ∷ [])) ≡ 112
marked_sum = refl

-- `1`, a line of 40 bytes, `3`
abbrev long : List ℕ
long = codes "\"xxxxxxxxxxxxxxxxxxxxxxxxxxxxxxxxxxxxxx\""

abbrev three : List ℕ
three = codes "1\n" ++ long ++ codes "\n3\n"

three_length : length three ≡ 45
three_length = refl

three_number : pieces_of 4 (45 ∷ []) ≡ 12
three_number = refl

three_first : piece_of 4 (three ∷ []) 0 ≡ line 0 (codes "1") ∷ line 2 long ∷ []
unfolding line
three_first = refl

three_inside : piece_of 4 (three ∷ []) 1 ≡ []
three_inside = refl

three_last : piece_of 4 (three ∷ []) 10 ≡ line 43 (codes "3") ∷ []
unfolding line
three_last = refl

three_behind : piece_of 4 (three ∷ []) 11 ≡ []
three_behind = refl

empty_number : pieces_of 5 (0 ∷ []) ≡ 0
empty_number = refl

large_size : size_used (1048577 ∷ []) 1 ≡ 2
large_size = refl

large_number : pieces_of 2 (1048577 ∷ []) ≡ 524289
large_number = refl

-- two files, the first of which does not end with a line feed
abbrev two : List (List ℕ)
two = codes "1" ∷ codes "2\n" ∷ []

two_number : pieces_of 1 (map length two) ≡ 3
two_number = refl

two_place : place_of 1 (map length two) 1 ≡ (1, 0)
two_place = refl

two_first : piece_of 1 two 0 ≡ line 0 (codes "1") ∷ []
unfolding line
two_first = refl

two_second : piece_of 1 two 1 ≡ line 0 (codes "2") ∷ []
unfolding line
two_second = refl

two_third : piece_of 1 two 2 ≡ []
two_third = refl
