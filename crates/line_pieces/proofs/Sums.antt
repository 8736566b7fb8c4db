-- The sums of the pieces make the sum of all lines.
use Rattle.std.proofs.Common.{◌≡◌, ◌+◌, ◌%◌, ◌^◌, ℕ, List, [], ◌∷◌, sum, sum_by, flat_map, length, map, refl, sym, ap, ◌∙◌}
use Rattle.std.specs.List.{range_with_len}
use Rattle.std.proofs.Math.Nat.{add-mod-mod, mod-add-mod}
use Rattle.std.proofs.lemmas.List.Sums.{sum_by-append, sum_by-cons}
use Rattle.item_reader.specs.Lines.{Line}
use Rattle.line_pieces.specs.Cuts.{pieces_of}
use Rattle.line_pieces.specs.Pieces.{piece_of}
use Rattle.line_pieces.specs.Laws.{SumsAreWhole}
use Rattle.line_pieces.proofs.Whole.{pieces_are_whole}

sum_flat : {X Y : Type 0} (f : Y → ℕ) (g : X → List Y) (xs : List X)
    → sum_by f (flat_map g xs) ≡ sum_by (λ x. sum_by f (g x)) xs
sum_flat f g [] = refl
sum_flat f g (x ∷ xs) =
    sum_by-append f (g x) (flat_map g xs)
    ∙ ap (λ n. sum_by f (g x) + n) (sum_flat f g xs)
    ∙ sym (sum_by-cons (λ x. sum_by f (g x)) x xs)

-- what is cut off before a sum is cut off behind it
sum_rest : {X : Type 0} (f : X → ℕ) (m : ℕ) (xs : List X)
    → sum_by (λ x. f x % m) xs % m ≡ sum_by f xs % m
sum_rest f m [] = refl
sum_rest f m (x ∷ xs) =
    ap (λ n. n % m) (sum_by-cons (λ x. f x % m) x xs)
    ∙ mod-add-mod (f x) m (sum_by (λ x. f x % m) xs)
    ∙ sym (add-mod-mod (f x) (sum_by (λ x. f x % m) xs) m)
    ∙ ap (λ n. (f x + n) % m) (sum_rest f m xs)
    ∙ add-mod-mod (f x) (sum_by f xs) m
    ∙ ap (λ n. n % m) (sym (sum_by-cons f x xs))

line_sum : Line → ℕ
line_sum l = sum l.bytes

pub sums_are_whole : SumsAreWhole
unfolding line_sum
sums_are_whole = λ size. λ files. λ some.
    sum_rest (λ p. sum_by line_sum (piece_of size files p)) (2 ^ 64) (range_with_len 0 (pieces_of size (map length files)))
    ∙ ap (λ n. n % 2 ^ 64)
    (sym (sum_flat line_sum (piece_of size files) (range_with_len 0 (pieces_of size (map length files))))
    ∙ ap (sum_by line_sum) (pieces_are_whole size files some))
