-- A part of a file that is split at its first line feed.
use Rattle.std.proofs.Common.{◌≡◌, ◌+◌, ◌-◌, ◌++◌, ℕ, List, [], ◌∷◌, Bool, true, false, cond, not, None, Some, length, take, drop, position, refl, ap, ◌∙◌, arith, length-take-le}
use Rattle.std.proofs.lemmas.Grind.{common_steps}
use Rattle.json_text.specs.Line.{is_blank}
use Rattle.item_reader.specs.Lines.{Line, cut, placed}
use Rattle.line_pieces.specs.inside.Contents.{is_end, clean, clean_line, kept, kept_of, lines_at}
use Rattle.line_pieces.proofs.Ends.{IsParted, parted, none_ends}
use Rattle.line_pieces.proofs.Placed.{cut-append, cut_whole}

kept-cons : (l : Line) (ls : List Line) → kept (l ∷ ls) ≡ kept (l ∷ []) ++ kept ls
kept-cons l ls = by (not (is_blank (clean l.at l.bytes)))
  where
    by : (t : Bool) → cond t (clean_line l ∷ kept ls) (kept ls) ≡ cond t (clean_line l ∷ []) [] ++ kept ls
    by true = refl
    by false = refl

-- a slice's rest, as the code writes it
rest_whole : (xs : List ℕ) (n : ℕ) → drop n xs ≡ take (length xs - n) (drop n xs)
rest_whole xs n = grind (arith, common_steps)

-- the first line ends at the first line feed
pub lines_at-Some : (at : ℕ) (part : List ℕ) (i : ℕ) → position is_end part ≡ Some i
    → lines_at at part
    ≡ kept_of at (take i part) ++ lines_at (at + i + 1) (take (length part - (i + 1)) (drop (i + 1) part))
lines_at-Some at part i e =
    ap (lines_at at) halves.parts
    ∙ ap (λ (ls : List (List ℕ)). kept (placed at ls))
    (cut-append (take i part) (drop (i + 1) part)
    ∙ ap (λ (ls : List (List ℕ)). ls ++ cut (drop (i + 1) part)) (cut_whole (take i part) halves.none))
    ∙ kept-cons (record { at = at; bytes = take i part })
    (placed (at + length (take i part) + 1) (cut (drop (i + 1) part)))
    ∙ ap (λ n. kept_of at (take i part) ++ lines_at (at + n + 1) (drop (i + 1) part)) taken
    ∙ ap (λ (l : List ℕ). kept_of at (take i part) ++ lines_at (at + i + 1) l) (rest_whole part (i + 1))
  where
    halves : IsParted part i
    halves = parted part i e

    taken : length (take i part) ≡ i
    taken = length-take-le i part (omega (arith, halves.inside))

-- without one it is the whole part
pub lines_at-None : (at : ℕ) (part : List ℕ) → position is_end part ≡ None
    → lines_at at part ≡ kept_of at part ++ []
lines_at-None at part e =
    ap (λ (ls : List (List ℕ)). kept (placed at ls)) (cut_whole part (none_ends part e))
    ∙ kept-cons (record { at = at; bytes = part }) []
