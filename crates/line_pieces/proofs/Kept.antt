-- The lines that are kept of a file: those that are not blank, without a mark.
use Rattle.std.proofs.Common.{◌≡◌, ◌≤◌, ◌<◌, ◌+◌, ◌*◌, ℕ, suc, List, [], ◌∷◌, Bool, true, false, cond, not, length, map, filter, refl, sym, ap, ◌∙◌, arith, ◌==◌}
use Rattle.std.proofs.lemmas.Bool.Decides.{nat_tests}
use Rattle.json_text.specs.Line.{is_blank}
use Rattle.item_reader.specs.Lines.{Line, cut, placed, unmarked, without_mark, lines}
use Rattle.line_pieces.specs.Pieces.{begins_within, lines_in}
use Rattle.line_pieces.specs.inside.Contents.{clean, clean_line, kept}
use Rattle.line_pieces.proofs.Placed.{Ascends, Below, spread, spread-cut, placed_ascends, ascends_from}

-- only the line at offset 0 may have a mark
clean_later : (o : ℕ) (ls : List (List ℕ)) → 0 < o → map clean_line (placed o ls) ≡ placed o ls
clean_later o [] h = refl
clean_later o (l ∷ ls) h =
    let test : (o == 0) ≡ false = grind (arith, nat_tests) in
    rw test (ap (λ (r : List Line). record { at = o; bytes = l } ∷ r)
    (clean_later (o + length l + 1) ls (omega arith)))

unmarked_is : (ls : List (List ℕ)) → unmarked (placed 0 ls) ≡ map clean_line (placed 0 ls)
unmarked_is [] = refl
unmarked_is (l ∷ ls) =
    ap (λ (r : List Line). record { at = 0; bytes = without_mark l } ∷ r)
    (sym (clean_later (0 + length l + 1) ls (omega arith)))

pub lines_are_kept : (b : List ℕ) → lines b ≡ kept (placed 0 (cut b))
lines_are_kept b = ap (filter (λ l. not (is_blank l.bytes))) (unmarked_is (cut b))

filter_twice : (p q : Line → Bool) (ls : List Line)
    → filter p (filter q ls) ≡ filter q (filter p ls)
filter_twice p q [] = refl
filter_twice p q (l ∷ ls) = by (p l) (q l) refl refl (filter_twice p q ls)
  where
    by : (s t : Bool) → p l ≡ s → q l ≡ t → filter p (filter q ls) ≡ filter q (filter p ls)
        → filter p (filter q (l ∷ ls)) ≡ filter q (filter p (l ∷ ls))
    by true true d e f = rw (d, e, d) (ap (λ (r : List Line). l ∷ r) f)
    by true false d e f = rw (d, e) f
    by false true d e f = rw (d, e, d) f
    by false false d e f = rw (d, e) f

within_clean : (lo hi : ℕ) (ls : List Line)
    → filter (begins_within lo hi) (map clean_line ls) ≡ map clean_line (filter (begins_within lo hi) ls)
within_clean lo hi [] = refl
within_clean lo hi (l ∷ ls) = by (begins_within lo hi l) (within_clean lo hi ls)
  where
    by : (t : Bool) → filter (begins_within lo hi) (map clean_line ls) ≡ map clean_line (filter (begins_within lo hi) ls)
        → cond t (clean_line l ∷ filter (begins_within lo hi) (map clean_line ls)) (filter (begins_within lo hi) (map clean_line ls))
        ≡ map clean_line (cond t (l ∷ filter (begins_within lo hi) ls) (filter (begins_within lo hi) ls))
    by true e = ap (λ (r : List Line). clean_line l ∷ r) e
    by false e = e

-- the lines of a piece are those kept of all that begin in it
pub lines_in_are_kept : (size number : ℕ) (b : List ℕ) → lines_in size number b
    ≡ kept (filter (begins_within (number * size) ((number + 1) * size)) (placed 0 (cut b)))
lines_in_are_kept size number b =
    ap (filter within) (lines_are_kept b)
    ∙ filter_twice within some (map clean_line (placed 0 (cut b)))
    ∙ ap (filter some) (within_clean (number * size) ((number + 1) * size) (placed 0 (cut b)))
  where
    within : Line → Bool
    within = begins_within (number * size) ((number + 1) * size)

    some : Line → Bool
    some l = not (is_blank l.bytes)

ascends_filter : (p : Line → Bool) (o : ℕ) (ls : List Line) → Ascends o ls → Ascends o (filter p ls)
ascends_filter p o [] a = tt
ascends_filter p o (l ∷ ls) a = by (p l) (ascends_filter p l.at ls a.1)
  where
    by : (t : Bool) → Ascends l.at (filter p ls) → Ascends o (cond t (l ∷ filter p ls) (filter p ls))
    by true r = (a.0, r)
    by false r = ascends_from o l.at (filter p ls) a.0 r

ascends_clean : (o : ℕ) (ls : List Line) → Ascends o ls → Ascends o (map clean_line ls)
ascends_clean o [] a = tt
ascends_clean o (l ∷ ls) a = (a.0, ascends_clean l.at ls a.1)

pub lines_ascend : (b : List ℕ) → Ascends 0 (lines b)
lines_ascend b = rw (lines_are_kept b) (ascends_filter _ 0 _ (ascends_clean 0 _ (placed_ascends 0 (cut b))))

-- a line without bytes is blank
blank_empty : (o : ℕ) → is_blank (clean o []) ≡ true
blank_empty o = by (o == 0)
  where
    by : (t : Bool) → is_blank (cond t (without_mark []) []) ≡ true
    by true = refl
    by false = refl

kept_below : (o h : ℕ) (ls : List (List ℕ)) → o + spread ls ≤ h + 1 → Below h (kept (placed o ls))
kept_below o h [] e = tt
kept_below o h ([] ∷ ls) e = rw (blank_empty o) (kept_below (o + 0 + 1) h ls (omega arith))
kept_below o h ((c ∷ l) ∷ ls) e = by (is_blank (clean o (c ∷ l))) (kept_below (o + suc (length l) + 1) h ls (omega arith))
  where
    rest : List Line
    rest = kept (placed (o + suc (length l) + 1) ls)

    by : (t : Bool) → Below h rest
        → Below h (cond (not t) (record { at = o; bytes = clean o (c ∷ l) } ∷ rest) rest)
    by true r = r
    by false r = (omega arith, r)

-- a line that is kept begins before the file's end
pub lines_below : (b : List ℕ) → Below (length b) (lines b)
lines_below b = rw (lines_are_kept b) (kept_below 0 (length b) (cut b) (grind (arith, spread-cut)))
