-- What is read of a file for a piece is the piece.
use Rattle.std.proofs.Common.{◌≡◌, ◌≤◌, ◌<◌, ◌+◌, ◌-◌, ◌*◌, ◌++◌, ◌⊎◌, inl, inr, min, ℕ, zero, suc, List, [], ◌∷◌, None, Some, length, take, drop, position, filter, refl, sym, ap, ◌∙◌, arith, slice_range, take-append-drop, drop-drop, append_assoc, length-take-le, length-drop, mul-le-mul_right, option_map, Option, IfSome, rules, nat_le, mul-pos, Bool, true, false}
use Rattle.std.specs.List.{before_first}
use Rattle.std.proofs.lemmas.List.{drop-append-le, drop-take}
use Rattle.std.proofs.lemmas.Grind.{div_ceil_times}
use Rattle.std.proofs.lemmas.Bool.Decides.{nat_tests}
use Rattle.item_reader.specs.Lines.{cut, placed}
use Rattle.line_pieces.specs.Cuts.{pieces_in}
use Rattle.line_pieces.specs.Pieces.{begins_within, lines_in}
use Rattle.line_pieces.specs.inside.Contents.{is_end, kept, lines_at}
use Rattle.line_pieces.proofs.Windows.{front_lines, lines_behind, no_lines}
use Rattle.line_pieces.proofs.Ends.{IsParted, none_ends, parted}
use Rattle.line_pieces.proofs.Kept.{lines_in_are_kept}

-- a file is what stands before a range, the range, and what stands behind it
three_parts : (b : List ℕ) (from end : ℕ) → from ≤ end
    → b ≡ take from b ++ (slice_range b from end ++ drop end b)
three_parts b from end h =
    let back : from + (end - from) ≡ end = omega arith in
    sym (take-append-drop from b)
    ∙ ap (λ (r : List ℕ). take from b ++ r)
    (sym (take-append-drop (end - from) (drop from b))
    ∙ ap (λ (r : List ℕ). slice_range b from end ++ r) (drop-drop _ _ b)
    ∙ ap (λ k. slice_range b from end ++ drop k b) back)

range_length : (b : List ℕ) (from end : ℕ) → end ≤ length b → length (slice_range b from end) ≡ end - from
range_length b from end h =
    let room : end - from ≤ length (drop from b) = grind (arith, length-drop) in
    length-take-le (end - from) (drop from b) room

nothing_behind : (b : List ℕ) (end : ℕ) → length b ≤ end → drop end b ≡ []
nothing_behind b end h = none (drop end b) (grind (arith, length-drop))
  where
    none : (xs : List ℕ) → length xs ≡ 0 → xs ≡ []
    none [] e = refl
    none (x ∷ xs) e = absurd (omega (arith, e))

-- the first piece of a file
pub first_part : (size end : ℕ) (b : List ℕ) → 0 < size → end ≤ length b
    → (end ≡ length b) ⊎ (end ≡ size - 1) → end ≤ size - 1
    → lines_at 0 (slice_range b 0 end ++ before_first is_end (drop end b)) ≡ lines_in size 0 b
first_part size end b some inside last short =
    let count : length (slice_range b 0 end) ≡ end - 0 = range_length b 0 end inside in
    let window : filter (begins_within (0 * size) ((0 + 1) * size)) (placed 0 (cut (slice_range b 0 end ++ drop end b)))
    ≡ placed 0 (cut (slice_range b 0 end ++ before_first is_end (drop end b))) =
    front_lines (0 * size) ((0 + 1) * size) 0 (slice_range b 0 end) (drop end b) (omega arith) (omega arith)
    (by last) in
    sym (lines_in_are_kept size 0 b
    ∙ ap (λ (l : List ℕ). kept (filter (begins_within (0 * size) ((0 + 1) * size)) (placed 0 (cut l)))) (three_parts b 0 end (omega arith))
    ∙ ap kept window)
  where
    by : (end ≡ length b) ⊎ (end ≡ size - 1)
        → (drop end b ≡ []) ⊎ ((0 + 1) * size ≡ 0 + length (slice_range b 0 end) + 1)
    by (inl e) = inl (nothing_behind b end (omega arith))
    by (inr e) =
        let count : length (slice_range b 0 end) ≡ end - 0 = range_length b 0 end inside in
        inr (omega (arith, count, e, some))

-- a later piece in which a line begins
pub later_part : (size number from end i : ℕ) (b : List ℕ) → from + 1 ≡ number * size → from ≤ end
    → end ≤ length b → (end ≡ length b) ⊎ (end + 1 ≡ (number + 1) * size) → end + 1 ≤ (number + 1) * size
    → position is_end (slice_range b from end) ≡ Some i
    → lines_at (from + (i + 1)) (drop (i + 1) (slice_range b from end ++ before_first is_end (drop end b)))
    ≡ lines_in size number b
later_part size number from end i b start order inside last short at =
    sym (lines_in_are_kept size number b
    ∙ ap (λ (l : List ℕ). kept (filter (begins_within (number * size) ((number + 1) * size)) (placed 0 (cut l)))) whole
    ∙ ap kept (lines_behind (number * size) ((number + 1) * size) (take from b) (take i range) (drop (i + 1) range) (drop end b)
    halves.none (omega (arith, before)) (omega (arith, before, first)) (omega (arith, before, first, rest, count, halves.inside, order, short)) (by last))
    ∙ ap (λ n. kept (placed n (cut (drop (i + 1) range ++ before_first is_end (drop end b))))) place
    ∙ ap (λ (l : List ℕ). kept (placed (from + (i + 1)) (cut l))) behind)
  where
    range : List ℕ
    range = slice_range b from end

    halves : IsParted (slice_range b from end) i
    halves = parted (slice_range b from end) i at

    before : length (take from b) ≡ from
    before = length-take-le from b (omega arith)

    first : length (take i range) ≡ i
    first = length-take-le i range (omega (arith, halves.inside))

    count : length range ≡ end - from
    count = range_length b from end inside

    rest : length (drop (i + 1) range) ≡ length range - (i + 1)
    rest = length-drop (i + 1) range

    place : length (take from b) + length (take i range) + 1 ≡ from + (i + 1)
    place = omega (arith, before, first)

    whole : b ≡ take from b ++ (take i range ++ 10 ∷ (drop (i + 1) range ++ drop end b))
    whole = three_parts b from end order
        ∙ ap (λ (l : List ℕ). take from b ++ (l ++ drop end b)) halves.parts
        ∙ ap (λ (l : List ℕ). take from b ++ l) (append_assoc (take i range) (10 ∷ drop (i + 1) range) (drop end b))

    behind : drop (i + 1) range ++ before_first is_end (drop end b)
        ≡ drop (i + 1) (range ++ before_first is_end (drop end b))
    behind = sym (drop-append-le (i + 1) range (before_first is_end (drop end b)) (omega (arith, halves.inside)))

    by : (end ≡ length b) ⊎ (end + 1 ≡ (number + 1) * size)
        → (drop end b ≡ []) ⊎ ((number + 1) * size ≡ length (take from b) + length (take i range) + 1 + length (drop (i + 1) range) + 1)
    by (inl e) = inl (nothing_behind b end (omega arith))
    by (inr e) = inr (omega (arith, before, first, rest, count, e, halves.inside))

-- a later piece in which none begins
pub no_part : (size number from end : ℕ) (b : List ℕ) → from + 1 ≡ number * size → from ≤ end
    → end ≤ length b → (end ≡ length b) ⊎ (end + 1 ≡ (number + 1) * size)
    → position is_end (slice_range b from end) ≡ None
    → [] ≡ lines_in size number b
no_part size number from end b start order inside last none =
    sym (lines_in_are_kept size number b
    ∙ ap (λ (l : List ℕ). kept (filter (begins_within (number * size) ((number + 1) * size)) (placed 0 (cut l)))) (three_parts b from end order)
    ∙ ap kept (no_lines (number * size) ((number + 1) * size) (take from b) (slice_range b from end) (drop end b)
    (none_ends (slice_range b from end) none) (omega (arith, before)) (by last)))
  where
    before : length (take from b) ≡ from
    before = length-take-le from b (omega arith)

    by : (end ≡ length b) ⊎ (end + 1 ≡ (number + 1) * size)
        → (drop end b ≡ []) ⊎ ((number + 1) * size ≡ length (take from b) + length (slice_range b from end) + 1)
    by (inl e) = inl (nothing_behind b end (omega arith))
    by (inr e) =
        let count : length (slice_range b from end) ≡ end - from = range_length b from end inside in
        inr (omega (arith, before, count, e))

-- what is read for a piece of a file of this length
pub record IsWindow (size number whole from end : ℕ) : Type 0 where
  pub some : 0 < size
  pub piece : number < pieces_in size whole
  pub start : from ≡ number * size - 1
  pub stop : end ≡ min (number * size + (size - 1)) whole

begins_inside : (size number whole : ℕ) → 0 < size → number < pieces_in size whole
    → number * size < whole
begins_inside size number whole some piece =
    let most = (div_ceil_times whole size some).1 in
    let next : (number + 1) * size ≤ pieces_in size whole * size = mul-le-mul_right size (omega (arith, piece)) in
    grind (arith, most, next)

-- the range ends with the file, or at the last byte of the piece
last_of : (size number whole end : ℕ) → 0 < size → end ≡ min (number * size + (size - 1)) whole
    → (end ≡ whole) ⊎ (end + 1 ≡ (number + 1) * size)
last_of size number whole end some e = by (nat_le whole (number * size + (size - 1))) refl
  where
    next : (number + 1) * size ≡ number * size + size
    next = grind arith

    by : (t : Bool) → nat_le whole (number * size + (size - 1)) ≡ t
        → (end ≡ whole) ⊎ (end + 1 ≡ (number + 1) * size)
    by true t =
        let high : whole ≤ number * size + (size - 1) = grind (arith, nat_tests) in
        inl (omega (arith, e, high))
    by false t =
        let low : number * size + (size - 1) < whole = grind (arith, nat_tests) in
        inr (omega (arith, e, low, next, some))

-- what follows for a file that has this length
record IsRanged (size number from end : ℕ) (b : List ℕ) : Type 0 where
  order : from ≤ end
  inside : end ≤ length b
  last : (end ≡ length b) ⊎ (end + 1 ≡ (number + 1) * size)
  short : end + 1 ≤ (number + 1) * size
  later : 0 < number → from + 1 ≡ number * size

ranged : (size number whole from end : ℕ) (b : List ℕ) → IsWindow size number whole from end
    → whole ≡ length b → IsRanged size number from end b
ranged size number whole from end b w told = record {
  order = omega (arith, w.start, w.stop, begin);
  inside = omega (arith, w.stop, told);
  last = by (last_of size number whole end w.some w.stop);
  short = omega (arith, w.stop, next, w.some);
  later = λ more.
      let low : 0 < number * size = mul-pos more w.some in
      omega (arith, w.start, low);
}
  where
    begin : number * size < whole
    begin = begins_inside size number whole w.some w.piece

    next : (number + 1) * size ≡ number * size + size
    next = grind arith

    by : (end ≡ whole) ⊎ (end + 1 ≡ (number + 1) * size) → (end ≡ length b) ⊎ (end + 1 ≡ (number + 1) * size)
    by (inl e) = inl (omega (arith, e, told))
    by (inr e) = inr e

none_is_some : {A : Type 0} (x : A) → None ≡ Some x → ⊥
none_is_some x e = search rules

some_is : (x y : ℕ) → Some x ≡ Some y → x ≡ y
some_is x y e = cc

no_position : (o : Option ℕ) → option_map (λ i. i + 1) o ≡ None → o ≡ None
no_position None e = refl
no_position (Some i) e = absurd (none_is_some (i + 1) (sym e))

one_position : (o : Option ℕ) (k : ℕ) → option_map (λ i. i + 1) o ≡ Some k
    → (i : ℕ) × (o ≡ Some i) × (k ≡ i + 1)
one_position None k e = absurd (none_is_some k e)
one_position (Some i) k e =
    let same : k ≡ i + 1 = cc in
    (i, refl, same)

-- none begins in the piece
pub none_in_part : (size number whole from end : ℕ) (range : List ℕ) (held : Option (List ℕ)) (r : Option ℕ)
    → IsWindow size number whole from end
    → (number ≡ 0 → r ≡ Some 0)
    → (0 < number → r ≡ option_map (λ i. i + 1) (position is_end range))
    → r ≡ None
    → IfSome held (λ b. whole ≡ length b)
    → IfSome held (λ b. range ≡ slice_range b from end)
    → IfSome held (λ b. [] ≡ lines_in size number b)
none_in_part size number whole from end range None r w first later none told read = tt
none_in_part size zero whole from end range (Some b) r w first later none told read =
    absurd (none_is_some zero (sym none ∙ first refl))
none_in_part size (suc n) whole from end range (Some b) r w first later none told read =
    let has = ranged size (suc n) whole from end b w told in
    no_part size (suc n) from end b (has.later (omega arith)) has.order has.inside has.last
    (ap (position is_end) (sym read) ∙ no_position (position is_end range) (sym (later (omega arith)) ∙ none))

-- the lines of what was read are the piece
pub some_in_part : (size number whole from end skipped : ℕ) (range bytes : List ℕ) (held : Option (List ℕ)) (r : Option ℕ)
    → IsWindow size number whole from end
    → (number ≡ 0 → r ≡ Some 0)
    → (0 < number → r ≡ option_map (λ i. i + 1) (position is_end range))
    → r ≡ Some skipped
    → IfSome held (λ b. whole ≡ length b)
    → IfSome held (λ b. range ≡ slice_range b from end)
    → IfSome held (λ b. whole ≡ length b → from + length range ≡ end
    → bytes ≡ range ++ before_first is_end (drop end b))
    → IfSome held (λ b. lines_at (from + skipped) (drop skipped bytes) ≡ lines_in size number b)
some_in_part size number whole from end skipped range bytes None r w first later some told read on = tt
some_in_part size number whole from end skipped range bytes (Some b) r w first later some told read on =
    by number refl
  where
    has : IsRanged size number from end b
    has = ranged size number whole from end b w told

    is : range ≡ slice_range b from end
    is = read

    count : length range ≡ end - from
    count = ap (λ (l : List ℕ). length l) is ∙ range_length b from end has.inside

    all : bytes ≡ slice_range b from end ++ before_first is_end (drop end b)
    all = on told (omega (arith, count, has.order)) ∙ ap (λ (l : List ℕ). l ++ before_first is_end (drop end b)) is

    by : (n : ℕ) → number ≡ n → lines_at (from + skipped) (drop skipped bytes) ≡ lines_in size number b
    by zero e =
        let start : from ≡ 0 = first_start e in
        let skip : skipped ≡ 0 = some_is skipped 0 (sym some ∙ first e) in
        let place : from + skipped ≡ 0 = omega (arith, start, skip) in
        ap (λ k. lines_at k (drop skipped bytes)) place
        ∙ ap (λ k. lines_at 0 (drop k bytes)) skip
        ∙ ap (lines_at 0) (all ∙ ap (λ k. slice_range b k end ++ before_first is_end (drop end b)) start)
        ∙ first_part size end b w.some has.inside (first_last e has.last) (omega (arith, first_size e, has.short))
        ∙ ap (λ n. lines_in size n b) (sym e)
      where
        first_start : number ≡ 0 → from ≡ 0
        first_start e =
            let product : number * size ≡ 0 * size = ap (λ n. n * size) e in
            omega (arith, product, w.start)

        first_size : number ≡ 0 → (number + 1) * size ≡ size
        first_size e =
            let product : (number + 1) * size ≡ (0 + 1) * size = ap (λ n. (n + 1) * size) e in
            omega (arith, product)

        first_last : number ≡ 0 → (end ≡ length b) ⊎ (end + 1 ≡ (number + 1) * size)
            → (end ≡ length b) ⊎ (end ≡ size - 1)
        first_last e (inl f) = inl f
        first_last e (inr f) = inr (omega (arith, f, first_size e, w.some))
    by (suc n) e =
        let more : 0 < number = omega (arith, e) in
        let found = one_position (position is_end range) skipped (sym (later more) ∙ some) in
        ap (λ k. lines_at (from + k) (drop k bytes)) found.2
        ∙ ap (λ (l : List ℕ). lines_at (from + (found.0 + 1)) (drop (found.0 + 1) l)) all
        ∙ later_part size number from end found.0 b (has.later more) has.order has.inside has.last has.short
        (ap (position is_end) (sym is) ∙ found.1)

drop_filled : (skipped filled : ℕ) (bytes : List ℕ) → skipped ≤ filled
    → slice_range bytes skipped filled ≡ drop skipped (take filled bytes)
drop_filled skipped filled bytes h =
    let whole : skipped + (filled - skipped) ≡ filled = omega (arith, h) in
    sym (drop-take skipped (filled - skipped) bytes)
    ∙ ap (λ k. drop skipped (take k bytes)) whole

-- the same, of bytes so many of which are filled
pub some_read : (size number whole from end skipped n filled : ℕ) (first bytes : List ℕ) (held : Option (List ℕ)) (r : Option ℕ)
    → IsWindow size number whole from end
    → (number ≡ 0 → r ≡ Some 0)
    → (0 < number → r ≡ option_map (λ i. i + 1) (position is_end (take n first)))
    → r ≡ Some skipped
    → n ≤ length first → skipped ≤ filled
    → IfSome held (λ b. whole ≡ length b)
    → IfSome held (λ b. take n first ≡ slice_range b from end)
    → IfSome held (λ b. whole ≡ length b → from + n ≡ end
    → take filled bytes ≡ take n first ++ before_first is_end (drop end b))
    → IfSome held (λ b. lines_at (from + skipped) (slice_range bytes skipped filled) ≡ lines_in size number b)
some_read size number whole from end skipped n filled first bytes None r w one later some inside order told read on = tt
some_read size number whole from end skipped n filled first bytes (Some b) r w one later some inside order told read on =
    ap (lines_at (from + skipped)) (drop_filled skipped filled bytes order)
    ∙ some_in_part size number whole from end skipped (take n first) (take filled bytes) (Some b) r w one later some told read
    (λ same. λ place. on same (ap (λ k. from + k) (sym (length-take-le n first inside)) ∙ place))
