-- Ranges of a text, and what stands in them.
use Rattle.std.proofs.Common.{◌≡◌, ◌≤◌, ◌<◌, ◌+◌, ◌*◌, ◌/◌, ◌%◌, ◌++◌, ℕ, zero, suc, List, [], ◌∷◌, Option, None, Some, Err, length, drop, take, map, get_or, refl, ap, sym, ◌∙◌, arith, append_assoc, append-nil, mul_comm, zero-mul, inl, inr, count_by}
use Rattle.std.specs.Prelude.{All, slice_range, max, min}
use Rattle.std.specs.List.{range_with_len}
use Rattle.std.proofs.lemmas.Grind.{div_ceil_times}
use Rattle.std.proofs.lemmas.List.FromFn.{length-map-range_with_len, map-range_with_len_more}
use Rattle.std.proofs.Math.Seq.{drop-length}
use Rattle.std.proofs.lemmas.List.Folds.{drop_split}
use Rattle.std.proofs.lemmas.List.Elements.{All-same, All-nil, All-cons}
use Rattle.byte_lanes.specs.Bytes.{is_newline}
use Rattle.outside.specs.Outputs.{Made}
use Rattle.outside.specs.declared.outputs.CreateFault.{CreateFault}
use Rattle.outside.specs.declared.outputs.CreateFault.TheVariants.{Failed, NoMemory}
use Rattle.part_writer.specs.Parts.{line_start, lines_each, part_range, parts_from, parts_of, joined, IsRangeOf}
use Rattle.part_writer.specs.Written.{made_with, CutPart, PartBy, PartsBy}
use Rattle.part_writer.specs.Laws.{PartsAreWhole}
use Rattle.part_writer.proofs.Lines.{start-add, start-within, start_of_all}

-- ---- where the next part begins

-- so many lines behind the beginning of a part the next one begins
pub next_start : (text : List ℕ) (each number from to : ℕ) → from ≡ line_start (number * each) text
    → to ≡ from + line_start each (drop from text) → to ≡ line_start ((number + 1) * each) text
next_start text each number from to f t =
    let sum : number * each + each ≡ (number + 1) * each = grind arith in
    let whole : line_start ((number + 1) * each) text
    ≡ line_start (number * each) text + line_start each (drop (line_start (number * each) text) text)
    = start-add text (number * each) each ((number + 1) * each) sum in
    let here : line_start each (drop from text) ≡ line_start each (drop (line_start (number * each) text) text)
    = ap (λ n. line_start each (drop n text)) f in
    omega (arith, f, t, whole, here)

-- one range more
pub more_ranges : (text : List ℕ) (each number from to : ℕ) (before after : List (ℕ × ℕ))
    → before ≡ map (part_range each text) (range_with_len 0 number)
    → from ≡ line_start (number * each) text → to ≡ line_start ((number + 1) * each) text
    → after ≡ before ++ (from, to) ∷ []
    → after ≡ map (part_range each text) (range_with_len 0 (number + 1))
more_ranges text each number from to before after b f t a =
    let count : 0 + number ≡ number = omega arith in
    let Ranges : Type 0 = List (ℕ × ℕ) in
    let last : (from, to) ≡ part_range each text number = cc in
    a ∙ ap (λ (l : Ranges). l ++ (from, to) ∷ []) b
    ∙ ap (λ (r : ℕ × ℕ). map (part_range each text) (range_with_len 0 number) ++ r ∷ []) last
    ∙ sym (map-range_with_len_more (part_range each text) 0 number number count)

-- ---- parts put together

pub ranged : (text : List ℕ) (each number : ℕ) → IsRangeOf text (part_range each text number)
ranged text each number =
    let next : line_start ((number + 1) * each) text ≡ _
    = next_start_of in (omega (arith, next), start-within text ((number + 1) * each))
  where
    next_start_of : line_start ((number + 1) * each) text
        ≡ line_start (number * each) text + line_start each (drop (line_start (number * each) text) text)
    next_start_of = sym (next_start text each number (line_start (number * each) text) _ refl refl)

pub ranges_within : (text : List ℕ) (each count : ℕ) (ranges : List (ℕ × ℕ))
    → ranges ≡ map (part_range each text) (range_with_len 0 count) → All (IsRangeOf text) ranges
ranges_within text each count ranges e =
    All-same (IsRangeOf text) ranges _ e (all_within text each 0 count)
  where
    all_within : (text : List ℕ) (each from count : ℕ)
        → All (IsRangeOf text) (map (part_range each text) (range_with_len from count))
    all_within text each from zero = All-nil (IsRangeOf text)
    all_within text each from (suc count) =
        All-cons (IsRangeOf text) _ _ (ranged text each from) (all_within text each (from + 1) count)

pub ranges_count : (text : List ℕ) (each count : ℕ) (ranges : List (ℕ × ℕ))
    → ranges ≡ map (part_range each text) (range_with_len 0 count) → length ranges ≡ count
ranges_count text each count ranges e =
    ap (λ (l : List (ℕ × ℕ)). length l) e ∙ length-map-range_with_len (part_range each text) 0 count

parts_join : (text : List ℕ) (each from count end : ℕ) → from + count ≡ end
    → joined (parts_from from text (map (part_range each text) (range_with_len from count)))
    ++ drop (line_start (end * each) text) text ≡ drop (line_start (from * each) text) text
parts_join text each from zero end e =
    let same : end ≡ from = omega arith in ap (λ n. drop (line_start (n * each) text) text) same
parts_join text each from (suc count) end e =
    let a = line_start (from * each) text in
    let b = line_start ((from + 1) * each) text in
    let later = joined (parts_from (from + 1) text (map (part_range each text) (range_with_len (from + 1) count))) in
    let within : a ≤ b = (ranged text each from).0 in
    let rest : later ++ drop (line_start (end * each) text) text ≡ drop b text
    = parts_join text each (from + 1) count end (omega arith) in
    append_assoc (slice_range text a b) later (drop (line_start (end * each) text) text)
    ∙ ap (λ (l : List ℕ). slice_range text a b ++ l) rest
    ∙ sym (drop_split text a b within)

-- so many parts of so many lines have all lines
enough_lines : (n count : ℕ) → 0 < count → n ≤ count * max 1 (n / count + min 1 (n % count))
enough_lines n count h =
    let t = div_ceil_times n count h in
    more count (n / count + min 1 (n % count)) n t.0
  where
    more : (count c n : ℕ) → n ≤ c * count → n ≤ count * max 1 c
    more count zero n h = omega arith
    more count (suc c) n h =
        let most : max 1 (suc c) ≡ suc c = omega arith in
        let turned : suc c * count ≡ count * suc c = mul_comm (suc c) count in
        let same : count * max 1 (suc c) ≡ count * suc c = ap (λ m. count * m) most in
        omega (arith, h, turned, same)

pub parts_are_whole : PartsAreWhole
unfolding line_start
parts_are_whole count text some ends =
    let each = lines_each count text in
    let all : line_start (count * each) text ≡ length text
    = start_of_all text (count * each) ends (enough_lines (count_by is_newline text) count some) in
    let whole : joined (parts_of count text) ++ drop (line_start (count * each) text) text
    ≡ drop (line_start (0 * each) text) text
    = parts_join text each 0 count count (omega arith) in
    let none : drop (line_start (count * each) text) text ≡ []
    = ap (λ n. drop n text) all ∙ drop-length text in
    let nothing : 0 * each ≡ 0 = zero-mul each in
    let first : drop (line_start (0 * each) text) text ≡ text
    = ap (λ n. drop (line_start n text) text) nothing in
    let last : joined (parts_of count text) ++ drop (line_start (count * each) text) text
    ≡ joined (parts_of count text)
    = ap (λ (l : List ℕ). joined (parts_of count text) ++ l) none ∙ append-nil _ in
    sym last ∙ whole ∙ first

-- ---- parts that are written

made_more : (before : Option Made) (xs ys : Made)
    → made_with (made_with before xs) ys ≡ made_with before (xs ++ ys)
made_more None xs ys = refl
made_more (Some made) xs ys = ap (λ (l : Made). Some l) (append_assoc made xs ys)

-- the part of the range at this place, those before it, and those behind it
parts_split : (text : List ℕ) (ranges : List (ℕ × ℕ)) (number k n : ℕ) (d : ℕ × ℕ) → k < length ranges
    → number + k ≡ n
    → parts_from number text ranges
    ≡ parts_from number text (take k ranges)
    ++ (n, slice_range text (get_or ranges k d).0 (get_or ranges k d).1)
    ∷ parts_from (n + 1) text (drop (suc k) ranges)
parts_split text [] number k n d h e = absurd (omega arith)
parts_split text (r ∷ rs) number zero n d h e =
    let same : number ≡ n = omega arith in
    ap (λ (m : ℕ). (m, slice_range text r.0 r.1) ∷ parts_from (m + 1) text rs) same
parts_split text (r ∷ rs) number (suc k) n d h e =
    ap (λ (l : Made). (number, slice_range text r.0 r.1) ∷ l)
    (parts_split text rs (number + 1) k n d (omega arith) (omega arith))

parts_more : (text : List ℕ) (ranges : List (ℕ × ℕ)) (number k n : ℕ) (d : ℕ × ℕ) → k < length ranges
    → number + k ≡ n
    → parts_from number text (take (suc k) ranges)
    ≡ parts_from number text (take k ranges)
    ++ (n, slice_range text (get_or ranges k d).0 (get_or ranges k d).1) ∷ []
parts_more text [] number k n d h e = absurd (omega arith)
parts_more text (r ∷ rs) number zero n d h e =
    let same : number ≡ n = omega arith in
    ap (λ (m : ℕ). (m, slice_range text r.0 r.1) ∷ []) same
parts_more text (r ∷ rs) number (suc k) n d h e =
    ap (λ (l : Made). (number, slice_range text r.0 r.1) ∷ l)
    (parts_more text rs (number + 1) k n d (omega arith) (omega arith))

-- one part more was made
pub more_made : (text : List ℕ) (ranges : List (ℕ × ℕ)) (k : ℕ) (d : ℕ × ℕ)
    (before mid after : Option Made) → k < length ranges
    → mid ≡ made_with before (parts_from 0 text (take k ranges))
    → after ≡ made_with mid ((k, slice_range text (get_or ranges k d).0 (get_or ranges k d).1) ∷ [])
    → after ≡ made_with before (parts_from 0 text (take (k + 1) ranges))
more_made text ranges k d before mid after h m a =
    let part : ℕ × List ℕ = (k, slice_range text (get_or ranges k d).0 (get_or ranges k d).1) in
    let whole = parts_from 0 text (take k ranges) in
    let next : k + 1 ≡ suc k = omega arith in
    a ∙ ap (λ (o : Option Made). made_with o (part ∷ [])) m
    ∙ made_more before whole (part ∷ [])
    ∙ ap (made_with before) (sym (parts_more text ranges 0 k k d h (omega arith)))
    ∙ ap (λ n. made_with before (parts_from 0 text (take n ranges))) (sym next)

stop_cut : (part : ℕ × List ℕ) (whole : Made) (before mid after : Option Made)
    → mid ≡ made_with before whole → CutPart [] part mid after → CutPart whole part before after
stop_cut part whole before mid after m (inl none) =
    inl (none ∙ ap (λ (o : Option Made). made_with o []) m ∙ made_more before whole []
    ∙ ap (made_with before) (append-nil whole))
stop_cut part whole before mid after m (inr (n, less, some)) =
    let cut : Made = (part.0, take n part.1) ∷ [] in
    inr (n, less, some ∙ ap (λ (o : Option Made). made_with o cut) m ∙ made_more before whole cut)

stop : (fault : CreateFault) (part : ℕ × List ℕ) (whole later parts : Made)
    (before mid after : Option Made) → parts ≡ whole ++ part ∷ later → mid ≡ made_with before whole
    → PartBy {T = Unit {0}} (Err fault) part mid after → PartsBy {T = Unit {0}} (Err fault) parts before after
stop Failed part whole later parts before mid after e m p =
    (whole, part, later, e, stop_cut part whole before mid after m p)
stop NoMemory part whole later parts before mid after e m p = (
  whole,
  part,
  later,
  e,
  p ∙ ap (λ (o : Option Made). made_with o []) m
      ∙ made_more before whole [] ∙ ap (made_with before) (append-nil whole),
)

-- one part was not
pub not_made : (fault : CreateFault) (text : List ℕ) (ranges : List (ℕ × ℕ)) (k : ℕ)
    (d : ℕ × ℕ) (before mid after : Option Made) → k < length ranges
    → mid ≡ made_with before (parts_from 0 text (take k ranges))
    → PartBy {T = Unit {0}} (Err fault) (k, slice_range text (get_or ranges k d).0 (get_or ranges k d).1)
    mid after
    → PartsBy {T = Unit {0}} (Err fault) (parts_from 0 text ranges) before after
not_made fault text ranges k d before mid after h m p =
    let part : ℕ × List ℕ = (k, slice_range text (get_or ranges k d).0 (get_or ranges k d).1) in
    let whole = parts_from 0 text (take k ranges) in
    let later = parts_from (k + 1) text (drop (suc k) ranges) in
    stop fault part whole later (parts_from 0 text ranges) before mid after
    (parts_split text ranges 0 k k d h (omega arith)) m p
