-- The items of an input, line by line.
use Rattle.std.proofs.Common.{◌≡◌, ◌<◌, ◌≤◌, ℕ, ◌+◌, List, [], ◌∷◌, ◌++◌, append_assoc, subst, Bool, true, false, not, cond, ◌==◌, nat_eq, Option, None, Some, Result, Ok, Err, length, drop, map, refl, sym, ap, ◌∙◌, arith}
use Rattle.std.specs.Prelude.{filter, IfSome}
use Rattle.std.specs.List.{onto_first, starts_with, join_with_byte}
use Rattle.std.proofs.lemmas.Grind.{common_steps}
use Rattle.std.proofs.lemmas.Bool.Decides.{Decides-eqb}
use Rattle.std.proofs.lemmas.List.Splits.{length-slice_split, join_with_byte-slice_split}
use Rattle.std.proofs.lemmas.List.{append-nil, length-append, map-append}
use Rattle.std.proofs.lemmas.Slice.Eq.{starts_is}
use Rattle.item_tree.specs.Datum.{Datum}
use Rattle.item_tree.specs.declared.code.Code.{Code}
use Rattle.item_reader.specs.Lines.{Line, mark, cut, placed, unmarked, without_mark}
use Rattle.item_reader.specs.Reading.{Read, read_before}
use Rattle.item_reader.specs.inside.Items.{items_of, items_of_lines}
use Rattle.json_text.specs.Line.{blank, item, is_blank}
use Rattle.json_text.specs.inside.Build.{reading}
use Rattle.item_tree.specs.declared.item.Item.{Item}
use Rattle.item_tree.specs.Item.{datum, datums}
use Rattle.item_tree.specs.ItemText.{item_text}
use Rattle.rumble_run.specs.Answer.{output_of}
use Rattle.rumble_run.specs.inside.Cuts.{lines_read, left_read}
use Rattle.rumble_run.specs.inside.Printing.{Prints}

-- what the items so far make of what is still to come
abbrev pub followed : List Datum → Result (List Datum) Code → Result (List Datum) Code
followed [] rest = rest
followed (x ∷ xs) rest = read_before (item x) (followed xs rest)

pub followed-push : (xs : List Datum) (x : Datum) (rest : Result (List Datum) Code) → followed (xs ++ x ∷ []) rest ≡ followed xs (read_before (item x) rest)
followed-push [] x rest = refl
followed-push (y ∷ ys) x rest = ap (read_before (item y)) (followed-push ys x rest)

pub followed-Ok : (xs ys : List Datum) → followed xs (Ok ys) ≡ Ok (xs ++ ys)
followed-Ok [] ys = refl
followed-Ok (x ∷ xs) ys = ap (read_before (item x)) (followed-Ok xs ys)

pub followed-Err : (xs : List Datum) (c : Code) → followed xs (Err c) ≡ Err c
followed-Err [] c = refl
followed-Err (x ∷ xs) c = ap (read_before (item x)) (followed-Err xs c)

-- ---- blank lines give nothing

reading-blank : (l : List ℕ) → is_blank l ≡ true → reading l ≡ blank
unfolding reading
reading-blank l e = rw e refl

without_blanks : (ls : List Line) → items_of_lines (filter (λ l. not (is_blank l.bytes)) ls) ≡ lines_read (map (λ l. l.bytes) ls)
without_blanks [] = refl
without_blanks (l ∷ ls) = by (is_blank l.bytes) refl (without_blanks ls)
  where
    by : (b : Bool) → is_blank l.bytes ≡ b → items_of_lines (filter (λ l. not (is_blank l.bytes)) ls) ≡ lines_read (map (λ l. l.bytes) ls)
        → items_of_lines (cond (not b) (l ∷ filter (λ l. not (is_blank l.bytes)) ls) (filter (λ l. not (is_blank l.bytes)) ls)) ≡ read_before (reading l.bytes) (lines_read (map (λ l. l.bytes) ls))
    by true e ih = ih ∙ ap (λ r. read_before r (lines_read (map (λ l. l.bytes) ls))) (sym (reading-blank l.bytes e))
    by false e ih = ap (read_before (reading l.bytes)) ih

-- ---- the offsets don't matter, nor whether the mark is dropped before or after the cut

bytes-placed : (offset : ℕ) (ls : List (List ℕ)) → map (λ l. l.bytes) (placed offset ls) ≡ ls
bytes-placed offset [] = refl
bytes-placed offset (l ∷ ls) = ap (λ (r : List (List ℕ)). l ∷ r) (bytes-placed (offset + length l + 1) ls)

-- the first line without the mark
abbrev unmarked_first : List (List ℕ) → List (List ℕ)
unmarked_first [] = []
unmarked_first (l ∷ ls) = without_mark l ∷ ls

bytes-unmarked : (ls : List Line) → map (λ l. l.bytes) (unmarked ls) ≡ unmarked_first (map (λ l. l.bytes) ls)
bytes-unmarked [] = refl
bytes-unmarked (l ∷ ls) = refl

nonempty : (input : List ℕ) → 0 < length (cut input)
nonempty input = omega (arith, length-slice_split (λ b. b == 10) input)

marked : (rest : List ℕ) → unmarked_first (cut (mark ++ rest)) ≡ cut (without_mark (mark ++ rest))
marked rest = go (cut rest) (nonempty rest)
  where
    go : (ls : List (List ℕ)) → 0 < length ls → unmarked_first (onto_first 239 (onto_first 187 (onto_first 191 ls))) ≡ ls
    go [] h = absurd (omega arith)
    go (l ∷ ls) h = refl

-- a text that begins with the first of joined lines begins with what that line begins with
joined_first : (l : List ℕ) (ls : List (List ℕ)) → (more : List ℕ) × (join_with_byte 10 (l ∷ ls) ≡ l ++ more)
joined_first l [] = ([], sym (append-nil l))
joined_first l (k ∷ ks) = (10 ∷ join_with_byte 10 (k ∷ ks), refl)

starts_mark : (bytes : List ℕ) → (starts_with nat_eq bytes mark ≡ true → bytes ≡ mark ++ drop 3 bytes) × ((rest : List ℕ) → bytes ≡ mark ++ rest → starts_with nat_eq bytes mark ≡ true)
starts_mark bytes = starts_is Decides-eqb bytes mark (starts_with nat_eq bytes mark) refl

first_unmarked : (input l : List ℕ) (ls : List (List ℕ)) → cut input ≡ l ∷ ls → starts_with nat_eq input mark ≡ false → starts_with nat_eq l mark ≡ false
first_unmarked input l ls e without = by (starts_with nat_eq l mark) refl
  where
    by : (b : Bool) → starts_with nat_eq l mark ≡ b → b ≡ false
    by false h = refl
    by true h =
        let j = joined_first l ls in
        let whole : input ≡ l ++ j.0 = sym (join_with_byte-slice_split 10 input) ∙ ap (join_with_byte 10) e ∙ j.1 in
        let begins : input ≡ mark ++ (drop 3 l ++ j.0) = whole ∙ ap (λ k. k ++ j.0) ((starts_mark l).0 h) ∙ append_assoc mark (drop 3 l) j.0 in
        sym ((starts_mark input).1 (drop 3 l ++ j.0) begins) ∙ without

unmarked-cut : (input : List ℕ) → unmarked_first (cut input) ≡ cut (without_mark input)
unmarked-cut input = by (starts_with nat_eq input mark) refl
  where
    lines_at : (ls : List (List ℕ)) → cut input ≡ ls → starts_with nat_eq input mark ≡ false → unmarked_first ls ≡ ls
    lines_at [] e without = refl
    lines_at (l ∷ ls) e without = ap (λ b. cond b (drop 3 l) l ∷ ls) (first_unmarked input l ls e without)

    by : (b : Bool) → starts_with nat_eq input mark ≡ b → unmarked_first (cut input) ≡ cut (without_mark input)
    by true e = subst (λ i. unmarked_first (cut i) ≡ cut (without_mark i)) (sym ((starts_mark input).0 e)) (marked (drop 3 input))
    by false e = lines_at (cut input) refl e ∙ ap (λ b. cut (cond b (drop 3 input) input)) (sym e)

-- the items of an input are those of what stands between its line feeds
pub items_of-cut : (input : List ℕ) → items_of input ≡ lines_read (cut (without_mark input))
items_of-cut input =
    without_blanks (unmarked (placed 0 (cut input)))
    ∙ ap lines_read (bytes-unmarked (placed 0 (cut input)) ∙ ap unmarked_first (bytes-placed 0 (cut input)) ∙ unmarked-cut input)

-- ---- a loop over the lines

-- all lines are left at first
pub all_left : (input bytes : List ℕ) → bytes ≡ without_mark input → left_read (Some bytes) ≡ items_of input
all_left input bytes e = ap (λ b. lines_read (cut b)) e ∙ sym (items_of-cut input)

-- ---- a loop over the items

-- the items so far, before what is left, are the items of the input
pub record IsSoFar (input : List ℕ) (items : List Datum) (left : Read) : Type 0 where
  pub whole : followed items left ≡ items_of input

pub past_item : (input : List ℕ) (items : List Datum) (x : Datum) (before after : Read) → IsSoFar input items before → before ≡ read_before (item x) after → IsSoFar input (items ++ x ∷ []) after
past_item input items x before after h e = record {
  whole = followed-push items x after ∙ ap (followed items) (sym e) ∙ h.whole;
}

-- the same, of the items as the code has them
pub past_read : (input : List ℕ) (items : List Item) (x : Item) (before after : Read) → IsSoFar input (datums items) before → before ≡ read_before (item (datum x)) after → IsSoFar input (datums (items ++ x ∷ [])) after
past_read input items x before after h e = subst (λ xs. IsSoFar input xs after) (sym (map-append datum items (x ∷ []))) (past_item input (datums items) (datum x) before after h e)

pub past_fault : (input : List ℕ) (items : List Datum) (before : Read) (code : Option Code) → IsSoFar input items before → IfSome code (λ c. before ≡ Err c) → IfSome code (λ c. items_of input ≡ Err c)
past_fault input items before None h e = tt
past_fault input items before (Some c) h e = sym h.whole ∙ ap (followed items) e ∙ followed-Err items c

pub at_last : (input : List ℕ) (items : List Datum) (before : Read) → IsSoFar input items before → before ≡ Ok [] → items_of input ≡ Ok items
at_last input items before h e = sym h.whole ∙ ap (followed items) e ∙ followed-Ok items [] ∙ ap (λ xs. Ok xs) (append-nil items)

-- ---- a loop that prints the items

-- what is printed so far is the output of the items so far, and their number
pub record IsPrinted (input : List ℕ) (count : ℕ) (out : List ℕ) (left : Read) : Type 0 where
  pub items : List Datum
  pub so_far : IsSoFar input items left
  pub count_is : count ≡ length items
  pub out_is : out ≡ output_of items
  pub fits : count ≤ length out

output-push : (xs : List Datum) (x : Datum) → output_of (xs ++ x ∷ []) ≡ output_of xs ++ output_of (x ∷ [])
output-push [] x = refl
output-push (y ∷ ys) x = ap (λ o. item_text y ++ 10 ∷ o) (output-push ys x) ∙ sym (append_assoc (item_text y) (10 ∷ output_of ys) (output_of (x ∷ [])))

pub none_printed : (input : List ℕ) (count : ℕ) (out : List ℕ) (left : Read) → count ≡ 0 → out ≡ [] → left ≡ items_of input → IsPrinted input count out left
none_printed input count out left c o e = rw (c, o) (record { items = []; so_far = record { whole = e }; count_is = refl; out_is = refl; fits = omega arith })

pub one_printed : (input : List ℕ) (count : ℕ) (out : List ℕ) (x : Datum) (before after : Read) → IsPrinted input count out before → before ≡ read_before (item x) after
    → IsPrinted input (count + 1) (out ++ output_of (x ∷ [])) after
one_printed input count out x before after h e = record {
  items = h.items ++ x ∷ [];
  so_far = past_item input h.items x before after h.so_far e;
  count_is = ap (λ n. n + 1) h.count_is ∙ sym (length-append h.items (x ∷ []));
  out_is = ap (λ o. o ++ output_of (x ∷ [])) h.out_is ∙ sym (output-push h.items x);
  fits = more;
}
  where
    more : count + 1 ≤ length (out ++ output_of (x ∷ []))
    more = grind (arith, common_steps, h.fits)

pub all_printed : (input : List ℕ) (count : ℕ) (out : List ℕ) (left : Read) → IsPrinted input count out left → left ≡ Ok [] → Prints (items_of input) count out
all_printed input count out left h e = rw (at_last input h.items left h.so_far e) (h.count_is, h.out_is)
