-- Where lines begin.
use Rattle.std.proofs.Common.{◌≡◌, ◌≤◌, ◌<◌, ◌+◌, ◌-◌, ◌*◌, ◌++◌, ℕ, zero, suc, List, [], ◌∷◌, Bool, true, false, cond, not, None, Some, length, take, drop, position, refl, ap, sym, ◌∙◌, arith, nat_lt, rules, subst, inl, inr, count_by, length-drop}
use Rattle.std.specs.List.{position_or_len}
use Rattle.std.proofs.lemmas.Bool.Decides.{nat_tests}
use Rattle.std.proofs.lemmas.Grind.{common_steps}
use Rattle.std.proofs.Math.Seq.{drop-length}
use Rattle.std.proofs.lemmas.List.{drop-drop}
use Rattle.std.proofs.lemmas.List.Sums.{sum_by-cons}
use Rattle.byte_lanes.specs.Bytes.{is_newline}
use Rattle.part_writer.specs.Parts.{line_start, EndsLine}

-- in an empty text all lines begin at its end
start-nil : (k : ℕ) → line_start k [] ≡ 0
unfolding line_start
start-nil zero = refl
start-nil (suc k) = refl

start_over : (xs : List ℕ) (k i : ℕ) → position_or_len is_newline xs ≡ i → i < length xs
    → line_start (suc k) xs ≡ suc i + line_start k (drop (suc i) xs)
unfolding line_start
start_over [] k i e h = absurd (omega arith)
start_over (x ∷ xs) k i e h = by (is_newline x) refl i e h (start_over xs k)
  where
    by : (b : Bool) → is_newline x ≡ b → (i : ℕ) → cond (not b) (1 + position_or_len is_newline xs) 0 ≡ i
        → i < length (x ∷ xs)
        → ((i : ℕ) → position_or_len is_newline xs ≡ i → i < length xs
        → line_start (suc k) xs ≡ suc i + line_start k (drop (suc i) xs))
        → suc (line_start (cond b k (suc k)) xs) ≡ suc i + line_start k (drop (suc i) (x ∷ xs))
    by true t zero e h ih = omega arith
    by true t (suc i) e h ih = absurd (omega arith)
    by false t zero e h ih = absurd (omega arith)
    by false t (suc i) e h ih =
        let rest : line_start (suc k) xs ≡ suc i + line_start k (drop (suc i) xs)
        = ih i (omega arith) (omega arith) in
        omega (arith, rest)

start_none : (xs : List ℕ) (k : ℕ) → length xs ≤ position_or_len is_newline xs
    → line_start (suc k) xs ≡ length xs
unfolding line_start
start_none [] k h = refl
start_none (x ∷ xs) k h = by (is_newline x) refl h (start_none xs k)
  where
    by : (b : Bool) → is_newline x ≡ b
        → length (x ∷ xs) ≤ cond (not b) (1 + position_or_len is_newline xs) 0
        → (length xs ≤ position_or_len is_newline xs → line_start (suc k) xs ≡ length xs)
        → suc (line_start (cond b k (suc k)) xs) ≡ length (x ∷ xs)
    by true t h ih = absurd (omega arith)
    by false t h ih = ap (λ (n : ℕ). suc n) (ih (omega arith))

-- the next line begins behind the first line feed
pub start_behind : (xs : List ℕ) (k i : ℕ) → position is_newline xs ≡ Some i
    → line_start (suc k) xs ≡ suc i + line_start k (drop (suc i) xs)
start_behind xs k i e = by (nat_lt (position_or_len is_newline xs) (length xs)) refl e
  where
    some_is : (m n : ℕ) → Some m ≡ Some n → m ≡ n
    some_is m n e = cc

    none_is_some : (n : ℕ) → None ≡ Some n → ⊥
    none_is_some n e = search rules

    by : (b : Bool) → nat_lt (position_or_len is_newline xs) (length xs) ≡ b
        → cond b (Some (position_or_len is_newline xs)) None ≡ Some i
        → line_start (suc k) xs ≡ suc i + line_start k (drop (suc i) xs)
    by true t e =
        let same : position_or_len is_newline xs ≡ i = some_is _ _ e in
        start_over xs k i same (grind (arith, nat_tests))
    by false t e = absurd (none_is_some i e)

-- without a line feed it begins at the end
pub start_past : (xs : List ℕ) (k : ℕ) → position is_newline xs ≡ None
    → line_start (suc k) xs ≡ length xs
start_past xs k e = by (nat_lt (position_or_len is_newline xs) (length xs)) refl e
  where
    some_is_none : (n : ℕ) → Some n ≡ None → ⊥
    some_is_none n e = search rules

    by : (b : Bool) → nat_lt (position_or_len is_newline xs) (length xs) ≡ b
        → cond b (Some (position_or_len is_newline xs)) None ≡ None
        → line_start (suc k) xs ≡ length xs
    by true t e = absurd (some_is_none _ e)
    by false t e = start_none xs k (grind (arith, nat_tests))

-- the lines of the rest begin where they do in the whole
pub start-add : (xs : List ℕ) (a b n : ℕ) → a + b ≡ n
    → line_start n xs ≡ line_start a xs + line_start b (drop (line_start a xs) xs)
unfolding line_start
start-add xs zero b n e =
    let same : b ≡ n = omega arith in
    let at : line_start n xs ≡ line_start b xs = ap (λ m. line_start m xs) (sym same) in
    omega (arith, at)
start-add [] (suc a) b n e =
    let at : line_start n [] ≡ 0 = start-nil n in
    let rest : line_start b [] ≡ 0 = start-nil b in
    omega (arith, at, rest)
start-add (x ∷ xs) (suc a) b zero e = absurd (omega arith)
start-add (x ∷ xs) (suc a) b (suc n) e =
    by (is_newline x) (start-add xs a b n (omega arith)) (start-add xs (suc a) b (suc n) e)
  where
    by : (t : Bool)
        → line_start n xs ≡ line_start a xs + line_start b (drop (line_start a xs) xs)
        → line_start (suc n) xs
        ≡ line_start (suc a) xs + line_start b (drop (line_start (suc a) xs) xs)
        → suc (line_start (cond t n (suc n)) xs)
        ≡ suc (line_start (cond t a (suc a)) xs)
        + line_start b (drop (suc (line_start (cond t a (suc a)) xs)) (x ∷ xs))
    by true feed other = omega (arith, feed)
    by false feed other = omega (arith, other)

pub start-within : (xs : List ℕ) (k : ℕ) → line_start k xs ≤ length xs
unfolding line_start
start-within xs zero = omega arith
start-within [] (suc k) = omega arith
start-within (x ∷ xs) (suc k) = by (is_newline x) (start-within xs k) (start-within xs (suc k))
  where
    by : (t : Bool) → line_start k xs ≤ length xs → line_start (suc k) xs ≤ length xs
        → suc (line_start (cond t k (suc k)) xs) ≤ length (x ∷ xs)
    by true feed other = omega (arith, feed)
    by false feed other = omega (arith, other)

some_feed : (front : List ℕ) → 0 < count_by is_newline (front ++ 10 ∷ [])
some_feed [] = omega arith
some_feed (x ∷ front) =
    rw (sum_by-cons (λ b. cond (is_newline b) 1 0) x (front ++ 10 ∷ [])) (by (is_newline x) (some_feed front))
  where
    by : (t : Bool) → 0 < count_by is_newline (front ++ 10 ∷ [])
        → 0 < cond t 1 0 + count_by is_newline (front ++ 10 ∷ [])
    by true h = omega arith
    by false h = omega arith

-- a text that ends with a line feed has no line behind its last one
start_of_last : (front : List ℕ) (k : ℕ) → count_by is_newline (front ++ 10 ∷ []) ≤ k
    → line_start k (front ++ 10 ∷ []) ≡ length (front ++ 10 ∷ [])
unfolding line_start
start_of_last front zero h =
    let some : 0 < count_by is_newline (front ++ 10 ∷ []) = some_feed front in
    absurd (omega (arith, h, some))
start_of_last [] (suc k) h = ap (λ (n : ℕ). suc n) (start-nil k)
start_of_last (x ∷ front) (suc k) h =
    by (is_newline x) (rw (sum_by-cons (λ b. cond (is_newline b) 1 0) x (front ++ 10 ∷ [])) at h)
    (start_of_last front k) (start_of_last front (suc k))
  where
    by : (t : Bool) → cond t 1 0 + count_by is_newline (front ++ 10 ∷ []) ≤ suc k
        → (count_by is_newline (front ++ 10 ∷ []) ≤ k
        → line_start k (front ++ 10 ∷ []) ≡ length (front ++ 10 ∷ []))
        → (count_by is_newline (front ++ 10 ∷ []) ≤ suc k
        → line_start (suc k) (front ++ 10 ∷ []) ≡ length (front ++ 10 ∷ []))
        → suc (line_start (cond t k (suc k)) (front ++ 10 ∷ []))
        ≡ suc (length (front ++ 10 ∷ []))
    by true h feed other = ap (λ (n : ℕ). suc n) (feed (omega arith))
    by false h feed other = ap (λ (n : ℕ). suc n) (other (omega arith))

pub start_of_all : (text : List ℕ) (k : ℕ) → EndsLine text → count_by is_newline text ≤ k
    → line_start k text ≡ length text
start_of_all text k (inl e) h = rw e (start-nil k)
start_of_all text k (inr (front, e)) h =
    let P : List ℕ → Type 0 = λ t. count_by is_newline t ≤ k → line_start k t ≡ length t in
    subst P (sym e) (start_of_last front k) h

-- ---- one line further

drop_further : (text : List ℕ) (at i : ℕ) → drop (suc i) (drop at text) ≡ drop (at + i + 1) text
drop_further text at i =
    let same : at + suc i ≡ at + i + 1 = omega arith in
    drop-drop (suc i) at text ∙ ap (λ n. drop n text) same

pub next_some : (text : List ℕ) (at i : ℕ) → at ≤ length text
    → position is_newline (take (length text - at) (drop at text)) ≡ Some i → (k : ℕ)
    → at + line_start (suc k) (drop at text) ≡ at + i + 1 + line_start k (drop (at + i + 1) text)
next_some text at i within e k =
    let whole : take (length text - at) (drop at text) ≡ drop at text = grind (arith, common_steps) in
    let found : line_start (suc k) (drop at text) ≡ suc i + line_start k (drop (suc i) (drop at text))
    = start_behind (drop at text) k i (subst (λ t. position is_newline t ≡ Some i) whole e) in
    let rest : line_start k (drop (suc i) (drop at text)) ≡ line_start k (drop (at + i + 1) text)
    = ap (line_start k) (drop_further text at i) in
    omega (arith, found, rest)

pub next_none : (text : List ℕ) (at : ℕ) → at ≤ length text
    → position is_newline (take (length text - at) (drop at text)) ≡ None → (k : ℕ)
    → at + line_start (suc k) (drop at text) ≡ length text + line_start k (drop (length text) text)
next_none text at within e k =
    let whole : take (length text - at) (drop at text) ≡ drop at text = grind (arith, common_steps) in
    let past : line_start (suc k) (drop at text) ≡ length (drop at text)
    = start_past (drop at text) k (subst (λ t. position is_newline t ≡ None) whole e) in
    let left : length (drop at text) ≡ length text - at = length-drop at text in
    let none : line_start k (drop (length text) text) ≡ 0
    = ap (line_start k) (drop-length text) ∙ start-nil k in
    omega (arith, within, past, left, none)

-- where no line is still to come, this is where it begins
pub none_left : (text : List ℕ) (at from lines turns : ℕ) → lines ≤ turns
    → at + line_start (lines - turns) (drop at text) ≡ from + line_start lines (drop from text)
    → at ≡ from + line_start lines (drop from text)
unfolding line_start
none_left text at from lines turns h e =
    let none : lines - turns ≡ 0 = omega arith in
    let here : line_start (lines - turns) (drop at text) ≡ 0
    = ap (λ n. line_start n (drop at text)) none in
    omega (arith, e, here)

pub first_line : (each : ℕ) (text : List ℕ) → 0 ≡ line_start (0 * each) text
unfolding line_start
first_line each text = let none : 0 * each ≡ 0 = omega arith in sym (ap (λ n. line_start n text) none)
