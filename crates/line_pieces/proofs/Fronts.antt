-- Bytes of a file that were read so far.
use Rattle.std.proofs.Common.{◌≡◌, ◌≤◌, ◌+◌, ◌-◌, ◌++◌, ℕ, List, length, take, drop, position, slice_range, Option, None, Some, IfSome, sym, ap, ap₂, ◌∙◌, arith, drop-drop, take-add, take-append-drop, append_assoc, take-take}
use Rattle.std.specs.List.{before_first}
use Rattle.line_pieces.specs.inside.Contents.{is_end}
use Rattle.line_pieces.proofs.Ends.{none_ends, parted, before_past}

-- so many bytes of the file from one place on stand in front
abbrev pub IsFront : ℕ → ℕ → List ℕ → Option (List ℕ) → Type 0
IsFront from filled bytes held =
    IfSome held (λ b. take filled bytes ≡ take filled (drop from b))

-- what is read and what is to come up to a line feed stand behind what was there before
abbrev pub IsLineFront : ℕ → ℕ → ℕ → ℕ → List ℕ → List ℕ → Option (List ℕ) → Type 0
IsLineFront from end first filled old bytes held = IfSome held (λ b. end ≡ length b →
    take first old ++ before_first is_end (drop (from + first) b)
    ≡ take filled bytes ++ before_first is_end (drop (from + filled) b))

-- bytes of the file from this place on stand between these two
abbrev pub IsRead : ℕ → ℕ → ℕ → List ℕ → Option (List ℕ) → Type 0
IsRead at filled now bytes held =
    IfSome held (λ b. slice_range bytes filled now ≡ take (now - filled) (drop at b))

-- the front grew by what was read
front_is : (filled now : ℕ) (had bytes : List ℕ) → filled ≤ now → take filled bytes ≡ take filled had
    → take now bytes ≡ take filled had ++ slice_range bytes filled now
front_is filled now had bytes h kept =
    let whole : now ≡ filled + (now - filled) = omega (arith, h) in
    ap (λ k. take k bytes) whole
    ∙ take-add filled (now - filled) bytes
    ∙ ap (λ (xs : List ℕ). xs ++ slice_range bytes filled now) kept

pub front_more : (from filled now : ℕ) (had bytes : List ℕ) (held : Option (List ℕ)) → filled ≤ now
    → take filled bytes ≡ take filled had
    → IsFront from filled had held → IsRead (from + filled) filled now bytes held
    → IsFront from now bytes held
front_more from filled now had bytes None h kept e f = tt
front_more from filled now had bytes (Some b) h kept e f =
    let whole : filled + (now - filled) ≡ now = omega (arith, h) in
    front_is filled now had bytes h kept
    ∙ ap₂ (λ (xs ys : List ℕ). xs ++ ys) e (f ∙ ap (take (now - filled)) (sym (drop-drop _ _ b)))
    ∙ sym (take-add filled (now - filled) (drop from b))
    ∙ ap (λ k. take k (drop from b)) whole

rest_is : (at n : ℕ) (b chunk : List ℕ) → chunk ≡ take n (drop at b) → drop at b ≡ chunk ++ drop (at + n) b
rest_is at n b chunk e =
    sym (take-append-drop n (drop at b)) ∙ ap₂ (λ (xs ys : List ℕ). xs ++ ys) (sym e) (drop-drop _ _ b)

-- a read without a line feed
pub line_front_more : (from end first filled now : ℕ) (old had bytes : List ℕ) (held : Option (List ℕ))
    → filled ≤ now → take filled bytes ≡ take filled had
    → None ≡ position is_end (slice_range bytes filled now)
    → IsLineFront from end first filled old had held → IsRead (from + filled) filled now bytes held
    → IsLineFront from end first now old bytes held
line_front_more from end first filled now old had bytes None h kept none e f = tt
line_front_more from end first filled now old had bytes (Some b) h kept none e f = λ same.
    let further : from + filled + (now - filled) ≡ from + now = omega (arith, h) in
    let chunk = slice_range bytes filled now in
    e same
    ∙ ap (λ (r : List ℕ). take filled had ++ before_first is_end r) (rest_is (from + filled) (now - filled) b chunk f)
    ∙ ap (λ (r : List ℕ). take filled had ++ r) (before_past chunk (drop (from + filled + (now - filled)) b) (none_ends chunk (sym none)))
    ∙ sym (append_assoc (take filled had) chunk _)
    ∙ ap₂ (λ (xs : List ℕ) k. xs ++ before_first is_end (drop k b)) (sym (front_is filled now had bytes h kept)) further

-- a read with one
pub line_front_ends : (from end first filled now i : ℕ) (old had bytes : List ℕ) (held : Option (List ℕ))
    → filled ≤ now → filled + i ≤ now → take filled bytes ≡ take filled had
    → Some i ≡ position is_end (slice_range bytes filled now)
    → IsLineFront from end first filled old had held → IsRead (from + filled) filled now bytes held
    → IfSome held (λ b. end ≡ length b →
    take (filled + i) bytes ≡ take first old ++ before_first is_end (drop (from + first) b))
line_front_ends from end first filled now i old had bytes None h inside kept at e f = tt
line_front_ends from end first filled now i old had bytes (Some b) h inside kept at e f = λ same.
    let chunk = slice_range bytes filled now in
    sym (e same
    ∙ ap (λ (r : List ℕ). take filled had ++ before_first is_end r) (rest_is (from + filled) (now - filled) b chunk f)
    ∙ ap (λ (r : List ℕ). take filled had ++ r) ((parted chunk i (sym at)).before (drop (from + filled + (now - filled)) b))
    ∙ ap (λ (r : List ℕ). take filled had ++ r) (shorter (drop filled bytes))
    ∙ ap (λ (r : List ℕ). r ++ take i (drop filled bytes)) (sym kept)
    ∙ sym (take-add filled i bytes))
  where
    shorter : (xs : List ℕ) → take i (take (now - filled) xs) ≡ take i xs
    shorter xs = take-take i (now - filled) xs (omega (arith, inside))
