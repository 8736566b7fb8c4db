-- Comments, which nest.
use Rattle.std.specs.Prelude.{◌≡◌, ℕ, ◌+◌, ◌-◌, Bool, true, false, ◌&&◌, ◌==◌, if◌then◌else◌, List, [], ◌∷◌, drop, Option, Some, None}
use Rattle.query_lexer.specs.Bytes.{next_passes}

-- a number more
abbrev pub plus : ℕ → Option ℕ → Option ℕ
plus n None = None
plus n (Some m) = Some (n + m)

-- the two bytes that begin a comment, (:
unfoldable pub opens : ℕ → ℕ → Bool
opens b c = b == 40 && c == 58

-- and those that end one, :)
unfoldable pub closes : ℕ → ℕ → Bool
closes b c = b == 58 && c == 41

abbrev pub begins_comment : List ℕ → Bool
begins_comment [] = false
begins_comment (b ∷ r) = next_passes (opens b) r

-- behind the beginning of a comment that stands in n others: how many bytes it takes until all of
-- them are closed, if they are
abbrev pub comment_rest : ℕ → List ℕ → Option ℕ
comment_rest n [] = None
comment_rest n (b ∷ []) = None
comment_rest n (b ∷ c ∷ r) =
    if closes b c
    then (if n == 0 then Some 2 else plus 2 (comment_rest (n - 1) r))
    else (if opens b c then plus 2 (comment_rest (n + 1) r) else plus 1 (comment_rest n (c ∷ r)))

-- a comment of n bytes, closed
abbrev pub IsComment : List ℕ → ℕ → Type 0
IsComment text n =
    (begins_comment text ≡ true) × (m : ℕ) × (comment_rest 0 (drop 2 text) ≡ Some m) × (n ≡ 2 + m)

-- a comment that isn't closed
abbrev pub IsUnclosed : List ℕ → Type 0
IsUnclosed text = (begins_comment text ≡ true) × (comment_rest 0 (drop 2 text) ≡ None)
