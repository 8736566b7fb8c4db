-- Readers of lists of tokens. A reader gives the value of what it took and what follows it, or
-- where it stopped.
use Rattle.std.specs.Prelude.{ℕ, zero, suc, Bool, ◌&&◌, not, if◌then◌else◌, List, [], ◌∷◌, length, Result, Ok, Err}
use Rattle.grammar_parts.specs.Tokens.{Class, sees, sees_two, rest_of}

abbrev pub Outcome : Type 0 → Type 0 → Type 0
Outcome T A = Result (A × List T) (List T)

abbrev pub Reader : Type 0 → Type 0 → Type 0
Reader T A = List T → Outcome T A

abbrev pub and_then : {T A B : Type 0} → Outcome T A → (A → List T → Outcome T B) → Outcome T B
and_then (Ok p) f = f p.0 p.1
and_then (Err r) f = Err r

-- the first token, if it fits
abbrev pub taken : {T : Type 0} → Bool → List T → Outcome T (T)
taken fits [] = Err []
taken fits (t ∷ r) = if fits then Ok (t, r) else Err (t ∷ r)

abbrev pub take_where : {T : Type 0} → Class T → Reader T (T)
take_where c s = taken (sees c s) s

abbrev pub read_mapped : {T A B : Type 0} → (A → B) → Reader T A → Reader T B
read_mapped f p s = and_then (p s) (λ x r. Ok (f x, r))

abbrev pub read_only : {T A : Type 0} → Bool → Reader T A → Reader T A
read_only allowed p s = if allowed then p s else Err s

abbrev pub read_seq : {T A B : Type 0} → Reader T A → Reader T B → Reader T (A × B)
read_seq p q s = and_then (p s) (λ x r. and_then (q r) (λ y r2. Ok ((x, y), r2)))

-- by one token of foresight
abbrev pub read_alt : {T A : Type 0} → Class T → Reader T A → Reader T A → Reader T A
read_alt c p q s = if sees c s then p s else q s

abbrev pub read_unless : {T A : Type 0} → Class T → Reader T A → Reader T A
read_unless c p s = if sees c s then Err s else p s

-- By two tokens of foresight. A token of the first class that begins no second part is still a
-- beginning: reading stops behind it.
abbrev pub read_ahead : {T A : Type 0} → Class T → Class T → Class T → Reader T A → Reader T A
    → Reader T A
read_ahead c d first p q s =
    if sees_two c d s then p s
    else (if sees c s && not (sees first s) then Err (rest_of s) else q s)

-- as often as the class is seen, at most as many times as the number
unfoldable pub read_times : {T A : Type 0} → ℕ → Class T → Reader T A → Reader T (List A)
read_times zero c p s = Ok ([], s)
read_times (suc n) c p s =
    if sees c s
    then and_then (p s) (λ x r. and_then (read_times n c p r) (λ xs r2. Ok (x ∷ xs, r2)))
    else Ok ([], s)

-- each turn takes a token
unfoldable pub read_many : {T A : Type 0} → Class T → Reader T A → Reader T (List A)
read_many c p s = read_times (length s) c p s
