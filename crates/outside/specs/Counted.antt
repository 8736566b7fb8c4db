-- What a call does to a count, and to what was written.
use Rattle.std.specs.Prelude.{Bool, ◌≡◌, ◌<◌, ◌≤◌, ◌⊎◌, ◌++◌, ◌+◌, ◌^◌, ◌-◌, ℕ, List, Option, None, Some, length, take, nat_lt, if◌then◌else◌}

-- a counter's next value: one more, and after its last value that value again
abbrev pub count_up : ℕ → ℕ
count_up n = if nat_lt n (2 ^ 64 - 1) then n + 1 else n

abbrev pub count_if : Bool → ℕ → ℕ
count_if b n = if b then count_up n else n

-- a count that rose, or stands at the last value of a counter
abbrev pub Rose : ℕ → ℕ → Type 0
Rose before after = (before < after) ⊎ (2 ^ 64 - 1 ≤ after)

-- a count at the last value of a counter stays there
abbrev pub StaysFull : ℕ → ℕ → Type 0
StaysFull before after = 2 ^ 64 - 1 ≤ before → after ≡ before

-- a count that rose, or stood at the last value of a counter and stays
abbrev pub Rises : ℕ → ℕ → Type 0
Rises before after = (before ≤ after) × Rose before after × StaysFull before after

-- a count that rose by one, or stood at the last value of a counter and stays
abbrev pub RoseByOne : ℕ → ℕ → Type 0
RoseByOne before after =
    ((before < 2 ^ 64 - 1) × (after ≡ before + 1)) ⊎ ((2 ^ 64 - 1 ≤ before) × (after ≡ before))

-- what is told once these bytes were added at its end
abbrev pub appended : Option (List ℕ) → List ℕ → Option (List ℕ)
appended None bytes = None
appended (Some written) bytes = Some (written ++ bytes)

-- a prefix of the bytes that lacks at least one of them was added
abbrev pub CutShort : List ℕ → Option (List ℕ) → Option (List ℕ) → Type 0
CutShort bytes before after =
    (k : ℕ) × (k < length bytes) × (after ≡ appended before (take k bytes))
