-- Which files there are, and what a read gives of a file's bytes.
use Rattle.std.specs.Prelude.{◌≡◌, ◌≤◌, ◌<◌, ◌-◌, ◌++◌, ℕ, List, [], ◌∷◌, Option, None, Some, length, take, drop, map, min, IsSome, IfSome, if◌then◌else◌}
use Rattle.std.specs.Str.{bytes_eq}
use Rattle.std.specs.List.{IsDistinct}

-- each file is an entry: the characters of its name, and its bytes
abbrev pub World : Type 0
World = List (List ℕ × List ℕ)

-- the bytes of the first file of this name
abbrev pub file_of : World → List ℕ → Option (List ℕ)
file_of [] name = None
file_of (f ∷ fs) name = if bytes_eq f.0 name then Some f.1 else file_of fs name

-- there is no file of this name
abbrev pub LacksName : World → List ℕ → Type 0
LacksName world name = file_of world name ≡ None

-- no two files have one name
abbrev pub NamesDiffer : World → Type 0
NamesDiffer w = IsDistinct bytes_eq (map (λ f. f.0) w)

-- a file of a told world holds these bytes, and one of an untold world tells nothing
abbrev pub HoldsOf : Option World → List ℕ → Option (List ℕ) → Type 0
HoldsOf None name held = held ≡ None
HoldsOf (Some world) name held = (held ≡ file_of world name) × IsSome (file_of world name)

-- n bytes of the file from this place on stand in front, at least one where there are any and
-- there is room
pub record Reads (held : List ℕ) (at n : ℕ) (old new : List ℕ) : Type 0 where
  pub no_more : n ≤ length held - at
  pub front : take n new ≡ take n (drop at held)
  pub some : at < length held → 0 < length old → 0 < n

-- the same, where the file tells its bytes
abbrev pub ReadsOf : Option (List ℕ) → ℕ → ℕ → List ℕ → List ℕ → Type 0
ReadsOf held at n old new = IfSome held (λ bytes. Reads bytes at n old new)

-- as many bytes as there are from this place on, and as a slice of this length has room for
abbrev pub readable : List ℕ → ℕ → ℕ → ℕ
readable held at room = min (length held - at) room

-- a slice, once n bytes of the file from this place on stand in its front
abbrev pub filled : List ℕ → ℕ → ℕ → List ℕ → List ℕ
filled held at n old = take n (drop at held) ++ drop n old
