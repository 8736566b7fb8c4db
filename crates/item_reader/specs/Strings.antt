-- How the code reads a string, whose opening quote is before the line.
use denote.Ref.{Bor}
use Rattle.std.specs.Prelude.{◌≡◌, ◌<◌, ℕ, suc, Bool, List, [], ◌∷◌, length, take, Option, None, option_map, IfSome, MatchOption}
use Rattle.std.specs.Char.{is_ascii}
use Rattle.std.specs.List.{list_all, prefix_len}
use Rattle.std.specs.Str.{IsUtf8}
use Rattle.item_tree.specs.JsonString.{is_raw}
use Rattle.json_text.specs.inside.Scan.{string_at, after_bytes}
use Rattle.json_text.specs.inside.Machine as m

-- the string is this text, with this behind it, or it is none in UTF-8
abbrev pub IsText : List ℕ → List ℕ → List ℕ → Type 0
IsText line text behind = m.string_token (string_at line) ≡ (m.characters text, behind)

abbrev pub IsNoText : List ℕ → Type 0
IsNoText line = m.string_token (string_at line) ≡ (m.bad, [])

abbrev pub FindsText : List ℕ → Option (List ℕ × Bor (List ℕ)) → Type 0
FindsText line o = MatchOption o (IsNoText line) (λ p. IsText line p.0 p.1.now)

-- the string spells these bytes and this is behind it, or none is there
abbrev pub Spells : List ℕ → List ℕ → Option (Bor (List ℕ)) → Type 0
Spells line bytes o = option_map (λ rest. (bytes, rest.now)) o ≡ string_at line

-- what is left behind an escape whose backslash is before the line, with the bytes so far
abbrev pub IsPastEscape : List ℕ → List ℕ → List ℕ → Option (Bor (List ℕ)) → Type 0
IsPastEscape line old new o =
    MatchOption o (string_at (92 ∷ line) ≡ None)
    (λ left. after_bytes old (string_at (92 ∷ line)) ≡ after_bytes new (string_at left.now))

abbrev pub IsShorter : List ℕ → Option (Bor (List ℕ)) → Type 0
IsShorter line o = IfSome o (λ left. length left.now < suc (length line))

-- so many bytes in front stand for themselves, the next one does not, and this is whether all of
-- them are ASCII
abbrev pub IsStretch : List ℕ → ℕ → Bool → Type 0
IsStretch line n ascii = (n ≡ prefix_len is_raw line) × (ascii ≡ list_all is_ascii (take n line))

-- bytes that were UTF-8 are so behind an escape too
abbrev pub StaysText : List ℕ → List ℕ → Option (Bor (List ℕ)) → Type 0
StaysText old new o = IfSome o (λ left. IsUtf8 old → IsUtf8 new)
