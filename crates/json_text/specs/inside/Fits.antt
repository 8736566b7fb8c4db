-- What a reader that builds an item knows of it: no value is too deep, and keys differ.
use Rattle.std.specs.Prelude.{ℕ, ◌+◌, ◌<◌, ◌≤◌, List, [], ◌∷◌, length}
use Rattle.item_tree.specs.Datum.{Datum, depth, KeysDiffer}
use Rattle.json_text.specs.inside.Build.{Frame, open_array, open_object, Build, building, done, troubled}

-- inside this many open brackets
abbrev pub AllFit : ℕ → List Datum → Type 0
AllFit around [] = Unit {0}
AllFit around (x ∷ xs) = (depth x + around ≤ 128) × AllFit around xs

abbrev pub PairsFit : ℕ → List (List ℕ × Datum) → Type 0
PairsFit around [] = Unit {0}
PairsFit around (p ∷ ps) = (depth p.1 + around ≤ 128) × PairsFit around ps

abbrev pub FrameFits : ℕ → Frame → Type 0
FrameFits around (open_array xs) = AllFit (around + 1) xs
FrameFits around (open_object ps k) = PairsFit (around + 1) ps × KeysDiffer ps

abbrev pub FramesFit : List Frame → Type 0
FramesFit [] = Unit {0}
FramesFit (f ∷ fs) = (length fs < 128) × FrameFits (length fs) f × FramesFit fs

abbrev pub BuildFits : Build → Type 0
BuildFits (building fs) = FramesFit fs
BuildFits (done x) = depth x ≤ 128
BuildFits (troubled t) = Unit {0}
