-- The order of places of faults: by clause, and in one clause by piece.
use Rattle.std.specs.Prelude.{◌≡◌, ◌<◌, ◌≤◌, ◌==◌, ◌⊎◌, Bool, Option, None, Some, nat_lt, if◌then◌else◌}
use Rattle.fault_merge.specs.declared.at.At.{At}

-- a comes before b, or is b
abbrev pub NotAfter : At → At → Type 0
NotAfter a b = (a.clause < b.clause) ⊎ ((a.clause ≡ b.clause) × (a.piece ≤ b.piece))

abbrev pub is_before : At → At → Bool
is_before a b =
    if a.clause == b.clause then nat_lt a.piece b.piece else nat_lt a.clause b.clause

-- the lesser of two places
abbrev pub least_of : Option At → At → At
least_of None b = b
least_of (Some a) b = if is_before b a then b else a
