-- What was seen in a piece.
use Rattle.std.specs.Prelude.{[], ◌∷◌}
use Rattle.tuple_rows.specs.Keys.{KeyList}
use Rattle.order_runs.specs.Seen.{Seen, SeenStandsFor}

-- the keys of one tuple
abbrev pub OfOneTuple : Seen → Type 0
OfOneTuple seen = (k : KeyList) × SeenStandsFor seen (k ∷ [])
