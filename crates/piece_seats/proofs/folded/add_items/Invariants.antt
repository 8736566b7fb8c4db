use Rattle.std.proofs.Common.{◌≡◌, ◌++◌, List, drop}
use Rattle.item_tree.specs.Datum.{Datum}
use Rattle.item_tree.specs.Item.{datums}
use Rattle.piece_seats.proofs.folded.add_items.Given as goal

abbrev pub invariant-loop-item : goal.invariant-loop-item
invariant-loop-item g l =
    (ds : List Datum) → g.P.Partial.stands l.fn.part ds
    → (es : List Datum) × (es ++ datums (drop l.item-index l.items) ≡ ds ++ datums l.items) × g.P.Partial.stands l.part es
