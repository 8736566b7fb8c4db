-- Classes by numbers.
use Rattle.std.specs.Prelude.{ℕ, Option, Some, None}
use Rattle.item_tree.specs.Compare.{Atom}
use Rattle.item_tree.specs.Keys.{rank}

abbrev pub atom_rank : Option Atom → ℕ
atom_rank None = 6
atom_rank (Some a) = rank a
