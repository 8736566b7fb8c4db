-- What is held of inputs, as contracts see it.
use Rattle.std.specs.Prelude.{ℕ, List, Option}
use Rattle.item_reader.specs.Reading.{Read}
use Rattle.outside.specs.World.{World}
use Rattle.query_meaning.specs.inside.Computed.{read_of}
use Rattle.query_meaning.specs.inside.Views.{held_read}
use Rattle.query_meaning.specs.declared.library.Held.{Held}

-- a name with what is held of its input
abbrev pub entry : List ℕ × Held → List ℕ × Option Read
entry e = (e.0, held_read e.1)

-- a name with what the file of this name reads as
abbrev pub read_entry : World → List ℕ → List ℕ × Option Read
read_entry world name = (name, read_of world name)
