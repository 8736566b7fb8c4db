use Rattle.std.proofs.Common.{take}
use Rattle.tuple_rows.specs.Keys.{key_data}
use Rattle.group_table.specs.inside.KeyParts.{AreParts}
use Rattle.group_table.proofs.group_key.parts.Given as goal

abbrev pub invariant-loop-key : goal.invariant-loop-key
invariant-loop-key l = AreParts l.parts.items (key_data (take l.key-index l.keys))
