use Rattle.std.proofs.Common.{sym, subst, Option}
use Rattle.item_tree.specs.declared.item.Item.{Item}
use Rattle.item_tree.specs.Laws.{IsKey}
use Rattle.tuple_rows.specs.Keys.{key_datum}
use Rattle.group_table.proofs.CodeRows.{keys_at, parts_step}
use Rattle.group_table.proofs.group_key.parts.Goals as goal

pub part-requires : goal.part-requires
part-requires c =
    subst (λ (k : Option Item). IsKey (key_datum k)) (sym c.key-item.is)
    (keys_at c.args.keys.now c.loop-key.key-index c.key-item.result c.requires c.loop-key-test.true)

pub loop-key-preserved : goal.loop-key-preserved
loop-key-preserved c =
    parts_step c.args.keys.now c.loop-key.key-index c.key-item.result c.loop-key.parts.items c.push.new.self.items c.in_ok-part.field-0
    c.loop-key-test.true c.key-item.is c.in_ok-push.ensures.items c.in_ok-part.ensures c.loop-key.invariant
