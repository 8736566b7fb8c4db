use Rattle.std.proofs.Common.{◌≡◌, take, Ok}
use Rattle.std.specs.List.{All}
use Rattle.item_tree.specs.Datum.{IsAtomic}
use Rattle.item_tree.specs.Item.{datum, datums}
use Rattle.value_rules.specs.Operands.{atomic}
use Rattle.value_rules.specs.Sequences.{each}
use Rattle.fn_sequences.proofs.sameness.check_atomics.Given as goal

abbrev pub invariant-loop-x : goal.invariant-loop-x
invariant-loop-x l = record {
  passed : each atomic (datums (take l.x-index l.s)) ≡ Ok (datums (take l.x-index l.s));
  atomics : All (λ x. IsAtomic (datum x)) (take l.x-index l.s);
}
