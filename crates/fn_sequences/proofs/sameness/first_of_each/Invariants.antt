use Rattle.std.proofs.Common.{◌≡◌, take}
use Rattle.item_tree.specs.Item.{datums}
use Rattle.value_rules.specs.Sequences.{firsts, same_atomics}
use Rattle.fn_sequences.proofs.KeyLemmas.{Known}
use Rattle.fn_sequences.proofs.sameness.first_of_each.Given as goal

abbrev pub invariant-loop-x : goal.invariant-loop-x
invariant-loop-x l = record {
  firsts : datums l.firsts.items ≡ firsts same_atomics (datums (take l.x-index l.s));
  known : Known l.keys (datums (take l.x-index l.s));
}
