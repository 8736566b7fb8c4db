use Rattle.std.proofs.Common.{◌≡◌, ◌++◌, drop}
use Rattle.std.specs.List.{flat_map}
use Rattle.std.specs.Str.{chars}
use Rattle.std.specs.String.{string_bytes}
use Rattle.item_tree.specs.Item.{datums}
use Rattle.item_tree.specs.ItemText.{atom_text}
use Rattle.fn_strings.specs.inside.Atomics.{AreAtomic}
use Rattle.fn_strings.proofs.atom_texts.push_texts.Given as goal

abbrev pub invariant-loop-atom : goal.invariant-loop-atom
invariant-loop-atom l = record {
  atomic : AreAtomic (datums (drop l.atom-index l.atoms));
  text : chars (string_bytes l.text) ++ flat_map (λ v. chars l.separator ++ atom_text v) (datums (drop l.atom-index l.atoms))
      ≡ chars (string_bytes l.fn.text) ++ flat_map (λ v. chars l.separator ++ atom_text v) (datums l.atoms);
}
