use Rattle.std.proofs.Common.{◌≡◌, ◌≤◌}
use Rattle.std.specs.Prelude.{option_copied}
use Rattle.rumble_run.specs.inside.Cuts.{left_length, left_read}
use Rattle.rumble_run.proofs.items.Lines.next_item.Given as goal

-- Blank lines give nothing, so what is left reads as all did at first.
abbrev pub invariant-blank : goal.invariant-blank
invariant-blank l = record {
  same : left_read (option_copied l.self.left) ≡ left_read (option_copied l.fn.self.left);
  shorter : left_length (option_copied l.self.left) ≤ left_length (option_copied l.fn.self.left);
}

abbrev pub decreases-blank : goal.decreases-blank
decreases-blank l = left_length (option_copied l.self.left)
