use Rattle.std.proofs.Common.{◌≡◌, drop}
use Rattle.query_tree.specs.BoundViews.{bound_group_vars}
use Rattle.query_tree.specs.Scoped.{keys_scope, unnumbered, entered_last}
use Rattle.query_tree.proofs.slots.push_keys.Given as goal

abbrev pub invariant-loop-key : goal.invariant-loop-key
invariant-loop-key l = keys_scope entered_last unnumbered l.slots.items tt (bound_group_vars (drop l.key-index l.keys)) ≡ keys_scope entered_last unnumbered l.initial.slots.items tt (bound_group_vars l.keys)
