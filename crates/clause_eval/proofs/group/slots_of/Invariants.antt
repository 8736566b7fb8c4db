use Rattle.std.proofs.Common.{◌≡◌, drop}
use Rattle.query_tree.specs.BoundViews.{bound_group_vars}
use Rattle.query_tree.specs.Scoped.{keys_scope, entered_last, unnumbered}
use Rattle.query_meaning.specs.Groups.{slots_of}
use Rattle.clause_eval.proofs.group.slots_of.Given as goal

abbrev pub invariant-loop-key : goal.invariant-loop-key
invariant-loop-key l =
    keys_scope entered_last unnumbered l.slots.items tt (bound_group_vars (drop l.key-index l.keys)) ≡ slots_of (bound_group_vars l.keys)
