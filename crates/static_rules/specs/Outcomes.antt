-- What compiling a query comes to.
use Rattle.std.specs.Prelude.{◌≡◌, Some, None}
use Rattle.query_tree.specs.Compiled.{CompiledTree, bound_trees}
use Rattle.query_tree.specs.NamedViews.{NamedQuery}
use Rattle.static_rules.specs.Rules.{code_of}
use Rattle.static_rules.specs.Refusals.{refusal}
use Rattle.static_rules.specs.Compiling.{compiled_query, query_width}
use Rattle.static_rules.specs.declared.compiling.CompileFault.{CompileFault}
use Rattle.static_rules.specs.declared.compiling.CompileFault.TheVariants as fault
use Rattle.static_rules.specs.declared.rules.Refusal.{Refusal}

-- the query breaks no rule, and this is its compiled tree, with frames as wide as its
-- declarations and its body need
pub record CompilesTo (q : NamedQuery) (c : CompiledTree) : Type 0 where
  pub accepted : refusal q ≡ None
  pub tree : bound_trees c.tree ≡ compiled_query q
  pub width : c.width ≡ query_width q

-- the query is refused so, or memory ran out
abbrev pub IsCompileFault : NamedQuery → CompileFault → Type 0
IsCompileFault q fault.NoMemory = Unit {0}
IsCompileFault q (fault.Refused code place) =
    (r : Refusal) × (refusal q ≡ Some r) × (code ≡ code_of r.rule) × (place ≡ r.place)
