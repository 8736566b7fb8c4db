use Rattle.std.proofs.Common.{ltb, ltb-true, ltb-false, rules}
use Rattle.std.proofs.lemmas.List.Sorted.{IsPartitionPoint-from_clause, IsPartitionedBy-ltb}
use Rattle.name_scopes.proofs.stacks.count_before.Goals as goal

pub returns-clause-split : goal.returns-clause-split
returns-clause-split g c =
    let parted = IsPartitionedBy-ltb (λ p. p.at) _ c.args.mark c.requires in
    let point = IsPartitionPoint-from_clause (λ p. ltb p.at c.args.mark) _ _ c.partition_point.ensures.partitioned parted (λ a r q k. search rules) in
    (λ k d h i. ltb-true _ _ (point.0 k d h i), λ k d h i. ltb-false _ _ (point.1 k d h i))
