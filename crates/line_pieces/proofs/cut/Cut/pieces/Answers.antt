use Rattle.std.proofs.Common.{subst, arith}
use Rattle.std.proofs.lemmas.Grind.{common_steps}
use Rattle.std.proofs.lemmas.List.Sums.{sum_by_more_le}
use Rattle.line_pieces.specs.Cuts.{Cutting, CanCut, pieces_in}
use Rattle.line_pieces.proofs.Sizes.{few_pieces}
use Rattle.line_pieces.proofs.cut.Cut.pieces.Goals as goal

pub overflow_add-pieces : goal.overflow_add-pieces
overflow_add-pieces c =
    let few = few_pieces c.args.self.now.size c.args.self.now.lengths (subst (λ (v : Cutting). CanCut v.lengths v.size) c.self.view_is c.self.invariant) in
    let more = sum_by_more_le (pieces_in c.args.self.now.size) c.args.self.now.lengths c.loop-n.n-index 0 in
    grind (arith, common_steps, few, more)

pub returns-clause-bound : goal.returns-clause-bound
returns-clause-bound c =
    let few = few_pieces c.args.self.now.size c.args.self.now.lengths (subst (λ (v : Cutting). CanCut v.lengths v.size) c.self.view_is c.self.invariant) in
    grind (arith, common_steps, few)
