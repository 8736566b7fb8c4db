use Rattle.std.proofs.Common.{ℕ, List, [], ◌∷◌, ◌++◌, true, ap, sym, subst, ◌∙◌}
use Rattle.std.specs.Ordering.{nat_cmp}
use Rattle.std.specs.Cmp.Lexicographic.{slice_cmp}
use Rattle.std.specs.List.{list_any}
use Rattle.std.specs.Str.{bytes_eq}
use Rattle.std.specs.BTreeSet.{Updates}
use Rattle.query_tree.proofs.Seen.{seen-more}
use Rattle.query_tree.proofs.distinct_names.DistinctNames.with.Goals as goal

pub invariant_of-result : goal.invariant_of-result
invariant_of-result c =
    let one : List ℕ → Type 0 = λ k. Updates (slice_cmp nat_cmp) c.args.self.seen c.insert.new.self k true in
    let updates = subst one c.in_ok-copy-2.ensures c.in_ok-insert.ensures.updates in
    let items = c.in_ok-push.ensures.items ∙ ap (λ k. c.args.self.found.items ++ k ∷ []) c.in_ok-copy.ensures in
    record { same = λ q. seen-more c.args.self.seen c.insert.new.self c.args.self.found.items c.args.name.now c.args.self.same updates q ∙ ap (list_any (λ n. bytes_eq n q)) (sym items) }
