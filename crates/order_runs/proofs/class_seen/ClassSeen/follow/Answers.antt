use Rattle.std.proofs.Common.{◌∙◌, ◌+◌, ◌<◌, ◌^◌, ℕ, List, sym, ap, subst, length, arith}
use Rattle.order_runs.specs.declared.column_seen.ColumnSeen.{ColumnSeen}
use Rattle.order_runs.specs.Seen.{Seen}
use Rattle.order_runs.specs.inside.Follow.{AllWithin, followed_columns}
use Rattle.order_runs.proofs.ColumnLists.{length-followed, all_more, kept_behind, stands_behind}
use Rattle.order_runs.proofs.class_seen.ClassSeen.follow.Goals as goal

pub follow_columns-requires-clause-within : goal.follow_columns-requires-clause-within
follow_columns-requires-clause-within c =
    let most : c.later.inside.tuples < 2 ^ 60 = c.later.invariant.most_tuples in
    subst (λ (cs : List ColumnSeen). AllWithin (2 ^ 60) cs) (sym c.as_slice.ensures.value)
    (all_more c.later.inside.tuples (2 ^ 60) c.later.inside.columns.items (omega arith) c.later.invariant.within)

pub invariant_of-self : goal.invariant_of-self
invariant_of-self c =
    kept_behind c.self.inside.tuples c.later.inside.tuples c.self.inside.columns.items c.later.inside.columns.items c.follow_columns.new.columns.items
    (subst (λ (n : ℕ). n < 2 ^ 60) (sym (λ i. (ap (λ (s : Seen). s.tuples) c.self.view_is) i + (ap (λ (s : Seen). s.tuples) c.later.view_is) i)) c.requires.room)
    (ap (λ (s : Seen). length s.columns) c.later.view_is ∙ c.requires.count ∙ sym (ap (λ (s : Seen). length s.columns) c.self.view_is))
    (c.follow_columns.ensures ∙ ap (followed_columns c.self.inside.tuples c.self.inside.columns.items) c.as_slice.ensures.value)
    c.self.invariant c.later.invariant.within

pub returns-clause-count : goal.returns-clause-count
returns-clause-count c =
    ap length c.follow_columns.ensures ∙ length-followed c.self.inside.tuples c.self.inside.columns.items c.as_slice.result.now
    ∙ ap (λ (s : Seen). length s.columns) c.self.view_is

pub returns-clause-stands : goal.returns-clause-stands
returns-clause-stands c = λ K L a b.
    stands_behind c.args.self.now c.args.later.now _ K L c.requires.count
    (λ i. (ap (λ (s : Seen). s.tuples) c.self.view_is) i + (ap (λ (s : Seen). s.tuples) c.later.view_is) i)
    (c.follow_columns.ensures
    ∙ (λ i. followed_columns ((ap (λ (s : Seen). s.tuples) c.self.view_is) i) ((ap (λ (s : Seen). s.columns) c.self.view_is) i)
    ((c.as_slice.ensures.value ∙ ap (λ (s : Seen). s.columns) c.later.view_is) i)))
    a b
