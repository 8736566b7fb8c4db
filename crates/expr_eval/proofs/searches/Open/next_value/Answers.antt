use Rattle.std.proofs.Common.{◌≡◌, ◌+◌, ◌∷◌, [], drop, sym, ap, ◌∙◌, Ok, Some}
use Rattle.item_tree.specs.Item.{datum}
use Rattle.query_meaning.specs.Outcome.{◌>>=◌}
use Rattle.query_meaning.specs.inside.Views.{items_of}
use Rattle.expr_eval.specs.Quantifiers.{value_first}
use Rattle.expr_eval.specs.Searches.{open_of}
use Rattle.std.proofs.lemmas.Result.{err_from_is_err_and}
use Rattle.expr_eval.proofs.SearchSteps.{none_taken, at_taken, fails_along, fails_through}
use Rattle.expr_eval.proofs.searches.Open.next_value.Goals as goal

pub returns-then-self-items-clause-gives : goal.returns-then-self-items-clause-gives
unfolding open_of
returns-then-self-items-clause-gives c =
    let s = c.args.self.now in
    ap (value_first s.bind.now.variable s.bind.now.of) (none_taken c.items-items.result.now _ s.taken c.items-items.ensures c.if-self-items.true)

pub returns-then-self-items-clause-left : goal.returns-then-self-items-clause-left
unfolding open_of
returns-then-self-items-clause-left c =
    let s = c.args.self.now in
    let e : drop s.taken (items_of s.items) ≡ [] = none_taken c.items-items.result.now _ s.taken c.items-items.ensures c.if-self-items.true in
    ap (λ l. record (open_of s) { left = l }) (e ∙ sym (ap (drop 1) e))

pub returns-in_err-value-clause-gives : goal.returns-in_err-value-clause-gives
unfolding open_of
returns-in_err-value-clause-gives c =
    let s = c.args.self.now in
    let p = err_from_is_err_and c.from_residual.result c.from_residual.ensures.1 in
    rw (p.1, p.2) (fails_along _ _ _ (ap (value_first s.bind.now.variable s.bind.now.of) (at_taken c.items-items.result.now _ s.taken _ c.items-items.ensures c.if-self-items.false c.index-items-self.is)) (fails_through _ _ (λ v. Ok (Some v)) c.in_err-value.ensures))

pub returns-clause-gives : goal.returns-clause-gives
unfolding open_of
returns-clause-gives c =
    let s = c.args.self.now in
    ap (value_first s.bind.now.variable s.bind.now.of) (at_taken c.items-items.result.now _ s.taken _ c.items-items.ensures c.if-self-items.false c.index-items-self.is)
    ∙ ap (λ r. r >>= λ v. Ok (Some v)) c.in_ok-value.ensures

pub returns-clause-left : goal.returns-clause-left
unfolding open_of
returns-clause-left c =
    let s = c.args.self.now in
    let e : drop s.taken (items_of s.items) ≡ datum c.index-items-self.result ∷ drop (s.taken + 1) (items_of s.items) = at_taken c.items-items.result.now _ s.taken _ c.items-items.ensures c.if-self-items.false c.index-items-self.is in
    ap (λ l. record (open_of s) { left = l }) (sym (ap (drop 1) e))
