use Rattle.std.proofs.Common.{◌<◌, ◌∙◌, ℕ, List, [], sym, ap, subst, length, take, get_or, ◌≤◌}
use Rattle.std.proofs.lemmas.List.{take_all}
use Rattle.tuple_rows.specs.Keys.{KeyList}
use Rattle.order_runs.specs.declared.run.Run.{Run}
use Rattle.order_runs.specs.Clashes.{first_clash}
use Rattle.order_runs.specs.Runs.{concat}
use Rattle.order_runs.specs.Seen.{Seen, SeenStandsFor}
use Rattle.order_runs.proofs.RunLists.{seen_at, seen_length, counted_at, take_next, no_clash_next, conflict_found}
use Rattle.order_runs.proofs.merge.find_conflict.Goals as goal

pub clash_after-requires : goal.clash_after-requires
clash_after-requires c =
    c.loop-i.invariant.count
    ∙ sym (ap (λ (s : Seen). length s.columns) (c.seen-seen.ensures ∙ ap (λ (r : Run). r.seen) c.index-runs-i.is)
    ∙ counted_at c.args.columns c.args.runs.now c.loop-i.i c.index-runs-i.result c.requires c.loop-i-test.true)

pub returns-in-Some-clause-fault : goal.returns-in-Some-clause-fault
returns-in-Some-clause-fault c = λ KS a.
    let s = c.loop-i.invariant.stands KS a in
    let own = subst (λ (x : Seen). SeenStandsFor x (get_or KS c.loop-i.i [])) (sym (c.seen-seen.ensures ∙ ap (λ (r : Run). r.seen) c.index-runs-i.is))
    (seen_at c.args.runs.now KS c.loop-i.i c.index-runs-i.result a c.loop-i-test.true) in
    conflict_found KS c.loop-i.i c.in-Some.tuple c.in-Some.column (subst (λ (n : ℕ). c.loop-i.i < n) (sym (seen_length c.args.runs.now KS a)) c.loop-i-test.true)
    (s.1) (sym (c.clash_after.ensures _ _ (s.0) own) ∙ c.in-Some.is)

pub follow-requires : goal.follow-requires
follow-requires c =
    ap (λ (s : Seen). length s.columns) (c.seen-seen.ensures ∙ ap (λ (r : Run). r.seen) c.index-runs-i.is)
    ∙ counted_at c.args.columns c.args.runs.now c.loop-i.i c.index-runs-i.result c.requires c.loop-i-test.true
    ∙ sym c.loop-i.invariant.count

pub loop-i-preserved : goal.loop-i-preserved
loop-i-preserved c = record {
  stands = λ KS a.
      let s = c.loop-i.invariant.stands KS a in
      let lt : c.loop-i.i < length KS = subst (λ (n : ℕ). c.loop-i.i < n) (sym (seen_length c.args.runs.now KS a)) c.loop-i-test.true in
      let own = subst (λ (x : Seen). SeenStandsFor x (get_or KS c.loop-i.i [])) (sym (c.seen-seen.ensures ∙ ap (λ (r : Run). r.seen) c.index-runs-i.is))
      (seen_at c.args.runs.now KS c.loop-i.i c.index-runs-i.result a c.loop-i-test.true) in
      let before : List KeyList = concat (take c.loop-i.i KS) in
      let next : List KeyList = get_or KS c.loop-i.i [] in (
        subst (λ (K : List KeyList). SeenStandsFor c.follow.new.before K) (sym (take_next KS c.loop-i.i lt)) (c.in_ok-follow-in-None.ensures.stands before next (s.0) own),
        ap first_clash (take_next KS c.loop-i.i lt) ∙ no_clash_next before next (s.1) (sym (c.clash_after.ensures before next (s.0) own) ∙ c.in-None.is),
      );
  count = c.in_ok-follow-in-None.ensures.count ∙ c.loop-i.invariant.count;
}

pub returns-clause-none : goal.returns-clause-none
returns-clause-none c = λ KS a.
    ap (λ (LS : List (List KeyList)). first_clash (concat LS))
    (sym (take_all c.loop-i.i KS (subst (λ (n : ℕ). n ≤ c.loop-i.i) (sym (seen_length c.args.runs.now KS a)) c.loop-i-test.false)))
    ∙ (c.loop-i.invariant.stands KS a).1
