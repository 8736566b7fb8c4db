use Rattle.std.proofs.Common.{◌^◌, ◌<◌, ◌≤◌, ◌∙◌, refl, subst, length}
use Rattle.std.proofs.lemmas.List.{length-set}
use Rattle.order_runs.specs.inside.Follow.{followed_columns}
use Rattle.order_runs.proofs.ColumnLists.{within_at, length-followed, written_step, written_value, written_end}
use Rattle.order_runs.proofs.class_seen.follow_columns.Goals as goal

pub followed-seen-requires-clause-later : goal.followed-seen-requires-clause-later
followed-seen-requires-clause-later c = within_at (2 ^ 60) c.args.later.now c.loop-i.i _ c.requires.within c.loop-i-test.true

pub loop-i-preserved : goal.loop-i-preserved
loop-i-preserved c =
    let within : c.loop-i.i < length c.args.columns.now.items = subst (λ n. c.loop-i.i < n) c.requires.later c.loop-i-test.true in
    record {
      written = written_step (followed_columns c.args.count c.args.columns.now.items c.args.later.now) c.args.columns.now.items _ _ c.loop-i.i c.followed-seen.result
          (length-followed c.args.count c.args.columns.now.items c.args.later.now) within c.loop-i.invariant.written refl
          (written_value c.args.count c.args.columns.now.items c.args.later.now c.loop-i.columns.items c.loop-i.i c.index.result.now c.followed-seen.result _
          c.requires.later c.loop-i-test.true c.loop-i.invariant.written c.index.ensures c.followed-seen.ensures);
      len = length-set c.loop-i.columns.items c.loop-i.i c.followed-seen.result ∙ c.loop-i.invariant.len;
    }

pub returns : goal.returns
returns c =
    written_end _ c.args.columns.now.items _ c.loop-i.i (length-followed c.args.count c.args.columns.now.items c.args.later.now)
    (subst (λ n. n ≤ c.loop-i.i) c.requires.later c.loop-i-test.false) c.loop-i.invariant.written
