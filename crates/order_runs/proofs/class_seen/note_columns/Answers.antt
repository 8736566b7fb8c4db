use Rattle.std.proofs.Common.{◌<◌, ◌≤◌, ◌≡◌, ◌∙◌, List, refl, sym, ap, subst, length}
use Rattle.std.proofs.lemmas.List.{length-set}
use Rattle.tuple_rows.specs.Keys.{key_data}
use Rattle.order_runs.specs.declared.column_seen.ColumnSeen.{ColumnSeen}
use Rattle.order_runs.specs.inside.Follow.{followed, followed_columns}
use Rattle.order_runs.specs.inside.Notes.{key_columns}
use Rattle.order_runs.proofs.ColumnLists.{length-followed, length-key_columns, key_column_at, written_step, written_value, written_end}
use Rattle.order_runs.proofs.class_seen.note_columns.Goals as goal

pub loop-i-preserved : goal.loop-i-preserved
loop-i-preserved c =
    let ds : List ColumnSeen = key_columns (key_data c.args.keys.now) in
    let same : length ds ≡ length c.args.columns.now.items = length-key_columns c.args.keys.now ∙ c.requires.keys in
    let key_within : c.loop-i.i < length ds = subst (λ n. c.loop-i.i < n) (sym (length-key_columns c.args.keys.now)) c.loop-i-test.true in
    let within : c.loop-i.i < length c.args.columns.now.items = subst (λ n. c.loop-i.i < n) same key_within in
    record {
      written = written_step (followed_columns c.args.count c.args.columns.now.items ds) c.args.columns.now.items _ _ c.loop-i.i c.followed-seen.result
          (length-followed c.args.count c.args.columns.now.items ds) within c.loop-i.invariant.written refl
          (written_value c.args.count c.args.columns.now.items ds c.loop-i.columns.items c.loop-i.i c.index.result.now c.followed-seen.result c.of.result
          same key_within c.loop-i.invariant.written c.index.ensures
          (c.followed-seen.ensures ∙ ap (λ (d : ColumnSeen). followed c.args.count c.index.result.now d)
          (c.of.ensures ∙ sym (key_column_at c.args.keys.now c.loop-i.i c.index-keys-i.result c.of.result c.loop-i-test.true c.index-keys-i.is))));
      len = length-set c.loop-i.columns.items c.loop-i.i c.followed-seen.result ∙ c.loop-i.invariant.len;
    }

pub returns : goal.returns
returns c =
    let ds : List ColumnSeen = key_columns (key_data c.args.keys.now) in
    written_end (followed_columns c.args.count c.args.columns.now.items ds) c.args.columns.now.items _ c.loop-i.i
    (length-followed c.args.count c.args.columns.now.items ds)
    (subst (λ n. n ≤ c.loop-i.i) c.requires.keys c.loop-i-test.false) c.loop-i.invariant.written
