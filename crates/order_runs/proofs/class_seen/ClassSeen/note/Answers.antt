use Rattle.std.proofs.Common.{◌∙◌, ◌+◌, ◌<◌, ◌^◌, sym, ap, subst, length}
use Rattle.std.proofs.lemmas.List.{length-map}
use Rattle.tuple_rows.specs.Keys.{key_data, key_datum}
use Rattle.order_runs.specs.Seen.{Seen}
use Rattle.order_runs.specs.inside.Follow.{followed_columns}
use Rattle.order_runs.specs.inside.Notes.{key_columns}
use Rattle.order_runs.proofs.ColumnLists.{length-followed, kept_one, stands_one}
use Rattle.order_runs.proofs.class_seen.ClassSeen.note.Goals as goal

pub invariant_of-self : goal.invariant_of-self
invariant_of-self c =
    kept_one c.self.inside.tuples c.self.inside.columns.items c.note_columns.new.columns.items (key_data c.args.keys.now)
    (subst (λ (s : Seen). s.tuples + 1 < 2 ^ 60) (sym c.self.view_is) c.requires.room)
    (length-map c.args.keys.now key_datum ∙ c.requires.count ∙ sym (ap (λ (s : Seen). length s.columns) c.self.view_is))
    c.note_columns.ensures c.self.invariant

pub returns-clause-count : goal.returns-clause-count
returns-clause-count c =
    ap length c.note_columns.ensures ∙ length-followed c.self.inside.tuples c.self.inside.columns.items (key_columns (key_data c.args.keys.now))
    ∙ ap (λ (s : Seen). length s.columns) c.self.view_is

pub returns-clause-stands : goal.returns-clause-stands
returns-clause-stands c = λ K a.
    stands_one c.args.self.now _ K (key_data c.args.keys.now) (length-map c.args.keys.now key_datum ∙ c.requires.count)
    (ap (λ (s : Seen). s.tuples + 1) c.self.view_is)
    (c.note_columns.ensures ∙ ap (λ (s : Seen). followed_columns s.tuples s.columns (key_columns (key_data c.args.keys.now))) c.self.view_is) a
