use Rattle.std.proofs.Common.{◌∙◌, sym, ap, true, false, []}
use Rattle.std.proofs.lemmas.List.{append-nil}
use Rattle.item_tree.specs.declared.item.Item.TheVariants.{Text}
use Rattle.item_tree.specs.Datum.{text}
use Rattle.item_tree.specs.Item.{datums}
use Rattle.fn_objects.proofs.KeyLemmas.{keys_added}
use Rattle.fn_objects.proofs.ListLemmas.{extended}
use Rattle.fn_objects.proofs.key_sets.add_key.Goals as goal

pub returns-in_ok-push : goal.returns-in_ok-push
returns-in_ok-push c = λ ks h.
    keys_added c.args.seen.now c.insert.new.self c.args.found.now.items c.push.new.self.items ks c.args.key.now true h (sym c.if-branch.true ∙ (rw c.in_ok-copy.ensures at c.in_ok-insert.ensures.added))
    (λ q. rw c.in_ok-copy.ensures at (c.in_ok-insert.ensures.updates.0 q))
    (extended (datums c.args.found.now.items) [] c.args.found.now.items c.push.new.self.items (Text c.in_ok-copy-2.field-0) (text c.args.key.now) (sym (append-nil (datums c.args.found.now.items))) c.in_ok-push.ensures.items (ap text c.in_ok-copy-2.ensures))

pub returns-else-branch : goal.returns-else-branch
returns-else-branch c = λ ks h.
    keys_added c.args.seen.now c.insert.new.self c.args.found.now.items c.args.found.now.items ks c.args.key.now false h (sym c.if-branch.false ∙ (rw c.in_ok-copy.ensures at c.in_ok-insert.ensures.added))
    (λ q. rw c.in_ok-copy.ensures at (c.in_ok-insert.ensures.updates.0 q))
    (sym (append-nil (datums c.args.found.now.items)))
