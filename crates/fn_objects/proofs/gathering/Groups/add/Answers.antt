use Rattle.std.proofs.Common.{◌∙◌, ◌++◌, ◌∷◌, [], ap}
use Rattle.std.proofs.lemmas.List.{map-append}
use Rattle.item_tree.specs.Item.{datum, datums}
use Rattle.fn_objects.proofs.GroupLemmas.{look_put}
use Rattle.fn_objects.proofs.gathering.Groups.add.Goals as goal

pub returns : goal.returns
returns c = λ ps h.
    let taken = c.in_ok-values.ensures ps h in record {
      ordered = taken.ordered (datum c.args.value.now);
      found = λ q.
          look_put (λ v. datums v.items) c.take.new.self.values c.insert.new.self ps c.args.key.now (datum c.args.value.now) c.push.new.self q (rw c.in_ok-copy-2.ensures at (c.in_ok-insert.ensures.updates.0 q)) (taken.others q)
          (ap datums c.in_ok-push.ensures.items ∙ map-append datum c.in_ok-values.values.items (c.in_ok-copy.field-0 ∷ []) ∙ (λ i. taken.taken i ++ datum (c.in_ok-copy.ensures i) ∷ []));
    }
