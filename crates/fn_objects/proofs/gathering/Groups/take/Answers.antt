use Rattle.std.proofs.Common.{◌∙◌, ◌++◌, ◌∷◌, [], ap, option_map}
use Rattle.item_tree.specs.Item.{datums}
use Rattle.fn_objects.specs.inside.Groups.{group_of}
use Rattle.fn_objects.proofs.GroupLemmas.{some_group, no_group, order_kept, order_more, look_taken}
use Rattle.fn_objects.proofs.gathering.Groups.take.Goals as goal

pub returns-in-Some : goal.returns-in-Some
returns-in-Some c = λ ps h.
    let k = c.args.key.now in
    let s = some_group ps k (datums c.in-Some.values.items) (ap (option_map (λ v. datums v.items)) c.in-Some.ensures.value ∙ h.found k) in record {
      ordered = λ v. order_kept _ ps k v h.ordered s.0;
      taken = s.1;
      others = λ q. look_taken (λ v. datums v.items) c.args.self.now.values c.remove.new.self k q (group_of ps q) (c.in-Some.ensures.updates.0 q) (h.found q);
    }

pub returns-in_ok-push-in-None : goal.returns-in_ok-push-in-None
returns-in_ok-push-in-None c = λ ps h.
    let k = c.args.key.now in
    let s = no_group ps k (ap (option_map (λ v. datums v.items)) c.in-None.ensures.value ∙ h.found k) in record {
      ordered = λ v. order_more c.args.self.now.keys.items _ ps k v h.ordered s.0 (c.in_ok-push-in-None.ensures.items ∙ ap (λ j. c.args.self.now.keys.items ++ j ∷ []) c.in_ok-copy-in-None.ensures);
      taken = ap datums c.new.ensures.items ∙ s.1;
      others = λ q. look_taken (λ v. datums v.items) c.args.self.now.values c.remove.new.self k q (group_of ps q) (c.in-None.ensures.updates.0 q) (h.found q);
    }
