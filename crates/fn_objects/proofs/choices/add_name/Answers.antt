use Rattle.fn_objects.proofs.ChoiceLemmas.{name_put}
use Rattle.fn_objects.proofs.choices.add_name.Goals as goal

pub returns-in_ok-insert-in-Text : goal.returns-in_ok-insert-in-Text
returns-in_ok-insert-in-Text c = λ k.
    rw c.in-Text.is (name_put c.args.set.now c.insert.new.self _ k (rw c.in_ok-copy-in-Text.ensures at (c.in_ok-insert-in-Text.ensures.updates.0 k)))
