use Rattle.std.proofs.Common.{subst, []}
use Rattle.query_meaning.specs.inside.Gives.{Gives}
use Rattle.query_meaning.specs.inside.Views.{items_of}
use Rattle.piece_seats.specs.Texts.{IsTextOf}
use Rattle.rumble_run.proofs.walking.text_of.Goals as goal

pub returns-in_ok-add-in-Ok-clause-value : goal.returns-in_ok-add-in-Ok-clause-value
returns-in_ok-add-in-Ok-clause-value c = λ meant h.
    let k = subst (λ v. Gives items_of v meant) c.in-Ok.is h in
    (items_of c.in-Ok.value, k, subst (λ ds. IsTextOf ds c.add.new.self.bytes.items c.add.new.self.items) c.items.ensures (c.in_ok-add-in-Ok.ensures [] c.nothing-text.ensures))
