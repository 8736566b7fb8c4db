use Rattle.std.proofs.Common.{refl, subst}
use Rattle.item_reader.specs.View.{kinds_of}
use Rattle.item_reader.specs.Turns.{GoesOn}
use Rattle.item_reader.proofs.Turning.{comma_refused, comma_taken}
use Rattle.item_reader.proofs.turn.State.go_on.Goals as goal

pub returns-in-None : goal.returns-in-None
returns-in-None c = comma_refused c.args.self.now _ (subst (λ o. GoesOn o (kinds_of c.args.self.now.kinds.items)) c.in-None.is c.behind_comma.ensures)

pub returns-in-Some : goal.returns-in-Some
returns-in-Some c = comma_taken c.args.self.now _ c.in-Some.mode (subst (λ o. GoesOn o (kinds_of c.args.self.now.kinds.items)) c.in-Some.is c.behind_comma.ensures) refl refl refl
