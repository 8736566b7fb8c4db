use Rattle.std.proofs.Common.{subst}
use Rattle.item_tree.specs.Item.{datum}
use Rattle.item_reader.specs.Tokens.{StandsFor}
use Rattle.item_reader.proofs.Turning.{turn_atom}
use Rattle.item_reader.proofs.turn.State.value_turn.Goals as goal

pub returns-in_ok-add-in-Atom : goal.returns-in_ok-add-in-Atom
returns-in_ok-add-in-Atom c = λ t h. turn_atom c.args.may_end c.args.self.now (datum c.in-Atom.item) _ t (subst (λ k. StandsFor k t) c.in-Atom.is h) c.in_ok-add-in-Atom.ensures
