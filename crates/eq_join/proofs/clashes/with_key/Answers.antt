use Rattle.std.proofs.Common.{Option, ◌++◌, ◌∷◌, [], sym, ap, ◌∙◌, subst}
use Rattle.item_tree.specs.declared.item.Item.{Item}
use Rattle.item_tree.specs.declared.class.Class.{Class}
use Rattle.item_tree.specs.Item.{datum}
use Rattle.tuple_rows.specs.Keys.{key_datum}
use Rattle.eq_join.specs.Clashes.{clash, clash_at, earlier}
use Rattle.eq_join.specs.inside.Noted.{noted, AreClashes}
use Rattle.eq_join.proofs.PairLists.{noted_empty, noted_item}
use Rattle.eq_join.proofs.clashes.with_key.Goals as goal

pub returns-in-None : goal.returns-in-None
returns-in-None c = λ ls h a.
    subst (λ (k : Option Item). AreClashes c.args.clashes (ls ++ key_datum k ∷ [])) (sym c.in-None.is) (noted_empty c.args.clashes ls a)

pub returns-in-Some : goal.returns-in-Some
returns-in-Some c = λ ls h a.
    subst (λ (k : Option Item). AreClashes c.note.result (ls ++ key_datum k ∷ [])) (sym c.in-Some.is)
    (noted_item c.args.clashes c.note.result (datum c.in-Some.item) c.args.at ls h
    (λ k. c.note.ensures k
    ∙ ap (λ (o : Option Class). earlier (noted c.args.clashes k) (clash_at (clash k o) c.args.at)) c.class.ensures) a)
