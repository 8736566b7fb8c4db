use Rattle.std.proofs.Common.{◌≡◌, Option, Some, None, option_map, sym, ap, ◌∙◌}
use Rattle.std.specs.Borrow.{Bor}
use Rattle.item_tree.specs.declared.item.Item.{Item}
use Rattle.item_tree.specs.declared.class.Class.{Class}
use Rattle.item_tree.specs.Item.{datum}
use Rattle.item_tree.specs.Classes.{class_of}
use Rattle.tuple_rows.specs.Keys.{KeyList}
use Rattle.eq_join.specs.Pairs.{pairs}
use Rattle.eq_join.specs.Clashes.{first_clash}
use Rattle.eq_join.specs.inside.Noted.{noted}
use Rattle.eq_join.specs.inside.Places.{matches}
use Rattle.eq_join.proofs.PairLists.{empty_pairs, clash_answer, hits_answer}
use Rattle.eq_join.proofs.join_index.JoinIndex.hits.Goals as goal

pub returns-in_default : goal.returns-in_default
returns-in_default c =
    ap (λ (o : Option (Bor Item)). pairs (option_map (λ x. datum x.now) o) c.args.self.now) c.in_default.is
    ∙ empty_pairs 0 c.args.self.now

pub returns-in-Some-of : goal.returns-in-Some-of
returns-in-Some-of c =
    let noticed : first_clash (class_of (datum c.in-Some.item.now)) 0 c.args.self.now ≡ Some c.in-Some-of.fault =
    ap (λ (ls : KeyList). first_clash (class_of (datum c.in-Some.item.now)) 0 ls) (sym c.self.view_is)
    ∙ sym (c.self.invariant.0 (class_of (datum c.in-Some.item.now)))
    ∙ ap (λ (o : Option Class). noted c.self.inside.clashes o) (sym c.class.ensures)
    ∙ sym c.of.ensures ∙ c.in-Some-of.is in
    ap (λ (o : Option (Bor Item)). pairs (option_map (λ x. datum x.now) o) c.args.self.now) c.in-Some.is
    ∙ clash_answer (datum c.in-Some.item.now) c.args.self.now c.in-Some-of.fault noticed

pub returns-in-None : goal.returns-in-None
returns-in-None c =
    let noticed : first_clash (class_of (datum c.in-Some.item.now)) 0 c.args.self.now ≡ None =
    ap (λ (ls : KeyList). first_clash (class_of (datum c.in-Some.item.now)) 0 ls) (sym c.self.view_is)
    ∙ sym (c.self.invariant.0 (class_of (datum c.in-Some.item.now)))
    ∙ ap (λ (o : Option Class). noted c.self.inside.clashes o) (sym c.class.ensures)
    ∙ sym c.of.ensures ∙ c.in-None.is in
    ap (λ (o : Option (Bor Item)). pairs (option_map (λ x. datum x.now) o) c.args.self.now) c.in-Some.is
    ∙ hits_answer (datum c.in-Some.item.now) c.args.self.now c.positions_of.result.now noticed
    (c.positions_of.ensures ∙ c.self.invariant.1.found (datum c.in-Some.item.now)
    ∙ ap (λ (ls : KeyList). matches (datum c.in-Some.item.now) 0 ls) c.self.view_is)
