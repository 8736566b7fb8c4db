use Rattle.std.proofs.Common.{◌≡◌, ◌++◌, ◌∷◌, [], length, map, sym, ap, ◌∙◌, arith}
use Rattle.std.specs.Vec.Iter.{into_iter_items}
use Rattle.query_grammar.specs.Nodes as n
use Rattle.query_parser.proofs.ListLemmas.{nothing_left, joined_more, joined_all}
use Rattle.query_parser.proofs.values.joined.Goals as goal

pub loop-other-preserved : goal.loop-other-preserved
loop-other-preserved g c =
    let at = c.loop-other in
    let x = c.in-Some.other in
    let steps : into_iter_items at.other-iterator ≡ x ∷ into_iter_items c.next.new.self = c.in-Some.ensures.steps.0 in (
      joined_more at.found.items c.append.new.self.items _ x (into_iter_items at.other-iterator) (into_iter_items c.next.new.self) c.in_ok-append.ensures.items steps at.invariant.0,
      let was = at.invariant.1 in
          let gone = c.in-Some.ensures.steps.1 in
          let short = ap length steps in
          omega arith,
    )

pub returns : goal.returns
returns g c =
    let at = c.loop-other in
    let none = c.in-None.ensures.steps in
    let empty : into_iter_items at.other-iterator ≡ [] = nothing_left _ (sym at.invariant.1 ∙ none.0) in
    joined_all at.found.items _ (into_iter_items at.other-iterator) empty at.invariant.0 ∙ ap (λ xs. c.args.first.items ++ n.concat (map (λ v. v.items) xs)) c.into_iter-other-iterator.ensures.into_iter_gives.0
