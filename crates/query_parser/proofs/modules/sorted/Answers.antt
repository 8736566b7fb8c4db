use Rattle.std.proofs.Common.{◌≡◌, ◌∷◌, [], length, refl, sym, ap, ◌∙◌, arith}
use Rattle.std.specs.Vec.Iter.{into_iter_items}
use Rattle.query_parser.specs.Views.{variables_of, functions_of}
use Rattle.query_parser.proofs.ListLemmas.{nothing_left, variables_more, functions_more, variables_all, functions_all}
use Rattle.query_parser.proofs.modules.sorted.Goals as goal

pub loop-declared-preserved : goal.loop-declared-preserved
loop-declared-preserved g c =
    let at = c.loop-declared in
    let x = c.in-Some.declared in
    let steps : into_iter_items at.declared-iterator ≡ x ∷ into_iter_items c.next.new.self = c.in-Some.ensures.steps.0 in (
      variables_more _ _ _ x (into_iter_items at.declared-iterator) (into_iter_items c.next.new.self) c.in_ok-put.ensures.0 steps at.invariant.0,
      functions_more _ _ _ x (into_iter_items at.declared-iterator) (into_iter_items c.next.new.self) c.in_ok-put.ensures.1 steps at.invariant.1,
      let was = at.invariant.2 in
          let gone = c.in-Some.ensures.steps.1 in
          let short = ap length steps in
          omega arith,
    )

pub returns : goal.returns
returns g c =
    let at = c.loop-declared in
    let none = c.in-None.ensures.steps in
    let empty : into_iter_items at.declared-iterator ≡ [] = nothing_left _ (sym at.invariant.2 ∙ none.0) in (
      variables_all _ _ (into_iter_items at.declared-iterator) empty at.invariant.0 ∙ ap variables_of c.into_iter-declared-iterator.ensures.into_iter_gives.0,
      functions_all _ _ (into_iter_items at.declared-iterator) empty at.invariant.1 ∙ ap functions_of c.into_iter-declared-iterator.ensures.into_iter_gives.0,
      refl,
    )
