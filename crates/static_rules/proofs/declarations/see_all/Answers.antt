use Rattle.std.proofs.Common.{◌≡◌, ◌≤◌, length, sym, ap, ◌∙◌, rules}
use Rattle.static_rules.specs.Stacks as seen
use Rattle.static_rules.specs.Mentions as m
use Rattle.query_tree.specs.NamedViews.{named_function}
use Rattle.static_rules.proofs.Declaring.{seen-more, seen-all}
use Rattle.static_rules.proofs.declarations.see_all.Goals as goal

pub loop-part-preserved : goal.loop-part-preserved
loop-part-preserved c =
    let part = c.part-item.result in
    let arity : length part.params.items ≡ c.len.result = search rules in
    seen-more c.args.walk.now c.loop-part.walk c.see.new.self named_function m.callee_of c.args.parts.now c.loop-part.part-index part
    (seen.callee_of (part.function.name, c.len.result)) c.loop-part.invariant c.loop-part-test.true c.part-item.is
    (ap (λ n. seen.callee_of (part.function.name, n)) arity) c.in_ok-see.ensures

pub returns : goal.returns
returns c =
    let all : length c.args.parts.now ≤ c.loop-part.part-index = search rules in
    seen-all c.args.walk.now c.loop-part.walk named_function m.callee_of c.args.parts.now c.loop-part.part-index c.loop-part.invariant all
