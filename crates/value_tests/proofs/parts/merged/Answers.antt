use Rattle.std.proofs.Common.{◌++◌, length-append, arith}
use Rattle.std.proofs.lemmas.List.{length-map}
use Rattle.item_tree.specs.Item.{datum, datums}
use Rattle.value_tests.proofs.parts.merged.Goals as goal

pub merge-requires-then-left : goal.merge-requires-then-left
merge-requires-then-left g c =
    let a = c.args.a.now in
    let b = c.args.b.now in
    let both = c.in_ok-merge.ensures.merged (datums a) (datums b) c.in_ok-first.ensures c.in_ok-second.ensures in
    let few = g.met.P.Partial.counted c.merge.new.self (datums a ++ datums b) both in
    let last = g.met.P.Partial.counted c.in_ok-third.third (datums c.args.c.now) c.in_ok-third.ensures in
    omega (arith, few, last, length-append (datums a) (datums b), length-map a datum, length-map b datum, length-map c.args.c.now datum)

pub merge-requires-else-left-2 : goal.merge-requires-else-left-2
merge-requires-else-left-2 g c =
    let a = c.args.b.now in
    let b = c.args.c.now in
    let both = c.in_ok-merge-3.ensures.merged (datums a) (datums b) c.in_ok-second.ensures c.in_ok-third.ensures in
    let few = g.met.P.Partial.counted c.merge-else-left.new.self (datums a ++ datums b) both in
    let first = g.met.P.Partial.counted c.in_ok-first.first (datums c.args.a.now) c.in_ok-first.ensures in
    omega (arith, few, first, length-append (datums a) (datums b), length-map a datum, length-map b datum, length-map c.args.a.now datum)
