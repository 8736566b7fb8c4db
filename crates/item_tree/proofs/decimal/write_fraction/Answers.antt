use Rattle.std.proofs.Common.{◌+◌, ◌-◌, set, take, drop, arith, take_all, length-drop, length-set}
use Rattle.item_tree.proofs.DecimalDigits.{fraction_stands}
use Rattle.item_tree.proofs.decimal.write_fraction.Goals as goal

pub returns-clause-text : goal.returns-clause-text
returns-clause-text c =
    let w = c.write_places-point in
    let dotted = set w.new.bytes w.result 46 in
    let places = take (28 - (w.result + 1)) (drop (w.result + 1) dotted) in
    let all = take_all (28 - (w.result + 1)) (drop (w.result + 1) dotted) (omega (arith, length-drop (w.result + 1) dotted, length-set w.new.bytes w.result 46)) in
    fraction_stands c.args.units w.new.bytes places w.result c.kept_len.result c.if-units-eq0.false (omega arith) w.ensures.written all c.kept_len.ensures.within c.kept_len.ensures.kept
