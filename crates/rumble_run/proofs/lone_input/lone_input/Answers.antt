use Rattle.std.proofs.Common.{◌≡◌, length, sym, arith}
use Rattle.std.proofs.lemmas.Slice.Eq.{bytes_eq-Decides}
use Rattle.std.proofs.lemmas.List.{nil_from_length}
use Rattle.std.proofs.lemmas.Bool.Decides.{nat_tests}
use Rattle.rumble_run.proofs.LoneInputs.{one_is, lone_of_call}
use Rattle.rumble_run.proofs.lone_input.lone_input.Goals as goal

pub returns-in-Some : goal.returns-in-Some
returns-in-Some c =
    let none : length c.args.query.now.variables.items ≡ 0 = grind (arith, nat_tests, c.args.query.now.variables.ok) in
    let same = (bytes_eq-Decides _ _).0 (sym c.if-eq.ensures) in
    (one_is _ _ c.in-len1.len_at_least c.in-len1.len_below c.only-item.is, lone_of_call c.args.query.now _ _ (nil_from_length _ none) same c.in-Some.ensures)
