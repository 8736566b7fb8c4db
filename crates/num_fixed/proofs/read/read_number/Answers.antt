use Rattle.std.proofs.Common.{◌≡◌, length, IfOk, IfErr, subst, rules}
use Rattle.num_fixed.specs.Numeral.{IsSaid, IsRefused}
use Rattle.num_fixed.proofs.FrontLemmas.{front_whole}
use Rattle.num_fixed.proofs.read.read_number.Goals as goal

pub returns-then-front-text-clause-value : goal.returns-then-front-text-clause-value
returns-then-front-text-clause-value c = λ n h.
    let all : c.in-Some.front.end ≡ length c.args.text.now = search rules in
    let is = front_whole c.args.text.now c.in-Some.front.end c.in-Some.ensures.some.0 c.in-Some.ensures.some.1.all all n h in
    subst (λ m. IfOk c.in-Some.front.value (IsSaid m)) is c.in-Some.ensures.value

pub returns-then-front-text-clause-overflow : goal.returns-then-front-text-clause-overflow
returns-then-front-text-clause-overflow c = λ n h.
    let all : c.in-Some.front.end ≡ length c.args.text.now = search rules in
    let is = front_whole c.args.text.now c.in-Some.front.end c.in-Some.ensures.some.0 c.in-Some.ensures.some.1.all all n h in
    subst (λ m. IfErr c.in-Some.front.value (IsRefused m)) is c.in-Some.ensures.overflow
