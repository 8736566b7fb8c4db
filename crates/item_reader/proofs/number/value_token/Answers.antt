use Rattle.std.proofs.Common.{◌≡◌, sym, ◌∙◌, ap, subst, arith, rules, Ok, IfErr}
use Rattle.std.proofs.lemmas.Int.{ints}
use Rattle.num_fixed.specs.Bounds.{InBounds}
use Rattle.num_fixed.specs.Numeral.{IsSaid, IsRefused}
use Rattle.num_fixed.specs.declared.number.Kind.TheVariants.{Units}
use Rattle.num_fixed.specs.declared.number.Number.TheVariants.{Dec}
use Rattle.item_tree.specs.Datum.{decimal}
use Rattle.json_text.proofs.NumberLemmas.{read_in_bounds, read_out_of_bounds}
use Rattle.item_reader.proofs.number.value_token.Goals as goal

pub returns-in-Ok-Dec : goal.returns-in-Ok-Dec
returns-in-Ok-Dec c = λ n said refused.
    let f : IsSaid n (Dec c.in-Ok-Dec.m) = search rules in
    let b : InBounds Units c.in-Ok-Dec.m = f.1 in
    let e : c.new-in-Ok-Dec.result ≡ c.in-Ok-Dec.m = omega (arith, ints) in
    read_in_bounds n (Dec c.in-Ok-Dec.m) f.0 f.1 ∙ ap (λ z. Ok (decimal z)) (sym e)

pub returns-in-Err : goal.returns-in-Err
returns-in-Err c = λ n said refused. read_out_of_bounds n (subst (λ v. IfErr v (IsRefused n)) c.in-Err.is refused).1
