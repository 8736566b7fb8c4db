use Rattle.std.specs.Prelude.{◌-◌, length, take, drop, [], refl}
use Rattle.std.proofs.Common.{sym, subst}
use Rattle.num_fixed.specs.Fronts.{numeral_front}
use Rattle.num_fixed.specs.Numeral.{Numeral}
use Rattle.json_text.specs.inside.Scan.{Part}
use Rattle.json_text.specs.inside.Machine.{numeral_token}
use Rattle.item_reader.specs.Tokens.{IsPart}
use Rattle.item_reader.specs.declared.token.Token.TheVariants.{Bad}
use Rattle.item_reader.proofs.NumberSteps.{end_within, json_taken, others_refused, none_there, behind_end}
use Rattle.item_reader.proofs.number.number_token.Goals as goal

pub slice_bounds-result-count : goal.slice_bounds-result-count
slice_bounds-result-count c = end_within c.args.line.now c.in-Some.front.end c.in-Some.ensures.some.1.all

pub slice_bounds-result-start : goal.slice_bounds-result-start
slice_bounds-result-start c = end_within c.args.line.now c.in-Some.front.end c.in-Some.ensures.some.1.all

pub returns-in-None : goal.returns-in-None
returns-in-None c =
    let P : Part Numeral → Type 0 = λ p. IsPart Bad [] (numeral_token p) in
    subst P (sym (none_there c.args.line.now c.in-None.ensures.none)) (refl, refl)

pub returns-then-is_json_front : goal.returns-then-is_json_front
returns-then-is_json_front c =
    let l = c.args.line.now in
    let rest = take (length l - c.in-Some.front.end) (drop c.in-Some.front.end l) in
    let P : Part Numeral → Type 0 = λ p. IsPart c.value_token.result rest (numeral_token p) in
    subst P (sym (json_taken l (sym c.if-is_json_front.ensures))) (c.value_token.ensures (numeral_front l) c.in-Some.ensures.value c.in-Some.ensures.overflow, behind_end l c.in-Some.front.end c.in-Some.ensures.some.1.all)

pub returns-else-is_json_front : goal.returns-else-is_json_front
returns-else-is_json_front c =
    let P : Part Numeral → Type 0 = λ p. IsPart Bad [] (numeral_token p) in
    subst P (sym (others_refused c.args.line.now (sym c.if-is_json_front.ensures))) (refl, refl)
