use Rattle.std.specs.Prelude.{◌-◌, length, take, drop, pos}
use Rattle.std.proofs.Common.{◌∙◌, sym, subst}
use Rattle.num_fixed.specs.Fronts.{numeral_front}
use Rattle.num_fixed.specs.declared.number.Number.TheVariants.{Int}
use Rattle.json_text.specs.inside.Scan.{Part}
use Rattle.num_fixed.specs.Numeral.{Numeral}
use Rattle.json_text.specs.inside.Machine.{numeral_token}
use Rattle.json_text.proofs.NumberLemmas.{read_in_bounds}
use Rattle.item_reader.specs.Tokens.{IsInteger}
use Rattle.item_reader.proofs.NumberSteps.{end_within, json_taken, behind_end}
use Rattle.item_reader.proofs.number.short_number.Goals as goal

pub slice_bounds-result-count : goal.slice_bounds-result-count
slice_bounds-result-count c = end_within c.args.line.now c.in_ok-n.end c.in_ok-n.ensures.front.1

pub slice_bounds-result-start : goal.slice_bounds-result-start
slice_bounds-result-start c = end_within c.args.line.now c.in_ok-n.end c.in_ok-n.ensures.front.1

pub returns : goal.returns
returns c =
    let l = c.args.line.now in
    let n = c.in_ok-n.n in
    let end = c.in_ok-n.end in
    let rest = take (length l - end) (drop end l) in
    let said = c.in_ok-n.ensures.front.2 in
    let value = read_in_bounds (numeral_front l) (Int (pos n)) said.0 said.1 in
    let P : Part Numeral → Type 0 = λ p. IsInteger (pos n) rest (numeral_token p) in
    subst P (sym (json_taken l (sym c.is_json_front.ensures ∙ c.if-not-is_json_front.false))) (value, behind_end l end c.in_ok-n.ensures.front.1)
