use Rattle.std.proofs.Common.{◌≡◌, ◌<◌, length, Ok, ap, sym, subst, ◌∙◌, refl, arith}
use Rattle.std.specs.Str.{IsUtf8}
use Rattle.std.proofs.lemmas.Bool.Decides.{nat_tests}
use Rattle.item_tree.specs.Item.{datum, datums}
use Rattle.item_reader.specs.Faults.{code_of}
use Rattle.json_text.specs.Line.{blank, item}
use Rattle.json_text.specs.inside.Build.{reading}
use Rattle.fn_objects.specs.Faults.{MayFailWith}
use Rattle.fn_table.specs.Texts.{read_as, parse_json}
use Rattle.fn_call.proofs.ParseLemmas.{parse_is, raised}
use Rattle.fn_call.proofs.item_texts.parse_json.Goals as goal

pub returns-in-Ok-None-clause-fault : goal.returns-in-Ok-None-clause-fault
returns-in-Ok-None-clause-fault c =
    let some : 0 < length c.args.s.now = grind (arith, nat_tests) in
    let text : IsUtf8 c.in_ok-text.text.now = rw c.as_bytes.ensures.value at c.as_bytes.ensures.utf8 in
    let read : reading c.in_ok-text.text.now ≡ blank = rw (c.in-Ok-None.field-0-is, c.as_bytes.ensures.value) at c.in-Ok-None.ensures.ok in
    parse_is c.args.s.now c.in_ok-text.text.now some c.in_ok-text.ensures text ∙ ap read_as read

pub returns-in_ok-one_item-in-Ok-Some-clause-value : goal.returns-in_ok-one_item-in-Ok-Some-clause-value
returns-in_ok-one_item-in-Ok-Some-clause-value c =
    let some : 0 < length c.args.s.now = grind (arith, nat_tests) in
    let text : IsUtf8 c.in_ok-text.text.now = rw c.as_bytes.ensures.value at c.as_bytes.ensures.utf8 in
    let read : reading c.in_ok-text.text.now ≡ item (datum c.in-Ok-Some.item) = rw (c.in-Ok-Some.field-0-is, c.as_bytes.ensures.value) at c.in-Ok-Some.ensures.ok in
    parse_is c.args.s.now c.in_ok-text.text.now some c.in_ok-text.ensures text ∙ ap read_as read ∙ ap Ok (sym c.in_ok-one_item-in-Ok-Some.ensures)

pub returns-in-Err-clause-fault : goal.returns-in-Err-clause-fault
returns-in-Err-clause-fault c =
    let some : 0 < length c.args.s.now = grind (arith, nat_tests) in
    let text : IsUtf8 c.in_ok-text.text.now = rw c.as_bytes.ensures.value at c.as_bytes.ensures.utf8 in
    let parsed = parse_is c.args.s.now c.in_ok-text.text.now some c.in_ok-text.ensures text in
    subst (MayFailWith (parse_json (datums c.args.s.now))) (sym c.fault_of.ensures)
    (raised (parse_json (datums c.args.s.now)) (reading c.in_ok-text.text.now) read_as (code_of c.in-Err.fault) parsed (λ e. refl) (rw c.as_bytes.ensures.value at c.in-Err.ensures.err))
