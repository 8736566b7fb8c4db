use Rattle.std.proofs.Common.{◌∙◌, sym, rules}
use Rattle.std.proofs.lemmas.List.Quantifiers.{position-Some}
use Rattle.std.proofs.lemmas.Result.{on_ok_weaker, on_err_weaker}
use Rattle.item_printer.specs.Cut.{IsCut}
use Rattle.item_printer.specs.StringBytes.{bytes_text, is_escaped}
use Rattle.item_printer.proofs.Cuts.{goes_on, stops, stops_in, ends}
use Rattle.item_printer.proofs.StringTexts.{at_escape, at_end}
use Rattle.item_printer.proofs.string.print_bytes.Goals as goal

pub returns-in_err-append-clause-err : goal.returns-in_err-append-clause-err
returns-in_err-append-clause-err c =
    let p = at_escape _ _ _ _ _ c.loop-at.invariant (sym c.in-Some.ensures) in
    let cut : IsCut (bytes_text c.args.bytes.now) c.args.out.now.items c.append.new.out.items = stops_in _ _ _ _ _ _ p c.in_err-append.ensures.err in
    search rules

pub print_escape-requires : goal.print_escape-requires
print_escape-requires c = (position-Some is_escaped c.loop-at.rest.now c.in-Some.at 0 (sym c.in-Some.ensures)).1

pub returns-in_err-print_escape-clause-err : goal.returns-in_err-print_escape-clause-err
returns-in_err-print_escape-clause-err c =
    let p = at_escape _ _ _ _ _ c.loop-at.invariant (sym c.in-Some.ensures) in
    let q = goes_on _ _ _ _ _ _ p c.in_ok-append.ensures.ok in
    let cut : IsCut (bytes_text c.args.bytes.now) c.args.out.now.items c.print_escape.new.out.items = stops_in _ _ _ _ _ _ q c.in_err-print_escape.ensures.err in
    search rules

pub loop-at-preserved : goal.loop-at-preserved
loop-at-preserved c =
    let p = at_escape _ _ _ _ _ c.loop-at.invariant (sym c.in-Some.ensures) in
    let q = goes_on _ _ _ _ _ _ p c.in_ok-append.ensures.ok in
    rw c.split_at.ensures.back (goes_on _ _ _ _ _ _ q c.in_ok-print_escape.ensures.ok)

pub returns-clause-ok : goal.returns-clause-ok
returns-clause-ok c =
    let p = at_end _ _ _ _ c.loop-at.invariant (sym c.first_escaped.ensures ∙ c.in_default.is) in
    on_ok_weaker _ (ends _ _ _ _ _ p) c.append-2.ensures.ok

pub returns-clause-err : goal.returns-clause-err
returns-clause-err c =
    let p = at_end _ _ _ _ c.loop-at.invariant (sym c.first_escaped.ensures ∙ c.in_default.is) in
    on_err_weaker _ (stops _ _ _ _ _ p) c.append-2.ensures.err
