use Rattle.std.proofs.Common.{◌∷◌, [], ◌++◌, arith, rules}
use Rattle.std.proofs.lemmas.Result.{on_err_weaker}
use Rattle.item_tree.specs.Datum.{values, members}
use Rattle.item_tree.specs.Item.{datum, datums, pair_datums}
use Rattle.item_tree.specs.ItemText.{item_text, more_values_text, more_members_text, string_text}
use Rattle.item_tree.proofs.EqualLists.{depth_at, pair_depth_at}
use Rattle.item_printer.specs.Cut.{IsCut}
use Rattle.item_printer.specs.PairText.{pair_text}
use Rattle.item_printer.proofs.Cuts.{cut_first, cut_behind, cut_head, cut_tail, goes_on, stops, stops_in}
use Rattle.item_printer.proofs.ItemLists.{next_value, no_value, next_pair, no_pair}
use Rattle.item_printer.proofs.+print.Goals as goal

pub array::print_more_values-returns-in_err-append_byte-clause-err : goal.array::print_more_values-returns-in_err-append_byte-clause-err
array::print_more_values-returns-in_err-append_byte-clause-err t c =
    let p = next_value _ c.args.items.now c.loop-item.item-index c.item-item.result _ _ c.loop-item-test.true c.item-item.is c.loop-item.invariant in
    let cut : IsCut (more_values_text (values (datums c.args.items.now))) c.args.out.now.items c.append_byte.new.out.items =
    stops_in _ (44 ∷ []) _ _ _ _ p c.in_err-append_byte.ensures.err in
    search rules

pub array::print_more_values-print_value-requires : goal.array::print_more_values-print_value-requires
array::print_more_values-print_value-requires t c =
    let d = depth_at c.args.items.now c.loop-item.item-index c.item-item.result c.loop-item-test.true c.item-item.is in
    (omega arith, tt)

pub array::print_more_values-returns-in_err-print_value-clause-err : goal.array::print_more_values-returns-in_err-print_value-clause-err
array::print_more_values-returns-in_err-print_value-clause-err t c =
    let p = next_value _ c.args.items.now c.loop-item.item-index c.item-item.result _ _ c.loop-item-test.true c.item-item.is c.loop-item.invariant in
    let q = goes_on _ (44 ∷ []) _ _ _ _ p c.in_ok-append_byte.ensures.ok in
    let cut : IsCut (more_values_text (values (datums c.args.items.now))) c.args.out.now.items c.print_value.new.out.items =
    stops_in _ _ _ _ _ _ q c.in_err-print_value.ensures.err in
    search rules

pub array::print_more_values-returns-clause-err : goal.array::print_more_values-returns-clause-err
array::print_more_values-returns-clause-err t c =
    let p = no_value _ c.args.items.now c.loop-item.item-index _ _ c.loop-item-test.false c.loop-item.invariant in
    on_err_weaker _ (stops _ _ _ _ _ p) c.append_byte-2.ensures.err

pub object::print_more_pairs-returns-in_err-append_byte-clause-err : goal.object::print_more_pairs-returns-in_err-append_byte-clause-err
object::print_more_pairs-returns-in_err-append_byte-clause-err t c =
    let p = next_pair _ c.args.pairs.now c.loop-pair.pair-index c.pair-item.result _ _ c.loop-pair-test.true c.pair-item.is c.loop-pair.invariant in
    let cut : IsCut (more_members_text (members (pair_datums c.args.pairs.now))) c.args.out.now.items c.append_byte.new.out.items =
    stops_in _ (44 ∷ []) _ _ _ _ p c.in_err-append_byte.ensures.err in
    search rules

pub object::print_more_pairs-print_pair-requires : goal.object::print_more_pairs-print_pair-requires
object::print_more_pairs-print_pair-requires t c =
    let d = pair_depth_at c.args.pairs.now c.loop-pair.pair-index c.pair-item.result c.loop-pair-test.true c.pair-item.is in
    (omega arith, tt)

pub object::print_more_pairs-returns-in_err-print_pair-clause-err : goal.object::print_more_pairs-returns-in_err-print_pair-clause-err
object::print_more_pairs-returns-in_err-print_pair-clause-err t c =
    let p = next_pair _ c.args.pairs.now c.loop-pair.pair-index c.pair-item.result _ _ c.loop-pair-test.true c.pair-item.is c.loop-pair.invariant in
    let q = goes_on _ (44 ∷ []) _ _ _ _ p c.in_ok-append_byte.ensures.ok in
    let cut : IsCut (more_members_text (members (pair_datums c.args.pairs.now))) c.args.out.now.items c.print_pair.new.out.items =
    stops_in _ (pair_text c.pair-item.result.0 (datum c.pair-item.result.1)) _ _ _ _ q c.in_err-print_pair.ensures.err in
    search rules

pub object::print_more_pairs-returns-clause-err : goal.object::print_more_pairs-returns-clause-err
object::print_more_pairs-returns-clause-err t c =
    let p = no_pair _ c.args.pairs.now c.loop-pair.pair-index _ _ c.loop-pair-test.false c.loop-pair.invariant in
    on_err_weaker _ (stops _ _ _ _ _ p) c.append_byte-2.ensures.err

pub object::print_pair-returns-in_err-print_string-clause-err : goal.object::print_pair-returns-in_err-print_string-clause-err
object::print_pair-returns-in_err-print_string-clause-err t c =
    let cut : IsCut (pair_text c.args.pair.now.0 (datum c.args.pair.now.1)) c.args.out.now.items c.print_string.new.out.items =
    cut_first (string_text c.args.pair.now.0) (58 ∷ item_text (datum c.args.pair.now.1)) _ _ c.in_err-print_string.ensures.err in
    search rules

pub object::print_pair-returns-in_err-append_byte-clause-err : goal.object::print_pair-returns-in_err-append_byte-clause-err
object::print_pair-returns-in_err-append_byte-clause-err t c =
    let cut : IsCut (pair_text c.args.pair.now.0 (datum c.args.pair.now.1)) c.args.out.now.items c.append_byte.new.out.items =
    cut_behind (string_text c.args.pair.now.0) (58 ∷ item_text (datum c.args.pair.now.1)) _ _ _ c.in_ok-print_string.ensures.ok
    (cut_head 58 (item_text (datum c.args.pair.now.1)) _ _ c.in_err-append_byte.ensures.err) in
    search rules

pub object::print_pair-returns-clause-err : goal.object::print_pair-returns-clause-err
object::print_pair-returns-clause-err t c =
    let Cut = IsCut (item_text (datum c.args.pair.now.1)) c.append_byte.new.out.items c.print_item.new.out.items in
    on_err_weaker _ (λ (cut : Cut). cut_behind (string_text c.args.pair.now.0) (58 ∷ item_text (datum c.args.pair.now.1)) _ _ _ c.in_ok-print_string.ensures.ok
    (cut_tail 58 (item_text (datum c.args.pair.now.1)) _ _ _ c.in_ok-append_byte.ensures.ok cut)) c.print_item.ensures.err

pub object::print_object-returns-in_err-print_pair-clause-err : goal.object::print_object-returns-in_err-print_pair-clause-err
object::print_object-returns-in_err-print_pair-clause-err t c =
    let first = c.in-Some.first.now in
    let more = more_members_text (members (pair_datums c.in-Some.more.now)) in
    let cut : IsCut (123 ∷ (pair_text first.0 (datum first.1) ++ more)) c.args.out.now.items c.print_pair.new.out.items =
    cut_tail 123 (pair_text first.0 (datum first.1) ++ more) _ _ _ c.in_ok-append_byte.ensures.ok
    (cut_first (pair_text first.0 (datum first.1)) more _ _ c.in_err-print_pair.ensures.err) in
    rw c.in-Some.ensures.cases.0 (search rules)

pub object::print_object-returns-clause-err : goal.object::print_object-returns-clause-err
object::print_object-returns-clause-err t c =
    let first = c.in-Some.first.now in
    let more = more_members_text (members (pair_datums c.in-Some.more.now)) in
    let Cut = IsCut more c.print_pair.new.out.items c.print_more_pairs.new.out.items in
    rw c.in-Some.ensures.cases.0 (on_err_weaker _ (λ (cut : Cut). cut_tail 123 (pair_text first.0 (datum first.1) ++ more) _ _ _ c.in_ok-append_byte.ensures.ok
    (cut_behind (pair_text first.0 (datum first.1)) more _ _ _ c.in_ok-print_pair.ensures.ok cut)) c.print_more_pairs.ensures.err)
