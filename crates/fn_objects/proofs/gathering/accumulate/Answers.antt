use Rattle.std.proofs.Common.{◌∙◌, ◌≤◌, rules, sym, ap, subst, map}
use Rattle.item_tree.specs.Datum.{depth, KeysDiffer, object_of_pairs}
use Rattle.item_tree.specs.Item.{datums}
use Rattle.value_rules.specs.Objects.{all_pairs, gathered, gathered_pairs, values_at}
use Rattle.fn_objects.specs.inside.Groups.{IsTooDeep}
use Rattle.fn_objects.proofs.GroupLemmas.{grouped_is, firsts_differ, made_of, failed}
use Rattle.fn_objects.proofs.ListLemmas.{key}
use Rattle.fn_objects.proofs.gathering.accumulate.Goals as goal

pub returns-in_err-pairs-clause-fault : goal.returns-in_err-pairs-clause-fault
returns-in_err-pairs-clause-fault c =
    let ps = all_pairs (datums c.args.s.now) in
    let same = grouped_is c.in_ok-groups.groups ps c.in_ok-groups.ensures in
    let deep = failed (object_of_pairs (gathered_pairs ps)) c.in_err-pairs.field-0.0 (subst (λ qs. IsTooDeep (object_of_pairs qs) c.in_err-pairs.field-0.0) same c.in_err-pairs.ensures.fault) in
    search (rules, deep)

pub made-requires : goal.made-requires
made-requires c =
    let ps = all_pairs (datums c.args.s.now) in
    let same = grouped_is c.in_ok-groups.groups ps c.in_ok-groups.ensures in
    subst KeysDiffer (sym (c.in_ok-pairs.ensures.value ∙ same)) (firsts_differ (λ k. gathered (values_at k ps)) (map key ps))

pub returns-in_err-object-clause-fault : goal.returns-in_err-object-clause-fault
returns-in_err-object-clause-fault c =
    let ps = all_pairs (datums c.args.s.now) in
    let same = c.in_ok-pairs.ensures.value ∙ grouped_is c.in_ok-groups.groups ps c.in_ok-groups.ensures in
    let deep = failed (object_of_pairs (gathered_pairs ps)) c.in_err-object.field-0.0 (subst (λ qs. IsTooDeep (object_of_pairs qs) c.in_err-object.field-0.0) same c.in_err-object.ensures.fault) in
    search (rules, deep)

pub returns-clause-value : goal.returns-clause-value
returns-clause-value c =
    let ps = all_pairs (datums c.args.s.now) in
    let same = c.in_ok-pairs.ensures.value ∙ grouped_is c.in_ok-groups.groups ps c.in_ok-groups.ensures in
    let made = c.in_ok-object.ensures.value ∙ ap object_of_pairs same in
    made_of (object_of_pairs (gathered_pairs ps)) c.in_ok-object.object c.in_ok-alone.field-0.items made (subst (λ v. depth v ≤ 128) made c.in_ok-object.ensures.depth) c.in_ok-alone.ensures
