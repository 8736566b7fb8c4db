use Rattle.std.proofs.Common.{◌≡◌, ◌+◌, ◌<◌, ◌∙◌, ℕ, List, length, map, get_or, refl, sym, ap, subst, arith}
use Rattle.std.specs.List.{slice_set}
use Rattle.std.specs.Vec.Iter.{into_iter_items}
use Rattle.std.proofs.lemmas.List.{map-set, length-set, nil_from_length}
use Rattle.item_tree.specs.Datum.{Datum}
use Rattle.tuple_rows.specs.Tuples.{sequence}
use Rattle.group_table.proofs.CodeRows.{below_at, keyed_step, keyed_end}
use Rattle.group_table.proofs.finish.row.Goals as goal

pub index_mut-requires : goal.index_mut-requires
index_mut-requires c =
    let more : length (into_iter_items c.loop-key.key-iterator) ≡ length (into_iter_items c.next.new.self) + 1 = ap length (c.in-Some.ensures.steps.0) ∙ omega arith in
    let total : length c.args.keys.now ≡ c.loop-key.at + length (into_iter_items c.loop-key.key-iterator) = c.loop-key.invariant.count in
    let lt : c.loop-key.at < length c.args.keys.now = omega arith in
    subst (λ (n : ℕ). get_or c.args.keys.now c.loop-key.at 0 < n) (sym (c.loop-key.slots.ok.0 ∙ c.loop-key.invariant.slots))
    (below_at c.args.width c.args.keys.now c.loop-key.at c.requires.slots lt)

pub loop-key-preserved : goal.loop-key-preserved
loop-key-preserved c =
    let more : length (into_iter_items c.loop-key.key-iterator) ≡ length (into_iter_items c.next.new.self) + 1 = ap length (c.in-Some.ensures.steps.0) ∙ omega arith in
    let total : length c.args.keys.now ≡ c.loop-key.at + length (into_iter_items c.loop-key.key-iterator) = c.loop-key.invariant.count in
    let lt : c.loop-key.at < length c.args.keys.now = omega arith in
    let slot : ℕ = get_or c.args.keys.now c.loop-key.at 0 in
    record {
      rest = keyed_step c.args.keys.now c.loop-key.at slot _ _ c.in-Some.key _ _ _ lt refl
          (map-set sequence c.loop-key.slots.items slot c.in_ok-slots.field-0
          ∙ ap (λ (us : List Datum). slice_set (map sequence c.loop-key.slots.items) slot us) c.in_ok-slots.ensures)
          (c.in-Some.ensures.steps.0) c.loop-key.invariant.rest;
      count = omega arith;
      slots = length-set c.loop-key.slots.items slot c.in_ok-slots.field-0 ∙ c.loop-key.invariant.slots;
    }

pub returns : goal.returns
returns c =
    keyed_end _ _ _ _ (nil_from_length _ (sym (c.loop-key.key-iterator.rest.ok.0) ∙ c.in-None.ensures.steps.0)) c.loop-key.invariant.rest
