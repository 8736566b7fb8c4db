use Rattle.std.proofs.Common.{ℕ, Bool, true, List, map, take, get_or, sym, ap, ◌∙◌}
use Rattle.std.proofs.lemmas.List.{take_more}
use Rattle.std.specs.List.{range_with_len, slice_set}
use Rattle.group_table.specs.Groups.{has_slot}
use Rattle.clause_eval.proofs.Flags.{flag_set}
use Rattle.clause_eval.proofs.groups.joined_flags.Goals as goal

pub loop-slot-preserved : goal.loop-slot-preserved
loop-slot-preserved c =
    let slots = c.args.joined.now in let i = c.loop-slot.slot-index in let k = get_or slots i 0 in let w = c.args.width in
    c.put.ensures ∙ ap (λ (fs : List Bool). slice_set fs k true) c.loop-slot.invariant ∙ flag_set (take i slots) k w
    ∙ sym (ap (λ (xs : List ℕ). map (has_slot xs) (range_with_len 0 w)) (take_more slots i 0 c.loop-slot-test.true))
