use Rattle.std.proofs.Common.{length, take, drop, ap, sym, ◌∙◌}
use Rattle.std.specs.BTreeMap.{get}
use Rattle.std.specs.Ordering.{nat_cmp}
use Rattle.std.specs.Str.{chars}
use Rattle.std.proofs.lemmas.Iterator.{YieldsList-from_chars}
use Rattle.std.proofs.lemmas.Iterator.Consumers.{YieldsList-end}
use Rattle.std.proofs.lemmas.List.{map-id, drop-drop, length_push}
use Rattle.value_rules.specs.Strings.{replacement}
use Rattle.fn_strings.proofs.Tables.{table_more, next_taken}
use Rattle.fn_strings.proofs.translation.table_of.Goals as goal

pub loop-c-preserved : goal.loop-c-preserved
loop-c-preserved c =
    let done = c.loop-c.yielded in
    let images = chars c.args.images.now in
    let inv = c.loop-c.invariant in
    let t = next_taken _ _ c.next-in-loop-c.result inv.text c.next-in-loop-c.ensures.steps in
    record {
      table = λ q. table_more (get nat_cmp c.loop-c.table q) (get nat_cmp c.put_first.new.table q) c.next-in-loop-c.result done images c.in-Some.c q (inv.table q) (c.in_ok-put_first.ensures q) (t.2 ∙ ap (take 1) inv.rest);
      text = t.0;
      rest = t.1 ∙ ap (drop 1) inv.rest ∙ drop-drop 1 (length done) images ∙ ap (λ n. drop n images) (sym (length_push done c.in-Some.c));
    }

pub returns : goal.returns
returns c =
    let t = YieldsList-end (YieldsList-from_chars c.args.characters.now c.utf8.characters cc) c.loop-c.yielded _ c.loop-c.yielded_by _ _ c.in-None.is c.next.ensures.steps in
    λ q. c.loop-c.invariant.table q ∙ ap (λ l. replacement l (chars c.args.images.now) q) (sym (map-id c.loop-c.yielded) ∙ t.0)
