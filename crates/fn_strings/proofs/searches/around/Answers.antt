use Rattle.std.proofs.Common.{◌∙◌, ap, sym, None, Some, length, drop}
use Rattle.std.specs.Str.{chars}
use Rattle.memchr.specs.Find.{FindsNeedle}
use Rattle.fn_strings.proofs.SearchLemmas.{none_found, place_found}
use Rattle.fn_strings.proofs.searches.around.Goals as goal

pub returns-in_err-at : goal.returns-in_err-at
returns-in_err-at c =
    let found : FindsNeedle c.args.text.now c.args.part.now 0 None = rw (c.as_bytes.ensures.value, c.as_bytes-2.ensures.value) at c.in_err-at.ensures in
    rw c.from_residual.ensures (none_found c.args.text.now c.args.part.now c.utf8.text c.utf8.part found)

pub split_at-requires : goal.split_at-requires
split_at-requires c =
    let found : FindsNeedle c.args.text.now c.args.part.now 0 (Some c.in_ok-at.at) = rw (c.as_bytes.ensures.value, c.as_bytes-2.ensures.value) at c.in_ok-at.ensures in
    (place_found c.args.text.now c.args.part.now c.in_ok-at.at c.utf8.text c.utf8.part found).start

pub split_at-requires-2 : goal.split_at-requires-2
split_at-requires-2 c =
    let found : FindsNeedle c.args.text.now c.args.part.now 0 (Some c.in_ok-at.at) = rw (c.as_bytes.ensures.value, c.as_bytes-2.ensures.value) at c.in_ok-at.ensures in
    rw c.split_at.ensures.back ((place_found c.args.text.now c.args.part.now c.in_ok-at.at c.utf8.text c.utf8.part found).end)

pub returns : goal.returns
returns c =
    let found : FindsNeedle c.args.text.now c.args.part.now 0 (Some c.in_ok-at.at) = rw (c.as_bytes.ensures.value, c.as_bytes-2.ensures.value) at c.in_ok-at.ensures in
    let around = (place_found c.args.text.now c.args.part.now c.in_ok-at.at c.utf8.text c.utf8.part found).around in
    record {
      found = around.found;
      before_it = around.before_it ∙ ap chars (sym c.split_at.ensures.front);
      after_it = around.after_it ∙ ap chars (sym (c.split_at-2.ensures.back ∙ ap (drop (length c.args.part.now)) c.split_at.ensures.back));
    }
