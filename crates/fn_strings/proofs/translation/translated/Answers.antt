use Rattle.std.proofs.Common.{◌++◌, [], ap, sym, ◌∙◌}
use Rattle.std.specs.BTreeMap.{get}
use Rattle.std.specs.List.{flat_map}
use Rattle.std.specs.Option.{option_to_list}
use Rattle.std.specs.Ordering.{nat_cmp}
use Rattle.std.specs.Str.{chars}
use Rattle.std.proofs.lemmas.Iterator.{YieldsList-from_chars}
use Rattle.std.proofs.lemmas.Iterator.Consumers.{YieldsList-end}
use Rattle.std.proofs.lemmas.List.{map-id, flat_map_more}
use Rattle.std.proofs.lemmas.Str.{chars-nil}
use Rattle.value_rules.specs.Strings.{translated}
use Rattle.fn_strings.proofs.Tables.{looked_up}
use Rattle.fn_strings.proofs.translation.translated.Goals as goal

pub loop-c-init : goal.loop-c-init
loop-c-init c = ap chars c.in_ok-line.ensures.bytes ∙ chars-nil

pub loop-c-preserved : goal.loop-c-preserved
loop-c-preserved c =
    let f = translated (chars c.args.characters.now) (chars c.args.images.now) in
    let image = looked_up (get nat_cmp c.in_ok-table.table c.in-Some.c) (chars c.args.characters.now) (chars c.args.images.now) c.in-Some.c (c.in_ok-table.ensures c.in-Some.c) in
    c.in_ok-put_image.ensures
    ∙ ap (λ t. t ++ option_to_list c.image_of.result) c.loop-c.invariant
    ∙ ap (λ t. flat_map f c.loop-c.yielded ++ t) (ap option_to_list c.image_of.ensures ∙ image)
    ∙ flat_map_more f [] c.loop-c.yielded c.in-Some.c

pub returns : goal.returns
returns c =
    let t = YieldsList-end (YieldsList-from_chars c.args.text.now c.utf8.text cc) c.loop-c.yielded _ c.loop-c.yielded_by _ _ c.in-None.is c.next.ensures.steps in
    c.loop-c.invariant ∙ ap (flat_map (translated (chars c.args.characters.now) (chars c.args.images.now))) (sym (map-id c.loop-c.yielded) ∙ t.0)
