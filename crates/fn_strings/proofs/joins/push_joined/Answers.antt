use Rattle.std.proofs.Common.{◌≡◌, ◌∷◌, ◌++◌, ◌<◌, length, drop, map, ap, sym, ◌∙◌, arith}
use Rattle.std.specs.List.{flat_map}
use Rattle.std.specs.Str.{chars}
use Rattle.std.specs.String.{string_bytes}
use Rattle.std.proofs.lemmas.List.{append_assoc, drop_more, take_rest}
use Rattle.std.proofs.lemmas.Result.{on_ok_weaker}
use Rattle.item_tree.specs.Item.{datum, datums}
use Rattle.item_tree.specs.ItemText.{atom_text}
use Rattle.value_rules.specs.Strings.{joined_by}
use Rattle.fn_strings.proofs.Checked.{separated}
use Rattle.fn_strings.proofs.joins.push_joined.Goals as goal

pub returns-in_ok-push_text-in-len1-up : goal.returns-in_ok-push_text-in-len1-up
returns-in_ok-push_text-in-len1-up c =
    let atoms = c.args.atoms.now in
    let separator = chars c.args.separator.now in
    let first = c.first-item.result in
    let old = chars (string_bytes c.args.text.now) in
    let rest = datums (drop 1 atoms) in
    let more = flat_map (λ v. separator ++ atom_text v) rest in
    let some : 0 < length atoms = omega arith in
    let e : atoms ≡ first ∷ drop 1 atoms = drop_more atoms 0 first some ∙ ap (λ x. x ∷ drop 1 atoms) (sym c.first-item.is) in
    on_ok_weaker c.push_texts.result (λ p.
    p
    ∙ ap (λ l. chars (string_bytes c.push_text.new.text) ++ flat_map (λ v. separator ++ atom_text v) (datums l)) (take_rest atoms 1)
    ∙ ap (λ t. t ++ more) c.in_ok-push_text-in-len1-up.ensures
    ∙ append_assoc old (atom_text (datum first)) more
    ∙ ap (λ t. old ++ (atom_text (datum first) ++ t)) (sym (separated separator rest))
    ∙ ap (λ l. old ++ joined_by separator (map atom_text (datums l))) (sym e)) c.push_texts.ensures
