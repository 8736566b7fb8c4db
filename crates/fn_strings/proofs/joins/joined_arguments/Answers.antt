use Rattle.std.proofs.Common.{◌≡◌, ◌∷◌, [], ◌++◌, ◌+◌, drop, refl, ap, sym, subst, ◌∙◌}
use Rattle.std.specs.List.{flat_map}
use Rattle.std.specs.Str.{chars}
use Rattle.std.specs.String.{string_bytes}
use Rattle.std.proofs.lemmas.List.{append_assoc, drop_more}
use Rattle.std.proofs.lemmas.Str.{chars-nil}
use Rattle.item_tree.specs.Item.{datums}
use Rattle.item_tree.specs.ItemText.{atom_text}
use Rattle.value_rules.specs.Arguments.{argument_values}
use Rattle.fn_strings.specs.inside.Atomics.{ArgumentsAreAtomic, text_of_all}
use Rattle.fn_strings.proofs.Checked.{not_separated}
use Rattle.fn_strings.proofs.joins.joined_arguments.Goals as goal

pub loop-argument-init : goal.loop-argument-init
loop-argument-init c = record { atomic = c.requires; text = rw (c.in_ok-text.ensures.bytes, chars-nil) refl }

pub loop-argument-preserved : goal.loop-argument-preserved
loop-argument-preserved c =
    let args = c.args.arguments.now in
    let i = c.loop-argument.argument-index in
    let argument = c.argument-item.result in
    let rest = drop (i + 1) args in
    let inv = c.loop-argument.invariant in
    let old = chars (string_bytes c.loop-argument.text) in
    let e : drop i args ≡ argument ∷ rest = drop_more args i argument c.loop-argument-test.true ∙ ap (λ x. x ∷ rest) (sym c.argument-item.is) in
    let pushed : chars (string_bytes c.push_texts.new.text) ≡ old ++ flat_map (λ v. chars [] ++ atom_text v) (datums c.deref.result.now) = c.in_ok-push_texts.ensures in
    let text : chars (string_bytes c.push_texts.new.text) ≡ old ++ text_of_all (datums argument.items) =
    pushed ∙ ap (λ t. old ++ t) (not_separated (chars []) (datums c.deref.result.now) chars-nil ∙ ap (λ l. text_of_all (datums l)) c.deref.ensures.value) in
    record {
      atomic = (subst (λ l. ArgumentsAreAtomic (argument_values l)) e inv.atomic).1;
      text = ap (λ t. t ++ flat_map text_of_all (argument_values rest)) text
          ∙ append_assoc old (text_of_all (datums argument.items)) (flat_map text_of_all (argument_values rest))
          ∙ ap (λ l. old ++ flat_map text_of_all (argument_values l)) (sym e)
          ∙ inv.text;
    }
