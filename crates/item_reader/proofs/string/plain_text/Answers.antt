use Rattle.std.proofs.Common.{sym, ◌∙◌, ap, subst}
use Rattle.std.specs.Prelude.{take, drop}
use Rattle.std.specs.Str.{chars, IsAscii}
use Rattle.std.proofs.lemmas.Str.{IsUtf8-from_ascii}
use Rattle.item_tree.proofs.AsciiTexts.{all_below}
use Rattle.item_reader.proofs.StringSteps.{plain, text_there}
use Rattle.item_reader.proofs.string.plain_text.Goals as goal

pub returns-then-line-ge16 : goal.returns-then-line-ge16
returns-then-line-ge16 c =
    let line = c.args.line.now in let raw = c.split_at.result.0.now in let rest = c.in-Some.rest.now in
    let front = c.split_at.ensures.front ∙ ap (λ n. take n line) c.requires.0 in
    let back = c.split_at.ensures.back ∙ ap (λ n. drop n line) c.requires.0 in
    let e = plain line raw c.split_at.result.1.now c.in-Some.mark rest front back (sym c.in-Some.ensures) c.if-mark-ne34.false in
    let ascii : IsAscii raw = subst IsAscii (sym c.split_at.ensures.front) (all_below _ (sym c.requires.1 ∙ c.if-ascii.true)) in
    text_there line raw rest c.of_front.result (sym e) (IsUtf8-from_ascii raw ascii) (c.of_front.ensures ∙ ap chars (sym c.split_at.ensures.front))

pub returns-in_ok-of-in-Some-text_of : goal.returns-in_ok-of-in-Some-text_of
returns-in_ok-of-in-Some-text_of c =
    let line = c.args.line.now in let raw = c.split_at.result.0.now in let rest = c.in-Some.rest.now in
    let front = c.split_at.ensures.front ∙ ap (λ n. take n line) c.requires.0 in
    let back = c.split_at.ensures.back ∙ ap (λ n. drop n line) c.requires.0 in
    let e = plain line raw c.split_at.result.1.now c.in-Some.mark rest front back (sym c.in-Some.ensures) c.if-mark-ne34.false in
    text_there line raw rest c.in_ok-of-in-Some-text_of.field-0 (sym e) c.in-Some-text_of.ensures.some.1 (c.in_ok-of-in-Some-text_of.ensures ∙ ap chars c.in-Some-text_of.ensures.some.0)

pub text_of-requires : goal.text_of-requires
text_of-requires c = λ e. IsUtf8-from_ascii _ (subst IsAscii (sym c.split_at.ensures.front) (all_below _ (sym c.requires.1 ∙ e)))
