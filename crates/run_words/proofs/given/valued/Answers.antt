use Rattle.std.proofs.Common.{ap, ap₂, ◌∙◌, Some}
use Rattle.std.specs.Prelude.{option_and_then}
use Rattle.std.specs.Option.{option_or}
use Rattle.run_words.specs.Given.{exactly, after}
use Rattle.run_words.specs.inside.Marks.{taken}
use Rattle.run_words.specs.declared.given.Phase.TheVariants.{Free, Waits}
use Rattle.run_words.proofs.given.valued.Goals as goal

pub returns : goal.returns
returns c =
    c.or.ensures ∙ ap₂ option_or (c.exactly-waits.ensures ∙ ap (λ t. exactly t c.args.word.now (Some (Waits c.args.name, c.args.seen))) c.requires.option)
    (c.value_taken-has_value.ensures ∙ ap (option_and_then (λ v. taken Free c.args.name v c.args.seen)) (c.rest_of.ensures ∙ ap (λ t. after t c.args.word.now) c.requires.front))
