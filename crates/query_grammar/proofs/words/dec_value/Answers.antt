use Rattle.std.proofs.Common.{◌≡◌, inr, sym, ◌∙◌, ap, subst, refl, arith, Ok}
use Rattle.std.specs.Prelude.{IsOk}
use Rattle.std.proofs.lemmas.Int.{ints}
use Rattle.num_fixed.specs.Bounds.{InBounds}
use Rattle.num_fixed.specs.Numeral.{IsNumberText, Says}
use Rattle.num_fixed.specs.declared.number.Kind.TheVariants.{Units}
use Rattle.num_fixed.specs.declared.number.Number.TheVariants.{Dec}
use Rattle.query_lexer.proofs.TokenFacts.{IsAnswer, number_text, dec_read}
use Rattle.query_grammar.proofs.WordLemmas.{number_said}
use Rattle.query_grammar.proofs.words.dec_value.Goals as goal

pub read_number-requires : goal.read_number-requires
read_number-requires c =
    let seam = c.as_bytes.ensures.value ∙ c.spelled.ensures in
    subst IsNumberText (sym seam) (number_text c.args.text.now c.args.token.now c.requires.listed (inr c.requires.kind))

pub unwrap-requires : goal.unwrap-requires
unwrap-requires c =
    let answer : IsAnswer c.as_bytes.result.now c.read_number.result = record { value = c.read_number.ensures.value; overflow = c.read_number.ensures.overflow } in
    let (n, is) = dec_read c.args.text.now c.args.token.now c.as_bytes.result.now c.read_number.result c.requires.listed c.requires.kind (c.as_bytes.ensures.value ∙ c.spelled.ensures) answer in
    subst IsOk (sym is) refl

pub unreachable-requires : goal.unreachable-requires
unreachable-requires c =
    let answer : IsAnswer c.as_bytes.result.now c.read_number.result = record { value = c.read_number.ensures.value; overflow = c.read_number.ensures.overflow } in
    let (n, is) = dec_read c.args.text.now c.args.token.now c.as_bytes.result.now c.read_number.result c.requires.listed c.requires.kind (c.as_bytes.ensures.value ∙ c.spelled.ensures) answer in
    cc

pub new-requires : goal.new-requires
new-requires c =
    let answer : IsAnswer c.as_bytes.result.now c.read_number.result = record { value = c.read_number.ensures.value; overflow = c.read_number.ensures.overflow } in
    let said = number_said c.args.text.now c.args.token.now c.as_bytes.result.now (Dec c.in-Dec.m) c.read_number.result c.requires.listed (inr c.requires.kind) (c.as_bytes.ensures.value ∙ c.spelled.ensures) answer (c.unwrap.ensures ∙ ap (λ x. Ok x) c.in-Dec.is) in
    let h : InBounds Units c.in-Dec.m = said.3 in
    (omega (arith, ints), omega (arith, ints))

pub returns : goal.returns
returns c =
    let answer : IsAnswer c.as_bytes.result.now c.read_number.result = record { value = c.read_number.ensures.value; overflow = c.read_number.ensures.overflow } in
    let said = number_said c.args.text.now c.args.token.now c.as_bytes.result.now (Dec c.in-Dec.m) c.read_number.result c.requires.listed (inr c.requires.kind) (c.as_bytes.ensures.value ∙ c.spelled.ensures) answer (c.unwrap.ensures ∙ ap (λ x. Ok x) c.in-Dec.is) in
    let h : InBounds Units c.in-Dec.m = said.3 in
    let e : c.new.result ≡ c.in-Dec.m = omega (arith, ints) in
    (said.0, said.1, subst (λ m. Says said.0 (Dec m)) (sym e) said.2)
