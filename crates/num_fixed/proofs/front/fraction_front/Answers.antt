use Rattle.std.proofs.Common.{◌≡◌, ◌∷◌, ◌∙◌, ap, subst, rules}
use Rattle.num_fixed.specs.Scan.{digits_len}
use Rattle.num_fixed.specs.inside.Spells.{spelled, IsKeptIn64}
use Rattle.num_fixed.proofs.FrontLemmas.{places_read}
use Rattle.num_fixed.proofs.Reading.{tail, slice_tail}
use Rattle.num_fixed.proofs.front.fraction_front.Goals as goal

pub returns-then-len-gt0-clause-number : goal.returns-then-len-gt0-clause-number
returns-then-len-gt0-clause-number c =
    let l = c.args.bytes.now in
    let point : l ≡ 46 ∷ tail l = search rules in
    let length : c.digits_front-len.result.0 ≡ digits_len (tail l) = c.digits_front-len.ensures.length ∙ ap digits_len (slice_tail l) in
    let number = subst (λ r. IsKeptIn64 (spelled c.args.start r) c.digits_front-len.result.1) (slice_tail l) c.digits_front-len.ensures.number in
    places_read l (tail l) c.args.start c.digits_front-len.result.1 c.digits_front-len.result.0 point length c.if-len-gt0.true number
