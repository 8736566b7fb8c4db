use Rattle.std.proofs.Common.{◌≡◌, ◌∙◌, ◌+◌, ◌-◌, ◌*◌, ◌%◌, ◌^◌, ap, get_or, drop, arith, rules}
use Rattle.num_fixed.specs.inside.Spells.{spelled}
use Rattle.num_fixed.proofs.FrontLemmas.{length_more, number_more, number_end_here, number_all}
use Rattle.num_fixed.proofs.front.digits_front.Goals as goal

pub returns-then-not-is_ascii_digit-clause-number : goal.returns-then-not-is_ascii_digit-clause-number
returns-then-not-is_ascii_digit-clause-number c =
    number_end_here _ c.loop-b.n c.loop-b.b-index c.args.bytes.now (search rules) (search rules) c.loop-b.invariant.number

pub loop-b-preserved : goal.loop-b-preserved
loop-b-preserved c =
    let digit : c.from.result ≡ get_or c.args.bytes.now c.loop-b.b-index 0 - 48 = search rules in
    let rest = drop (c.loop-b.b-index + 1) c.args.bytes.now in record {
      count = omega arith;
      length = length_more c.args.bytes.now c.loop-b.b-index (search rules) (search rules) c.loop-b.invariant.length;
      number = λ small.
          ap (λ d. spelled ((c.loop-b.n * 10 % 2 ^ 64 + d) % 2 ^ 64) rest) digit
          ∙ number_more (spelled c.args.start c.args.bytes.now) c.loop-b.n c.loop-b.b-index c.args.bytes.now (search rules) (search rules) c.loop-b.invariant.number small;
    }

pub returns-clause-number : goal.returns-clause-number
returns-clause-number c = number_all _ c.loop-b.n c.loop-b.b-index c.args.bytes.now (omega arith) c.loop-b.invariant.number
