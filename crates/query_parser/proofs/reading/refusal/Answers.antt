use Rattle.std.proofs.Common.{ℕ, subst, sym, ap, arith}
use Rattle.query_grammar.specs.Texts.{IsRefused}
use Rattle.query_grammar.proofs.Texts.{refused_at}
use Rattle.query_parser.proofs.reading.refusal.Goals as goal

pub returns-in-Ok : goal.returns-in-Ok
returns-in-Ok c =
    let first = c.first-item.result in
    subst (λ (place : ℕ). IsRefused c.args.words.now c.args.end c.in-Ok.code place) (ap (λ w. w.place) (sym c.first-item.is))
    (refused_at c.args.words.now c.args.rest.now c.args.end c.in-Ok.code first c.requires.derives_none c.requires.stopped (omega (arith, c.in-len1-up.len_at_least)) c.in-Ok.ensures)
