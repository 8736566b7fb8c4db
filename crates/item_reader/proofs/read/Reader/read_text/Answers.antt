use Rattle.std.proofs.Common.{◌≡◌, ◌<◌, sym, ◌∙◌, ap, subst, length, arith}
use Rattle.json_text.specs.inside.Machine.{token_at}
use Rattle.json_text.specs.inside.Build.{made}
use Rattle.json_text.specs.inside.Fits.{BuildFits}
use Rattle.item_reader.specs.View.{build_of}
use Rattle.item_reader.specs.Turns.{IsTurnAt, TakesRow, comes_of}
use Rattle.item_reader.specs.declared.turn.Turn.TheVariants.{More, End, NotJson}
use Rattle.item_reader.proofs.Turning.{turned, behind_shorter}
use Rattle.item_reader.proofs.read.Reader.read_text.Goals as goal

pub tokens-smaller : goal.tokens-smaller
tokens-smaller c =
    let old = c.take_row.new.self in let new = c.take_next.new.self in let rest = c.tokens.rest.now in
    let behind = c.in_ok-turn.behind.now in
    let t : IsTurnAt old (token_at rest) More behind new = subst (λ r. IsTurnAt old (token_at rest) r behind new) c.in-More.is c.in_ok-turn.ensures in
    let s : length behind < length rest = subst (λ l. length l < length rest) (sym t.1) (behind_shorter old new rest t.0) in
    omega (arith, s, c.pass_mark-rest-in-More.ensures.within)

pub tokens-preserved : goal.tokens-preserved
tokens-preserved c =
    let old = c.take_row.new.self in let new = c.take_next.new.self in let rest = c.tokens.rest.now in
    let behind = c.in_ok-turn.behind.now in
    let kept = subst (λ o. TakesRow c.tokens.self.state rest o old) c.in_default.is c.in_ok-behind.ensures in
    let same = subst (λ s. comes_of s rest ≡ made c.args.line.now) (sym kept) c.tokens.invariant.same in
    let fits = subst (λ s. BuildFits (build_of s.build)) (sym kept) c.tokens.invariant.fits in
    let t : IsTurnAt old (token_at rest) More behind new = subst (λ r. IsTurnAt old (token_at rest) r behind new) c.in-More.is c.in_ok-turn.ensures in
    record {
      same = c.pass_mark-rest-in-More.ensures.same ∙ ap (comes_of new) t.1 ∙ turned old new More rest (made c.args.line.now) t.0 same;
      fits = c.pass_mark-rest-in-More.ensures.fits (t.0.fits fits);
    }

pub returns-in-End : goal.returns-in-End
returns-in-End c =
    let old = c.take_row.new.self in let new = c.take_next.new.self in let rest = c.tokens.rest.now in
    let behind = c.in_ok-turn.behind.now in
    let kept = subst (λ o. TakesRow c.tokens.self.state rest o old) c.in_default.is c.in_ok-behind.ensures in
    let same = subst (λ s. comes_of s rest ≡ made c.args.line.now) (sym kept) c.tokens.invariant.same in
    let t : IsTurnAt old (token_at rest) End behind new = subst (λ r. IsTurnAt old (token_at rest) r behind new) c.in-End.is c.in_ok-turn.ensures in
    sym (turned old new End rest (made c.args.line.now) t.0 same)

pub returns-in-NotJson : goal.returns-in-NotJson
returns-in-NotJson c =
    let old = c.take_row.new.self in let new = c.take_next.new.self in let rest = c.tokens.rest.now in
    let behind = c.in_ok-turn.behind.now in
    let kept = subst (λ o. TakesRow c.tokens.self.state rest o old) c.in_default.is c.in_ok-behind.ensures in
    let same = subst (λ s. comes_of s rest ≡ made c.args.line.now) (sym kept) c.tokens.invariant.same in
    let t : IsTurnAt old (token_at rest) NotJson behind new = subst (λ r. IsTurnAt old (token_at rest) r behind new) c.in-NotJson.is c.in_ok-turn.ensures in
    sym (turned old new NotJson rest (made c.args.line.now) t.0 same)
