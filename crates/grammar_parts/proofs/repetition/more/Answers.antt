use Rattle.std.proofs.Common.{◌<◌, [], ◌∷◌, ◌++◌, length, sym, ◌∙◌, append_assoc, arith}
use Rattle.std.proofs.lemmas.Result.{err_from_is_err_and}
use Rattle.std.proofs.lemmas.List.{length-append}
use Rattle.grammar_parts.proofs.TurnLemmas.{turn_from, turns_more, turns_stop}
use Rattle.grammar_parts.proofs.repetition.more.Goals as goal

pub returns-in_err-item : goal.returns-in_err-item
returns-in_err-item g c =
    let e = err_from_is_err_and c.from_residual.result c.from_residual.ensures.1 in
    let seen = sym c.sees.ensures ∙ c.if-not-sees.false in
    let (xs, is, ts, count) = c.turns.invariant.turns in
    let fewer : length xs < length c.args.cursor.now.rest.now = omega (arith, c.turns-test.true, count, c.left-turn-end.ensures) in
    rw (e.1, e.2) (turns_stop c.args.separated (g.C.TokenClass.takes c.args.class) (λ old r new. goal.G-post g c.args.item old r new) c.args.found.items c.args.cursor.now.rest.now xs c.turns.cursor.rest.now c.item.new.arg2.rest.now c.in_err-item.field-0.0
    ts fewer seen (turn_from (λ old r new. goal.G-post g c.args.item old r new) _ _ _ _ c.to_item.ensures c.in_err-item.ensures))

pub turns-preserved : goal.turns-preserved
turns-preserved g c =
    let seen = sym c.sees.ensures ∙ c.if-not-sees.false in
    let (xs, is, ts, count) = c.turns.invariant.turns in
    record {
      turns = (
        xs ++ c.in_ok-item.field-0 ∷ [],
        rw (c.in_ok-push.ensures.items, is) (append_assoc c.args.found.items xs (c.in_ok-item.field-0 ∷ [])),
        turns_more c.args.separated (g.C.TokenClass.takes c.args.class) (λ old r new. goal.G-post g c.args.item old r new) c.args.cursor.now.rest.now xs c.turns.cursor.rest.now c.item.new.arg2.rest.now c.in_ok-item.field-0
            ts seen (turn_from (λ old r new. goal.G-post g c.args.item old r new) _ _ _ _ c.to_item.ensures c.in_ok-item.ensures),
        rw length-append (omega (arith, count)),
      );
    }
