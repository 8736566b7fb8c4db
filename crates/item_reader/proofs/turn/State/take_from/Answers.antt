use Rattle.item_reader.proofs.TokenSteps.{from_open_array, from_close_array, from_open_object, from_close_object, from_comma, from_colon, from_quote, no_mark}
use Rattle.item_reader.proofs.turn.State.take_from.Goals as goal

pub returns-then-b-eq91 : goal.returns-then-b-eq91
returns-then-b-eq91 c = c.take_part.ensures _ (from_open_array c.args.b c.args.rest.now c.if-b-eq91.true)

pub returns-then-b-eq93 : goal.returns-then-b-eq93
returns-then-b-eq93 c = c.take_part-then-b-eq93.ensures _ (from_close_array c.args.b c.args.rest.now c.if-b-eq93.true)

pub returns-then-b-eq123 : goal.returns-then-b-eq123
returns-then-b-eq123 c = c.take_part-then-b-eq123.ensures _ (from_open_object c.args.b c.args.rest.now c.if-b-eq123.true)

pub returns-then-b-eq125 : goal.returns-then-b-eq125
returns-then-b-eq125 c = c.take_part-then-b-eq125.ensures _ (from_close_object c.args.b c.args.rest.now c.if-b-eq125.true)

pub returns-then-b-eq44 : goal.returns-then-b-eq44
returns-then-b-eq44 c = c.take_part-then-b-eq44.ensures _ (from_comma c.args.b c.args.rest.now c.if-b-eq44.true)

pub returns-then-b-eq58 : goal.returns-then-b-eq58
returns-then-b-eq58 c = c.take_part-then-b-eq58.ensures _ (from_colon c.args.b c.args.rest.now c.if-b-eq58.true)

pub returns-then-b-eq34 : goal.returns-then-b-eq34
returns-then-b-eq34 c = rw (from_quote c.args.b c.args.rest.now c.if-b-eq34.true) c.take_string.ensures

pub value_from-token-requires-clause-value : goal.value_from-token-requires-clause-value
value_from-token-requires-clause-value c = no_mark c.args.b c.if-b-eq91.false c.if-b-eq93.false c.if-b-eq123.false c.if-b-eq125.false c.if-b-eq44.false c.if-b-eq58.false

pub returns : goal.returns
returns c = c.take_part-2.ensures _ c.value_from-token.ensures
