use Rattle.std.proofs.Common.{◌≡◌, ◌∷◌, None, sym, ◌∙◌, ap, subst, arith}
use Rattle.std.specs.Str.{IsUtf8}
use Rattle.std.proofs.lemmas.Bool.{true≢false}
use Rattle.std.proofs.lemmas.Str.{IsUtf8-nil}
use Rattle.std.proofs.lemmas.List.Sums.{prefix_len-le-length}
use Rattle.item_tree.specs.JsonString.{is_raw}
use Rattle.item_tree.proofs.AsciiTexts.{all_below}
use Rattle.json_text.specs.inside.Scan.{string_at, after_bytes}
use Rattle.json_text.proofs.SpellLemmas.{after_none}
use Rattle.item_reader.proofs.StringSteps.{stretch_of, stretch_stops, text_grows, cut_off, closed, refused, escaped}
use Rattle.item_reader.proofs.string.string.Goals as goal

pub stretches-init : goal.stretches-init
stretches-init c = record {
  same = ap (λ b. after_bytes b (string_at c.args.line.now)) c.clear.ensures.items ∙ after_none (string_at c.args.line.now);
  front = c.requires.0;
  text = λ e. (subst IsUtf8 (sym c.clear.ensures.items) IsUtf8-nil, all_below _ (sym c.requires.1 ∙ e));
}

pub split_at-requires : goal.split_at-requires
split_at-requires c =
    let within = prefix_len-le-length is_raw c.stretches.left.now in
    let front = c.stretches.invariant.front in
    omega arith

pub returns-in_default-clause-value : goal.returns-in_default-clause-value
returns-in_default-clause-value c =
    let v = c.stretches.invariant in
    let new = c.extend_from_slice.new.self.items in
    let s = stretch_of c.stretches.bytes.items c.stretches.left.now new c.split_at.result.0.now c.split_at.result.1.now c.stretches.len _ v.front c.in_ok-extend_from_slice.ensures.items c.split_at.ensures.front c.split_at.ensures.back v.same in
    cut_off new c.split_at.result.1.now _ s (sym c.in_default.ensures)

pub returns-then-mark-eq34-clause-value : goal.returns-then-mark-eq34-clause-value
returns-then-mark-eq34-clause-value c =
    let v = c.stretches.invariant in
    let new = c.extend_from_slice.new.self.items in
    let s = stretch_of c.stretches.bytes.items c.stretches.left.now new c.split_at.result.0.now c.split_at.result.1.now c.stretches.len _ v.front c.in_ok-extend_from_slice.ensures.items c.split_at.ensures.front c.split_at.ensures.back v.same in
    closed new c.split_at.result.1.now _ c.in-Some.mark c.in-Some.rest.now s (sym c.in-Some.ensures) c.if-mark-eq34.true

pub returns-then-mark-eq34-clause-text : goal.returns-then-mark-eq34-clause-text
returns-then-mark-eq34-clause-text c = λ e. text_grows c.stretches.bytes.items c.stretches.left.now c.extend_from_slice.new.self.items c.split_at.result.0.now c.stretches.len c.in_ok-extend_from_slice.ensures.items c.split_at.ensures.front (c.stretches.invariant.text e)

pub returns-then-mark-ne92-clause-value : goal.returns-then-mark-ne92-clause-value
returns-then-mark-ne92-clause-value c =
    let v = c.stretches.invariant in
    let new = c.extend_from_slice.new.self.items in
    let s = stretch_of c.stretches.bytes.items c.stretches.left.now new c.split_at.result.0.now c.split_at.result.1.now c.stretches.len _ v.front c.in_ok-extend_from_slice.ensures.items c.split_at.ensures.front c.split_at.ensures.back v.same in
    refused new c.split_at.result.1.now _ c.in-Some.mark c.in-Some.rest.now s (sym c.in-Some.ensures) c.if-mark-eq34.false c.if-mark-ne92.true (stretch_stops c.stretches.left.now c.split_at.result.1.now c.stretches.len v.front c.split_at.ensures.back)

pub returns-in_default-2-clause-value : goal.returns-in_default-2-clause-value
returns-in_default-2-clause-value c =
    let v = c.stretches.invariant in
    let new = c.extend_from_slice.new.self.items in
    let s = stretch_of c.stretches.bytes.items c.stretches.left.now new c.split_at.result.0.now c.split_at.result.1.now c.stretches.len _ v.front c.in_ok-extend_from_slice.ensures.items c.split_at.ensures.front c.split_at.ensures.back v.same in
    let e = escaped new c.split_at.result.1.now _ c.in-Some.mark c.in-Some.rest.now s (sym c.in-Some.ensures) c.if-mark-ne92.false in
    let none : string_at (92 ∷ c.in-Some.rest.now) ≡ None = rw c.in_default-2.is at c.in_ok-after.ensures.value in
    sym (ap (after_bytes new) none) ∙ e

pub stretches-preserved-then-is_text : goal.stretches-preserved-then-is_text
stretches-preserved-then-is_text c =
    let v = c.stretches.invariant in
    let new = c.extend_from_slice.new.self.items in
    let s = stretch_of c.stretches.bytes.items c.stretches.left.now new c.split_at.result.0.now c.split_at.result.1.now c.stretches.len _ v.front c.in_ok-extend_from_slice.ensures.items c.split_at.ensures.front c.split_at.ensures.back v.same in
    let e = escaped new c.split_at.result.1.now _ c.in-Some.mark c.in-Some.rest.now s (sym c.in-Some.ensures) c.if-mark-ne92.false in
    let more = rw c.in-Some-2.is at c.in_ok-after.ensures.value in
    let text = text_grows c.stretches.bytes.items c.stretches.left.now new c.split_at.result.0.now c.stretches.len c.in_ok-extend_from_slice.ensures.items c.split_at.ensures.front (v.text c.if-is_text.true) in
    let grown = rw c.in-Some-2.is at c.in_ok-after.ensures.text in
    record {
      same = sym more ∙ e;
      front = c.string_front-next.ensures.value;
      text = λ a. (grown text, all_below _ (sym c.string_front-next.ensures.ascii ∙ a));
    }

pub stretches-preserved : goal.stretches-preserved
stretches-preserved c =
    let v = c.stretches.invariant in
    let new = c.extend_from_slice.new.self.items in
    let s = stretch_of c.stretches.bytes.items c.stretches.left.now new c.split_at.result.0.now c.split_at.result.1.now c.stretches.len _ v.front c.in_ok-extend_from_slice.ensures.items c.split_at.ensures.front c.split_at.ensures.back v.same in
    let e = escaped new c.split_at.result.1.now _ c.in-Some.mark c.in-Some.rest.now s (sym c.in-Some.ensures) c.if-mark-ne92.false in
    let more = rw c.in-Some-2.is at c.in_ok-after.ensures.value in
    record {
      same = sym more ∙ e;
      front = c.string_front-next.ensures.value;
      text = λ a. absurd (true≢false (sym a ∙ c.if-is_text.false));
    }
