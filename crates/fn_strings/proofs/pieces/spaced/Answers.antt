use Rattle.std.proofs.Common.{◌≡◌, ◌∷◌, [], ◌++◌, List, ℕ, refl, ap, sym, ◌∙◌, rules}
use Rattle.std.specs.List.{flat_map}
use Rattle.std.specs.Str.{chars}
use Rattle.std.specs.String.{string_bytes}
use Rattle.std.proofs.lemmas.Str.{chars-nil}
use Rattle.std.proofs.lemmas.List.{append_assoc}
use Rattle.value_rules.specs.Strings.{joined_by, words_of}
use Rattle.fn_strings.proofs.pieces.spaced.Goals as goal

space : chars (32 ∷ []) ≡ 32 ∷ []
unfolding chars
space = refl

step : (a s p f : List ℕ) → ((a ++ s) ++ p) ++ f ≡ a ++ ((s ++ p) ++ f)
step a s p f = simp append_assoc

pub returns-in_default : goal.returns-in_default
returns-in_default c = rw (c.in_ok-line.ensures.bytes, chars-nil, c.in_default.ensures.pieces) refl

pub loop-piece-init : goal.loop-piece-init
loop-piece-init c =
    let rest = flat_map (λ u. (32 ∷ []) ++ u) (words_of (chars c.in-Some.more.now)) in
    let line : chars (string_bytes c.push.new.text) ≡ chars c.in-Some.first.now =
    c.in_ok-push.ensures ∙ ap (λ t. t ++ chars c.in-Some.first.now) (ap chars c.in_ok-line.ensures.bytes ∙ chars-nil) in
    record {
      text = search rules;
      line = ap (λ t. t ++ rest) line ∙ ap (joined_by (32 ∷ [])) (sym c.in-Some.ensures.pieces);
    }

pub loop-piece-preserved : goal.loop-piece-preserved
loop-piece-preserved c =
    let piece = chars c.in-Some-next_piece.piece.now in
    let rest = flat_map (λ u. (32 ∷ []) ++ u) (words_of (chars c.in-Some-next_piece.more.now)) in
    let before = chars (string_bytes c.loop-piece.line) in
    let line : chars (string_bytes c.push-in-Some-next_piece-2.new.text) ≡ (before ++ (32 ∷ [])) ++ piece =
    c.in_ok-push-3.ensures ∙ ap (λ t. t ++ piece) (c.in_ok-push-2.ensures ∙ ap (λ t. before ++ t) space) in
    record {
      text = search rules;
      line = ap (λ t. t ++ rest) line ∙ step before (32 ∷ []) piece rest
          ∙ ap (λ ws. before ++ flat_map (λ u. (32 ∷ []) ++ u) ws) (sym c.in-Some-next_piece.ensures.pieces)
          ∙ c.loop-piece.invariant.line;
    }
