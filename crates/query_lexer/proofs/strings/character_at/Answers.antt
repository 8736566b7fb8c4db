use Rattle.std.proofs.Common.{◌≡◌, sym, subst, IfSome, IfNone}
use Rattle.json_text.specs.inside.Scan.{string_at}
use Rattle.json_text.specs.Escapes.{Begins}
use Rattle.json_text.proofs.EscapeLemmas.{front_is}
use Rattle.query_lexer.specs.Scan.{closed_at}
use Rattle.query_lexer.proofs.StringLemmas.{no_character}
use Rattle.query_lexer.proofs.strings.character_at.Goals as goal

pub returns-in-len1-up : goal.returns-in-len1-up
returns-in-len1-up c =
    let seam = sym (front_is c.args.text.now c.in-len1-up.len_at_least) in
    record {
      some = subst (λ t. IfSome c.character_from.result (λ x. Begins t x.0 x.1.now)) seam c.character_from.ensures.some;
      none = subst (λ t. IfNone c.character_from.result (string_at t ≡ closed_at t)) seam c.character_from.ensures.none;
    }

pub returns-in-empty-clause-none : goal.returns-in-empty-clause-none
returns-in-empty-clause-none c = no_character c.args.text.now c.in-empty.len_below
