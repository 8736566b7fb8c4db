use Rattle.std.proofs.Common.{[], ◌∙◌, sym, subst, append-nil}
use Rattle.query_lexer.specs.Lexes.{Tokens}
use Rattle.rumble_run.proofs.front.front_of_text.Goals as goal

pub parse-requires : goal.parse-requires
parse-requires c =
    record { before = []; behind = []; whole = subst (Tokens c.args.text.now) (sym (append-nil c.deref.result.now ∙ c.deref.ensures.value)) c.in-Ok.ensures.found }
