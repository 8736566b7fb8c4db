use Rattle.std.proofs.Common.{List, drop, sym, ap, ◌∙◌, subst}
use Rattle.std.proofs.lemmas.List.{take_rest}
use Rattle.query_lexer.specs.Lexes.{Tokens, AreTokens}
use Rattle.query_lexer.specs.declared.token.Token.{Token}
use Rattle.query_lexer.proofs.PlaceLemmas.{all_tokens, tokens_drop}
use Rattle.query_files.specs.Seen.{reading_of}
use Rattle.query_files.proofs.Found.{read_on}
use Rattle.query_files.proofs.file_reading.read_file.Goals as goal

pub imports-requires : goal.imports-requires
imports-requires g c = all_tokens c.args.text.now c.deref.result.now (subst (Tokens c.args.text.now) (sym c.deref.ensures.value) c.in-Ok.ensures.found)

pub read_after-requires : goal.read_after-requires
read_after-requires g c =
    let d = c.deref-in-Ok-imports in
    subst (λ (ts : List Token). AreTokens c.args.text.now ts) (sym (take_rest d.result.now c.in-Ok-imports.count))
    (tokens_drop c.args.text.now c.in-Ok-imports.count d.result.now
    (all_tokens c.args.text.now d.result.now (subst (Tokens c.args.text.now) (sym d.ensures.value) c.in-Ok.ensures.found)))

pub returns-in-Ok-imports : goal.returns-in-Ok-imports
returns-in-Ok-imports g c =
    let d = c.deref-in-Ok-imports in
    read_on c.args.text.now c.deref.result.now _ c.in-Ok-imports.imports.items c.in-Ok-imports.count (reading_of c.read_after.result)
    (subst (Tokens c.args.text.now) (sym c.deref.ensures.value) c.in-Ok.ensures.found) c.in-Ok-imports.ensures.found
    (take_rest d.result.now c.in-Ok-imports.count ∙ ap (λ (ts : List Token). drop c.in-Ok-imports.count ts) (d.ensures.value ∙ sym c.deref.ensures.value))
    c.read_after.ensures
