use Rattle.std.proofs.Common.{List, drop, sym, subst}
use Rattle.std.proofs.lemmas.List.{take_rest}
use Rattle.query_lexer.specs.Lexes.{AreTokens}
use Rattle.query_lexer.specs.declared.token.Token.{Token}
use Rattle.query_lexer.proofs.PlaceLemmas.{tokens_drop}
use Rattle.module_names.specs.declared.head.Import as declared
use Rattle.module_names.specs.declared.head.Next.TheVariants.{Import}
use Rattle.module_names.specs.inside.Next.{IsNext, HasRead}
use Rattle.module_names.proofs.Reading.{none_read, read_more, import_stands}
use Rattle.module_names.proofs.head.imports.Goals as goal

pub reading-init : goal.reading-init
reading-init c =
    subst (λ (is : List declared.Import). HasRead c.args.text.now c.args.tokens.now is 0) (sym c.new-found.ensures.items)
    (none_read c.args.text.now c.args.tokens.now)

pub next_import-requires-clause-tokens : goal.next_import-requires-clause-tokens
next_import-requires-clause-tokens c =
    subst (λ (ts : List Token). AreTokens c.args.text.now ts) (sym (take_rest c.args.tokens.now c.reading.at))
    (tokens_drop c.args.text.now c.reading.at c.args.tokens.now c.requires)

pub import_of-requires-clause-listed : goal.import_of-requires-clause-listed
import_of-requires-clause-listed c =
    import_stands c.args.text.now (drop c.reading.at c.args.tokens.now) c.in-Import.token
    (tokens_drop c.args.text.now c.reading.at c.args.tokens.now c.requires)
    (subst (λ (ts : List Token). IsNext c.args.text.now ts (Import c.in-Import.token)) (take_rest c.args.tokens.now c.reading.at) c.in-Import.ensures)

pub reading-preserved : goal.reading-preserved
reading-preserved c =
    read_more c.args.text.now c.args.tokens.now c.reading.found.items c.push.new.self.items c.reading.at c.in_ok-import_of-in-Import.field-0
    c.in-Import.token c.reading.invariant
    (subst (λ (ts : List Token). IsNext c.args.text.now ts (Import c.in-Import.token)) (take_rest c.args.tokens.now c.reading.at) c.in-Import.ensures)
    c.in_ok-import_of-in-Import.ensures c.in_ok-push-in-Import.ensures.items
