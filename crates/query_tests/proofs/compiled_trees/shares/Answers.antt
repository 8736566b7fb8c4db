use denote.Param.Send.{sendable}
use Rattle.std.proofs.Common.{sym, subst}
use Rattle.query_lexer.specs.Lexes.{Tokens}
use Rattle.query_lexer.proofs.PlaceLemmas.{all_tokens}
use Rattle.query_tree.proofs.Sharing.{shared_compiled}
use Rattle.query_tests.proofs.compiled_trees.shares.Goals as goal

pub parse-requires : goal.parse-requires
parse-requires c = all_tokens c.args.text.now c.deref.result.now (subst (Tokens c.args.text.now) (sym c.deref.ensures.value) c.in-Ok.ensures.found)

pub is_shared-shared-requires-sync-T : goal.is_shared-shared-requires-sync-T
is_shared-shared-requires-sync-T c = λ κ. search (sendable, shared_compiled)
