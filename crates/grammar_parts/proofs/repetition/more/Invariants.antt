use Rattle.std.proofs.Common.{◌≡◌, List, ◌++◌, length}
use Rattle.grammar_parts.specs.Turns.{Turns}
use Rattle.grammar_parts.proofs.repetition.more.Given as goal

abbrev pub invariant-turns : goal.invariant-turns
invariant-turns g l = record {
  turns : (xs : List _) × (l.found.items ≡ l.fn.found.items ++ xs) × Turns l.separated (g.C.TokenClass.takes l.class) (λ old r new. goal.G-post g l.item old r new) l.fn.cursor.rest.now xs l.cursor.rest.now × (length xs ≡ l.turn);
}
