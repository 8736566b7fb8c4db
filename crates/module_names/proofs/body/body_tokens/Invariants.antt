use Rattle.std.proofs.Common.{◌≡◌, ◌≤◌, ◌<◌, ℕ, length, get_or, not, true}
use Rattle.query_lexer.specs.declared.token.Token.{Token}
use Rattle.module_names.specs.Heads.{closes}
use Rattle.module_names.proofs.body.body_tokens.Given as goal

abbrev pub invariant-finding : goal.invariant-finding
invariant-finding l = record {
  within : l.start ≤ length l.tokens;
  passed : (k : ℕ) (d : Token) → l.start ≤ k → k < length l.tokens → not (closes l.text (get_or l.tokens k d)) ≡ true;
}

abbrev pub decreases-finding : goal.decreases-finding
decreases-finding l = l.start
