-- What is found at the front is at least as long as a token, and is of its kind where it is just as long.
use Rattle.std.proofs.Common.{◌≡◌, ℕ, ◌≤◌, Option, Some}
use Rattle.query_lexer.specs.declared.token.TokenKind.{TokenKind}

pub record Reaches (found : Option (TokenKind × ℕ)) (kind : TokenKind) (size : ℕ) : Type 0 where
  pub other : TokenKind
  pub long : ℕ
  pub is : found ≡ Some (other, long)
  pub above : size ≤ long
  pub same : size ≡ long → kind ≡ other
