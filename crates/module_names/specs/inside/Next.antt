-- What tokens begin with.
use Rattle.std.specs.Prelude.{◌≡◌, ℕ, ◌+◌, ◌≤◌, List, ◌++◌, Result, Ok, Err, length, drop, get_or}
use Rattle.query_lexer.specs.declared.token.Token.{Token}
use Rattle.query_lexer.specs.declared.token.TokenKind.TheVariants.{Text}
use Rattle.module_names.specs.Heads.{Head, no_head, with_import, head_of, AreImports}
use Rattle.module_names.specs.declared.head.Import as declared
use Rattle.module_names.specs.declared.head.Next.{Next}
use Rattle.module_names.specs.declared.head.Next.TheVariants.{Other, Import, Refused}

abbrev pub IsNext : List ℕ → List Token → Next → Type 0
IsNext text tokens Other = head_of text tokens ≡ no_head
IsNext text tokens (Refused place) = head_of text tokens ≡ Err place
IsNext text tokens (Import token) =
    (4 ≤ length tokens) × (get_or tokens 2 token ≡ token) × (token.kind ≡ Text)
    × (head_of text tokens ≡ with_import token (head_of text (drop 4 tokens)))

-- what a head is behind others
abbrev pub behind : List Token → ℕ → Result Head ℕ → Result Head ℕ
behind texts count (Ok head) =
    Ok (record { texts = texts ++ head.texts; count = count + head.count })
behind texts count (Err place) = Err place

-- so many tokens were read, with these imports
pub record HasRead (text : List ℕ) (tokens : List Token) (found : List declared.Import) (at : ℕ)
    : Type 0 where
  pub texts : List Token
  pub imports : AreImports text found texts
  pub head : head_of text tokens ≡ behind texts at (head_of text (drop at tokens))
  pub within : at ≤ length tokens
