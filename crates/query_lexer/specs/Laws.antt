-- Laws of the lexical rules.
use Rattle.std.specs.Prelude.{◌≡◌, ◌⊎◌, ◌↔◌, ℕ, true, List}
use Rattle.item_tree.specs.declared.code.Code.{Code}
use Rattle.query_lexer.specs.Comments.{begins_comment, IsComment, IsUnclosed}
use Rattle.query_lexer.specs.Lexes.{Tokens, Refused}
use Rattle.query_lexer.specs.Nesting.{IsNested}
use Rattle.query_lexer.specs.declared.token.Token.{Token}

-- a text has one list of tokens or one refusal, and never both
pub record ReadingIsOne : Type 0 where
  pub either : (text : List ℕ)
      → ((ts : List Token) × Tokens text ts) ⊎ ((c : Code) × (place : ℕ) × Refused text c place)
  pub tokens : (text : List ℕ) (xs ys : List Token) → Tokens text xs → Tokens text ys → xs ≡ ys
  pub refusal : (text : List ℕ) (c d : Code) (p q : ℕ) → Refused text c p → Refused text d q
      → (c ≡ d) × (p ≡ q)
  pub not_both : (text : List ℕ) (ts : List Token) (c : Code) (place : ℕ) → Tokens text ts
      → Refused text c place → ⊥

-- a comment that is found by its depth is one by the grammar, and one is found unclosed where the
-- grammar has none
pub record CommentsNest : Type 0 where
  pub comment : (text : List ℕ) (n : ℕ) → IsComment text n ↔ IsNested text n
  pub unclosed : (text : List ℕ)
      → IsUnclosed text ↔ ((begins_comment text ≡ true) × ((n : ℕ) → ¬ IsNested text n))
