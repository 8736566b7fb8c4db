-- The body of a file: what stands after its declarations.
use Rattle.std.specs.Prelude.{ℕ, Bool, ◌&&◌, List, [], ◌∷◌, Option, None, Some, codes, if◌then◌else◌}
use Rattle.std.specs.List.{after_last}
use Rattle.query_lexer.specs.declared.token.Token.{Token}
use Rattle.module_names.specs.Heads.{is_mark, closes}

-- `()`
abbrev pub is_unit : List ℕ → Token → Token → Bool
is_unit text a b = is_mark (codes "(") text a && is_mark (codes ")") text b

-- the place of the first of these tokens, unless they are `()`
abbrev pub unless_unit : List ℕ → List Token → Option ℕ
unless_unit text [] = None
unless_unit text (a ∷ []) = Some a.from
unless_unit text (a ∷ b ∷ []) = if is_unit text a b then None else Some a.from
unless_unit text (a ∷ b ∷ c ∷ ts) = Some a.from

-- where the body stands, given the tokens after the head, unless it is `()`: a `;` ends each
-- declaration, and none stands in the body
abbrev pub other_body : List ℕ → List Token → Option ℕ
other_body text tokens = unless_unit text (after_last (closes text) tokens)
