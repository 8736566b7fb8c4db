-- Heads, computed: tokens of small texts.
use Rattle.std.proofs.Common.{◌≡◌, ℕ, ◌+◌, List, [], ◌∷◌, ◌++◌, Ok, Err, codes, refl}
use Rattle.query_lexer.specs.declared.token.Token.{Token}
use Rattle.query_lexer.specs.declared.token.TokenKind.{TokenKind}
use Rattle.query_lexer.specs.declared.token.TokenKind.TheVariants as k
use Rattle.module_names.specs.Heads.{head_of}

abbrev token : TokenKind → ℕ → ℕ → Token
token kind from to = record { kind = kind; from = from; to = to }

-- `import module "a"; ` is 19 bytes long
abbrev one : List ℕ
one = codes "import module " ++ 34 ∷ 97 ∷ 34 ∷ codes "; "

abbrev one_at : ℕ → List Token
one_at at =
    token k.Name at (6 + at) ∷ token k.Name (7 + at) (13 + at) ∷ token k.Text (14 + at) (17 + at) ∷ token k.Mark (17 + at) (18 + at) ∷ []

-- two imports before a body
two_imports : head_of (one ++ one ++ codes "x") (one_at 0 ++ one_at 19 ++ token k.Name 38 39 ∷ [])
    ≡ Ok (record { texts = token k.Text 14 17 ∷ token k.Text 33 36 ∷ []; count = 8 })
two_imports = refl

-- `import` alone is a name
name_alone : head_of (codes "import + 1") (token k.Name 0 6 ∷ token k.Mark 7 8 ∷ token k.Int 9 10 ∷ []) ≡ Ok (record { texts = []; count = 0 })
name_alone = refl

no_string : head_of (codes "import module x") (token k.Name 0 6 ∷ token k.Name 7 13 ∷ token k.Name 14 15 ∷ []) ≡ Err 14
no_string = refl

cut_off : head_of (codes "import module") (token k.Name 0 6 ∷ token k.Name 7 13 ∷ []) ≡ Err 13
cut_off = refl

not_closed : head_of (codes "import module " ++ 34 ∷ 97 ∷ 34 ∷ codes ", 1") (token k.Name 0 6 ∷ token k.Name 7 13 ∷ token k.Text 14 17 ∷ token k.Mark 17 18 ∷ token k.Int 19 20 ∷ []) ≡ Err 17
not_closed = refl

second_is_cut_off : head_of (one ++ codes "import module") (one_at 0 ++ token k.Name 19 25 ∷ token k.Name 26 32 ∷ []) ≡ Err 32
second_is_cut_off = refl
