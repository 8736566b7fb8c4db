-- The head of a file: the imports with which its tokens begin.
use Rattle.std.specs.Prelude.{◌≡◌, ℕ, ◌+◌, Bool, true, false, ◌&&◌, List, [], ◌∷◌, length, Result, Ok, Err, codes, if◌then◌else◌}
use Rattle.std.specs.Str.{bytes_eq}
use Rattle.item_tree.specs.JsonString.{IsString}
use Rattle.item_tree.specs.declared.code.Code.TheVariants.{XPST0003}
use Rattle.query_lexer.specs.Lexes.{spelling}
use Rattle.query_lexer.specs.declared.token.Token.{Token}
use Rattle.query_lexer.specs.declared.token.TokenKind.{TokenKind}
use Rattle.query_lexer.specs.declared.token.TokenKind.TheVariants.{Name, Text, Mark}
use Rattle.module_names.specs.declared.head.Import.{Import}
use Rattle.module_names.specs.declared.head.HeadFault.{HeadFault}
use Rattle.module_names.specs.declared.head.HeadFault.TheVariants as fault

-- ---- tokens

abbrev pub names : TokenKind → Bool
names Name = true
names _ = false

abbrev pub marks : TokenKind → Bool
marks Mark = true
marks _ = false

abbrev pub strings : TokenKind → Bool
strings Text = true
strings _ = false

abbrev pub is_spelled : List ℕ → List ℕ → Token → Bool
is_spelled word text token = bytes_eq (spelling text token) word

abbrev pub is_name : List ℕ → List ℕ → Token → Bool
is_name name text token = names token.kind && is_spelled name text token

abbrev pub is_mark : List ℕ → List ℕ → Token → Bool
is_mark mark text token = marks token.kind && is_spelled mark text token

abbrev pub is_text : Token → Bool
is_text token = strings token.kind

-- `import module`
abbrev pub opens : List ℕ → Token → Token → Bool
opens text a b = is_name (codes "import") text a && is_name (codes "module") text b

-- `;`
abbrev pub closes : List ℕ → Token → Bool
closes text token = is_mark (codes ";") text token

-- ---- the head

-- the strings of the imports, and how many tokens they take up
pub record Head : Type 0 where
  pub texts : List Token
  pub count : ℕ

abbrev pub no_head : Result Head ℕ
no_head = Ok (record { texts = []; count = 0 })

-- one import before the later ones
abbrev pub with_import : Token → Result Head ℕ → Result Head ℕ
with_import token (Ok later) =
    Ok (record { texts = token ∷ later.texts; count = 4 + later.count })
with_import token (Err place) = Err place

-- the imports with which tokens begin, as long as the next two are `import module`; or the place
-- of the first token behind these that is not the one wanted there, which is the text's end where
-- there is none
abbrev pub head_of : List ℕ → List Token → Result Head ℕ
head_of text [] = no_head
head_of text (a ∷ []) = no_head
head_of text (a ∷ b ∷ []) = if opens text a b then Err (length text) else no_head
head_of text (a ∷ b ∷ t ∷ []) =
    if opens text a b then Err (if is_text t then length text else t.from) else no_head
head_of text (a ∷ b ∷ t ∷ s ∷ ts) =
    if opens text a b
    then (if is_text t
    then (if closes text s then with_import t (head_of text ts) else Err s.from)
    else Err t.from)
    else no_head

-- the name is what the string says
pub record IsImport (text : List ℕ) (import : Import) (token : Token) : Type 0 where
  pub name : IsString import.name (spelling text token) []
  pub place : import.place ≡ token.from

abbrev pub AreImports : List ℕ → List Import → List Token → Type 0
AreImports text [] [] = Unit {0}
AreImports text [] (t ∷ ts) = ⊥
AreImports text (i ∷ is) [] = ⊥
AreImports text (i ∷ is) (t ∷ ts) = IsImport text i t × AreImports text is ts

-- these are the imports at the head of the tokens, and it has so many tokens
abbrev pub IsHead : List ℕ → List Token → List Import → ℕ → Type 0
IsHead text tokens imports count =
    (texts : List Token) × (head_of text tokens ≡ Ok (record { texts = texts; count = count }))
    × AreImports text imports texts

-- the head is refused so, or memory ran out
abbrev pub IsFault : List ℕ → List Token → HeadFault → Type 0
IsFault text tokens (fault.Refused code place) =
    (code ≡ XPST0003) × (head_of text tokens ≡ Err place)
IsFault text tokens fault.NoMemory = Unit {0}
