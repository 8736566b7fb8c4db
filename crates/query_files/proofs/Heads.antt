-- The head of tokens: there is one or a refusal, and one alone.
use Rattle.std.proofs.Common.{◌≡◌, ◌⊎◌, inl, inr, ℕ, ◌+◌, Bool, true, false, List, [], ◌∷◌, length, Option, None, Some, Result, Ok, Err, refl, sym, ap, ap₂, ◌∙◌, subst, if◌then◌else◌}
use Rattle.std.specs.Str.{chars}
use Rattle.item_tree.specs.JsonString.{Piece, content, IsString}
use Rattle.json_text.specs.inside.Scan.{plain, pieces_at}
use Rattle.json_text.proofs.StringLemmas.{string_taken}
use Rattle.query_lexer.specs.Lexes.{spelling}
use Rattle.query_lexer.specs.declared.token.Token.{Token}
use Rattle.query_lexer.specs.declared.token.TokenKind.{TokenKind}
use Rattle.query_lexer.specs.declared.token.TokenKind.TheVariants as t
use Rattle.query_grammar.specs.Words.{Means, IsWordOf, AreWordsAt}
use Rattle.query_grammar.specs.declared.word.Word.{Word}
use Rattle.module_names.specs.Heads.{Head, no_head, with_import, opens, closes, is_text, strings, head_of, IsImport, AreImports, IsHead}
use Rattle.module_names.specs.declared.head.Import.{Import}

-- ---- strings

abbrev pieces_of : Option (List Piece × List ℕ) → List Piece
pieces_of None = []
pieces_of (Some p) = p.0

one_string : (cs ds l : List ℕ) → IsString cs l [] → IsString ds l [] → cs ≡ ds
one_string cs ds l h k =
    let p = string_taken cs l [] h in
    let q = string_taken ds l [] k in
    let opened : 34 ∷ p.inside ≡ 34 ∷ q.inside = sym p.opened ∙ q.opened in
    let inside : p.inside ≡ q.inside = cc in
    let pieces : p.pieces ≡ q.pieces = ap pieces_of (sym p.found ∙ ap (pieces_at plain) inside ∙ q.found) in
    sym p.characters ∙ ap (λ ps. chars (content ps)) pieces ∙ q.characters

text_kind : (kind : TokenKind) → strings kind ≡ true → kind ≡ t.Text
text_kind t.Name e = absurd cc
text_kind t.Var e = absurd cc
text_kind t.Context e = absurd cc
text_kind t.Int e = absurd cc
text_kind t.Dec e = absurd cc
text_kind t.Double e = absurd cc
text_kind t.Text e = refl
text_kind t.Mark e = absurd cc

module _ (text : List ℕ) where
  -- a string says something
  abbrev Valued : Token → Type 0
  Valued token = token.kind ≡ t.Text → (name : List ℕ) × IsString name (spelling text token) []

  abbrev AllValued : List Token → Type 0
  AllValued [] = Unit {0}
  AllValued (token ∷ tokens) = Valued token × AllValued tokens

  valued : (token : Token) (word : Word) → IsWordOf 0 text token word → Valued token
  valued token word is = λ kind.
      let (k, name, v, string) = subst (λ (k : TokenKind). Means k (spelling text token) word.kind word.value) kind is.means in
      (name, string)

  pub all_valued : (tokens : List Token) (words : List Word) → AreWordsAt 0 text tokens words → AllValued tokens
  all_valued [] words are = tt
  all_valued (token ∷ tokens) [] are = absurd are
  all_valued (token ∷ tokens) (word ∷ words) are = (valued token word are.0, all_valued tokens words are.1)

  -- ---- there is a head or a refusal

  abbrev pub HeadKnown : Result Head ℕ → Type 0
  HeadKnown r =
      ((place : ℕ) × (r ≡ Err place))
      ⊎ ((head : Head) × (imports : List Import) × (r ≡ Ok head) × AreImports text imports head.texts)

  known_none : HeadKnown no_head
  known_none = inr (record { texts = []; count = 0 }, [], refl, tt)

  known_if : (b : Bool) (x y : Result Head ℕ) → (b ≡ true → HeadKnown x) → (b ≡ false → HeadKnown y) → HeadKnown (if b then x else y)
  known_if true x y f g = f refl
  known_if false x y f g = g refl

  known_more : (token : Token) (r : Result Head ℕ) → Valued token → is_text token ≡ true → HeadKnown r → HeadKnown (with_import token r)
  known_more token r v is (inl (place, e)) = inl (place, ap (with_import token) e)
  known_more token r v is (inr (head, imports, e, are)) =
      let (name, string) = v (text_kind token.kind is) in
      inr (
        record { texts = token ∷ head.texts; count = 4 + head.count },
        record { name = name; place = token.from } ∷ imports,
        ap (with_import token) e,
        (record { name = string; place = refl }, are),
      )

  pub head_known : (tokens : List Token) → AllValued tokens → HeadKnown (head_of text tokens)
  head_known [] v = known_none
  head_known (a ∷ []) v = known_none
  head_known (a ∷ b ∷ []) v = known_if (opens text a b) (Err (length text)) no_head (λ e. inl (length text, refl)) (λ e. known_none)
  head_known (a ∷ b ∷ c ∷ []) v =
      known_if (opens text a b) (Err (if is_text c then length text else c.from)) no_head
      (λ e. inl ((if is_text c then length text else c.from), refl)) (λ e. known_none)
  head_known (a ∷ b ∷ c ∷ d ∷ tokens) v =
      known_if (opens text a b)
      (if is_text c then (if closes text d then with_import c (head_of text tokens) else Err d.from) else Err c.from) no_head
      (λ e.
      known_if (is_text c) (if closes text d then with_import c (head_of text tokens) else Err d.from) (Err c.from)
      (λ is.
      known_if (closes text d) (with_import c (head_of text tokens)) (Err d.from)
      (λ f. known_more c (head_of text tokens) v.1.1.0 is (head_known tokens v.1.1.1.1))
      (λ f. inl (d.from, refl)))
      (λ is. inl (c.from, refl)))
      (λ e. known_none)

  -- ---- there is no other

  one_import : (x y : Import) (token : Token) → IsImport text x token → IsImport text y token → x ≡ y
  one_import x y token h g =
      let name : x.name ≡ y.name = one_string x.name y.name (spelling text token) h.name g.name in
      let place : x.place ≡ y.place = h.place ∙ sym g.place in
      λ i. record { name = name i; place = place i }

  one_list : (xs ys : List Import) (tokens : List Token) → AreImports text xs tokens → AreImports text ys tokens → xs ≡ ys
  one_list [] [] tokens h g = refl
  one_list [] (y ∷ ys) [] h g = absurd g
  one_list [] (y ∷ ys) (token ∷ tokens) h g = absurd h
  one_list (x ∷ xs) ys [] h g = absurd h
  one_list (x ∷ xs) [] (token ∷ tokens) h g = absurd g
  one_list (x ∷ xs) (y ∷ ys) (token ∷ tokens) h g =
      ap₂ (λ (i : Import) (is : List Import). i ∷ is) (one_import x y token h.0 g.0) (one_list xs ys tokens h.1 g.1)

  abbrev texts_in : Result Head ℕ → List Token
  texts_in (Ok head) = head.texts
  texts_in (Err place) = []

  abbrev count_in : Result Head ℕ → ℕ
  count_in (Ok head) = head.count
  count_in (Err place) = 0

  abbrev place_in : Result Head ℕ → ℕ
  place_in (Ok head) = 0
  place_in (Err place) = place

  pub record OneHead (imports others : List Import) (count number : ℕ) : Type 0 where
    pub imports_ : imports ≡ others
    pub count_ : count ≡ number

  pub one_head : (tokens : List Token) (imports others : List Import) (count number : ℕ) → IsHead text tokens imports count → IsHead text tokens others number
      → OneHead imports others count number
  one_head tokens imports others count number (texts, e, are) (more, f, were) =
      let same = sym e ∙ f in
      let listed : texts ≡ more = ap texts_in same in
      record {
        imports_ = one_list imports others more (subst (λ (ts : List Token). AreImports text imports ts) listed are) were;
        count_ = ap count_in same;
      }

  pub one_place : (tokens : List Token) (p q : ℕ) → head_of text tokens ≡ Err p → head_of text tokens ≡ Err q → p ≡ q
  one_place tokens p q e f = ap place_in (sym e ∙ f)

  pub no_head_place : (tokens : List Token) (imports : List Import) (count place : ℕ) → IsHead text tokens imports count → head_of text tokens ≡ Err place → ⊥
  no_head_place tokens imports count place (texts, e, are) f = absurd cc
