-- The head of a file, import by import.
use Rattle.std.proofs.Common.{◌≡◌, ℕ, ◌+◌, ◌<◌, List, [], ◌∷◌, ◌++◌, length, drop, Result, Ok, Err, refl, sym, ap, ◌∙◌, subst, arith, append_assoc, append-nil, add-zero, zero-add, length-drop}
use Rattle.std.proofs.lemmas.List.{drop-drop}
use Rattle.query_lexer.specs.Lexes.{AreTokens, IsTokenOf}
use Rattle.query_lexer.specs.declared.token.Token.{Token}
use Rattle.query_lexer.proofs.PlaceLemmas.{token_indexed}
use Rattle.module_names.specs.Heads.{Head, no_head, with_import, head_of, IsImport, AreImports, IsHead}
use Rattle.module_names.specs.declared.head.Import as declared
use Rattle.module_names.specs.declared.head.Next.TheVariants.{Import}
use Rattle.module_names.specs.inside.Next.{IsNext, behind, HasRead}

pub import_stands : (text : List ℕ) (tokens : List Token) (t : Token) → AreTokens text tokens → IsNext text tokens (Import t) → IsTokenOf text t
import_stands text tokens t of next =
    let within : 2 < length tokens = omega (arith, next.0) in
    subst (IsTokenOf text) (next.1) (token_indexed text tokens 2 t of within)

behind_none : (r : Result Head ℕ) → behind [] 0 r ≡ r
behind_none (Ok h) = λ i. Ok (record { texts = h.texts; count = zero-add h.count i })
behind_none (Err p) = refl

pub none_read : (text : List ℕ) (tokens : List Token) → HasRead text tokens [] 0
none_read text tokens = record { texts = []; imports = tt; head = sym (behind_none (head_of text tokens)); within = omega arith }

pub head_ends : (text : List ℕ) (tokens : List Token) (found : List declared.Import) (at : ℕ) → HasRead text tokens found at
    → head_of text (drop at tokens) ≡ no_head → IsHead text tokens found at
head_ends text tokens found at r h = (
  r.texts,
  r.head ∙ ap (behind r.texts at) h ∙ (λ i. Ok (record { texts = append-nil r.texts i; count = add-zero at i })),
  r.imports,
)

pub head_refused : (text : List ℕ) (tokens : List Token) (found : List declared.Import) (at place : ℕ) → HasRead text tokens found at
    → head_of text (drop at tokens) ≡ Err place → head_of text tokens ≡ Err place
head_refused text tokens found at place r h = r.head ∙ ap (behind r.texts at) h

imports_more : (text : List ℕ) (is : List declared.Import) (ts : List Token) (i : declared.Import) (t : Token) → AreImports text is ts
    → IsImport text i t → AreImports text (is ++ i ∷ []) (ts ++ t ∷ [])
imports_more text [] [] i t a e = (e, tt)
imports_more text [] (u ∷ ts) i t a e = absurd a
imports_more text (j ∷ is) [] i t a e = absurd a
imports_more text (j ∷ is) (u ∷ ts) i t a e = (a.0, imports_more text is ts i t (a.1) e)

shift : (texts : List Token) (at : ℕ) (t : Token) (r : Result Head ℕ)
    → behind texts at (with_import t r) ≡ behind (texts ++ t ∷ []) (at + 4) r
shift texts at t (Ok h) =
    let sums : at + (4 + h.count) ≡ (at + 4) + h.count = omega arith in
    λ i. Ok (record { texts = sym (append_assoc texts (t ∷ []) h.texts) i; count = sums i })
shift texts at t (Err p) = refl

pub read_more : (text : List ℕ) (tokens : List Token) (found more : List declared.Import) (at : ℕ) (i : declared.Import) (t : Token)
    → HasRead text tokens found at → IsNext text (drop at tokens) (Import t) → IsImport text i t → more ≡ found ++ i ∷ []
    → HasRead text tokens more (at + 4)
read_more text tokens found more at i t r next is e = record {
  texts = r.texts ++ t ∷ [];
  imports = rw e (imports_more text found r.texts i t r.imports is);
  head =
      r.head ∙ ap (behind r.texts at) (next.3) ∙ shift r.texts at t (head_of text (drop 4 (drop at tokens)))
      ∙ ap (λ (ts : List Token). behind (r.texts ++ t ∷ []) (at + 4) (head_of text ts)) (drop-drop 4 at tokens);
  within = omega (arith, next.0, length-drop at tokens, r.within);
}
