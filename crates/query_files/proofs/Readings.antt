-- Every file has one reading.
use Rattle.std.proofs.Common.{◌≡◌, ◌⊎◌, inl, inr, ◌<◌, ◌≤◌, ◌+◌, ℕ, zero, suc, List, [], ◌∷◌, length, take, drop, Bool, true, false, refl, sym, ap, ◌∙◌, subst, arith}
use Rattle.std.specs.Str.{IsUtf8, is_utf8}
use Rattle.std.proofs.Math.Nat.{eq-or-lt_of_le}
use Rattle.std.proofs.lemmas.Bool.{cases_lt, cases_order}
use Rattle.std.proofs.lemmas.List.{take_all}
use Rattle.std.proofs.lemmas.Str.{IsUtf8-nil, IsUtf8-from_is_utf8, is_utf8-from_IsUtf8}
use Rattle.item_tree.specs.declared.code.Code.{Code}
use Rattle.item_tree.specs.declared.code.Code.TheVariants.{XPST0003, PJST0005}
use Rattle.item_reader.specs.Lines.{without_mark}
use Rattle.query_lexer.specs.Lexes.{Tokens, Refused}
use Rattle.query_lexer.specs.declared.token.Token.{Token}
use Rattle.query_grammar.specs.Laws.{IsDecided}
use Rattle.query_grammar.specs.Texts.{Derives, IsRefused}
use Rattle.query_grammar.specs.Words.{AreWordsAt}
use Rattle.query_grammar.specs.declared.word.Word.{Word}
use Rattle.query_lexer.proofs.PathLemmas as lexer
use Rattle.query_grammar.proofs.Texts as grammar
use Rattle.query_grammar.proofs.OneReading.{one_reading}
use Rattle.module_names.specs.Alone.{max_length}
use Rattle.module_names.specs.Heads.{head_of}
use Rattle.module_names.specs.declared.head.Import.{Import}
use Rattle.query_files.specs.Files.{Reading, unread, with_imports, IsReadAfter, AreRead, IsReadText, BreaksAt, IsReadBehindMark, IsReading}
use Rattle.query_files.proofs.Wording.{words_of_text}
use Rattle.query_files.proofs.Heads as heads

-- ---- where bytes stop being UTF-8

-- the longest beginning of at most n bytes that is UTF-8, where no longer one is
pub record IsLongest (bytes : List ℕ) (n : ℕ) : Type 0 where
  pub place : ℕ
  pub within : place ≤ n
  pub before : IsUtf8 (take place bytes)
  pub longest : (more : ℕ) → place < more → IsUtf8 (take more bytes) → ⊥

-- a longer beginning than of n bytes is of n + 1, or longer
longer : (bytes : List ℕ) (n : ℕ) → is_utf8 (take (suc n) bytes) ≡ false → ((more : ℕ) → suc n < more → IsUtf8 (take more bytes) → ⊥) → (more : ℕ) → n < more → IsUtf8 (take more bytes) → ⊥
longer bytes n e never more lt u = sorted (eq-or-lt_of_le lt)
  where
    sorted : (suc n ≡ more) ⊎ (suc n < more) → ⊥
    sorted (inl is) = let t : is_utf8 (take (suc n) bytes) ≡ true = is_utf8-from_IsUtf8 _ (subst (λ m. IsUtf8 (take m bytes)) (sym is) u) in cc
    sorted (inr beyond) = never more beyond u

longest_by : (bytes : List ℕ) (n : ℕ) → ((more : ℕ) → suc n < more → IsUtf8 (take more bytes) → ⊥) → (((more : ℕ) → n < more → IsUtf8 (take more bytes) → ⊥) → IsLongest bytes n)
    → (b : Bool) → is_utf8 (take (suc n) bytes) ≡ b → IsLongest bytes (suc n)
longest_by bytes n never below true e = record { place = suc n; within = omega arith; before = IsUtf8-from_is_utf8 _ e; longest = never }
longest_by bytes n never below false e =
    let l : IsLongest bytes n = below (longer bytes n e never) in
    record { place = l.place; within = omega (arith, l.within); before = l.before; longest = l.longest }

longest_up_to : (bytes : List ℕ) (n : ℕ) → ((more : ℕ) → n < more → IsUtf8 (take more bytes) → ⊥) → IsLongest bytes n
longest_up_to bytes zero never = record { place = zero; within = omega arith; before = IsUtf8-nil; longest = never }
longest_up_to bytes (suc n) never = longest_by bytes n never (λ h. longest_up_to bytes n h) (is_utf8 (take (suc n) bytes)) refl

breaks : (bytes : List ℕ) → is_utf8 bytes ≡ false → (place : ℕ) × BreaksAt bytes place
breaks bytes e = (l.place, record { short = short (eq-or-lt_of_le l.within); before = l.before; longest = l.longest })
  where
    whole : IsUtf8 bytes → ⊥
    whole u = let t : is_utf8 bytes ≡ true = is_utf8-from_IsUtf8 bytes u in cc

    l : IsLongest bytes (length bytes)
    l = longest_up_to bytes (length bytes) (λ more lt u. whole (subst IsUtf8 (take_all more bytes (omega (arith, lt))) u))

    short : (l.place ≡ length bytes) ⊎ (l.place < length bytes) → l.place < length bytes
    short (inl is) = absurd (whole (subst IsUtf8 (take_all l.place bytes (omega (arith, is))) l.before))
    short (inr lt) = lt

-- ---- there is a reading

words_drop : (text : List ℕ) (n : ℕ) (tokens : List Token) (words : List Word) → AreWordsAt 0 text tokens words → AreWordsAt 0 text (drop n tokens) (drop n words)
words_drop text zero tokens words are = are
words_drop text (suc n) [] words are = ap (drop (suc n)) are
words_drop text (suc n) (token ∷ tokens) [] are = absurd are
words_drop text (suc n) (token ∷ tokens) (word ∷ words) are = words_drop text n tokens words are.1

read_after : (text : List ℕ) (imports : List Import) (tokens : List Token) (words : List Word) → AreWordsAt 0 text tokens words → (reading : Reading) × IsReadAfter text imports tokens reading
read_after text imports tokens words are = by (grammar.decided words (0 + length text))
  where
    by : IsDecided words (0 + length text) → (reading : Reading) × IsReadAfter text imports tokens reading
    by (inl (tree, d)) = (with_imports imports text tokens, inr (tree, (words, are, d), refl))
    by (inr (code, place, r)) = (unread code place, inl (code, place, (words, are, r), refl))

are_read : (text : List ℕ) (tokens : List Token) (words : List Word) → AreWordsAt 0 text tokens words → (reading : Reading) × AreRead text tokens reading
are_read text tokens words are = by (heads.head_known text tokens (heads.all_valued text tokens words are))
  where
    by : heads.HeadKnown text (head_of text tokens) → (reading : Reading) × AreRead text tokens reading
    by (inl (place, e)) = (unread XPST0003 place, inl (place, e, refl))
    by (inr (head, imports, e, listed)) =
        let after = read_after text imports (drop head.count tokens) (drop head.count words) (words_drop text head.count tokens words are) in
        (after.0, inr (imports, head.count, (head.texts, e, listed), after.1))

pub read_text : (text : List ℕ) → IsUtf8 text → (reading : Reading) × IsReadText text reading
read_text text u = by (lexer.either text)
  where
    by : ((tokens : List Token) × Tokens text tokens) ⊎ ((code : Code) × (place : ℕ) × Refused text code place) → (reading : Reading) × IsReadText text reading
    by (inl (tokens, t)) =
        let ws : (words : List Word) × AreWordsAt 0 text tokens words = words_of_text text tokens u t in
        let after = are_read text tokens ws.0 ws.1 in
        (after.0, inr (tokens, t, after.1))
    by (inr (code, place, r)) = (unread code place, inl (code, place, r, refl))

read_behind_mark : (bytes : List ℕ) → (reading : Reading) × IsReadBehindMark bytes reading
read_behind_mark bytes = by (is_utf8 bytes) refl
  where
    by : (b : Bool) → is_utf8 bytes ≡ b → (reading : Reading) × IsReadBehindMark bytes reading
    by true e = let f = read_text bytes (IsUtf8-from_is_utf8 bytes e) in (f.0, inr (IsUtf8-from_is_utf8 bytes e, f.1))
    by false e = let p : (place : ℕ) × BreaksAt bytes place = breaks bytes e in (unread XPST0003 p.0, inl (p.0, p.1, refl))

pub reading_is : (bytes : List ℕ) → (reading : Reading) × IsReading bytes reading
reading_is bytes = by (cases_lt max_length (length bytes))
  where
    by : (max_length < length bytes) ⊎ (length bytes ≤ max_length) → (reading : Reading) × IsReading bytes reading
    by (inl l) = (unread PJST0005 0, inl (l, refl))
    by (inr l) = let f = read_behind_mark (without_mark bytes) in (f.0, inr (l, f.1))

-- ---- there is no other

one_after : (text : List ℕ) (imports : List Import) (tokens : List Token) (r other : Reading) → IsReadAfter text imports tokens r → IsReadAfter text imports tokens other → r ≡ other
one_after text imports tokens r other (inr (tree, q, e)) (inr (second, p, f)) = e ∙ sym f
one_after text imports tokens r other (inr (tree, (words, are, d), e)) (inl (code, place, (others, were, q), f)) =
    absurd ((subst (λ ws. IsRefused ws (0 + length text) code place) (one_reading 0 text tokens others words were are) q).derives_none tree d)
one_after text imports tokens r other (inl (code, place, (words, are, q), e)) (inr (tree, (others, were, d), f)) =
    absurd (q.derives_none tree (subst (λ ws. Derives ws tree) (one_reading 0 text tokens others words were are) d))
one_after text imports tokens r other (inl (code, place, (words, are, q), e)) (inl (second, at, (others, were, p), f)) =
    let s = grammar.one_refusal words (0 + length text) code second place at q (subst (λ ws. IsRefused ws (0 + length text) second at) (one_reading 0 text tokens others words were are) p) in
    e ∙ ap (λ c. unread c place) s.0 ∙ ap (unread second) s.1 ∙ sym f

one_of_tokens : (text : List ℕ) (tokens : List Token) (r other : Reading) → AreRead text tokens r → AreRead text tokens other → r ≡ other
one_of_tokens text tokens r other (inl (p, e, is)) (inl (q, f, it)) = is ∙ ap (unread XPST0003) (heads.one_place text tokens p q e f) ∙ sym it
one_of_tokens text tokens r other (inl (p, e, is)) (inr (imports, count, head, it)) = absurd (heads.no_head_place text tokens imports count p head e)
one_of_tokens text tokens r other (inr (imports, count, head, is)) (inl (p, e, it)) = absurd (heads.no_head_place text tokens imports count p head e)
one_of_tokens text tokens r other (inr (imports, count, head, is)) (inr (others, number, second, it)) =
    let same = heads.one_head text tokens others imports number count second head in
    one_after text imports (drop count tokens) r other is
    (subst (λ (ns : List Import). IsReadAfter text ns (drop count tokens) other) same.imports_
    (subst (λ (n : ℕ). IsReadAfter text others (drop n tokens) other) same.count_ it))

pub one_of_text : (text : List ℕ) (r other : Reading) → IsReadText text r → IsReadText text other → r ≡ other
one_of_text text r other (inl (c, p, q, e)) (inl (d, o, s, f)) =
    let same = lexer.one_refusal text c d p o q s in
    e ∙ ap (λ x. unread x p) same.0 ∙ ap (unread d) same.1 ∙ sym f
one_of_text text r other (inl (c, p, q, e)) (inr (tokens, t, is)) = absurd (lexer.not_both text tokens c p t q)
one_of_text text r other (inr (tokens, t, is)) (inl (c, p, q, e)) = absurd (lexer.not_both text tokens c p t q)
one_of_text text r other (inr (tokens, t, is)) (inr (others, u, it)) =
    one_of_tokens text tokens r other is (subst (λ ts. AreRead text ts other) (lexer.one_tokens text others tokens u t) it)

not_utf8 : (bytes : List ℕ) (place : ℕ) → BreaksAt bytes place → IsUtf8 bytes → ⊥
not_utf8 bytes place b u = b.longest (length bytes) b.short (subst IsUtf8 (sym (take_all (length bytes) bytes (omega arith))) u)

one_place : (bytes : List ℕ) (p q : ℕ) → BreaksAt bytes p → BreaksAt bytes q → p ≡ q
one_place bytes p q b c = by (cases_order p q)
  where
    by : (p ≡ q) ⊎ ((p < q) ⊎ (q < p)) → p ≡ q
    by (inl is) = is
    by (inr (inl lt)) = absurd (b.longest q lt c.before)
    by (inr (inr lt)) = absurd (c.longest p lt b.before)

one_behind_mark : (bytes : List ℕ) (r other : Reading) → IsReadBehindMark bytes r → IsReadBehindMark bytes other → r ≡ other
one_behind_mark bytes r other (inl (p, b, e)) (inl (q, c, f)) = e ∙ ap (unread XPST0003) (one_place bytes p q b c) ∙ sym f
one_behind_mark bytes r other (inl (p, b, e)) (inr (u, t)) = absurd (not_utf8 bytes p b u)
one_behind_mark bytes r other (inr (u, t)) (inl (p, b, e)) = absurd (not_utf8 bytes p b u)
one_behind_mark bytes r other (inr (u, t)) (inr (v, s)) = one_of_text bytes r other t s

pub only_reading : (bytes : List ℕ) (r other : Reading) → IsReading bytes r → IsReading bytes other → r ≡ other
only_reading bytes r other (inl (l, e)) (inl (m, f)) = e ∙ sym f
only_reading bytes r other (inl (l, e)) (inr (m, f)) = absurd (omega (arith, l, m))
only_reading bytes r other (inr (m, f)) (inl (l, e)) = absurd (omega (arith, l, m))
only_reading bytes r other (inr (l, e)) (inr (m, f)) = one_behind_mark (without_mark bytes) r other e f
