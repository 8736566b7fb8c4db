-- Every query has one front.
use Rattle.std.proofs.Common.{◌≡◌, ◌⊎◌, inl, inr, ◌<◌, ◌≤◌, ◌+◌, ℕ, zero, suc, List, length, take, Bool, true, false, Option, None, Some, Ok, refl, sym, ap, ◌∙◌, subst, arith}
use Rattle.std.specs.Prelude.{IfSome}
use Rattle.std.specs.Str.{IsUtf8, IsValidUpTo, is_utf8}
use Rattle.std.proofs.Math.Nat.{eq-or-lt_of_le}
use Rattle.std.proofs.lemmas.Bool.{cases_lt, cases_order}
use Rattle.std.proofs.lemmas.List.{take_all}
use Rattle.std.proofs.lemmas.Str.{IsUtf8-nil, IsUtf8-from_is_utf8, is_utf8-from_IsUtf8}
use Rattle.item_tree.specs.declared.code.Code.{Code}
use Rattle.item_tree.specs.declared.code.Code.TheVariants.{XPST0003, PJST0005}
use Rattle.item_reader.specs.Lines.{without_mark}
use Rattle.query_lexer.specs.Lexes.{Tokens, Refused}
use Rattle.query_lexer.specs.declared.token.Token.{Token}
use Rattle.query_grammar.specs.Laws.{IsDecided}
use Rattle.query_tree.specs.Compiled.{CompiledTree}
use Rattle.query_grammar.specs.Nodes.{Module}
use Rattle.query_grammar.specs.Texts.{Derives, IsRefused}
use Rattle.query_grammar.specs.Words.{AreWordsAt}
use Rattle.query_grammar.specs.declared.word.Word.{Word}
use Rattle.query_lexer.proofs.PathLemmas as lexer
use Rattle.query_grammar.proofs.Texts as grammar
use Rattle.query_grammar.proofs.OneReading.{one_reading}
use Rattle.query_parser.specs.Queries.{IsQuery}
use Rattle.static_rules.specs.Outcomes.{CompilesTo}
use Rattle.static_rules.specs.Refusals.{refusal}
use Rattle.static_rules.specs.Rules.{code_of}
use Rattle.static_rules.specs.declared.rules.Refusal.{Refusal}
use Rattle.rumble_run.specs.Front.{Front, IsFront, IsFrontBehindMark, IsFrontOfText, IsFrontOfTokens, BreaksAt, refused_at, max_length, front_by, static_front}
use Rattle.rumble_run.specs.Laws.{HasOneFront}
use Rattle.rumble_run.specs.inside.Seen.{executable_of}
use Rattle.rumble_run.proofs.Wording.{words_of_text}

-- ---- where bytes stop being UTF-8

-- the longest beginning of at most n bytes that is UTF-8, where no longer one is
pub record IsLongest (bytes : List ℕ) (n : ℕ) : Type 0 where
  pub place : ℕ
  pub within : place ≤ n
  pub before : IsUtf8 (take place bytes)
  pub longest : (more : ℕ) → place < more → IsUtf8 (take more bytes) → ⊥

-- a longer beginning than of n bytes is of n + 1, or longer
longer : (bytes : List ℕ) (n : ℕ) → is_utf8 (take (suc n) bytes) ≡ false → ((more : ℕ) → suc n < more → IsUtf8 (take more bytes) → ⊥) → (more : ℕ) → n < more → IsUtf8 (take more bytes) → ⊥
longer bytes n e never more lt u = sorted (eq-or-lt_of_le lt)
  where
    sorted : (suc n ≡ more) ⊎ (suc n < more) → ⊥
    sorted (inl is) = let t : is_utf8 (take (suc n) bytes) ≡ true = is_utf8-from_IsUtf8 _ (subst (λ m. IsUtf8 (take m bytes)) (sym is) u) in cc
    sorted (inr beyond) = never more beyond u

longest_by : (bytes : List ℕ) (n : ℕ) → ((more : ℕ) → suc n < more → IsUtf8 (take more bytes) → ⊥) → (((more : ℕ) → n < more → IsUtf8 (take more bytes) → ⊥) → IsLongest bytes n)
    → (b : Bool) → is_utf8 (take (suc n) bytes) ≡ b → IsLongest bytes (suc n)
longest_by bytes n never below true e = record { place = suc n; within = omega arith; before = IsUtf8-from_is_utf8 _ e; longest = never }
longest_by bytes n never below false e =
    let l : IsLongest bytes n = below (longer bytes n e never) in
    record { place = l.place; within = omega (arith, l.within); before = l.before; longest = l.longest }

longest_up_to : (bytes : List ℕ) (n : ℕ) → ((more : ℕ) → n < more → IsUtf8 (take more bytes) → ⊥) → IsLongest bytes n
longest_up_to bytes zero never = record { place = zero; within = omega arith; before = IsUtf8-nil; longest = never }
longest_up_to bytes (suc n) never = longest_by bytes n never (λ h. longest_up_to bytes n h) (is_utf8 (take (suc n) bytes)) refl

breaks : (bytes : List ℕ) → is_utf8 bytes ≡ false → (place : ℕ) × BreaksAt bytes place
breaks bytes e = (l.place, record { short = short (eq-or-lt_of_le l.within); before = l.before; longest = l.longest })
  where
    whole : IsUtf8 bytes → ⊥
    whole u = let t : is_utf8 bytes ≡ true = is_utf8-from_IsUtf8 bytes u in cc

    l : IsLongest bytes (length bytes)
    l = longest_up_to bytes (length bytes) (λ more lt u. whole (subst IsUtf8 (take_all more bytes (omega (arith, lt))) u))

    short : (l.place ≡ length bytes) ⊎ (l.place < length bytes) → l.place < length bytes
    short (inl is) = absurd (whole (subst IsUtf8 (take_all l.place bytes (omega (arith, is))) l.before))
    short (inr lt) = lt

-- ---- the front

front_of_text : (text : List ℕ) → IsUtf8 text → (front : Front) × IsFrontOfText text front
front_of_text text u = by (lexer.either text)
  where
    by_tree : (tokens : List Token) (words : List Word) → Tokens text tokens → AreWordsAt 0 text tokens words → IsDecided words (0 + length text) → (front : Front) × IsFrontOfText text front
    by_tree tokens words t ws (inl (tree, d)) = (static_front tree, inr (tokens, t, inr (tree, (words, ws, d), refl)))
    by_tree tokens words t ws (inr (code, place, r)) = (refused_at code place, inr (tokens, t, inl (code, place, (words, ws, r), refl)))

    by : ((tokens : List Token) × Tokens text tokens) ⊎ ((code : Code) × (place : ℕ) × Refused text code place) → (front : Front) × IsFrontOfText text front
    by (inl (tokens, t)) = let ws : (words : List Word) × AreWordsAt 0 text tokens words = words_of_text text tokens u t in by_tree tokens ws.0 t ws.1 (grammar.decided ws.0 (0 + length text))
    by (inr (code, place, r)) = (refused_at code place, inl (code, place, r, refl))

front_behind_mark : (bytes : List ℕ) → (front : Front) × IsFrontBehindMark bytes front
front_behind_mark bytes = by (is_utf8 bytes) refl
  where
    by : (b : Bool) → is_utf8 bytes ≡ b → (front : Front) × IsFrontBehindMark bytes front
    by true e = let f : (front : Front) × IsFrontOfText bytes front = front_of_text bytes (IsUtf8-from_is_utf8 bytes e) in (f.0, inr (IsUtf8-from_is_utf8 bytes e, f.1))
    by false e = let p : (place : ℕ) × BreaksAt bytes place = breaks bytes e in (refused_at XPST0003 p.0, inl (p.0, p.1, refl))

pub front_is : (query : List ℕ) → (front : Front) × IsFront query front
front_is query = by (cases_lt max_length (length query))
  where
    by : (max_length < length query) ⊎ (length query ≤ max_length) → (front : Front) × IsFront query front
    by (inl l) = (refused_at PJST0005 0, inl (l, refl))
    by (inr l) = let f : (front : Front) × IsFrontBehindMark (without_mark query) front = front_behind_mark (without_mark query) in (f.0, inr (l, f.1))

-- what compiling a query says
pub compiles : (query : Module) (c : CompiledTree) → CompilesTo query c → Ok (executable_of c) ≡ static_front query
unfolding static_front
compiles query c h = (λ i. Ok (record { trees = h.tree i; width = h.width i })) ∙ sym (ap (front_by query) h.accepted)

pub refuses : (query : Module) (code : Code) (place : ℕ) → ((r : Refusal) × (refusal query ≡ Some r) × (code ≡ code_of r.rule) × (place ≡ r.place)) → refused_at code place ≡ static_front query
unfolding static_front
refuses query code place (r, is, same, there) = ap (λ c. refused_at c place) same ∙ ap (refused_at (code_of r.rule)) there ∙ sym (ap (front_by query) is)

-- what a query comes to, its text does
pub derived : (text : List ℕ) (tokens : List Token) (query : Module) (front : Option Front) → Tokens text tokens → IsQuery text tokens query
    → IfSome front (λ f. f ≡ static_front query) → IfSome front (λ f. IsFrontOfText text f)
derived text tokens query None t q h = tt
derived text tokens query (Some f) t q h = inr (tokens, t, inr (query, q, h))

-- what a text comes to, the query that it stands in does
pub behind : (query bytes text : List ℕ) (front : Option Front) → length query ≤ max_length → bytes ≡ without_mark query → (text ≡ bytes) × IsUtf8 bytes
    → IfSome front (λ f. IsFrontOfText text f) → IfSome front (λ f. IsFront query f)
behind query bytes text None short is (same, u) h = tt
behind query bytes text (Some f) short is (same, u) h = inr (short, inr (subst IsUtf8 is u, subst (λ t. IsFrontOfText t f) (same ∙ is) h))

-- what std says of bytes that are no UTF-8
pub broken : (query bytes : List ℕ) (place : ℕ) → length query ≤ max_length → bytes ≡ without_mark query → IsValidUpTo bytes place → IsFront query (refused_at XPST0003 place)
broken query bytes place short is v =
    let b : BreaksAt bytes place = record { short = v.short; before = v.front; longest = v.longest } in
    inr (short, inl (place, subst (λ bs. BreaksAt bs place) is b, refl))

-- ---- there is no other

one_of_tokens : (text : List ℕ) (tokens : List Token) (front other : Front) → IsFrontOfTokens text tokens front → IsFrontOfTokens text tokens other → front ≡ other
one_of_tokens text tokens front other (inr (tree, (words, are, d), e)) (inr (second, (others, were, g), f)) =
    e ∙ ap static_front (grammar.one_tree words tree second d (subst (λ ws. Derives ws second) (one_reading 0 text tokens others words were are) g)) ∙ sym f
one_of_tokens text tokens front other (inr (tree, (words, are, d), e)) (inl (code, place, (others, were, r), f)) =
    absurd ((subst (λ ws. IsRefused ws (0 + length text) code place) (one_reading 0 text tokens others words were are) r).derives_none tree d)
one_of_tokens text tokens front other (inl (code, place, (words, are, r), e)) (inr (tree, (others, were, d), f)) =
    absurd (r.derives_none tree (subst (λ ws. Derives ws tree) (one_reading 0 text tokens others words were are) d))
one_of_tokens text tokens front other (inl (code, place, (words, are, r), e)) (inl (second, at, (others, were, q), f)) =
    let s = grammar.one_refusal words (0 + length text) code second place at r (subst (λ ws. IsRefused ws (0 + length text) second at) (one_reading 0 text tokens others words were are) q) in
    e ∙ ap (λ c. refused_at c place) s.0 ∙ ap (refused_at second) s.1 ∙ sym f

one_of_text : (text : List ℕ) (front other : Front) → IsFrontOfText text front → IsFrontOfText text other → front ≡ other
one_of_text text front other (inl (c, p, r, e)) (inl (d, q, s, f)) =
    let same = lexer.one_refusal text c d p q r s in
    e ∙ ap (λ x. refused_at x p) same.0 ∙ ap (refused_at d) same.1 ∙ sym f
one_of_text text front other (inl (c, p, r, e)) (inr (tokens, t, is)) = absurd (lexer.not_both text tokens c p t r)
one_of_text text front other (inr (tokens, t, is)) (inl (c, p, r, e)) = absurd (lexer.not_both text tokens c p t r)
one_of_text text front other (inr (tokens, t, is)) (inr (others, u, it)) =
    one_of_tokens text tokens front other is (subst (λ ts. IsFrontOfTokens text ts other) (lexer.one_tokens text others tokens u t) it)

not_utf8 : (bytes : List ℕ) (place : ℕ) → BreaksAt bytes place → IsUtf8 bytes → ⊥
not_utf8 bytes place b u = b.longest (length bytes) b.short (subst IsUtf8 (sym (take_all (length bytes) bytes (omega arith))) u)

one_place : (bytes : List ℕ) (p q : ℕ) → BreaksAt bytes p → BreaksAt bytes q → p ≡ q
one_place bytes p q b c = by (cases_order p q)
  where
    by : (p ≡ q) ⊎ ((p < q) ⊎ (q < p)) → p ≡ q
    by (inl is) = is
    by (inr (inl lt)) = absurd (b.longest q lt c.before)
    by (inr (inr lt)) = absurd (c.longest p lt b.before)

one_behind_mark : (bytes : List ℕ) (front other : Front) → IsFrontBehindMark bytes front → IsFrontBehindMark bytes other → front ≡ other
one_behind_mark bytes front other (inl (p, b, e)) (inl (q, c, f)) = e ∙ ap (refused_at XPST0003) (one_place bytes p q b c) ∙ sym f
one_behind_mark bytes front other (inl (p, b, e)) (inr (u, t)) = absurd (not_utf8 bytes p b u)
one_behind_mark bytes front other (inr (u, t)) (inl (p, b, e)) = absurd (not_utf8 bytes p b u)
one_behind_mark bytes front other (inr (u, t)) (inr (v, s)) = one_of_text bytes front other t s

pub only_front : (query : List ℕ) (front other : Front) → IsFront query front → IsFront query other → front ≡ other
only_front query front other (inl (l, e)) (inl (m, f)) = e ∙ sym f
only_front query front other (inl (l, e)) (inr (m, f)) = absurd (omega (arith, l, m))
only_front query front other (inr (m, f)) (inl (l, e)) = absurd (omega (arith, l, m))
only_front query front other (inr (l, e)) (inr (m, f)) = one_behind_mark (without_mark query) front other e f

pub one_front : (query : List ℕ) → HasOneFront query
one_front query = record { some = front_is query; only = only_front query }
