-- No two things are found of one query.
use Rattle.std.proofs.Common.{◌≡◌, inl, inr, ◌+◌, ℕ, suc, List, [], ◌∷◌, ◌++◌, length, drop, Option, None, Some, Result, Ok, Err, refl, sym, ap, ap₂, ◌∙◌, subst, arith}
use Rattle.item_tree.specs.declared.code.Code.{Code}
use Rattle.outside.specs.World.{World}
use Rattle.query_lexer.specs.Lexes.{Tokens}
use Rattle.query_lexer.specs.declared.token.Token.{Token}
use Rattle.query_lexer.proofs.PathLemmas as lexer
use Rattle.query_grammar.specs.Nodes.{Module}
use Rattle.query_grammar.specs.Texts.{Derives, IsRefused}
use Rattle.query_grammar.proofs.Texts as grammar
use Rattle.query_grammar.proofs.OneReading.{one_reading}
use Rattle.module_names.specs.Heads.{IsHead}
use Rattle.module_names.specs.Loading.{Refusal, Sources, Files, loaded, merged}
use Rattle.module_names.specs.declared.file_bytes.Kept.{Kept}
use Rattle.module_names.specs.declared.head.Import.{Import}
use Rattle.query_files.specs.Files.{IsTreeAt, IsRefusedAt, IsModuleAt, IsRefusedFrom}
use Rattle.query_files.specs.Found.{Found, unloaded, together, IsTogether, IsMisplaced, IsFoundBy, IsFoundIn, texts_of}
use Rattle.query_files.specs.Merged.{Texts, AreModulesAt, AreRefusedFrom, IsMerged, place_in, where_text}
use Rattle.query_files.specs.Laws.{HasOneReading, FindsOne}
use Rattle.query_files.proofs.Heads as heads
use Rattle.query_files.proofs.Readings.{reading_is, only_reading}
use Rattle.query_files.proofs.Worlds.{only_readings}
use Rattle.query_files.proofs.SomeFound.{something_found}

pub one_of_bytes : (bytes : List ℕ) → HasOneReading bytes
one_of_bytes bytes = record { some = reading_is bytes; only = only_reading bytes }

one_tree : (start : ℕ) (text : List ℕ) (tokens : List Token) (a b : Module) → IsTreeAt start text tokens a → IsTreeAt start text tokens b → a ≡ b
one_tree start text tokens a b (words, are, d) (others, were, g) =
    grammar.one_tree words a b d (subst (λ ws. Derives ws b) (one_reading start text tokens others words were are) g)

one_module : (start : ℕ) (text : List ℕ) (a b : Module) → IsModuleAt start text a → IsModuleAt start text b → a ≡ b
one_module start text a b h g =
    let tokens : g.tokens ≡ h.tokens = lexer.one_tokens text g.tokens h.tokens g.lexed h.lexed in
    let head : IsHead text h.tokens g.imports g.count = subst (λ (ts : List Token). IsHead text ts g.imports g.count) tokens g.head in
    let same = heads.one_head text h.tokens g.imports h.imports g.count h.count head h.head in
    let rest : drop g.count g.tokens ≡ drop h.count h.tokens = ap₂ (λ (n : ℕ) (ts : List Token). drop n ts) same.count_ tokens in
    one_tree start text (drop h.count h.tokens) a b h.parsed (subst (λ (ts : List Token). IsTreeAt start text ts b) rest g.parsed)

one_list : (start : ℕ) (texts : Texts) (ms ns : List Module) → AreModulesAt start texts ms → AreModulesAt start texts ns → ms ≡ ns
one_list start [] ms ns e f = e ∙ sym f
one_list start (t ∷ ts) [] ns h g = absurd h
one_list start (t ∷ ts) (m ∷ ms) [] h g = absurd g
one_list start (t ∷ ts) (m ∷ ms) (n ∷ ns) h g =
    ap₂ (λ (x : Module) (xs : List Module). x ∷ xs) (one_module start t.1 m n h.0 g.0) (one_list (start + length t.1) ts ms ns h.1 g.1)

-- ---- texts that are refused where they stand

-- the head and the tokens of another reading of the text
same_rest : (text : List ℕ) (tokens others : List Token) (imports more : List Import) (count number : ℕ) → Tokens text tokens → Tokens text others → IsHead text tokens imports count
    → IsHead text others more number → drop number others ≡ drop count tokens
same_rest text tokens others imports more count number t u head second =
    let same : others ≡ tokens = lexer.one_tokens text others tokens u t in
    let own : IsHead text tokens more number = subst (λ (ts : List Token). IsHead text ts more number) same second in
    let counts = heads.one_head text tokens more imports number count own head in
    ap₂ (λ (n : ℕ) (ts : List Token). drop n ts) counts.count_ same

not_both : (start : ℕ) (text : List ℕ) (tokens : List Token) (tree : Module) (code : Code) (place : ℕ) → IsTreeAt start text tokens tree → IsRefusedAt start text tokens code place → ⊥
not_both start text tokens tree code place (words, are, d) (others, were, r) =
    r.derives_none tree (subst (λ ws. Derives ws tree) (one_reading start text tokens words others are were) d)

no_module : (start : ℕ) (text : List ℕ) (tree : Module) (code : Code) (place : ℕ) → IsModuleAt start text tree → IsRefusedFrom start text code place → ⊥
no_module start text tree code place h g =
    let rest = same_rest text h.tokens g.tokens h.imports g.imports h.count g.count h.lexed g.lexed h.head g.head in
    not_both start text (drop h.count h.tokens) tree code place h.parsed (subst (λ (ts : List Token). IsRefusedAt start text ts code place) rest g.refused)

one_refused : (start : ℕ) (text : List ℕ) (tokens : List Token) (code second : Code) (place at : ℕ) → IsRefusedAt start text tokens code place
    → IsRefusedAt start text tokens second at → (code ≡ second) × (place ≡ at)
one_refused start text tokens code second place at (words, are, q) (others, were, p) =
    grammar.one_refusal words (start + length text) code second place at q
    (subst (λ ws. IsRefused ws (start + length text) second at) (one_reading start text tokens others words were are) p)

one_from : (start : ℕ) (text : List ℕ) (code second : Code) (place at : ℕ) → IsRefusedFrom start text code place → IsRefusedFrom start text second at
    → (code ≡ second) × (place ≡ at)
one_from start text code second place at h g =
    let rest = same_rest text h.tokens g.tokens h.imports g.imports h.count g.count h.lexed g.lexed h.head g.head in
    one_refused start text (drop h.count h.tokens) code second place at h.refused (subst (λ (ts : List Token). IsRefusedAt start text ts second at) rest g.refused)

one_first : (start : ℕ) (texts : Texts) (code second : Code) (place at : ℕ) → AreRefusedFrom start texts code place → AreRefusedFrom start texts second at
    → (code ≡ second) × (place ≡ at)
one_first start [] code second place at h g = absurd h
one_first start (t ∷ ts) code second place at (inl h) (inl g) = one_from start t.1 code second place at h g
one_first start (t ∷ ts) code second place at (inl h) (inr ((tree, is), g)) = absurd (no_module start t.1 tree code place is h)
one_first start (t ∷ ts) code second place at (inr ((tree, is), h)) (inl g) = absurd (no_module start t.1 tree second at is g)
one_first start (t ∷ ts) code second place at (inr ((tree, is), h)) (inr ((other, it), g)) = one_first (start + length t.1) ts code second place at h g

not_misplaced : (start : ℕ) (texts : Texts) (trees : List Module) (code : Code) (place : ℕ) → AreModulesAt start texts trees → AreRefusedFrom start texts code place → ⊥
not_misplaced start [] trees code place are h = absurd h
not_misplaced start (t ∷ ts) [] code place are h = absurd are
not_misplaced start (t ∷ ts) (m ∷ ms) code place are (inl h) = no_module start t.1 m code place are.0 h
not_misplaced start (t ∷ ts) (m ∷ ms) code place are (inr (own, h)) = not_misplaced (start + length t.1) ts ms code place are.1 h

-- ---- lists with the same last element

abbrev tail_of : List Module → List Module
tail_of [] = []
tail_of (m ∷ ms) = ms

abbrev first_or : Module → List Module → Module
first_or d [] = d
first_or d (m ∷ ms) = m

pub record AreSame (xs ys : List Module) (x y : Module) : Type 0 where
  pub front : xs ≡ ys
  pub last : x ≡ y

none_long : (ys : List Module) (y : Module) → [] ≡ ys ++ y ∷ [] → ⊥
none_long [] y e = let n : 0 ≡ suc 0 = ap length e in omega (arith, n)
none_long (b ∷ ys) y e = let n : 0 ≡ suc (length (ys ++ y ∷ [])) = ap length e in omega (arith, n)

apart : (xs ys : List Module) (x y : Module) → xs ++ x ∷ [] ≡ ys ++ y ∷ [] → AreSame xs ys x y
apart [] [] x y e = record { front = refl; last = ap (first_or x) e }
apart [] (b ∷ ys) x y e = absurd (none_long ys y (ap tail_of e))
apart (a ∷ xs) [] x y e = absurd (none_long xs x (sym (ap tail_of e)))
apart (a ∷ xs) (b ∷ ys) x y e =
    let rest = apart xs ys x y (ap tail_of e) in
    record { front = ap₂ (λ (m : Module) (ms : List Module). m ∷ ms) (ap (first_or a) e) rest.front; last = rest.last }

-- ---- what is put together

one_whole : (texts : Texts) (a b : Module) → IsMerged texts a → IsMerged texts b → a ≡ b
one_whole texts a b h g =
    let same = apart h.libraries g.libraries h.query g.query (one_list 0 texts (h.libraries ++ h.query ∷ []) (g.libraries ++ g.query ∷ []) h.modules g.modules) in
    h.is ∙ ap₂ merged same.front same.last ∙ sym g.is

one_misplaced : (texts : Texts) (found other : Found) → IsMisplaced texts found → IsMisplaced texts other → found ≡ other
one_misplaced texts found other (code, place, h, e) (second, at, g, f) =
    let same = one_first 0 texts code second place at h g in
    e ∙ ap₂ (λ (c : Code) (p : ℕ). unloaded c (where_text (place_in texts p)) (length texts)) same.0 same.1 ∙ sym f

one_together : (texts : Texts) (found other : Found) → IsTogether texts found → IsTogether texts other → found ≡ other
one_together texts found other (inl (a, m, e)) (inl (b, n, f)) = e ∙ ap (λ (w : Module). together texts w) (one_whole texts a b m n) ∙ sym f
one_together texts found other (inl (a, m, e)) (inr (code, place, h, f)) = absurd (not_misplaced 0 texts (m.libraries ++ m.query ∷ []) code place m.modules h)
one_together texts found other (inr (code, place, h, e)) (inl (b, n, f)) = absurd (not_misplaced 0 texts (n.libraries ++ n.query ∷ []) code place n.modules h)
one_together texts found other (inr h) (inr g) = one_misplaced texts found other h g

one_by : (world : World) (name : List ℕ) (answer : Option (Result (Files (Kept (Unit {0}))) Refusal)) (found other : Found) → IsFoundBy world name answer found
    → IsFoundBy world name answer other → found ≡ other
one_by world name None found other e f = e ∙ sym f
one_by world name (Some (Err r)) found other e f = e ∙ sym f
one_by world name (Some (Ok files)) found other h g = one_together (texts_of files) found other h g

only_found : (world : World) (name : List ℕ) (found other : Found) → IsFoundIn world name found → IsFoundIn world name other → found ≡ other
only_found world name found other (sources, are, h) (others, were, g) =
    one_by world name (loaded sources name) found other h
    (subst (λ (ss : Sources (Kept (Unit {0}))). IsFoundBy world name (loaded ss name) other) (only_readings world others sources were are) g)

pub finds_one : (world : World) (name : List ℕ) → FindsOne world name
finds_one world name = record { some = something_found world name; only = only_found world name }
