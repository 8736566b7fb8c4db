-- Something is found of each query: the texts that are loaded are modules where they stand, or the first that is none is refused there.
use Rattle.std.proofs.Common.{◌≡◌, ◌⊎◌, inl, inr, ◌+◌, ℕ, List, [], ◌∷◌, ◌++◌, length, drop, Option, None, Some, Result, Ok, Err, refl, sym, ap, subst, rules}
use Rattle.item_tree.specs.declared.code.Code.{Code}
use Rattle.item_reader.specs.Lines.{without_mark}
use Rattle.outside.specs.World.{World}
use Rattle.query_lexer.specs.Lexes.{Tokens}
use Rattle.query_lexer.specs.declared.token.Token.{Token}
use Rattle.query_grammar.specs.Laws.{IsDecided}
use Rattle.query_grammar.specs.Nodes.{Module}
use Rattle.query_grammar.specs.Words.{AreWordsAt}
use Rattle.query_grammar.specs.declared.word.Word.{Word}
use Rattle.query_grammar.proofs.Texts as grammar
use Rattle.module_names.specs.Alone.{with_contents}
use Rattle.module_names.specs.Heads.{IsHead}
use Rattle.module_names.specs.Loaded.{InOrder, AreLoaded}
use Rattle.module_names.specs.Loading.{Name, Refusal, Source, Unread, Sources, Files, loaded, merged}
use Rattle.module_names.specs.declared.file_bytes.Kept.{Kept}
use Rattle.module_names.specs.declared.head.Import.{Import}
use Rattle.module_names.proofs.LoadedFiles.{files_are_loaded}
use Rattle.query_files.specs.Files.{Reading, IsReadAfter, IsReadText, IsReading, AreReadings, IsModuleAt, IsRefusedFrom, kept_reading}
use Rattle.query_files.specs.Found.{Found, no_query, unloaded, together, IsFoundBy, IsFoundIn, IsTogether, bytes_in, refusal_place, text_of, texts_of}
use Rattle.query_files.specs.Merged.{Texts, AreModulesAt, AreRefusedFrom, IsMerged, place_in, where_text}
use Rattle.query_files.proofs.Worlds.{readings_are, source_of_reading}

-- ---- a text that was read alone

-- its tokens after the head are words
pub record IsWorded (text : List ℕ) : Type 0 where
  pub tokens : List Token
  pub imports : List Import
  pub count : ℕ
  pub words : List Word
  pub lexed : Tokens text tokens
  pub head : IsHead text tokens imports count
  pub are : AreWordsAt 0 text (drop count tokens) words

refused_none : (u : Unread) (source : Source (Unit {0})) → Ok source ≡ Err u → ⊥
refused_none u source e = search rules

worded_after : (text : List ℕ) (tokens : List Token) (imports : List Import) (count : ℕ) (source : Source (Unit {0})) → Tokens text tokens → IsHead text tokens imports count
    → IsReadAfter text imports (drop count tokens) (Ok source) → IsWorded text
worded_after text tokens imports count source t head (inl (code, place, q, e)) = absurd (refused_none _ source e)
worded_after text tokens imports count source t head (inr (query, (words, are, d), e)) =
    record { tokens = tokens; imports = imports; count = count; words = words; lexed = t; head = head; are = are }

worded_text : (text : List ℕ) (source : Source (Unit {0})) → IsReadText text (Ok source) → IsWorded text
worded_text text source (inl (code, place, q, e)) = absurd (refused_none _ source e)
worded_text text source (inr (tokens, t, inl (place, q, e))) = absurd (refused_none _ source e)
worded_text text source (inr (tokens, t, inr (imports, count, head, after))) = worded_after text tokens imports count source t head after

worded : (bytes : List ℕ) (source : Source (Unit {0})) → IsReading bytes (Ok source) → IsWorded (without_mark bytes)
worded bytes source (inl (long, e)) = absurd (refused_none _ source e)
worded bytes source (inr (short, inl (place, b, e))) = absurd (refused_none _ source e)
worded bytes source (inr (short, inr (u, h))) = worded_text (without_mark bytes) source h

worded_kept : (bytes : List ℕ) (r : Reading) (source : Source (Kept (Unit {0}))) → IsReading bytes r → kept_reading bytes r ≡ Ok source → IsWorded (without_mark source.rest.contents)
worded_kept bytes (Err u) source is e = absurd (kept_none u source e)
  where
    kept_none : (v : Unread) (s : Source (Kept (Unit {0}))) → Err v ≡ Ok s → ⊥
    kept_none v s f = search rules
worded_kept bytes (Ok own) source is e =
    let same : with_contents bytes own ≡ source = cc in
    subst (λ (s : Source (Kept (Unit {0}))). IsWorded (without_mark s.rest.contents)) same (worded bytes own is)

-- ---- the same words behind other bytes

abbrev moved : ℕ → Token → Word → Word
moved start token word = record { kind = word.kind; place = start + token.from; value = word.value }

words_from : (start : ℕ) (text : List ℕ) (tokens : List Token) (words : List Word) → AreWordsAt 0 text tokens words → (others : List Word) × AreWordsAt start text tokens others
words_from start text [] words are = ([], refl)
words_from start text (token ∷ tokens) [] are = absurd are
words_from start text (token ∷ tokens) (word ∷ words) are =
    let rest = words_from start text tokens words are.1 in
    (moved start token word ∷ rest.0, (record { place = refl; means = are.0.means }, rest.1))

either : (start : ℕ) (text : List ℕ) → IsWorded text → ((tree : Module) × IsModuleAt start text tree) ⊎ ((code : Code) × (place : ℕ) × IsRefusedFrom start text code place)
either start text h =
    let ws : (others : List Word) × AreWordsAt start text (drop h.count h.tokens) others = words_from start text (drop h.count h.tokens) h.words h.are in
    by ws.0 ws.1 (grammar.decided ws.0 (start + length text))
  where
    by : (words : List Word) → AreWordsAt start text (drop h.count h.tokens) words → IsDecided words (start + length text)
        → ((tree : Module) × IsModuleAt start text tree) ⊎ ((code : Code) × (place : ℕ) × IsRefusedFrom start text code place)
    by words are (inl (tree, d)) =
        inl (tree, record { tokens = h.tokens; imports = h.imports; count = h.count; lexed = h.lexed; head = h.head; parsed = (words, are, d) })
    by words are (inr (code, place, r)) =
        inr (code, place, record { tokens = h.tokens; imports = h.imports; count = h.count; lexed = h.lexed; head = h.head; refused = (words, are, r) })

-- ---- texts one after the other

abbrev pub AllWorded : Texts → Type 0
AllWorded [] = Unit {0}
AllWorded (t ∷ ts) = IsWorded t.1 × AllWorded ts

abbrev Placed : ℕ → Texts → Type 0
Placed start texts = ((trees : List Module) × AreModulesAt start texts trees) ⊎ ((code : Code) × (place : ℕ) × AreRefusedFrom start texts code place)

placed_next : (start : ℕ) (t : List ℕ × List ℕ) (ts : Texts) (tree : Module) → IsModuleAt start t.1 tree → Placed (start + length t.1) ts → Placed start (t ∷ ts)
placed_next start t ts tree is (inl (trees, are)) = inl (tree ∷ trees, (is, are))
placed_next start t ts tree is (inr (code, place, r)) = inr (code, place, inr ((tree, is), r))

all_placed : (start : ℕ) (texts : Texts) → AllWorded texts → Placed start texts
all_placed start [] h = inl ([], refl)
all_placed start (t ∷ ts) h = by (either start t.1 h.0) (all_placed (start + length t.1) ts h.1)
  where
    by : ((tree : Module) × IsModuleAt start t.1 tree) ⊎ ((code : Code) × (place : ℕ) × IsRefusedFrom start t.1 code place) → Placed (start + length t.1) ts → Placed start (t ∷ ts)
    by (inl (tree, is)) rest = placed_next start t ts tree is rest
    by (inr (code, place, r)) rest = inr (code, place, inl r)

split_last : (m : Module) (ms : List Module) → (front : List Module) × (last : Module) × (m ∷ ms ≡ front ++ last ∷ [])
split_last m [] = ([], m, refl)
split_last m (n ∷ ns) =
    let (front, last, e) = split_last n ns in
    (m ∷ front, last, ap (λ (xs : List Module). m ∷ xs) e)

merged_is : (t : List ℕ × List ℕ) (ts : Texts) (trees : List Module) → AreModulesAt 0 (t ∷ ts) trees → (whole : Module) × IsMerged (t ∷ ts) whole
merged_is t ts [] are = absurd are
merged_is t ts (m ∷ ms) are =
    let (front, last, e) = split_last m ms in (
      merged front last,
      record { libraries = front; query = last; modules = subst (λ (xs : List Module). AreModulesAt 0 (t ∷ ts) xs) e are; is = refl },
    )

together_is : (t : List ℕ × List ℕ) (ts : Texts) → Placed 0 (t ∷ ts) → (found : Found) × IsTogether (t ∷ ts) found
together_is t ts (inl (trees, are)) =
    let (whole, is) = merged_is t ts trees are in
    (together (t ∷ ts) whole, inl (whole, is, refl))
together_is t ts (inr (code, place, r)) = (unloaded code (where_text (place_in (t ∷ ts) place)) (length (t ∷ ts)), inr (code, place, r, refl))

-- ---- the files that are loaded

all_worded : (world : World) (sources : Sources (Kept (Unit {0}))) → AreReadings world sources → (query : Name) (before : List Name) (files : Files (Kept (Unit {0})))
    → InOrder sources query before files → AllWorded (texts_of files)
all_worded world sources are query before [] h = tt
all_worded world sources are query before (f ∷ fs) h =
    let (bytes, r, is, e) = source_of_reading world sources are f.0 (Ok f.1) h.0.own in
    (worded_kept bytes r f.1 is (sym e), all_worded world sources are query (before ++ f.0 ∷ []) fs h.1)

some_files : (front : Files (Kept (Unit {0}))) (last : Name × Source (Kept (Unit {0}))) → AllWorded (texts_of (front ++ last ∷ []))
    → (found : Found) × IsTogether (texts_of (front ++ last ∷ [])) found
some_files [] last h = together_is (text_of last) [] (all_placed 0 (text_of last ∷ []) h)
some_files (f ∷ fs) last h = together_is (text_of f) (texts_of (fs ++ last ∷ [])) (all_placed 0 (text_of f ∷ texts_of (fs ++ last ∷ [])) h)

together_loaded : (world : World) (sources : Sources (Kept (Unit {0}))) → AreReadings world sources → (query : Name) (files : Files (Kept (Unit {0})))
    → AreLoaded sources query files → (found : Found) × IsTogether (texts_of files) found
together_loaded world sources are query files h =
    subst (λ (fs : Files (Kept (Unit {0}))). (found : Found) × IsTogether (texts_of fs) found) (sym h.last)
    (some_files h.libraries (query, h.source)
    (subst (λ (fs : Files (Kept (Unit {0}))). AllWorded (texts_of fs)) h.last (all_worded world sources are query [] files h.in_order)))

found_by_loading : (world : World) (sources : Sources (Kept (Unit {0}))) → AreReadings world sources → (name : Name) (answer : Option (Result (Files (Kept (Unit {0}))) Refusal))
    → loaded sources name ≡ answer → (found : Found) × IsFoundBy world name answer found
found_by_loading world sources are name None e = (no_query, refl)
found_by_loading world sources are name (Some (Err r)) e = (unloaded r.code (where_text (refusal_place name r (bytes_in world r.file))) r.opened, refl)
found_by_loading world sources are name (Some (Ok files)) e = together_loaded world sources are name files (files_are_loaded sources name files e)

pub something_found : (world : World) (name : List ℕ) → (found : Found) × IsFoundIn world name found
something_found world name =
    let (sources, are) = readings_are world in
    let (found, is) = found_by_loading world sources are name (loaded sources name) refl in
    (found, (sources, are, is))
