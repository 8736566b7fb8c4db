-- From what loading answers to what is found.
use Rattle.std.proofs.Common.{◌≡◌, ◌⊎◌, inl, inr, ◌<◌, ◌≤◌, ◌+◌, ◌++◌, ℕ, List, [], ◌∷◌, length, map, drop, Option, None, Some, Result, Ok, Err, refl, sym, ap, ◌∙◌, subst, arith, rules}
use Rattle.std.specs.Prelude.{IfSome}
use Rattle.std.proofs.lemmas.List.{length-map}
use Rattle.std.specs.declared.alloc.Global.{Global}
use Rattle.std.specs.declared.vec.Vec.{Vec}
use Rattle.item_tree.specs.declared.code.Code.{Code}
use Rattle.item_tree.specs.declared.code.Code.TheVariants.{XPST0003, PJST0001, PJST0003, PJST0004}
use Rattle.item_reader.specs.Lines.{without_mark}
use Rattle.outside.specs.Opens.{InputCounts}
use Rattle.outside.specs.World.{World}
use Rattle.query_lexer.specs.Lexes.{Tokens}
use Rattle.module_names.specs.Heads.{IsHead}
use Rattle.query_lexer.specs.declared.token.Token.{Token}
use Rattle.query_grammar.specs.Texts as grammar_texts
use Rattle.query_grammar.specs.declared.word.Word.{Word}
use Rattle.module_names.specs.declared.head.Import.{Import}
use Rattle.module_names.specs.Alone.{Answer, Reader, AreSources, AreKept}
use Rattle.module_names.specs.Answers.{IsLoaded, IsHeldOf, OpensLoaded}
use Rattle.module_names.specs.Counts.{OpenedJust, OtherCause, long, bytes, circle, full, body, reader, MissesByCode, LeavesLoad}
use Rattle.module_names.specs.Loading.{Refusal, Sources, Files, loaded}
use Rattle.module_names.specs.Remaining.{done_file, refusal_of}
use Rattle.module_names.specs.declared.alone.Unread.TheVariants as alone
use Rattle.module_names.specs.declared.file_bytes.Kept.{Kept}
use Rattle.module_names.specs.declared.load_fault.LoadFault.TheVariants as load
use Rattle.module_names.specs.declared.order.File.{File}
use Rattle.module_names.specs.declared.order.Refused as told
use Rattle.text_places.specs.Places.{place_text}
use Rattle.query_files.specs.Files.{Reading, unread, with_imports, IsReadAfter, IsReadText}
use Rattle.query_files.specs.Found.{Found, no_query, unloaded, bytes_of, IsWhole, IsFoundBy, IsFoundIn, refusal_place, library_named, text_of, file_texts}
use Rattle.query_files.specs.Merged.{Texts, library_text, where_text}
use Rattle.query_files.specs.declared.finding.Unfound.TheVariants as fault
use Rattle.query_files.specs.Leaves.{Answered, MissedFor, OpenedFiles, LeavesFound}
use Rattle.query_files.specs.inside.Loads.{HasTexts}
use Rattle.query_files.specs.Seen.{reading_of}
use Rattle.query_files.proofs.Worlds.{readings_are, are_sources}

-- ---- how many files were opened

opened_texts : (files : List (File (Kept (Unit {0})))) (texts : Texts) (before after : InputCounts) → texts ≡ file_texts files → 0 < length (file_texts files)
    → length files ≤ 64 → OpenedJust (length files) before after → OpenedFiles (length texts) before after
opened_texts files texts before after same some few just =
    let count : length texts ≡ length files = ap length same ∙ length-map (map done_file files) text_of ∙ length-map files done_file in
    subst (λ (n : ℕ). OpenedFiles n before after) (sym count) (omega (arith, count, some, ap length same), few, just)

-- ---- the codes of a file that is read alone

data IsTextCode : Code → Type 0 where
  grammar : IsTextCode XPST0003
  number : IsTextCode PJST0004
  nested : IsTextCode PJST0003
  form : IsTextCode PJST0001

abbrev code_in : Reading → Code
code_in (Ok source) = XPST0003
code_in (Err u) = u.code

not_read : (imports : List Import) (text : List ℕ) (tokens : List Token) (code : Code) (place : ℕ) → with_imports imports text tokens ≡ unread code place → ⊥
not_read imports text tokens code place e = search rules

is_code : (code other : Code) → code ≡ other → IsTextCode other → IsTextCode code
is_code code other e k = subst (λ (c : Code). IsTextCode c) (sym e) k

coded : (c : Code) (words : List Word) → grammar_texts.IsCodeOf c words → IsTextCode c
coded c words (inl (e, m)) = is_code c PJST0003 e nested
coded c words (inr (inl (e, m, n))) = is_code c PJST0001 e form
coded c words (inr (inr (e, m, n))) = is_code c XPST0003 e grammar

placed : (c : Code) (words : List Word) (end p : ℕ) → grammar_texts.IsRefusedAt words c p ⊎ grammar_texts.IsRefusedAtEnd words end c p → IsTextCode c
placed c words end p (inl at) = coded c (at.front ++ at.word ∷ []) at.is_code
placed c words end p (inr e) = is_code c XPST0003 e.is_code grammar

text_code : (text : List ℕ) (code : Code) (place : ℕ) (r : Reading) → r ≡ unread code place → IsReadText text r → IsTextCode code
text_code text code place r is (inl (c, p, (ss, rest, leads, inl (e, m), whole), f)) = is_code code c (ap code_in (sym is ∙ f)) (is_code c XPST0003 e grammar)
text_code text code place r is (inl (c, p, (ss, rest, leads, inr (e, m), whole), f)) = is_code code c (ap code_in (sym is ∙ f)) (is_code c PJST0004 e number)
text_code text code place r is (inr (tokens, t, inl (p, e, f))) = is_code code XPST0003 (ap code_in (sym is ∙ f)) grammar
text_code text code place r is (inr (tokens, t, inr (imports, count, head, inl (c, p, (words, are, q), f)))) =
    is_code code c (ap code_in (sym is ∙ f)) (placed c words (0 + length text) p q.place_is)
text_code text code place r is (inr (tokens, t, inr (imports, count, head, inr (query, q, f)))) =
    absurd (not_read imports text (drop count tokens) code place (sym f ∙ is))

missed_text : (code : Code) → IsTextCode code → (n m : ℕ) → m ≡ n → MissedFor code n m
missed_text _ grammar n m e = e
missed_text _ number n m e = e
missed_text _ nested n m e = e
missed_text _ form n m e = e

module _ (reads : Reader (Unit {0})) (says : (text : List ℕ) (answer : Answer (Unit {0})) → reads text answer → IfSome (reading_of answer) (λ r. IsReadText text r)) where
  -- ---- the counts

  missed_other : (code : Code) → OtherCause reads code → (n m : ℕ) → m ≡ n → MissedFor code n m
  missed_other _ long n m e = e
  missed_other _ bytes n m e = e
  missed_other _ circle n m e = e
  missed_other _ full n m e = e
  missed_other _ body n m e = e
  missed_other _ (reader text code place told) n m e =
      missed_text code (text_code text code place (unread code place) refl (says text (Err (alone.Refused code place)) told)) n m e

  missed_code : (code : Code) (n m : ℕ) → MissesByCode reads code n m → MissedFor code n m
  missed_code code n m (inl (other, e)) = missed_other code other n m e
  missed_code code n m (inr (is, rose)) = subst (λ (c : Code). MissedFor c n m) (sym is) rose

  pub ok_counts : (files : Vec (File (Kept (Unit {0}))) Global) (result : Answered) (before after : InputCounts) → HasTexts (file_texts files.items) result
      → LeavesLoad reads (Ok files) before after → OpensLoaded (Ok files) before after → LeavesFound result before after
  ok_counts files (Ok ready) before after (same, some) h (few, just) =
      record { faults = h.faults; misses = h.misses; falls = h.falls; balanced = h.balanced; opened = opened_texts files.items ready.texts before after same some few just }
  ok_counts files (Err fault.NoMemory) before after has h (few, just) =
      record { faults = tt; misses = omega (arith, h.misses); falls = h.falls; balanced = h.balanced; opened = omega (arith, few, just.0) }
  ok_counts files (Err fault.ReadFault) before after has h opens = absurd has
  ok_counts files (Err (fault.Refused r contents)) before after has h opens = absurd has
  ok_counts files (Err fault.NoQuery) before after has h opens = absurd has

  pub refused_counts : (r : told.Refused) (contents : List ℕ) (before after : InputCounts) → LeavesLoad {A = Vec (File (Kept (Unit {0}))) Global} reads (Err (load.Refused r contents)) before after
      → OpensLoaded {T = Unit {0}} (Err (load.Refused r contents)) before after → LeavesFound (Err (fault.Refused r contents)) before after
  refused_counts r contents before after h opens =
      record { faults = h.faults; misses = missed_code r.code before.misses after.misses h.misses; falls = h.falls; balanced = h.balanced; opened = opens }

  pub no_query_counts : (before after : InputCounts) → LeavesLoad {A = Vec (File (Kept (Unit {0}))) Global} reads (Err load.NoQuery) before after
      → OpensLoaded {T = Unit {0}} (Err load.NoQuery) before after → LeavesFound (Err fault.NoQuery) before after
  no_query_counts before after h opens = record { faults = h.faults; misses = h.misses; falls = h.falls; balanced = h.balanced; opened = opens }

  pub unread_counts : (before after : InputCounts) → LeavesLoad {A = Vec (File (Kept (Unit {0}))) Global} reads (Err load.ReadFault) before after
      → OpensLoaded {T = Unit {0}} (Err load.ReadFault) before after → LeavesFound (Err fault.ReadFault) before after
  unread_counts before after h opens = record { faults = h.faults; misses = h.misses; falls = h.falls; balanced = h.balanced; opened = opens }

  pub memory_counts : (before after : InputCounts) → LeavesLoad {A = Vec (File (Kept (Unit {0}))) Global} reads (Err load.NoMemory) before after
      → OpensLoaded {T = Unit {0}} (Err load.NoMemory) before after → LeavesFound (Err fault.NoMemory) before after
  memory_counts before after h opens = record { faults = tt; misses = h.misses; falls = h.falls; balanced = h.balanced; opened = opens }

  -- ---- what is found

  found_by : (w : World) (name : List ℕ) (answer : Option (Result (Files (Kept (Unit {0}))) Refusal)) (f : Found) → ((sources : Sources (Kept (Unit {0}))) → AreSources reads w sources → loaded sources name ≡ answer)
      → IsFoundBy w name answer f → IsFoundIn w name f
  found_by w name answer f told is =
      let (sources, are) = readings_are w in
      (sources, are, subst (λ (o : Option (Result (Files (Kept (Unit {0}))) Refusal)). IsFoundBy w name o f) (sym (told sources (are_sources reads says w sources are))) is)

  pub ok_found : (w : World) (name : List ℕ) (files : Vec (File (Kept (Unit {0}))) Global) (o : Option Found)
      → ((sources : Sources (Kept (Unit {0}))) → AreSources reads w sources → IsLoaded sources name (Ok files))
      → IfSome o (IsWhole (file_texts files.items)) → IfSome o (λ f. IsFoundIn w name f)
  ok_found w name files None told h = tt
  ok_found w name files (Some f) told h = found_by w name (Some (Ok (map done_file files.items))) f told (inl h)

  -- the place in the bytes that are kept is that in the file
  same_place : (name : List ℕ) (r : told.Refused) (contents own : List ℕ) → AreKept r.code r.place own contents
      → where_text (refusal_place name (refusal_of r) contents) ≡ where_text (refusal_place name (refusal_of r) own)
  same_place name r contents own (inl e) = ap (λ (b : List ℕ). where_text (refusal_place name (refusal_of r) b)) e
  same_place name r contents own (inr (more, code, place, e)) =
      ap (λ (p : ℕ). place_text (without_mark contents) p ++ library_text (library_named name r.file)) place
      ∙ ap (λ (p : ℕ). place_text (without_mark own) p ++ library_text (library_named name r.file)) (sym place)

  pub refused_found : (w : World) (name : List ℕ) (r : told.Refused) (contents : List ℕ)
      → ((sources : Sources (Kept (Unit {0}))) → AreSources reads w sources → IsLoaded {T = Unit {0}} sources name (Err (load.Refused r contents)))
      → IsHeldOf w r contents → IsFoundIn w name (unloaded r.code (where_text (refusal_place name (refusal_of r) contents)) r.opened)
  refused_found w name r contents told (own, there, kept) =
      found_by w name (Some (Err (refusal_of r))) (unloaded r.code (where_text (refusal_place name (refusal_of r) contents)) r.opened) told
      (ap (λ (t : List ℕ). unloaded r.code t r.opened)
      (same_place name r contents own kept ∙ ap (λ (o : Option (List ℕ)). where_text (refusal_place name (refusal_of r) (bytes_of o))) (sym there)))

  pub none_found : (w : World) (name : List ℕ) → ((sources : Sources (Kept (Unit {0}))) → AreSources reads w sources → IsLoaded {T = Unit {0}} sources name (Err load.NoQuery))
      → IsFoundIn w name no_query
  none_found w name told = found_by w name None no_query told refl

-- ---- of a told world

pub told_from : {P Q : World → Type 0} (world : Option World) → ((w : World) → P w → Q w) → IfSome world P → IfSome world Q
told_from None f h = tt
told_from (Some w) f h = f w h

pub told_from_two : {P Q R : World → Type 0} (world : Option World) → IfSome world P → IfSome world Q → ((w : World) → P w → Q w → R w) → IfSome world R
told_from_two None g h f = tt
told_from_two (Some w) g h f = f w g h

-- ---- one file

pub read_on : (text : List ℕ) (tokens rest : List Token) (imports : List Import) (count : ℕ) (o : Option Reading) → Tokens text tokens → IsHead text tokens imports count
    → rest ≡ drop count tokens → IfSome o (λ r. IsReadAfter text imports rest r) → IfSome o (λ r. IsReadText text r)
read_on text tokens rest imports count None t head e h = tt
read_on text tokens rest imports count (Some r) t head e h =
    inr (tokens, t, inr (imports, count, head, subst (λ (ts : List Token). IsReadAfter text imports ts r) e h))
