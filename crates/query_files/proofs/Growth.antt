-- Modules that are put together, one after the other.
use Rattle.std.proofs.Common.{◌≡◌, ◌<◌, ◌+◌, ◌∷◌, ◌++◌, ℕ, suc, List, [], length, take, drop, get_or, append-nil, map, Result, Ok, Err, refl, sym, ap, ◌∙◌, subst, arith, add-zero, zero-add, append_assoc}
use Rattle.std.specs.Prelude.{IfOk}
use Rattle.std.proofs.lemmas.List.{map-append, get_or_default}
use Rattle.std.proofs.Math.Seq.{take-suc}
use Rattle.query_grammar.specs.Nodes.{Module}
use Rattle.query_tree.specs.NamedViews.{named_query}
use Rattle.module_names.specs.Loading.{merged}
use Rattle.module_names.specs.Remaining.{done_file}
use Rattle.module_names.specs.declared.file_bytes.Kept.{Kept}
use Rattle.module_names.specs.declared.order.File.{File}
use Rattle.query_files.specs.Files.{IsModuleAt}
use Rattle.query_files.specs.Found.{text_of}
use Rattle.query_files.specs.Merged.{Texts, total, query_start, AreModulesAt, IsMerged}
use Rattle.query_files.specs.declared.merging.Growing.{Growing}
use Rattle.query_files.specs.inside.Grown.{Grows, IsGrownFrom}
use Rattle.query_files.specs.Found.{file_texts}

total_more : (ts : Texts) (t : List ℕ × List ℕ) → total (ts ++ t ∷ []) ≡ total ts + length t.1
total_more [] t = omega arith
total_more (u ∷ us) t = let more : total (us ++ t ∷ []) ≡ total us + length t.1 = total_more us t in omega (arith, more)

start_more : (ts : Texts) (t : List ℕ × List ℕ) → query_start (ts ++ t ∷ []) ≡ total ts
start_more [] t = refl
start_more (u ∷ []) t = refl
start_more (u ∷ v ∷ vs) t = ap (λ n. length u.1 + n) (start_more (v ∷ vs) t)

modules_more : (start : ℕ) (ts : Texts) (ms : List Module) (t : List ℕ × List ℕ) (m : Module) → AreModulesAt start ts ms → IsModuleAt (start + total ts) t.1 m
    → AreModulesAt start (ts ++ t ∷ []) (ms ++ m ∷ [])
modules_more start [] ms t m are is =
    subst (λ (ns : List Module). AreModulesAt start (t ∷ []) (ns ++ m ∷ [])) (sym are)
    (subst (λ (n : ℕ). IsModuleAt n t.1 m) (add-zero start) is, refl)
modules_more start (u ∷ us) [] t m are is = absurd are
modules_more start (u ∷ us) (n ∷ ns) t m are is =
    let place : start + (length u.1 + total us) ≡ start + length u.1 + total us = omega arith in
    (are.0, modules_more (start + length u.1) us ns t m are.1 (subst (λ (k : ℕ). IsModuleAt k t.1 m) place is))

merged_more : (ms : List Module) (q n : Module) → merged (ms ++ q ∷ []) n ≡ merged (merged ms q ∷ []) n
merged_more [] q n = refl
merged_more (m ∷ ms) q n =
    let rest = merged_more ms q n in
    λ i. record {
      variables = (ap (λ (w : Module). m.variables ++ w.variables) rest ∙ sym (append_assoc m.variables (merged ms q).variables n.variables)) i;
      functions = (ap (λ (w : Module). m.functions ++ w.functions) rest ∙ sym (append_assoc m.functions (merged ms q).functions n.functions)) i;
      body = (rest i).body;
    }

pub is_more : (ts : Texts) (t : List ℕ × List ℕ) (w n : Module) → IsMerged ts w → IsModuleAt (total ts) t.1 n → IsMerged (ts ++ t ∷ []) (merged (w ∷ []) n)
is_more ts t w n m is = record {
  libraries = m.libraries ++ m.query ∷ [];
  query = n;
  modules = modules_more 0 ts (m.libraries ++ m.query ∷ []) t n m.modules (subst (λ (k : ℕ). IsModuleAt k t.1 n) (sym (zero-add (total ts))) is);
  is = ap (λ (v : Module). merged (v ∷ []) n) m.is ∙ sym (merged_more m.libraries m.query n);
}

-- the first file
pub grown_from : (t : List ℕ × List ℕ) (g : Growing) → IsModuleAt 0 t.1 (named_query g.whole) → g.start ≡ 0 → g.end ≡ 0 + length t.1 → Grows (t ∷ []) g
grown_from t g is start end = record {
  merged_ = record { libraries = []; query = named_query g.whole; modules = (is, refl); is = refl };
  start_ = start;
  end_ = omega (arith, end);
}

-- a file more
pub grown_more : (ts : Texts) (t : List ℕ × List ℕ) (g next whole : Growing) → Grows ts g → IsModuleAt g.end t.1 (named_query next.whole)
    → named_query whole.whole ≡ merged (named_query g.whole ∷ []) (named_query next.whole) → next.start ≡ g.end → next.end ≡ g.end + length t.1
    → (whole.start ≡ next.start) × (whole.end ≡ next.end) → Grows (ts ++ t ∷ []) whole
grown_more ts t g next whole h is e start end same = record {
  merged_ = subst (λ (w : Module). IsMerged (ts ++ t ∷ []) w) (sym e)
      (is_more ts t (named_query g.whole) (named_query next.whole) h.merged_ (subst (λ (n : ℕ). IsModuleAt n t.1 (named_query next.whole)) h.end_ is));
  start_ = same.0 ∙ start ∙ h.end_ ∙ sym (start_more ts t);
  end_ = same.1 ∙ end ∙ ap (λ n. n + length t.1) h.end_ ∙ sym (total_more ts t);
}

pub texts_more : (files : List (File (Kept (Unit {0})))) (f : File (Kept (Unit {0}))) → file_texts (files ++ f ∷ []) ≡ file_texts files ++ text_of (done_file f) ∷ []
texts_more files f = ap (map text_of) (map-append done_file files (f ∷ [])) ∙ map-append text_of (map done_file files) (done_file f ∷ [])

pub add_grown : {E : Type 0} (t : List ℕ × List ℕ) (g next : Growing) (result : Result Growing E) → IsModuleAt g.end t.1 (named_query next.whole) → next.start ≡ g.end
    → next.end ≡ g.end + length t.1 → IfOk result (λ w. named_query w.whole ≡ merged (named_query g.whole ∷ []) (named_query next.whole))
    → IfOk result (λ w. (w.start ≡ next.start) × (w.end ≡ next.end)) → IfOk result (λ w. (texts : Texts) → Grows texts g → Grows (texts ++ t ∷ []) w)
add_grown t g next (Ok w) is start end e places = λ texts h. grown_more texts t g next w h is e start end places
add_grown t g next (Err x) is start end e places = tt

-- these files more
pub grown_none : (texts : Texts) (g : Growing) → Grows texts g → Grows (texts ++ []) g
grown_none texts g h = subst (λ (ts : Texts). Grows ts g) (sym (append-nil texts)) h

pub grown_next : (texts : Texts) (files : List (File (Kept (Unit {0})))) (i : ℕ) (file : File (Kept (Unit {0}))) (g next : Growing) → i < length files → file ≡ get_or files i file
    → Grows (texts ++ file_texts (take i files)) g → ((ts : Texts) → Grows ts g → Grows (ts ++ text_of (done_file file) ∷ []) next)
    → Grows (texts ++ file_texts (take (i + 1) files)) next
grown_next texts files i file g next lt is h more =
    let one : i + 1 ≡ suc i = omega arith in
    let taken : take (i + 1) files ≡ take i files ++ file ∷ [] =
    ap (λ k. take k files) one ∙ take-suc files i file lt ∙ ap (λ (f : File (Kept (Unit {0}))). take i files ++ f ∷ []) (sym is) in
    let listed : file_texts (take (i + 1) files) ≡ file_texts (take i files) ++ text_of (done_file file) ∷ [] = ap file_texts taken ∙ texts_more (take i files) file in
    subst (λ (ts : Texts). Grows ts next)
    (append_assoc texts (file_texts (take i files)) (text_of (done_file file) ∷ []) ∙ ap (λ (ts : Texts). texts ++ ts) (sym listed))
    (more (texts ++ file_texts (take i files)) h)

pub begun : {E : Type 0} (files rest : List (File (Kept (Unit {0})))) (g : Growing) (result : Result Growing E) → 0 < length files
    → ((d : File (Kept (Unit {0}))) → IsGrownFrom 0 (text_of (done_file (get_or files 0 d))).1 g) → rest ≡ drop 1 files
    → IfOk result (λ w. (texts : Texts) → Grows texts g → Grows (texts ++ file_texts rest) w) → IfOk result (λ w. Grows (file_texts files) w)
begun [] rest g result some first e h = absurd (omega (arith, some))
begun (f ∷ fs) rest g (Ok w) some first e h =
    let own = first f in
    subst (λ (fs : List (File (Kept (Unit {0})))). Grows (text_of (done_file f) ∷ file_texts fs) w) e
    (h (text_of (done_file f) ∷ []) (grown_from (text_of (done_file f)) g own.module_ own.start_ own.end_))
begun (f ∷ fs) rest g (Err x) some first e h = tt

pub grown_file : (files : List (File (Kept (Unit {0})))) (i start : ℕ) (file : File (Kept (Unit {0}))) (g : Growing) → i < length files → file ≡ get_or files i file
    → IsModuleAt start (text_of (done_file file)).1 (named_query g.whole) → g.start ≡ start → g.end ≡ start + length (text_of (done_file file)).1
    → (d : File (Kept (Unit {0}))) → IsGrownFrom start (text_of (done_file (get_or files i d))).1 g
grown_file files i start file g lt is m s e d =
    subst (λ (f : File (Kept (Unit {0}))). IsGrownFrom start (text_of (done_file f)).1 g) (is ∙ get_or_default files i file d lt)
    (record { module_ = m; start_ = s; end_ = e })

pub file_grown : {E : Type 0} (files : List (File (Kept (Unit {0})))) (i start : ℕ) (file : File (Kept (Unit {0}))) (result : Result Growing E) → i < length files
    → file ≡ get_or files i file
    → IfOk result (λ g. IsModuleAt start (text_of (done_file file)).1 (named_query g.whole)) → IfOk result (λ g. g.start ≡ start)
    → IfOk result (λ g. g.end ≡ start + length (text_of (done_file file)).1)
    → IfOk result (λ g. (d : File (Kept (Unit {0}))) → IsGrownFrom start (text_of (done_file (get_or files i d))).1 g)
file_grown files i start file (Ok g) lt is m s e = grown_file files i start file g lt is m s e
file_grown files i start file (Err x) lt is m s e = tt
