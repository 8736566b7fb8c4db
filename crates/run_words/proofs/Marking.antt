-- The reading with marks is the reading of the words.
use Rattle.std.proofs.Common.{◌≡◌, ◌<◌, ◌+◌, suc, arith, map, drop, length, get_or, drop-cons, ◌∙◌, ◌&&◌, ℕ, Bool, true, false, List, [], ◌∷◌, ◌++◌, Option, Some, None, refl, sym, ap, ap₂, codes, option_map, is_some, unwrap_or}
use Rattle.std.specs.Prelude.{if◌then◌else◌, option_and_then}
use Rattle.std.specs.Option.{option_or}
use Rattle.std.specs.Str.{bytes_eq}
use Rattle.run_words.specs.Table.{Text, id_of, fits, has_option, next_of, last_of}
use Rattle.run_words.specs.Given.{Use, has, Read, used, exactly, alone, joined, after, offered, valued, option_met, met_at, met, reads, start, given, whole, is_settled, is_dashed}
use Rattle.run_words.specs.inside.Marks.{At, marks_of, is_marked, marked, taken, valued_marks, option_marks, met_marks, reads_marks}
use Rattle.run_words.proofs.Rows.{use_of}
use Rattle.run_words.proofs.Places.{kept_has, got_has}
use Rattle.run_words.specs.declared.given.Phase.{Phase}
use Rattle.run_words.specs.declared.given.Phase.TheVariants.{Free, Waits, Over}
use Rattle.run_words.specs.declared.given.Seen.{Seen}
use Rattle.run_words.specs.declared.table.Verb.{Verb}
use Rattle.run_words.specs.declared.table.Name.{Name}
use Rattle.run_words.specs.declared.table.Name.TheVariants.{Workers, Partition, Mode, Stats, Query, Number, Lines}

abbrev pub at_of : Read → At
at_of r = (r.phase, marks_of r.uses)

kept : (m n : Name) (t : Text) (uses : List Use) → bytes_eq (id_of n) (id_of m) ≡ false → has m uses ≡ has m (uses ++ use_of n t ∷ [])
kept m n t uses e = sym (kept_has m n t uses e)

set : (m n : Name) (t : Text) (uses : List Use) → bytes_eq (id_of n) (id_of m) ≡ true → true ≡ has m (uses ++ use_of n t ∷ [])
set m n t uses e = sym (got_has m n t uses e)

marked_law : (n : Name) (t : Text) (uses : List Use) → marked n (marks_of uses) ≡ marks_of (uses ++ use_of n t ∷ [])
marked_law Workers t uses = λ i. record { workers = set Workers Workers t uses refl i; partition = kept Partition Workers t uses refl i; mode = kept Mode Workers t uses refl i; stats = kept Stats Workers t uses refl i; query = kept Query Workers t uses refl i; number = kept Number Workers t uses refl i; lines = kept Lines Workers t uses refl i }
marked_law Partition t uses = λ i. record { workers = kept Workers Partition t uses refl i; partition = set Partition Partition t uses refl i; mode = kept Mode Partition t uses refl i; stats = kept Stats Partition t uses refl i; query = kept Query Partition t uses refl i; number = kept Number Partition t uses refl i; lines = kept Lines Partition t uses refl i }
marked_law Mode t uses = λ i. record { workers = kept Workers Mode t uses refl i; partition = kept Partition Mode t uses refl i; mode = set Mode Mode t uses refl i; stats = kept Stats Mode t uses refl i; query = kept Query Mode t uses refl i; number = kept Number Mode t uses refl i; lines = kept Lines Mode t uses refl i }
marked_law Stats t uses = λ i. record { workers = kept Workers Stats t uses refl i; partition = kept Partition Stats t uses refl i; mode = kept Mode Stats t uses refl i; stats = set Stats Stats t uses refl i; query = kept Query Stats t uses refl i; number = kept Number Stats t uses refl i; lines = kept Lines Stats t uses refl i }
marked_law Query t uses = λ i. record { workers = kept Workers Query t uses refl i; partition = kept Partition Query t uses refl i; mode = kept Mode Query t uses refl i; stats = kept Stats Query t uses refl i; query = set Query Query t uses refl i; number = kept Number Query t uses refl i; lines = kept Lines Query t uses refl i }
marked_law Number t uses = λ i. record { workers = kept Workers Number t uses refl i; partition = kept Partition Number t uses refl i; mode = kept Mode Number t uses refl i; stats = kept Stats Number t uses refl i; query = kept Query Number t uses refl i; number = set Number Number t uses refl i; lines = kept Lines Number t uses refl i }
marked_law Lines t uses = λ i. record { workers = kept Workers Lines t uses refl i; partition = kept Partition Lines t uses refl i; mode = kept Mode Lines t uses refl i; stats = kept Stats Lines t uses refl i; query = kept Query Lines t uses refl i; number = kept Number Lines t uses refl i; lines = set Lines Lines t uses refl i }

is_marked_law : (n : Name) (uses : List Use) → is_marked n (marks_of uses) ≡ has n uses
is_marked_law Workers uses = refl
is_marked_law Partition uses = refl
is_marked_law Mode uses = refl
is_marked_law Stats uses = refl
is_marked_law Query uses = refl
is_marked_law Number uses = refl
is_marked_law Lines uses = refl

taken_law : (phase : Phase) (n : Name) (t : Text) (uses : List Use) → taken phase n t (marks_of uses) ≡ option_map at_of (used phase n t uses)
taken_law phase n t uses =
    ap₂ (λ (b : Bool) (s : Seen). if b then None else (if fits n t then Some (phase, s) else None)) (is_marked_law n uses) (marked_law n t uses) ∙ go (has n uses) (fits n t)
  where
    go : (b c : Bool) → (let o : Option At = if b then None else (if c then Some (phase, marks_of (uses ++ use_of n t ∷ [])) else None) in o)
        ≡ option_map at_of (if b then None else (if c then Some (record { phase = phase; uses = uses ++ use_of n t ∷ [] }) else None))
    go true c = refl
    go false true = refl
    go false false = refl

or_law : (o p : Option Read) → option_or (option_map at_of o) (option_map at_of p) ≡ option_map at_of (option_or o p)
or_law None p = refl
or_law (Some r) p = refl

if_none : (b : Bool) (o : Option Read) → (if b then option_map at_of o else None) ≡ option_map at_of (if b then o else None)
if_none true o = refl
if_none false o = refl

exactly_law : (text word : Text) (o : Option Read) → exactly text word (option_map at_of o) ≡ option_map at_of (exactly text word o)
exactly_law text word o = if_none (bytes_eq word text) o

offered_law : (v : Verb) (n : Name) (a : Option At) (o : Option Read) → a ≡ option_map at_of o → offered v n a ≡ option_map at_of (offered v n o)
offered_law v n a o e = ap (offered v n) e ∙ if_none (has_option v n) o

value_law : (n : Name) (uses : List Use) (o : Option Text)
    → option_and_then (λ t. taken Free n t (marks_of uses)) o ≡ option_map at_of (option_and_then (λ t. used Free n t uses) o)
value_law n uses None = refl
value_law n uses (Some t) = taken_law Free n t uses

valued_law : (v : Verb) (n : Name) (word : Text) (uses : List Use) → offered v n (valued_marks n word (marks_of uses)) ≡ option_map at_of (offered v n (valued n word uses))
valued_law v n word uses = offered_law v n _ _
    (ap₂ option_or (exactly_law (alone n) word (Some (record { phase = Waits n; uses = uses }))) (value_law n uses (after (joined n) word)) ∙ or_law _ _)

stats_law : (v : Verb) (word : Text) (uses : List Use)
    → offered v Stats (exactly (alone Stats) word (taken Free Stats (codes "true") (marks_of uses))) ≡ option_map at_of (offered v Stats (exactly (alone Stats) word (used Free Stats (codes "true") uses)))
stats_law v word uses = offered_law v Stats _ _
    (ap (exactly (alone Stats) word) (taken_law Free Stats (codes "true") uses) ∙ exactly_law (alone Stats) word (used Free Stats (codes "true") uses))

option_law : (v : Verb) (word : Text) (uses : List Use) → option_marks v word (marks_of uses) ≡ option_map at_of (option_met v word uses)
option_law v word uses =
    ap₂ option_or (exactly_law (45 ∷ 45 ∷ []) word (Some (record { phase = Over; uses = uses })))
    (ap₂ option_or (stats_law v word uses)
    (ap₂ option_or (valued_law v Workers word uses) (ap₂ option_or (valued_law v Partition word uses) (valued_law v Mode word uses) ∙ or_law _ _) ∙ or_law _ _) ∙ or_law _ _)
    ∙ or_law _ _

if_law : (b : Bool) (x y : Option At) (o p : Option Read) → x ≡ option_map at_of o → y ≡ option_map at_of p → (if b then x else y) ≡ option_map at_of (if b then o else p)
if_law true x y o p h g = h
if_law false x y o p h g = g

met_law : (v : Verb) (phase : Phase) (uses : List Use) (word : Text) → met_marks v phase (marks_of uses) word ≡ option_map at_of (met_at v phase uses word)
met_law v Over uses word = taken_law Over (next_of v (has Number uses)) word uses
met_law v (Waits n) uses word = if_law (is_dashed word) _ _ _ _ refl (taken_law Free n word uses)
met_law v Free uses word = if_law (is_dashed word) _ _ _ _ (option_law v word uses) (taken_law Free (next_of v (has Number uses)) word uses)

reads_law : (v : Verb) (words : List Text) (r : Read) → reads_marks v (at_of r) words ≡ option_map at_of (reads v r words)
reads_law v [] r = refl
reads_law v (word ∷ rest) r = ap (option_and_then (λ n. reads_marks v n rest)) (met_law v r.phase r.uses word) ∙ go (met v r word) (λ n. reads_law v rest n)
  where
    go : (o : Option Read) → ((n : Read) → reads_marks v (at_of n) rest ≡ option_map at_of (reads v n rest))
        → option_and_then (λ n. reads_marks v n rest) (option_map at_of o) ≡ option_map at_of (option_and_then (λ n. reads v n rest) o)
    go None rec = refl
    go (Some n) rec = rec n

-- what the end of the reading tells
pub whole_law : (v : Verb) (words : List Text) (phase : Phase) (seen : Seen) → Some (phase, seen) ≡ reads_marks v (Free, marks_of []) words
    → (is_settled phase && is_marked (last_of v) seen) ≡ is_some (given v words)
whole_law v words phase seen e = go (reads v start words) (e ∙ reads_law v words start)
  where
    tail : (b : Bool) (uses : List Use) → b ≡ is_some (let o : Option (List Use) = if b then Some uses else None in o)
    tail true uses = refl
    tail false uses = refl

    go : (o : Option Read) → Some (phase, seen) ≡ option_map at_of o → (is_settled phase && is_marked (last_of v) seen) ≡ is_some (option_and_then (whole v) o)
    go None h = cc
    go (Some r) h =
        ap (λ (a : At). is_settled a.0 && is_marked (last_of v) a.1) (ap (λ (q : Option At). unwrap_or q (phase, seen)) h)
        ∙ ap (λ b. is_settled r.phase && b) (is_marked_law (last_of v) r.uses)
        ∙ tail (is_settled r.phase && has (last_of v) r.uses) r.uses

pub none_law : (v : Verb) (words : List Text) → None ≡ reads_marks v (Free, marks_of []) words → false ≡ is_some (given v words)
none_law v words e = go (reads v start words) (e ∙ reads_law v words start)
  where
    go : (o : Option Read) → None ≡ option_map at_of o → false ≡ is_some (option_and_then (whole v) o)
    go None h = refl
    go (Some r) h = cc

-- one turn of a loop over the words
pub turn : {X : Type 0} (v : Verb) (f : X → Text) (ws : List X) (i : ℕ) (w : X) (phase : Phase) (seen : Seen) (next : At) → i < length ws → w ≡ get_or ws i w
    → Some next ≡ met_marks v phase seen (f w) → reads_marks v next (map f (drop (i + 1) ws)) ≡ reads_marks v (phase, seen) (map f (drop i ws))
turn v f ws i w phase seen next lt at e =
    let s : suc i ≡ i + 1 = omega arith in
    sym (ap (λ ys. reads_marks v (phase, seen) (map f ys)) (drop-cons ws i w lt ∙ ap (λ k. get_or ws i w ∷ drop k ws) s)
    ∙ ap (λ x. option_and_then (λ n. reads_marks v n (map f (drop (i + 1) ws))) (met_marks v phase seen (f x))) (sym at)
    ∙ ap (option_and_then (λ n. reads_marks v n (map f (drop (i + 1) ws)))) (sym e))

-- a word that is of no table ends the loop
pub stops : {X : Type 0} (v : Verb) (f : X → Text) (ws : List X) (i : ℕ) (w : X) (phase : Phase) (seen : Seen) → i < length ws → w ≡ get_or ws i w
    → None ≡ met_marks v phase seen (f w) → None ≡ reads_marks v (phase, seen) (map f (drop i ws))
stops v f ws i w phase seen lt at e =
    let s : suc i ≡ i + 1 = omega arith in
    sym (ap (λ ys. reads_marks v (phase, seen) (map f ys)) (drop-cons ws i w lt ∙ ap (λ k. get_or ws i w ∷ drop k ws) s)
    ∙ ap (λ x. option_and_then (λ n. reads_marks v n (map f (drop (i + 1) ws))) (met_marks v phase seen (f x))) (sym at)
    ∙ ap (option_and_then (λ n. reads_marks v n (map f (drop (i + 1) ws)))) (sym e))
