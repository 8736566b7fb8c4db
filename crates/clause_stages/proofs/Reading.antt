-- What inputs hold is the items of their lines.
use Rattle.std.proofs.Common.{◌≡◌, ℕ, Bool, true, false, cond, not, if◌then◌else◌, List, [], ◌∷◌, ◌++◌, map, filter, flat_map, Option, Some, None, Ok, Err, refl, ap, ◌∙◌}
use Rattle.json_text.specs.Line.{Reading, blank, item, fault, is_blank}
use Rattle.json_text.specs.inside.Build.{Build, building, done, troubled, made, reading_of, reading}
use Rattle.item_reader.specs.Lines.{Line, lines, unmarked, placed, cut}
use Rattle.item_reader.specs.Reading.{Read, read_before}
use Rattle.item_reader.specs.inside.Items.{items_of_lines, items_of}
use Rattle.query_meaning.specs.Library.{all_there, and_all, read_then, read_all, given}
use Rattle.query_meaning.specs.Outcome.{at_place, joined, each}
use Rattle.clause_stages.specs.Drivers.{line_item}
use Rattle.clause_stages.specs.InputLines.{item_read, line_read, InputsAreLines}

-- ---- lines that are not blank

abbrev NoneBlank : List Line → Type 0
NoneBlank [] = Unit {0}
NoneBlank (l ∷ ls) = (is_blank l.bytes ≡ false) × NoneBlank ls

kept_line : (b : Bool) (l : Line) (ls : List Line) → is_blank l.bytes ≡ b → NoneBlank ls → NoneBlank (cond (not b) (l ∷ ls) ls)
kept_line true l ls h k = k
kept_line false l ls h k = (h, k)

none_blank : (ls : List Line) → NoneBlank (filter (λ l. not (is_blank l.bytes)) ls)
none_blank [] = tt
none_blank (l ∷ ls) = kept_line (is_blank l.bytes) l (filter (λ l. not (is_blank l.bytes)) ls) refl (none_blank ls)

both_none : (ls ks : List Line) → NoneBlank ls → NoneBlank ks → NoneBlank (ls ++ ks)
both_none [] ks h k = k
both_none (l ∷ ls) ks (b, h) k = (b, both_none ls ks h k)

all_none : (files : List (List ℕ)) → NoneBlank (flat_map lines files)
all_none [] = tt
all_none (file ∷ files) = both_none (lines file) (flat_map lines files) (none_blank (unmarked (placed 0 (cut file)))) (all_none files)

-- ---- a line

never_blank : (b : Option Build) → reading_of b ≡ blank → ⊥
never_blank None h = cc
never_blank (Some (building fs)) h = cc
never_blank (Some (done x)) h = cc
never_blank (Some (troubled t)) h = cc

reading_case : (b : Bool) (o : Option Build) → b ≡ false → (if b then blank else reading_of o) ≡ blank → ⊥
reading_case true o h k = cc
reading_case false o h k = never_blank o k

not_blank : (bytes : List ℕ) → is_blank bytes ≡ false → reading bytes ≡ blank → ⊥
unfolding reading
not_blank bytes h k = reading_case (is_blank bytes) (made bytes) h k

line_before : (place : ℕ) (r : Reading) (rest : Read) → (r ≡ blank → ⊥) → at_place place (read_before r rest) ≡ joined (line_item (λ r. item_read place r) r) (at_place place rest)
line_before place blank rest h = absurd (h refl)
line_before place (item x) (Ok xs) h = refl
line_before place (item x) (Err code) h = refl
line_before place (fault code) rest h = refl

lines_each : (place : ℕ) (ls : List Line) → NoneBlank ls → at_place place (items_of_lines ls) ≡ each (line_item (line_read place)) ls
lines_each place [] h = refl
lines_each place (l ∷ ls) (b, h) =
    line_before place (reading l.bytes) (items_of_lines ls) (not_blank l.bytes b)
    ∙ ap (joined (line_item (line_read place) l)) (lines_each place ls h)

-- ---- inputs one behind another

read_assoc : (a : Reading) (b c : Read) → read_then (read_before a b) c ≡ read_before a (read_then b c)
read_assoc blank b c = refl
read_assoc (item x) (Ok xs) (Ok ys) = refl
read_assoc (item x) (Ok xs) (Err code) = refl
read_assoc (item x) (Err code) c = refl
read_assoc (fault code) b c = refl

nothing_then : (r : Read) → read_then (Ok []) r ≡ r
nothing_then (Ok xs) = refl
nothing_then (Err code) = refl

lines_then : (ls ks : List Line) → read_then (items_of_lines ls) (items_of_lines ks) ≡ items_of_lines (ls ++ ks)
lines_then [] ks = nothing_then (items_of_lines ks)
lines_then (l ∷ ls) ks = read_assoc (reading l.bytes) (items_of_lines ls) (items_of_lines ks) ∙ ap (read_before (reading l.bytes)) (lines_then ls ks)

files_read : (files : List (List ℕ)) → read_all (map items_of files) ≡ items_of_lines (flat_map lines files)
files_read [] = refl
files_read (file ∷ files) = ap (read_then (items_of file)) (files_read files) ∙ lines_then (lines file) (flat_map lines files)

files_there : (files : List (List ℕ)) → all_there (map (λ file. Some (items_of file)) files) ≡ Some (map items_of files)
files_there [] = refl
files_there (file ∷ files) = ap (and_all (Some (items_of file))) (files_there files)

pub inputs_are_lines : InputsAreLines
inputs_are_lines library names files place h =
    ap (λ (l : List (Option Read)). at_place place (given (all_there l))) h
    ∙ ap (λ (o : Option (List Read)). at_place place (given o)) (files_there files)
    ∙ ap (at_place place) (files_read files)
    ∙ lines_each place (flat_map lines files) (all_none files)
