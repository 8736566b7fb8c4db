-- What `json-lines` gives of files that are looked for by their names.
use Rattle.std.proofs.Common.{◌≡◌, ℕ, List, [], ◌∷◌, map, flat_map, Option, None, Some, Err, option_map, refl, sym, ap, ap₂, ◌∙◌}
use Rattle.std.specs.List.{AllByRecursion}
use Rattle.std.proofs.lemmas.List.Elements.{recursion_from_All}
use Rattle.item_tree.specs.Faults.{fault_at}
use Rattle.item_tree.specs.declared.code.Code.TheVariants.{FODC0002}
use Rattle.item_reader.specs.Lines.{lines}
use Rattle.item_reader.specs.Reading.{Read}
use Rattle.item_reader.specs.inside.Items.{items_of}
use Rattle.outside.specs.World.{World, file_of}
use Rattle.query_meaning.specs.Library.{Library, held, and_all, all_there, given, lines_value}
use Rattle.query_meaning.specs.Outcome.{at_place, each}
use Rattle.query_meaning.specs.inside.Computed.{read_of}
use Rattle.clause_stages.specs.Drivers.{line_item}
use Rattle.clause_stages.specs.InputLines.{line_read, InputsAreLines}
use Rattle.driver_files.specs.Driver.{told_files}
use Rattle.driver_files.specs.Seats.{and_files, files_of}
use Rattle.piece_run.specs.Leaf.{ReadsNames}

-- files that are all there are the first one and the others
record Both (o : Option (List ℕ)) (r : Option (List (List ℕ))) (files : List (List ℕ)) : Type 0 where
  file : List ℕ
  others : List (List ℕ)
  first : o ≡ Some file
  rest : r ≡ Some others
  all : files ≡ file ∷ others

both : (o : Option (List ℕ)) (r : Option (List (List ℕ))) (files : List (List ℕ)) → and_files o r ≡ Some files → Both o r files
both (Some f) (Some fs) files e = record { file = f; others = fs; first = refl; rest = refl; all = cc }
both (Some f) None files e = absurd cc
both None (Some fs) files e = absurd cc
both None None files e = absurd cc

no_files : (files : List (List ℕ)) → ◌≡◌ {A = Option (List (List ℕ))} (Some []) (Some files) → files ≡ []
no_files files e = cc

-- what they tell
pub all_told : (world : World) (names files : List (List ℕ)) → files_of world names ≡ Some files → told_files (Some world) names ≡ map Some files
all_told world [] files e = ap (map Some) (sym (no_files files e))
all_told world (n ∷ ns) files e =
    let b = both (file_of world n) (files_of world ns) files e in
    ap₂ (λ (x : Option (List ℕ)) (xs : List (Option (List ℕ))). x ∷ xs) b.first (all_told world ns b.others b.rest) ∙ ap (map Some) (sym b.all)

-- what a library holds of them
all_held : (library : Library) (world : World) (names files : List (List ℕ)) → AllByRecursion (λ name. held library name ≡ read_of world name) names → files_of world names ≡ Some files
    → map (held library) names ≡ map (λ file. Some (items_of file)) files
all_held library world [] files h e = ap (map (λ (file : List ℕ). Some (items_of file))) (sym (no_files files e))
all_held library world (n ∷ ns) files h e =
    let b = both (file_of world n) (files_of world ns) files e in
    ap₂ (λ (x : Option Read) (xs : List (Option Read)). x ∷ xs) (h.0 ∙ ap (option_map items_of) b.first) (all_held library world ns b.others h.1 b.rest)
    ∙ ap (map (λ (file : List ℕ). Some (items_of file))) (sym b.all)

pub lines_found : InputsAreLines → (library : Library) (world : World) (names files : List (List ℕ)) (place : ℕ) → ReadsNames world library names → files_of world names ≡ Some files
    → lines_value library names place ≡ each (line_item (line_read place)) (flat_map lines files)
lines_found law library world names files place h e =
    law library names files place (all_held library world names files (recursion_from_All (λ name. held library name ≡ read_of world name) names h) e)

-- a name that is missing
and_missing : (x : Option Read) (o : Option (List ℕ)) (r : Option (List (List ℕ))) (rest : Option (List Read)) → x ≡ option_map items_of o → and_files o r ≡ None → (r ≡ None → rest ≡ None) → and_all x rest ≡ None
and_missing x None r rest is e h = ap (λ (y : Option Read). and_all y rest) is
and_missing x (Some f) None rest is e h = ap₂ and_all is (h refl)
and_missing x (Some f) (Some fs) rest is e h = absurd cc

none_there : (library : Library) (world : World) (names : List (List ℕ)) → AllByRecursion (λ name. held library name ≡ read_of world name) names → files_of world names ≡ None
    → all_there (map (held library) names) ≡ None
none_there library world [] h e = absurd cc
none_there library world (n ∷ ns) h e =
    and_missing (held library n) (file_of world n) (files_of world ns) (all_there (map (held library) ns)) h.0 e (none_there library world ns h.1)

pub lines_missing : (library : Library) (world : World) (names : List (List ℕ)) (place : ℕ) → ReadsNames world library names → files_of world names ≡ None
    → lines_value library names place ≡ Err (fault_at FODC0002 place)
lines_missing library world names place h e =
    ap (λ (r : Option (List Read)). at_place place (given r)) (none_there library world names (recursion_from_All (λ name. held library name ≡ read_of world name) names h) e)
